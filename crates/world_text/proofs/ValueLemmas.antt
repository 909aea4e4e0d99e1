-- Values of a row are read in one way.
use Rattle.std.proofs.Common.{◌≡◌, ◌≢◌, ℕ, ℤ, pos, negsuc, suc, ◌<◌, List, [], ◌∷◌, ◌++◌, drop, length, refl, sym, ap, ap₂, subst, ◌∙◌, arith, ◌⊎◌, inl, inr, append_assoc}
use Rattle.std.specs.Fmt.{signed_decimal}
use Rattle.std.specs.List.{AllByRecursion}
use Rattle.std.proofs.lemmas.List.{append-nil}
use Rattle.entity_id.specs.declared.entity.Profile.{Profile}
use Rattle.entity_id.specs.declared.entity.Entity.{Entity}
use Rattle.entity_id.specs.Identifiers.{HasLimits, IsOfProfile}
use Rattle.entity_id.specs.Texts.{entity_text}
use Rattle.entity_id.specs.Cuts.{Lacks}
use Rattle.entity_id.proofs.CutLemmas.{lacks_append}
use Rattle.entity_id.proofs.TextLemmas.{decimal_lacks, entity_text_lacks, entity_text_injective, needs_colon}
use Rattle.world_model.specs.Integers.{IsI64}
use Rattle.world_model.proofs.IntegerLemmas.{signed_decimal_injective}
use Rattle.world_model.proofs.TokenLemmas.{target_of_profile}
use Rattle.world_text.specs.FieldValues.{FieldValue}
use Rattle.world_text.specs.FieldValues.{Int, Ref}
use Rattle.world_text.specs.Lines.{IsValue, value_text, values_text}
use Rattle.world_text.specs.Reading.{BeginsWithSpace}
use Rattle.world_text.proofs.WordLemmas.{same_split}

-- ---- one value

-- an identifier that a field may hold is of the profile
pub value_of_profile : (profile : Profile) (entity : Entity) → IsValue profile (Ref entity) → IsOfProfile profile entity
value_of_profile profile entity is = target_of_profile profile entity is

-- a whole number's text has no byte but digits and the minus sign (45)
signed_lacks : (byte : ℕ) (z : ℤ) → IsI64 z → 45 ≢ byte → (byte < 48) ⊎ (57 < byte) → Lacks byte (signed_decimal z)
signed_lacks byte (pos n) is no_minus outside = decimal_lacks byte n (omega arith) outside
signed_lacks byte (negsuc n) is no_minus outside = (no_minus, decimal_lacks byte (suc n) (omega arith) outside)

-- a value's text has no space and no line end: no byte below the minus sign
pub value_lacks : (profile : Profile) (v : FieldValue) (byte : ℕ) → HasLimits profile → IsValue profile v → byte < 45 → Lacks byte (value_text profile v)
value_lacks profile (Int number) byte limits is low = signed_lacks byte number is (omega arith) (inl (omega arith))
value_lacks profile (Ref entity) byte limits is low = entity_text_lacks profile entity byte limits (value_of_profile profile entity is) (omega arith)

-- a whole number's text has no n and no colon, so it is no identifier's
number_is_no_entity : (profile : Profile) (z : ℤ) (entity : Entity) → IsI64 z → signed_decimal z ≢ entity_text profile entity
number_is_no_entity profile z entity is =
    needs_colon profile (signed_decimal z) entity
    (λ e. (subst (Lacks 110) e (signed_lacks 110 z is (omega arith) (inr (omega arith)))).0 refl)
    (signed_lacks 58 z is (omega arith) (inr (omega arith)))

-- one text spells one value
pub same_value : (profile : Profile) (a b : FieldValue) → HasLimits profile → IsValue profile a → IsValue profile b → value_text profile a ≡ value_text profile b → a ≡ b
same_value profile (Int m) (Int n) limits p q e = ap Int (signed_decimal_injective m n p q e)
same_value profile (Int m) (Ref b) limits p q e = absurd (number_is_no_entity profile m b p e)
same_value profile (Ref a) (Int n) limits p q e = absurd (number_is_no_entity profile n a q (sym e))
same_value profile (Ref a) (Ref b) limits p q e =
    ap Ref (entity_text_injective profile a b limits (value_of_profile profile a p) (value_of_profile profile b q) e)

-- ---- the values of a row

pub values_spaced : (profile : Profile) (values : List FieldValue) → BeginsWithSpace (values_text profile values)
values_spaced profile [] = tt
values_spaced profile (v ∷ values) = refl

pub values_lack : (profile : Profile) (values : List FieldValue) → HasLimits profile → AllByRecursion (IsValue profile) values → Lacks 10 (values_text profile values)
values_lack profile [] limits each = tt
values_lack profile (v ∷ values) limits each =
    lacks_append 10 (32 ∷ value_text profile v) _ (omega arith, value_lacks profile v 10 limits each.0 (omega arith)) (values_lack profile values limits each.1)

spaced_on : (profile : Profile) (values : List FieldValue) (rest : List ℕ) → BeginsWithSpace rest → BeginsWithSpace (values_text profile values ++ rest)
spaced_on profile [] rest spaced = spaced
spaced_on profile (v ∷ values) rest spaced = refl

-- values whose text begins with that of others, up to a space or the end, go on after these
pub values_behind : (profile : Profile) (front values : List FieldValue) (rest : List ℕ) → HasLimits profile → AllByRecursion (IsValue profile) front → AllByRecursion (IsValue profile) values → BeginsWithSpace rest → values_text profile front ++ rest ≡ values_text profile values → (more : List FieldValue) × (values ≡ front ++ more) × (rest ≡ values_text profile more) × AllByRecursion (IsValue profile) more
values_behind profile [] values rest limits p q spaced e = (values, refl, e, q)
values_behind profile (a ∷ front) [] rest limits p q spaced e = absurd (omega (arith, ap length e))
values_behind profile (a ∷ front) (b ∷ values) rest limits p q spaced e =
    let whole = sym (append_assoc (value_text profile a) (values_text profile front) rest) ∙ ap (drop 1) e in
    let parts = same_split (value_text profile a) (value_text profile b) (values_text profile front ++ rest) (values_text profile values) (value_lacks profile a 32 limits p.0 (omega arith)) (value_lacks profile b 32 limits q.0 (omega arith)) (spaced_on profile front rest spaced) (values_spaced profile values) whole in
    let h = values_behind profile front values rest limits p.1 q.1 spaced parts.1 in
    let head = same_value profile a b limits p.0 q.0 parts.0 in
    (h.0, ap₂ (λ k ks. k ∷ ks) (sym head) h.1, h.2, h.3)

no_values : (profile : Profile) (more : List FieldValue) → [] ≡ values_text profile more → more ≡ []
no_values profile [] e = refl
no_values profile (v ∷ more) e = absurd (omega (arith, ap length e))

-- one text spells one list of values
pub same_values : (profile : Profile) (a b : List FieldValue) → HasLimits profile → AllByRecursion (IsValue profile) a → AllByRecursion (IsValue profile) b → values_text profile a ≡ values_text profile b → a ≡ b
same_values profile a b limits p q e =
    let h = values_behind profile a b [] limits p q tt (append-nil (values_text profile a) ∙ e) in
    sym (h.1 ∙ ap (λ (x : List FieldValue). a ++ x) (no_values profile h.0 h.2) ∙ append-nil a)
