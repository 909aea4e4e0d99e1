-- The rows that row lines stand for fit their components.
use Rattle.std.proofs.Common.{◌≡◌, ℕ, ◌+◌, ◌-◌, ◌*◌, ◌<◌, ◌≤◌, ◌^◌, zero, suc, Bool, true, false, cond, eqb, ltb, List, [], ◌∷◌, ◌++◌, map, length, take, drop, replicate, refl, sym, ap, ◌∙◌, arith, inl, inr, pos, negsuc, ℤ}
use Rattle.std.specs.List.{AllByRecursion, list_all, zip}
use Rattle.std.specs.Int.{w64, cast_signed}
use Rattle.std.specs.Ordering.{int_eq}
use Rattle.std.proofs.lemmas.Bool.{and_parts, and_from, or_cases, eqb-true, ltb-true, ltb-false, or_right, false≢true}
use Rattle.std.proofs.lemmas.Grind.{common_steps}
use Rattle.std.proofs.lemmas.List.{length-append, length-map, length-take, length-replicate}
use Rattle.entity_id.specs.declared.entity.Profile.{Profile}
use Rattle.entity_id.specs.declared.entity.Entity.{Entity}
use Rattle.entity_id.specs.Identifiers.{HasLimits, IsOfProfile, null, is_same, is_profile, is_same_profile, p20_12, p32_32}
use Rattle.entity_id.specs.Fields.{field_of, entity_in}
use Rattle.entity_id.proofs.ListLemmas.{all-append, all-map, all_weaker}
use Rattle.world_model.specs.declared.component.Decl.{Decl}
use Rattle.world_model.specs.declared.component.Kind.{Kind}
use Rattle.world_model.specs.declared.component.Kind.TheVariants as kind
use Rattle.world_text.specs.FieldValues.{FieldValue}
use Rattle.world_text.specs.FieldValues as value
use Rattle.world_text.specs.Lines.{IsValue}
use Rattle.world_text.specs.Meaning.{field_of_value, row_of}
use Rattle.world_text.specs.Fitting.{is_of_kind, are_of_kinds}
use Rattle.world_text.proofs.PrintingLemmas.{zip-take}
use Rattle.world_model.specs.Integers.{IsI64}
use Rattle.world_model.specs.Components.{IsRow, kinds_of, is_below, fits_kind, fits}

same_limits : (profile other : Profile) → is_same_profile profile other ≡ true → HasLimits other → HasLimits profile
same_limits profile other same limits =
    let parts = and_parts (eqb profile.index_limit other.index_limit) (eqb profile.version_limit other.version_limit) same in
    let index : profile.index_limit ≡ other.index_limit = eqb-true _ _ parts.0 in
    let version : profile.version_limit ≡ other.version_limit = eqb-true _ _ parts.1 in
    record { index = omega (arith, limits.index); version = omega (arith, limits.version) }

-- each of the two profiles has limits of 32 bits
pub profile_limits : (profile : Profile) → is_profile profile ≡ true → HasLimits profile
profile_limits profile h =
    elim (or_cases (is_same_profile profile p20_12) (is_same_profile profile p32_32) h) [
      | inl same ↦ same_limits profile p20_12 same (record { index = omega arith; version = omega arith })
      | inr same ↦ same_limits profile p32_32 same (record { index = omega arith; version = omega arith })
    ]

below_parts : (profile : Profile) (entity : Entity) → is_below profile entity ≡ true → (entity.index < profile.index_limit) × (entity.version < profile.version_limit)
below_parts profile entity h =
    let parts = and_parts (ltb entity.index profile.index_limit) (ltb entity.version profile.version_limit) h in
    (ltb-true _ _ parts.0, ltb-true _ _ parts.1)

-- the field of an identifier of the profile holds that identifier
pub field_holds : (profile : Profile) (entity : Entity) → HasLimits profile → IsOfProfile profile entity → entity_in profile (field_of profile entity) ≡ entity
field_holds profile entity limits within = grind (arith, common_steps)

cast_case : (n : ℕ) (t : Bool) → t ≡ ltb n (2 ^ 63) → n < 2 ^ 64 → IsI64 (cond t (pos n) (negsuc (2 ^ 64 - suc n)))
cast_case n true is small = ltb-true n (2 ^ 63) (sym is)
cast_case n false is small = let high = ltb-false n (2 ^ 63) (sym is) in omega arith

cast_is_i64 : (n : ℕ) → n < 2 ^ 64 → IsI64 (cast_signed w64 n)
cast_is_i64 n small = cast_case n (ltb n (2 ^ 63)) refl small

field_case : (profile : Profile) (entity : Entity) (t : Bool) → entity.index + entity.version * 2 ^ 32 < 2 ^ 64 → IsI64 (cond t (negsuc 0) (cast_signed w64 (entity.index + entity.version * 2 ^ 32)))
field_case profile entity true small = omega arith
field_case profile entity false small = cast_is_i64 (entity.index + entity.version * 2 ^ 32) small

-- the field of an identifier is a number of 64 bits
field_is_i64 : (profile : Profile) (entity : Entity) → HasLimits profile → IsOfProfile profile entity → IsI64 (field_of profile entity)
field_is_i64 profile entity limits within = field_case profile entity (is_same entity (null profile)) (omega (arith, limits.index, limits.version, within.index, within.version))

null_within : (profile : Profile) (entity : Entity) → is_same entity (null profile) ≡ true → IsOfProfile profile entity
null_within profile entity same =
    let parts = and_parts (eqb entity.index profile.index_limit) (eqb entity.version profile.version_limit) same in
    let index : entity.index ≡ profile.index_limit = eqb-true _ _ parts.0 in
    let version : entity.version ≡ profile.version_limit = eqb-true _ _ parts.1 in
    record { index = omega arith; version = omega arith }

below_within : (profile : Profile) (entity : Entity) → is_below profile entity ≡ true → IsOfProfile profile entity
below_within profile entity below =
    let parts = below_parts profile entity below in
    record { index = omega (arith, parts.0); version = omega (arith, parts.1) }

pub value_within : (profile : Profile) (entity : Entity) → IsValue profile (value.Ref entity) → IsOfProfile profile entity
value_within profile entity of_value =
    elim (or_cases (is_same entity (null profile)) (is_below profile entity) of_value) [
      | inl same ↦ null_within profile entity same
      | inr below ↦ below_within profile entity below
    ]

pub value_is_i64 : (profile : Profile) (v : FieldValue) → HasLimits profile → IsValue profile v → IsI64 (field_of_value profile v)
value_is_i64 profile (value.Int number) limits of_value = of_value
value_is_i64 profile (value.Ref entity) limits of_value = field_is_i64 profile entity limits (value_within profile entity of_value)

ref_fits : (profile : Profile) (entity : Entity) → HasLimits profile → IsValue profile (value.Ref entity) → fits_kind profile kind.Ref (field_of profile entity) ≡ true
ref_fits profile entity limits of_value =
    elim (or_cases (is_same entity (null profile)) (is_below profile entity) of_value) [
      | inl same ↦ ap (λ t. fits_kind profile kind.Ref (cond t (negsuc 0) (cast_signed w64 (entity.index + entity.version * 2 ^ 32)))) same
      | inr below ↦
          or_right (int_eq (field_of profile entity) (negsuc 0)) _
          (ap (is_below profile) (field_holds profile entity limits (below_within profile entity below)) ∙ below)
    ]

pub kind_fits : (profile : Profile) (k : Kind) (v : FieldValue) → HasLimits profile → IsValue profile v → is_of_kind k v ≡ true → fits_kind profile k (field_of_value profile v) ≡ true
kind_fits profile kind.Int v limits of_value of_kind = refl
kind_fits profile kind.Ref (value.Int number) limits of_value of_kind = absurd (false≢true of_kind)
kind_fits profile kind.Ref (value.Ref entity) limits of_value of_kind = ref_fits profile entity limits of_value

kinds_fit : (profile : Profile) (kinds : List Kind) (values : List FieldValue) → HasLimits profile → AllByRecursion (IsValue profile) values → list_all (λ pair. is_of_kind pair.0 pair.1) (zip kinds values) ≡ true → list_all (λ pair. fits_kind profile pair.0 pair.1) (zip kinds (map (field_of_value profile) values)) ≡ true
kinds_fit profile [] values limits each of_kinds = refl
kinds_fit profile (k ∷ kinds) [] limits each of_kinds = refl
kinds_fit profile (k ∷ kinds) (v ∷ values) limits each of_kinds =
    let parts = and_parts (is_of_kind k v) (list_all (λ pair. is_of_kind pair.0 pair.1) (zip kinds values)) of_kinds in
    and_from _ _ (kind_fits profile k v limits each.0 parts.0) (kinds_fit profile kinds values limits each.1 parts.1)

zeros : (n : ℕ) → list_all (λ v. int_eq v (pos 0)) (replicate n (pos 0)) ≡ true
zeros zero = refl
zeros (suc n) = zeros n

zero_fields : (n : ℕ) → AllByRecursion IsI64 (replicate n (pos 0))
zero_fields zero = tt
zero_fields (suc n) = (omega arith, zero_fields n)

-- a list beside one that has more has nothing of what is more
pub zip-front : {A B : Type 0} (xs : List A) (ys zs : List B) → length xs ≡ length ys → zip xs (ys ++ zs) ≡ zip xs ys
zip-front [] [] zs e = refl
zip-front [] (y ∷ ys) zs e = refl
zip-front (x ∷ xs) [] zs e = absurd (omega arith)
zip-front (x ∷ xs) (y ∷ ys) zs e = ap (λ ps. (x, y) ∷ ps) (zip-front xs ys zs (omega arith))

-- the fields of a component beside those of the row of its values
pub fields_beside : (profile : Profile) (decl : Decl) (values : List FieldValue) → length (kinds_of decl) ≡ length values → zip (kinds_of decl) (take decl.count (row_of profile values).f) ≡ zip (kinds_of decl) (map (field_of_value profile) values)
fields_beside profile decl values as_many =
    let fields : List ℤ = map (field_of_value profile) values in
    sym (zip-take decl.count decl.kinds (row_of profile values).f)
    ∙ zip-front (kinds_of decl) fields (replicate (4 - length values) (pos 0)) (as_many ∙ sym (length-map values (field_of_value profile)))

-- zeros behind as many fields as there may be
zeros_behind : (n : ℕ) (fields : List ℤ) (more : ℕ) → length fields ≤ n → list_all (λ v. int_eq v (pos 0)) (drop n (fields ++ replicate more (pos 0))) ≡ true
zeros_behind zero [] more few = zeros more
zeros_behind (suc n) [] zero few = refl
zeros_behind (suc n) [] (suc more) few = zeros_behind n [] more (omega arith)
zeros_behind zero (v ∷ fields) more few = absurd (omega arith)
zeros_behind (suc n) (v ∷ fields) more few = zeros_behind n fields more (omega arith)

-- the row of a component's values fits it
pub row_fits : (profile : Profile) (decl : Decl) (values : List FieldValue) → HasLimits profile → AllByRecursion (IsValue profile) values → are_of_kinds (kinds_of decl) values ≡ true → fits profile decl (row_of profile values) ≡ true
row_fits profile decl values limits each of_kinds =
    let parts = and_parts (eqb (length (kinds_of decl)) (length values)) (list_all (λ pair. is_of_kind pair.0 pair.1) (zip (kinds_of decl) values)) of_kinds in
    let as_many : length (kinds_of decl) ≡ length values = eqb-true _ _ parts.0 in
    let fields : List ℤ = map (field_of_value profile) values in
    let few : length fields ≤ decl.count = omega (arith, length-map values (field_of_value profile), length-take decl.count decl.kinds) in
    and_from _ _
    (ap (list_all (λ pair. fits_kind profile pair.0 pair.1)) (fields_beside profile decl values as_many)
    ∙ kinds_fit profile (kinds_of decl) values limits each parts.1)
    (zeros_behind decl.count fields (4 - length values) few)

-- the row of at most 4 values is a row
pub row_is_row : (profile : Profile) (values : List FieldValue) → HasLimits profile → length values ≤ 4 → AllByRecursion (IsValue profile) values → IsRow (row_of profile values)
row_is_row profile values limits few each = record {
  long = omega (arith, length-append (map (field_of_value profile) values) (replicate (4 - length values) (pos 0)), length-map values (field_of_value profile), length-replicate (4 - length values) (pos 0));
  wide = all-append IsI64 (map (field_of_value profile) values) (replicate (4 - length values) (pos 0))
      (all-map IsI64 (field_of_value profile) values (all_weaker (IsValue profile) (λ v. IsI64 (field_of_value profile v)) (λ v of_value. value_is_i64 profile v limits of_value) values each))
      (zero_fields (4 - length values));
}
