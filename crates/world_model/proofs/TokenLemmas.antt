-- Tokens are read in one way.
use Rattle.std.proofs.Common.{◌≡◌, ◌≢◌, ℕ, zero, suc, ◌/◌, ◌%◌, ◌^◌, ◌<◌, ◌≤◌, true, false, cond, eqb, List, [], ◌∷◌, ◌++◌, length, get_or, refl, sym, ap, subst, ◌∙◌, arith, inl, inr}
use Rattle.std.specs.Fmt.{decimal, digits, digits_onto, digit_glyph}
use Rattle.std.proofs.lemmas.Bool.{and_parts, or_cases, eqb-true, ltb-true}
use Rattle.std.proofs.lemmas.Bool.Decides.{nat_tests}
use Rattle.std.proofs.lemmas.Fmt.{decimal_injective}
use Rattle.entity_id.specs.declared.entity.Entity.{Entity}
use Rattle.entity_id.specs.declared.entity.Profile.{Profile}
use Rattle.entity_id.specs.Cuts.{Lacks, IsLastCut}
use Rattle.entity_id.specs.Identifiers.{HasLimits, IsOfProfile, null, is_same}
use Rattle.entity_id.specs.Texts.{entity_text}
use Rattle.entity_id.proofs.CutLemmas.{no_cut, same_last_cut}
use Rattle.entity_id.proofs.TextLemmas.{entity_text_injective}
use Rattle.world_model.specs.declared.component.Decl.{Decl}
use Rattle.world_model.specs.declared.tokens.FieldAt.{FieldAt}
use Rattle.world_model.specs.Components.{is_below, is_target}
use Rattle.world_model.specs.Tokens.{component_named, field_count, IsNameToken, IsFieldToken}

-- ---- fields

no_dot : (d : ℕ) → d < 10 → digit_glyph false d ≢ 46
no_dot d small = grind (arith, nat_tests)

digits_lack : (k n : ℕ) (behind : List ℕ) → Lacks 46 behind → Lacks 46 (digits_onto k 10 false n behind)
digits_lack zero n behind h = h
digits_lack (suc k) n behind h =
    let more : Lacks 46 (digit_glyph false (n % 10) ∷ behind) = (no_dot (n % 10) (omega arith), h) in
    elim (eqb (n / 10) 0) as (λ b. Lacks 46 (cond b (digit_glyph false (n % 10) ∷ behind) (digits_onto k 10 false (n / 10) (digit_glyph false (n % 10) ∷ behind)))) [
      | true ↦ more
      | false ↦ digits_lack k (n / 10) (digit_glyph false (n % 10) ∷ behind) more
    ]

-- a number in decimal has no dot, however large it is
pub decimal_lacks_dot : (n : ℕ) → Lacks 46 (decimal n)
unfolding digits
decimal_lacks_dot n = digits_lack 64 n [] tt

-- a token without a dot names no field
pub dotless : (decls : List Decl) (token : List ℕ) (at : FieldAt) → Lacks 46 token → IsFieldToken decls token at → ⊥
dotless decls token at lacks is = no_cut 46 is.name (decimal at.field) (subst (Lacks 46) is.whole lacks)

-- the last dot stands between the name and the number
parts_of : (decls : List Decl) (token name number : List ℕ) (at : FieldAt) → IsLastCut token 46 name number → (is : IsFieldToken decls token at) → (name ≡ is.name) × (number ≡ decimal at.field)
parts_of decls token name number at cut is =
    same_last_cut 46 name is.name number (decimal at.field) cut.last (decimal_lacks_dot at.field) (sym cut.whole ∙ is.whole)

-- where the name is of the component of this number, so is the field
pool_of : (decls : List Decl) (token name number : List ℕ) (pool : ℕ) (at : FieldAt) → IsLastCut token 46 name number → IsNameToken decls name pool → IsFieldToken decls token at → pool ≡ at.pool
pool_of decls token name number pool at cut named is =
    let same = ap (component_named decls) (parts_of decls token name number at cut is).0 in
    let here = named.first in
    let there = is.named.first in
    cc

pub no_such_name : (decls : List Decl) (token name number : List ℕ) (at : FieldAt) → IsLastCut token 46 name number → ((pool : ℕ) → IsNameToken decls name pool → ⊥) → IsFieldToken decls token at → ⊥
no_such_name decls token name number at cut none is =
    none at.pool (subst (λ (n : List ℕ). IsNameToken decls n at.pool) (sym (parts_of decls token name number at cut is).0) is.named)

pub no_number : (decls : List Decl) (token name number : List ℕ) (pool count : ℕ) (at : FieldAt) → IsLastCut token 46 name number → IsNameToken decls name pool → field_count decls pool ≡ count → ((n : ℕ) → n ≤ count → number ≢ decimal n) → IsFieldToken decls token at → ⊥
no_number decls token name number pool count at cut named counted none is =
    let same = ap (field_count decls) (pool_of decls token name number pool at cut named is) in
    none at.field (omega (arith, is.within)) (parts_of decls token name number at cut is).1

pub past_the_fields : (decls : List Decl) (token name number : List ℕ) (pool count field : ℕ) (at : FieldAt) → IsLastCut token 46 name number → IsNameToken decls name pool → field_count decls pool ≡ count → field < 2 ^ 64 → count ≤ field → number ≡ decimal field → IsFieldToken decls token at → ⊥
past_the_fields decls token name number pool count field at cut named counted small past e is =
    let same = ap (field_count decls) (pool_of decls token name number pool at cut named is) in
    let spelled = decimal_injective field at.field small (omega (arith, is.within)) (sym e ∙ (parts_of decls token name number at cut is).1) in
    omega (arith, is.within)

pub field_token : (decls : List Decl) (token name number : List ℕ) (pool count field : ℕ) → IsLastCut token 46 name number → IsNameToken decls name pool → field_count decls pool ≡ count → field < count → number ≡ decimal field → IsFieldToken decls token (record { pool = pool; field = field })
field_token decls token name number pool count field cut named counted within e = record {
  name = name;
  whole = cut.whole ∙ ap (λ (t : List ℕ). name ++ 46 ∷ t) e;
  named = named;
  within = omega arith;
}

-- the number of fields of a component that is there
pub count_read : (decls : List Decl) (pool : ℕ) (other : Decl) → pool < length decls → field_count decls pool ≡ (get_or decls pool other).count
count_read [] pool other within = absurd (omega arith)
count_read (d ∷ ds) zero other within = refl
count_read (d ∷ ds) (suc pool) other within = count_read ds pool other (omega arith)

-- ---- identifiers that a field may hold

-- one that a field may hold is of the profile
pub target_of_profile : (profile : Profile) (entity : Entity) → is_target profile entity ≡ true → IsOfProfile profile entity
target_of_profile profile entity is =
    elim (or_cases (is_same entity (null profile)) (is_below profile entity) is) [
      | inl same ↦
          let parts = and_parts _ _ same in
          let index = eqb-true entity.index profile.index_limit parts.0 in
          let version = eqb-true entity.version profile.version_limit parts.1 in
          record { index = omega arith; version = omega arith }
      | inr below ↦
          let parts = and_parts _ _ below in
          let index = ltb-true entity.index profile.index_limit parts.0 in
          let version = ltb-true entity.version profile.version_limit parts.1 in
          record { index = omega arith; version = omega arith }
    ]

-- where the identifier that a token spells is none that a field may hold, no other one is
pub no_target : (profile : Profile) (token : List ℕ) (a b : Entity) → HasLimits profile → IsOfProfile profile a → token ≡ entity_text profile a → is_target profile a ≡ false → is_target profile b ≡ true → token ≡ entity_text profile b → ⊥
no_target profile token a b limits of_a e other target f =
    let same = entity_text_injective profile a b limits of_a (target_of_profile profile b target) (sym e ∙ f) in
    let tests = ap (is_target profile) same in
    absurd cc
