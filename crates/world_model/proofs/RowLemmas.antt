-- A row with one field set: it stays a row, and fits where the field may hold the value.
use Rattle.std.proofs.Common.{◌≡◌, ℕ, zero, suc, ◌<◌, Bool, true, false, cond, List, [], ◌∷◌, set, take, drop, Some, is_some, unwrap_or, slice_get, ℤ, pos, refl, ap, ◌∙◌, arith, length-set}
use Rattle.std.specs.Int.{w64, cast_signed, int_wrapping_add}
use Rattle.std.specs.List.{AllByRecursion, list_all, zip}
use Rattle.std.specs.Map.{lookup}
use Rattle.std.specs.Option.{option_map_or}
use Rattle.std.specs.Ordering.{int_eq}
use Rattle.std.proofs.Math.Seq.{take-set-lt}
use Rattle.std.proofs.lemmas.List.{drop-set-lt, length-take}
use Rattle.std.proofs.lemmas.Bool.Decides.{nat_tests}
use Rattle.std.proofs.lemmas.Bool.{and_parts, and_from, false≢true}
use Rattle.entity_id.specs.declared.entity.Entity.{Entity}
use Rattle.entity_id.specs.declared.entity.Profile.{Profile}
use Rattle.entity_id.specs.Identifiers.{is_same}
use Rattle.entity_id.specs.FiniteMap as rows
use Rattle.world_model.specs.declared.component.Decl.{Decl}
use Rattle.world_model.specs.declared.component.Kind.{Kind}
use Rattle.world_model.specs.declared.component.Row.{Row}
use Rattle.world_model.specs.Components.{IsRow, kinds_of, fits, fits_kind, with_field}
use Rattle.world_model.specs.Integers.{IsI64}
use Rattle.world_model.proofs.ListLemmas.{all-set, passes_within}

-- of two lists side by side, one item of the second may be set to what stands beside its partner
list_all-zip_set : {A B : Type 0} (test : A × B → Bool) (xs : List A) (ys : List B) (i : ℕ) (y : B) → list_all test (zip xs ys) ≡ true → option_map_or (λ x. test (x, y)) (slice_get xs i) false ≡ true → list_all test (zip xs (set ys i y)) ≡ true
list_all-zip_set test [] ys i y all here = refl
list_all-zip_set test (x ∷ xs) [] i y all here = refl
list_all-zip_set test (x ∷ xs) (z ∷ ys) zero y all here = and_from _ _ here (and_parts (test (x, z)) (list_all test (zip xs ys)) all).1
list_all-zip_set test (x ∷ xs) (z ∷ ys) (suc i) y all here =
    let parts = and_parts (test (x, z)) (list_all test (zip xs ys)) all in
    and_from _ _ parts.0 (list_all-zip_set test xs ys i y parts.1 here)

-- a row that fits a component fits it with a field set that may hold the value
pub fits-with_field : (profile : Profile) (decl : Decl) (row : Row) (field : ℕ) (value : ℤ) → fits profile decl row ≡ true → option_map_or (λ kind. fits_kind profile kind value) (slice_get (kinds_of decl) field) false ≡ true → fits profile decl (with_field row field value) ≡ true
fits-with_field profile decl row field value fit may =
    let within : field < decl.count = omega (arith, passes_within (λ kind. fits_kind profile kind value) (kinds_of decl) field may, length-take decl.count decl.kinds) in
    let holds : Kind × ℤ → Bool = λ pair. fits_kind profile pair.0 pair.1 in
    let is_zero : ℤ → Bool = λ v. int_eq v (pos 0) in
    let parts = and_parts (list_all holds (zip (kinds_of decl) (take decl.count row.f))) (list_all is_zero (drop decl.count row.f)) fit in
    and_from _ _
    (ap (λ f. list_all holds (zip (kinds_of decl) f)) (take-set-lt decl.count row.f field value within)
    ∙ list_all-zip_set holds (kinds_of decl) (take decl.count row.f) field value parts.0 may)
    (ap (list_all is_zero) (drop-set-lt decl.count row.f field value within) ∙ parts.1)

-- a row with a field set is a row
pub row-with_field : (row : Row) (field : ℕ) (value : ℤ) → IsRow row → IsI64 value → IsRow (with_field row field value)
row-with_field row field value h wide = record { long = length-set row.f field value ∙ h.long; wide = all-set IsI64 row.f field value h.wide wide }

-- of a row that is there holds what holds of each
pub all-get : {X : Type 0} (P : X → Type 0) (pool : List (Entity × X)) (e : Entity) (d : X) → AllByRecursion (λ (r : Entity × X). P r.1) pool → is_some (rows.get pool e) ≡ true → P (unwrap_or (rows.get pool e) d)
all-get P [] e d h some = absurd (false≢true some)
all-get P (r ∷ pool) e d h some =
    elim (is_same e r.0) as (λ b. is_some (cond b (Some r.1) (lookup (is_same e) pool)) ≡ true → P (unwrap_or (cond b (Some r.1) (lookup (is_same e) pool)) d)) [
      | true ↦ λ _. h.0
      | false ↦ λ g. all-get P pool e d h.1 g
    ] some

-- what is left of a sum in 64 bits is a number of 64 bits
pub wrapped_is_i64 : (a b : ℤ) → IsI64 (int_wrapping_add w64 a b)
wrapped_is_i64 a b = of_bits _
  where
    of_bits : (n : ℕ) → IsI64 (cast_signed w64 n)
    of_bits n = grind (arith, nat_tests)
