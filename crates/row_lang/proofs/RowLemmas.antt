-- Rows that stand in components: with a field set, and of given fields.
use Rattle.std.proofs.Common.{◌≡◌, ℕ, zero, suc, ◌<◌, ◌≤◌, ◌==◌, Bool, true, false, cond, ◌&&◌, List, [], ◌∷◌, length, take, drop, slice_get, Some, unwrap_or, refl, sym, ◌∙◌, subst, arith, ℤ, pos, length-take, if◌then◌else◌}
use Rattle.std.specs.List.{AllZip, list_all, zip}
use Rattle.std.specs.Map.{lookup}
use Rattle.std.specs.Ordering.{int_eq}
use Rattle.std.proofs.lemmas.Bool.{and_from, eqb-true}
use Rattle.entity_id.specs.declared.entity.Profile.{Profile}
use Rattle.world_model.specs.declared.component.Decl.{Decl}
use Rattle.world_model.specs.declared.component.Kind.{Kind}
use Rattle.world_model.specs.declared.component.Row.{Row}
use Rattle.world_model.specs.declared.tokens.FieldAt.{FieldAt}
use Rattle.world_model.specs.Components.{IsDecl, IsRow, kinds_of, fits_kind, with_field, zero_row}
use Rattle.world_model.specs.Integers.{IsI64}
use Rattle.world_model.proofs.RowLemmas.{fits-with_field, row-with_field}
use Rattle.row_lang.specs.Bodies.{padded_row, with_own_field}
use Rattle.row_lang.specs.Values.{own_row}
use Rattle.row_lang.proofs.KindLemmas.{Holds, Stands}

-- an item that is found stands within the list
pub within : {X : Type 0} (xs : List X) (i : ℕ) (x : X) → slice_get xs i ≡ Some x → i < length xs
within [] i x is = absurd (cc)
within (y ∷ xs) zero x is = omega arith
within (y ∷ xs) (suc i) x is = omega (arith, within xs i x is)

-- ---- one field set

pub set_stands : (profile : Profile) (decl : Decl) (row : Row) (field : ℕ) (kind : Kind) (x : ℤ) → Stands profile decl row → slice_get (kinds_of decl) field ≡ Some kind → Holds profile kind x →
    Stands profile decl (with_field row field x)
set_stands profile decl row field kind x stands at holds =
    (row-with_field row field x stands.0 holds.0, fits-with_field profile decl row field x stands.1 (rw at holds.1))

module _ (P : Row → Type 0) (at : FieldAt) (x : ℤ) (pool : ℕ) (kept : pool ≡ at.pool → (row : Row) → P row → P (with_field row at.field x)) where
  -- the first own row, changed or not, and those behind it
  head_kept : (number : ℕ) (row : Row) (rows : List (ℕ × Row)) (b c : Bool) → (number == at.pool) ≡ b → (number == pool) ≡ c →
      (P (own_row rows pool) → P (own_row (with_own_field rows at x) pool)) →
      P (unwrap_or (cond c (Some row) (lookup (λ other. other == pool) rows)) zero_row) →
      P (unwrap_or (cond c (Some (if b then with_field row at.field x else row)) (lookup (λ other. other == pool) (with_own_field rows at x))) zero_row)
  head_kept number row rows true true first second behind stands = kept (sym (eqb-true number pool second) ∙ eqb-true number at.pool first) row stands
  head_kept number row rows false true first second behind stands = stands
  head_kept number row rows b false first second behind stands = behind stands

  -- what the own row of a component keeps with one field set
  pub own_kept : (rows : List (ℕ × Row)) → P (own_row rows pool) → P (own_row (with_own_field rows at x) pool)
  own_kept [] stands = stands
  own_kept (own ∷ rows) stands =
      subst (λ (changed : ℕ × Row). P (own_row (changed ∷ with_own_field rows at x) pool)) (same (own.0 == at.pool))
      (head_kept own.0 own.1 rows (own.0 == at.pool) (own.0 == pool) refl refl (own_kept rows) stands)
    where
      same : (b : Bool) → (own.0, if b then with_field own.1 at.field x else own.1) ≡ (if b then (own.0, with_field own.1 at.field x) else own)
      same true = refl
      same false = refl

-- ---- rows of given fields

all_zip_long : {A B : Type 0} (R : A → B → Type 0) (xs : List A) (ys : List B) → AllZip R xs ys → length xs ≡ length ys
all_zip_long R [] [] all = refl
all_zip_long R [] (y ∷ ys) all = absurd all
all_zip_long R (x ∷ xs) [] all = absurd all
all_zip_long R (x ∷ xs) (y ∷ ys) all = let behind = all_zip_long R xs ys all.1 in omega (arith, behind)

-- fields of kinds, no more than 4, with 0 behind them
padded : (profile : Profile) (ks : List Kind) (xs : List ℤ) → length ks ≤ 4 → AllZip (Holds profile) ks xs →
    IsRow (padded_row xs) × ((list_all (λ pair. fits_kind profile pair.0 pair.1) (zip ks (take (length ks) (padded_row xs).f)) && list_all (λ v. int_eq v (pos 0)) (drop (length ks) (padded_row xs).f)) ≡ true)
padded profile [] [] few all = (record { long = refl; wide = (z, (z, (z, (z, tt)))) }, refl)
  where
    z : IsI64 (pos 0)
    z = omega arith
padded profile (k1 ∷ []) (a ∷ []) few all = (record { long = refl; wide = (all.0.0, (z, (z, (z, tt)))) }, and_from _ _ (and_from _ _ all.0.1 refl) refl)
  where
    z : IsI64 (pos 0)
    z = omega arith
padded profile (k1 ∷ k2 ∷ []) (a ∷ b ∷ []) few all = (record { long = refl; wide = (all.0.0, (all.1.0.0, (z, (z, tt)))) }, and_from _ _ (and_from _ _ all.0.1 (and_from _ _ all.1.0.1 refl)) refl)
  where
    z : IsI64 (pos 0)
    z = omega arith
padded profile (k1 ∷ k2 ∷ k3 ∷ []) (a ∷ b ∷ c ∷ []) few all =
    (record { long = refl; wide = (all.0.0, (all.1.0.0, (all.1.1.0.0, (z, tt)))) }, and_from _ _ (and_from _ _ all.0.1 (and_from _ _ all.1.0.1 (and_from _ _ all.1.1.0.1 refl))) refl)
  where
    z : IsI64 (pos 0)
    z = omega arith
padded profile (k1 ∷ k2 ∷ k3 ∷ k4 ∷ []) (a ∷ b ∷ c ∷ d ∷ []) few all = (
  record { long = refl; wide = (all.0.0, (all.1.0.0, (all.1.1.0.0, (all.1.1.1.0.0, tt)))) },
  and_from _ _ (and_from _ _ all.0.1 (and_from _ _ all.1.0.1 (and_from _ _ all.1.1.0.1 (and_from _ _ all.1.1.1.0.1 refl)))) refl,
)
padded profile (k1 ∷ k2 ∷ k3 ∷ k4 ∷ k5 ∷ ks) xs few all = absurd (omega (arith, few))
padded profile ks xs few all = absurd (omega (arith, all_zip_long (Holds profile) ks xs all))

pub padded_stands : (profile : Profile) (decl : Decl) (xs : List ℤ) → IsDecl decl → AllZip (Holds profile) (kinds_of decl) xs → Stands profile decl (padded_row xs)
padded_stands profile decl xs is all =
    let count : length (kinds_of decl) ≡ decl.count = omega (arith, length-take decl.count decl.kinds, is.few, is.long) in
    let both = padded profile (kinds_of decl) xs (omega (arith, count, is.few)) all in
    (both.0, subst (λ n. (list_all (λ pair. fits_kind profile pair.0 pair.1) (zip (kinds_of decl) (take n (padded_row xs).f)) && list_all (λ v. int_eq v (pos 0)) (drop n (padded_row xs).f)) ≡ true) count both.1)
