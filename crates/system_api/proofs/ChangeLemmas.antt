-- One written pool with other rows.
use Rattle.std.proofs.Common.{◌≡◌, ◌≢◌, ℕ, zero, suc, ◌<◌, List, [], ◌∷◌, ◌++◌, map, length, take, drop, refl, sym, ap, ◌∙◌, subst, arith, get_or, slice_set}
use Rattle.std.specs.List.{zip}
use Rattle.std.proofs.lemmas.List.{length-map}
use Rattle.entity_id.specs.FiniteMap as entries
use Rattle.entity_id.proofs.ZipLemmas.{first-zip, second-zip}
use Rattle.world_model.specs.declared.component.Row.{Row}
use Rattle.storage.specs.Changed.{with_values}
use Rattle.system_api.specs.declared.lent.LentPool.{LentPool}
use Rattle.system_api.specs.HeldPools.{register_of}
use Rattle.system_api.specs.Registers.{numbers, no_pool, pool_at, rows_of, HasOtherRows, ChangesRowsAt}

-- the pool with these rows in place of its own
abbrev pub with_rows : LentPool → List Row → LentPool
with_rows pool rows = record { number = pool.number; storage = with_values pool.storage rows }

take-front : (xs ys : List Row) (n : ℕ) → n ≡ length xs → take n (xs ++ ys) ≡ xs
take-front [] ys n e = ap (λ k. take k ys) e
take-front (x ∷ xs) ys zero e = absurd (omega arith)
take-front (x ∷ xs) ys (suc n) e = ap (λ zs. x ∷ zs) (take-front xs ys n (omega arith))

module _ (pool : LentPool) (rows : List Row) (long : length rows ≡ length (rows_of pool)) where
  as_many : length pool.storage.pairs ≡ length rows
  as_many = sym (long ∙ length-map pool.storage.pairs (λ (pair : _). pair.1))

  front : take (length pool.storage.pairs) (rows ++ drop (length rows) (rows_of pool)) ≡ rows
  front = take-front rows (drop (length rows) (rows_of pool)) (length pool.storage.pairs) as_many

  as_long : length rows ≡ length (entries.keys pool.storage.pairs)
  as_long = sym as_many ∙ sym (length-map pool.storage.pairs (λ (pair : _). pair.0))

  -- it has them
  pub rows-with_rows : rows_of (with_rows pool rows) ≡ rows
  rows-with_rows = ap (λ vs. map (λ pair. pair.1) (zip (entries.keys pool.storage.pairs) vs)) front ∙ second-zip (entries.keys pool.storage.pairs) rows as_long

  -- and its own identifiers
  pub keys-with_rows : entries.keys (with_rows pool rows).storage.pairs ≡ entries.keys pool.storage.pairs
  keys-with_rows = ap (λ vs. map (λ pair. pair.0) (zip (entries.keys pool.storage.pairs) vs)) front ∙ first-zip (entries.keys pool.storage.pairs) rows as_long

  pub other_rows : HasOtherRows pool (with_rows pool rows)
  other_rows = record { number = refl; identifiers = keys-with_rows; spare = refl; bound = refl }

same_rows : (pool : LentPool) → HasOtherRows pool pool
same_rows pool = record { number = refl; identifiers = refl; spare = refl; bound = refl }

pub pool_at-here : (xs : List LentPool) (k : ℕ) (w : LentPool) → k < length xs → w ≡ get_or xs k w → pool_at xs k ≡ w
pool_at-here [] k w within is = absurd (omega arith)
pool_at-here (x ∷ xs) zero w within is = sym is
pool_at-here (x ∷ xs) (suc k) w within is = pool_at-here xs k w (omega arith) is

pub pool_at-set : (xs : List LentPool) (k : ℕ) (y : LentPool) → k < length xs → pool_at (slice_set xs k y) k ≡ y
pool_at-set [] k y within = absurd (omega arith)
pool_at-set (x ∷ xs) zero y within = refl
pool_at-set (x ∷ xs) (suc k) y within = pool_at-set xs k y (omega arith)

others-set : (xs : List LentPool) (k j : ℕ) (y : LentPool) → j ≢ k → pool_at (slice_set xs k y) j ≡ pool_at xs j
others-set [] k j y ne = refl
others-set (x ∷ xs) zero zero y ne = absurd (ne refl)
others-set (x ∷ xs) zero (suc j) y ne = refl
others-set (x ∷ xs) (suc k) zero y ne = refl
others-set (x ∷ xs) (suc k) (suc j) y ne = others-set xs k j y (λ e. ne (ap suc e))

numbers-set : (xs : List LentPool) (k : ℕ) (w y : LentPool) → w ≡ get_or xs k w → y.number ≡ w.number → numbers (slice_set xs k y) ≡ numbers xs
numbers-set [] k w y is same = refl
numbers-set (x ∷ xs) zero w y is same = ap (λ n. n ∷ numbers xs) (same ∙ ap (λ (z : LentPool). z.number) is)
numbers-set (x ∷ xs) (suc k) w y is same = ap (λ ns. x.number ∷ ns) (numbers-set xs k w y is same)

rows-set : (xs : List LentPool) (k : ℕ) (w y : LentPool) → w ≡ get_or xs k w → HasOtherRows w y → (j : ℕ) → HasOtherRows (pool_at xs j) (pool_at (slice_set xs k y) j)
rows-set [] k w y is other j = same_rows no_pool
rows-set (x ∷ xs) zero w y is other zero = subst (λ (z : LentPool). HasOtherRows z y) is other
rows-set (x ∷ xs) zero w y is other (suc j) = same_rows (pool_at xs j)
rows-set (x ∷ xs) (suc k) w y is other zero = same_rows x
rows-set (x ∷ xs) (suc k) w y is other (suc j) = rows-set xs k w y is other j

-- so nothing but its rows changes
pub changes_rows_at : (reads : _) (prefix : _) (xs : List LentPool) (k : ℕ) (w : LentPool) (rows : List Row) → w ≡ get_or xs k w → length rows ≡ length (rows_of w)
    → ChangesRowsAt k (register_of reads xs prefix) (register_of reads (slice_set xs k (with_rows w rows)) prefix)
changes_rows_at reads prefix xs k w rows is long = record {
  rows = record { reads = refl; prefix = refl; numbers = numbers-set xs k w (with_rows w rows) is refl; rows = rows-set xs k w (with_rows w rows) is (other_rows w rows long) };
  others = λ j ne. others-set xs k j (with_rows w rows) ne;
}
