-- Smallest sizes of pools.
use Rattle.std.proofs.Common.{◌≡◌, ℕ, zero, suc, ◌<◌, ◌≤◌, Bool, true, false, cond, List, [], ◌∷◌, ◌++◌, length, Some, refl, sym, ap, ◌∙◌, subst, arith, slice_get}
use Rattle.std.specs.Prelude.{nat_lt}
use Rattle.std.specs.List.{AllByRecursion}
use Rattle.std.proofs.lemmas.Bool.{and_parts, and_from, ltb-true}
use Rattle.world_model.specs.Groups.{are_declared}
use Rattle.world_model.specs.Ticks.{Maps}
use Rattle.system_api.specs.declared.lent.LentPool.{LentPool}
use Rattle.system_api.specs.Registers.{numbers, pool_at, StandsFor}
use Rattle.system_api.specs.Running.{sizes_of}
use Rattle.system_eval.specs.Runs.{smaller, least_of, size_at, sizes_at, least_size}
use Rattle.system_eval.specs.RunLaws.{least-has, size-of}
use Rattle.system_eval.specs.Walks.{rows_in}
use Rattle.system_eval.proofs.ToldLemmas.{map_at-get}

either-itself : (b : Bool) (x : ℕ) → cond b x x ≡ x
either-itself true x = refl
either-itself false x = refl

pub smaller-itself : (x : ℕ) → smaller x x ≡ x
smaller-itself x = either-itself (nat_lt x x) x

pub least-both : (first : ℕ) (xs ys : List ℕ) → least_of first (xs ++ ys) ≡ least_of (least_of first xs) ys
least-both first [] ys = refl
least-both first (x ∷ xs) ys = least-both (smaller first x) xs ys

pub sizes-both : (sizes xs ys : List ℕ) → sizes_at sizes (xs ++ ys) ≡ sizes_at sizes xs ++ sizes_at sizes ys
sizes-both sizes [] ys = refl
sizes-both sizes (x ∷ xs) ys = ap (λ ns. size_at sizes x ∷ ns) (sizes-both sizes xs ys)

-- one list after another, where the first component of both was taken first
pub least-lists : (sizes read write : List ℕ) (pool : ℕ) → slice_get (read ++ write) 0 ≡ Some pool
    → least_of (least_of (size_at sizes pool) (sizes_at sizes read)) (sizes_at sizes write) ≡ least_size sizes (read ++ write)
least-lists sizes read write pool is =
    sym (least-both (size_at sizes pool) (sizes_at sizes read) (sizes_at sizes write))
    ∙ ap (least_of (size_at sizes pool)) (sym (sizes-both sizes read write))
    ∙ whole (read ++ write) is
  where
    whole : (pools : List ℕ) → slice_get pools 0 ≡ Some pool → least_of (size_at sizes pool) (sizes_at sizes pools) ≡ least_size sizes pools
    whole [] at = absurd (cc)
    whole (x ∷ pools) at =
        let same : x ≡ pool = cc in
        ap (λ (p : ℕ). least_of (smaller (size_at sizes p) (size_at sizes x)) (sizes_at sizes pools)) (sym same)
        ∙ ap (λ (n : ℕ). least_of n (sizes_at sizes pools)) (smaller-itself (size_at sizes x))

-- a component that is named is there
pub declared-at : (count : ℕ) (pools : List ℕ) (k pool : ℕ) → are_declared count pools ≡ true → slice_get pools k ≡ Some pool → pool < count
declared-at count [] k pool all is = absurd (cc)
declared-at count (x ∷ pools) zero pool all is =
    let same : x ≡ pool = cc in
    subst (λ (p : ℕ). p < count) same (ltb-true x count (and_parts (nat_lt x count) (are_declared count pools) all).0)
declared-at count (x ∷ pools) (suc k) pool all is = declared-at count pools k pool (and_parts (nat_lt x count) (are_declared count pools) all).1 is

pub declared-both : (count : ℕ) (xs ys : List ℕ) → are_declared count (xs ++ ys) ≡ true → (are_declared count xs ≡ true) × (are_declared count ys ≡ true)
declared-both count [] ys all = (refl, all)
declared-both count (x ∷ xs) ys all =
    let parts = and_parts (nat_lt x count) (are_declared count (xs ++ ys)) all in
    let rest = declared-both count xs ys parts.1 in
    (and_from (nat_lt x count) (are_declared count xs) parts.0 rest.0, rest.1)

pub declared-join : (count : ℕ) (xs ys : List ℕ) → are_declared count xs ≡ true → are_declared count ys ≡ true → are_declared count (xs ++ ys) ≡ true
declared-join count [] ys first second = second
declared-join count (x ∷ xs) ys first second =
    let parts = and_parts (nat_lt x count) (are_declared count xs) first in
    and_from (nat_lt x count) (are_declared count (xs ++ ys)) parts.0 (declared-join count xs ys parts.1 second)

-- ---- sizes of lent pools

module _ (maps : Maps) (n : ℕ) where
  size-shown : (pool : LentPool) → StandsFor maps pool → n ≤ length (rows_in pool) → n ≤ size_at (sizes_of maps) pool.number
  size-shown pool stands low = subst (λ (m : ℕ). n ≤ m) (ap length (sym (map_at-get maps pool.number (rows_in pool) stands)) ∙ sym (size-of maps pool.number)) low

  sizes-shown : (pools : List LentPool) → AllByRecursion (StandsFor maps) pools → ((at : ℕ) → at < length pools → n ≤ length (rows_in (pool_at pools at))) → AllByRecursion (λ size. n ≤ size) (sizes_at (sizes_of maps) (numbers pools))
  sizes-shown [] stand low = tt
  sizes-shown (p ∷ pools) stand low = (size-shown p stand.0 (low 0 (omega arith)), sizes-shown pools stand.1 (λ at within. low (suc at) (omega arith)))

  -- what is no more than any pool's size is no more than the smallest one
  pub least-shown : (pools : List LentPool) → 0 < length pools → AllByRecursion (StandsFor maps) pools → ((at : ℕ) → at < length pools → n ≤ length (rows_in (pool_at pools at))) → n ≤ least_size (sizes_of maps) (numbers pools)
  least-shown [] some stand low = absurd (omega arith)
  least-shown (p ∷ pools) some stand low =
      least-has (λ size. n ≤ size) (size_at (sizes_of maps) p.number) (sizes_at (sizes_of maps) (numbers pools)) (size-shown p stand.0 (low 0 (omega arith))) (sizes-shown pools stand.1 (λ at within. low (suc at) (omega arith)))
