-- One lane more of a column is written.
use Rattle.std.proofs.Common.{◌≡◌, ◌≢◌, ℕ, ◌+◌, ◌<◌, ◌≤◌, ℤ, pos, List, length, sym, ◌∙◌, subst, arith, get_or-set_other, get_or-set_same, below_more, FitsSigned, to_z, of_z, w64}
use Rattle.std.specs.Prelude.{slice_set}
use Rattle.std.proofs.lemmas.Int.{to_z-of_z}
use Rattle.system_eval.specs.Stacks.{int_at}

at_other : (column : List ℤ) (n k : ℕ) (v : ℤ) → k ≢ n → int_at (slice_set column n v) k ≡ int_at column k
at_other column n k v h = get_or-set_other column n k v (pos 0) h

below_set : (P : ℕ → ℤ → Type 0) (column : List ℤ) (n : ℕ) (v : ℤ) → n < length column → ((k : ℕ) → k < n → P k (int_at column k)) → P n v →
    (k : ℕ) → k < n + 1 → P k (int_at (slice_set column n v) k)
below_set P column n v within before here =
    below_more (λ k. P k (int_at (slice_set column n v) k)) n
    (λ k h. let ne : k ≢ n = omega arith in subst (λ (x : ℤ). P k x) (sym (at_other column n k v ne)) (before k h))
    (subst (λ (x : ℤ). P n x) (sym (get_or-set_same column n v (pos 0) within)) here)

-- what is written is what the machine's number holds
pub below_written : (P : ℕ → ℤ → Type 0) (column : List ℤ) (n : ℕ) (v : ℤ) → FitsSigned w64 v → n < length column → ((k : ℕ) → k < n → P k (int_at column k)) → P n v →
    (k : ℕ) → k < n + 1 → P k (int_at (slice_set column n (to_z w64 (of_z w64 v))) k)
below_written P column n v fits within before here =
    subst (λ (x : ℤ). (k : ℕ) → k < n + 1 → P k (int_at (slice_set column n x) k)) (sym (to_z-of_z w64 v fits)) (below_set P column n v within before here)

pub above_written : (column old : List ℤ) (n : ℕ) (v : ℤ) → ((k : ℕ) → n ≤ k → int_at column k ≡ int_at old k) → (k : ℕ) → n + 1 ≤ k → int_at (slice_set column n v) k ≡ int_at old k
above_written column old n v left k h = let ne : k ≢ n = omega arith in at_other column n k v ne ∙ left k (omega arith)
