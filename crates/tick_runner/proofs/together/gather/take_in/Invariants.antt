use Rattle.std.proofs.Common.{◌≡◌, ℕ, ◌<◌, ◌≤◌, true, false, length, slice_get, Some}
use Rattle.tick_runner.proofs.together.gather.take_in.Given as goal

abbrev pub invariant-loop-i : goal.invariant-loop-i
invariant-loop-i l = record {
  flags : length l.has_run.items ≡ length l.theirs.items;
  mine : length l.buffers.items ≡ length l.theirs.items;
  others : length l.others.items ≡ length l.theirs.items;
  taken : (j : ℕ) → j < l.i → slice_get l.theirs.items j ≡ Some true → (slice_get l.has_run.items j ≡ Some true) × (slice_get l.buffers.items j ≡ slice_get l.initial.others.items j);
  kept : (j : ℕ) → j < l.i → slice_get l.theirs.items j ≡ Some false → (slice_get l.has_run.items j ≡ slice_get l.initial.has_run.items j) × (slice_get l.buffers.items j ≡ slice_get l.initial.buffers.items j);
  rest : (j : ℕ) → l.i ≤ j → (slice_get l.has_run.items j ≡ slice_get l.initial.has_run.items j) × (slice_get l.buffers.items j ≡ slice_get l.initial.buffers.items j) × (slice_get l.others.items j ≡ slice_get l.initial.others.items j);
}
