use Rattle.std.proofs.Common.{◌≡◌, ℕ, length, Some, slice_get}
use Rattle.tick_runner.specs.declared.plan.Part.{Part}
use Rattle.tick_runner.specs.Plans.{IsPartFor}
use Rattle.tick_runner.proofs.plan.parts_of.Given as goal

abbrev pub invariant-loop-place : goal.invariant-loop-place
invariant-loop-place g l = record {
  count : length l.parts.items ≡ l.place;
  parts : (place : ℕ) (system : _) (part : Part) → slice_get l.systems place ≡ Some system → slice_get l.parts.items place ≡ Some part
      → IsPartFor g.S.System.lists g.S.System.limit l.systems l.pools place system part;
}
