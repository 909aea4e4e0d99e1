use Rattle.std.proofs.Common.{◌≡◌, ◌++◌, ◌+◌, ◌≤◌, drop, length, map, reverse}
use Rattle.row_lang.specs.Places.{whole_value}
use Rattle.row_lang.proofs.deeds.push_values.Given as goal

abbrev pub invariant-loop-at : goal.invariant-loop-at
invariant-loop-at l = record {
  within : l.at ≤ length l.kinds;
  low : length l.stack.items + l.at ≤ 48;
  pushed : reverse l.stack.items ≡ map whole_value (drop l.at l.kinds) ++ reverse l.fn.stack.items;
}

abbrev pub decreases-loop-at : goal.decreases-loop-at
decreases-loop-at l = l.at
