use Rattle.std.proofs.Common.{◌≡◌, drop}
use Rattle.world_model.specs.Groups.{are_distinct}
use Rattle.group_rules.proofs.checking.are_distinct.Given as goal

-- no pool in front stands again
abbrev pub invariant-loop-place : goal.invariant-loop-place
invariant-loop-place l = are_distinct l.list ≡ are_distinct (drop l.place l.list)
