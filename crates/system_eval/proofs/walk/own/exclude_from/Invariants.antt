use Rattle.std.proofs.Common.{◌≡◌, ℕ, ◌<◌, ◌&&◌, not, take, drop}
use Rattle.std.specs.List.{list_any}
use Rattle.system_api.specs.Batches.{lanes, entity_at, is_marked}
use Rattle.system_eval.specs.Walks.{has_row}
use Rattle.system_eval.proofs.walk.own.exclude_from.Given as goal

abbrev pub invariant-loop-at : goal.invariant-loop-at
invariant-loop-at l = (lane : ℕ) → lane < lanes → is_marked l.marks lane ≡ (is_marked l.initial.marks lane && not (list_any (has_row (entity_at l.entities lane)) (drop l.from (take l.at l.lent.reads))))
