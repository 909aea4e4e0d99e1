use Rattle.std.proofs.Common.{◌≡◌, ◌≤◌, ◌+◌}
use Rattle.entity_id.specs.declared.entity.Entity.{Entity}
use Rattle.entity_id.proofs.ArrangeLemmas.{IsArranged}
use Rattle.sparse_set.proofs.arrange.bring_all.Given as goal

abbrev pub invariant-loop-place : goal.invariant-loop-place
invariant-loop-place g l = record {
  arranged : IsArranged (λ (entity : Entity). entity.index) l.fn.set.list l.order l.set.list l.place;
  spare : l.set.spare ≡ l.fn.set.spare;
  bound : l.set.index_bound ≡ l.fn.set.index_bound;
  steps : l.steps ≤ l.fn.steps + l.place;
}
