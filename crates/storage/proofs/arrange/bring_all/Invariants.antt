use Rattle.std.proofs.Common.{◌≡◌, ◌≤◌, ◌+◌}
use Rattle.entity_id.specs.declared.entity.Entity.{Entity}
use Rattle.entity_id.specs.FiniteMap as entries
use Rattle.entity_id.proofs.ArrangeLemmas.{IsArranged}
use Rattle.storage.proofs.arrange.bring_all.Given as goal

abbrev pub invariant-loop-place : goal.invariant-loop-place
invariant-loop-place g l = record {
  arranged : IsArranged (λ (entity : Entity). entity.index) (entries.keys l.fn.storage.pairs) l.order (entries.keys l.storage.pairs) l.place;
  map : entries.map_of l.storage.pairs ≡ entries.map_of l.fn.storage.pairs;
  spare : l.storage.spare ≡ l.fn.storage.spare;
  bound : l.storage.index_bound ≡ l.fn.storage.index_bound;
  steps : l.steps ≤ l.fn.steps + l.place;
}
