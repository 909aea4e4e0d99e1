use Rattle.std.proofs.Common.{◌≡◌, ◌+◌, map, take, length}
use Rattle.entity_id.specs.FiniteMap as entries
use Rattle.system_api.specs.Partings.{parting_order}
use Rattle.system_api.proofs.tests.part.Given as goal

abbrev pub invariant-loop-entity : goal.invariant-loop-entity
invariant-loop-entity l = record {
  list : l.out.list ≡ map (λ entity. record { index = entity.index; order = parting_order (entries.map_of l.other.pairs) entity }) (take l.entity-index (entries.keys l.whole.pairs));
  spare : l.out.spare + length l.out.list ≡ l.initial.out.spare;
}
