use Rattle.std.proofs.Common.{◌≡◌}
use Rattle.std.specs.List.{AllByRecursion}
use Rattle.entity_id.specs.Identifiers.{p20_12}
use Rattle.world_text.specs.Documents.{HasAscendingLists}
use Rattle.world_top.proofs.tests.calls.answer_all.Given as goal

abbrev pub invariant-loop-line : goal.invariant-loop-line
invariant-loop-line g l = record {
  limit : l.registry.limit ≡ l.initial.registry.limit;
  decls : l.registry.world.decls ≡ l.decls;
  profile : l.registry.world.profile ≡ p20_12;
  ascending : AllByRecursion HasAscendingLists l.registry.world.groups;
}
