use Rattle.registry.proofs.GroupingLemmas.{AreLoaded}
use Rattle.registry.proofs.parts.loading.load_groups_counted.Given as goal

abbrev pub invariant-loop-decl : goal.invariant-loop-decl
invariant-loop-decl g l = AreLoaded l.decls l.fn.pools l.pools l.groups l.decl-index
