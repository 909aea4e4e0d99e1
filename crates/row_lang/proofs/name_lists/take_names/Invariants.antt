use Rattle.std.proofs.Common.{length}
use Rattle.row_lang.proofs.NameListLemmas.{AreNamesTaken}
use Rattle.row_lang.proofs.name_lists.take_names.Given as goal

abbrev pub invariant-loop-pool : goal.invariant-loop-pool
invariant-loop-pool l = AreNamesTaken l.decls l.others l.text l.pools.items l.rest

abbrev pub decreases-loop-pool : goal.decreases-loop-pool
decreases-loop-pool l = length l.rest
