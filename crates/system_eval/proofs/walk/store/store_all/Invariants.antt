use Rattle.system_eval.specs.Finding.{AreStored}
use Rattle.system_eval.proofs.walk.store.store_all.Given as goal

abbrev pub invariant-loop-at : goal.invariant-loop-at
invariant-loop-at l = AreStored l.entities l.marks l.columns l.reads l.at l.initial.lent l.lent
