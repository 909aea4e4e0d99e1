use Rattle.access_graph.proofs.StepLemmas.{AreImpliedBelow, ArePredsBelow}
use Rattle.access_graph.proofs.steps.earlier_than.Given as goal

abbrev pub invariant-loop-i : goal.invariant-loop-i
invariant-loop-i l = record {
  preds : ArePredsBelow l.accesses l.system l.i l.preds;
  implied : AreImpliedBelow l.accesses l.reached l.system l.i l.implied;
}
