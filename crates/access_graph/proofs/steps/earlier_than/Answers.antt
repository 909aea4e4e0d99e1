use Rattle.std.proofs.Common.{◌≡◌, ◌<◌, ◌+◌, length, sym, ap, ◌∙◌, subst, arith}
use Rattle.std.specs.FinSet as set
use Rattle.std.proofs.lemmas.List.{get_or_read}
use Rattle.world_model.specs.declared.access.Access.{Access}
use Rattle.access_graph.specs.Conflicts.{access_at, systems_conflict}
use Rattle.access_graph.proofs.StepLemmas.{ArePredsBelow, AreImpliedBelow, preds_none, preds_more, preds_same, implied_none, implied_more, implied_same}
use Rattle.access_graph.proofs.steps.earlier_than.Goals as goal
use Rattle.access_graph.proofs.steps.earlier_than.Goals.{then-conflicts, else-conflicts}

pub loop-i-init : goal.loop-i-init
loop-i-init c = record {
  preds = subst (ArePredsBelow c.args.accesses.now c.args.system 0) (sym c.empty-preds.ensures) (preds_none c.args.accesses.now c.args.system);
  implied = subst (AreImpliedBelow c.args.accesses.now c.args.reached.now c.args.system 0) (sym c.empty-implied.ensures) (implied_none c.args.accesses.now c.args.reached.now c.args.system);
}

pub loop-i-preserved : goal.loop-i-preserved
loop-i-preserved c =
    let systems = c.args.accesses.now in
    let reached = c.args.reached.now in
    let i = c.loop-i.i in
    let j = c.args.system in
    let below : i < j = omega arith in
    let in_range : j < length systems = omega arith in
    let answer : systems_conflict (access_at systems i) (access_at systems j) ≡ c.conflicts.result =
    ap (λ (a : Access). systems_conflict a (access_at systems j)) (sym (get_or_read systems i _ (omega arith) c.index-accesses-i.is _))
    ∙ ap (systems_conflict c.index-accesses-i.result) (sym (get_or_read systems j _ in_range c.index-accesses-system.is _)) ∙ sym c.conflicts.ensures
    in
    elim c.if-conflicts.branch [
      | then-conflicts w ↦
          let conflict = answer ∙ w.if-conflicts.true in
          let more = w.implied-is ∙ w.union-implied.ensures ∙ ap (set.union c.loop-i.implied) (get_or_read reached i _ (omega arith) w.index-reached-i.is set.empty) in
          record {
            preds = subst (ArePredsBelow systems j (i + 1)) (sym (w.preds-is ∙ w.with-preds.ensures)) (preds_more systems j c.loop-i.preds i in_range below conflict c.loop-i.invariant.preds);
            implied = subst (AreImpliedBelow systems reached j (i + 1)) (sym more)
                (implied_more systems reached j c.loop-i.implied i (record { earlier = below; in_range = in_range; conflict = conflict }) c.loop-i.invariant.implied);
          }
      | else-conflicts w ↦
          let apart = answer ∙ w.if-conflicts.false in
          record {
            preds = subst (ArePredsBelow systems j (i + 1)) (sym w.preds-is) (preds_same systems j c.loop-i.preds i apart c.loop-i.invariant.preds);
            implied = subst (AreImpliedBelow systems reached j (i + 1)) (sym w.implied-is) (implied_same systems reached j c.loop-i.implied i apart c.loop-i.invariant.implied);
          }
    ]
