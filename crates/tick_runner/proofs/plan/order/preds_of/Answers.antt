use Rattle.std.proofs.Common.{ℕ, ◌+◌, ◌∷◌, [], List, length, sym, ap, ◌∙◌, subst}
use Rattle.std.specs.Prelude.{◌↔◌}
use Rattle.std.proofs.lemmas.List.{length-append}
use Rattle.access_graph.specs.Conflicts.{ComesBefore}
use Rattle.ready_board.specs.Sets.{Has, preds_of}
use Rattle.tick_runner.proofs.ListLemmas.{pushed_each}
use Rattle.tick_runner.proofs.plan.order.preds_of.Goals as goal

pub loop-system-preserved : goal.loop-system-preserved
loop-system-preserved c =
    let preds = c.loop-system.preds.items in
    let found : ℕ = c.preds.result in
    let accesses = c.args.accesses.now in
    record {
      counted = ap length c.in_ok-push.ensures.items ∙ length-append preds (found ∷ []) ∙ ap (λ n. n + 1) c.loop-system.invariant.counted;
      each = λ earlier system low. subst (λ (list : List ℕ). Has (preds_of list system) earlier ↔ ComesBefore accesses earlier system) (sym c.in_ok-push.ensures.items)
          (pushed_each (λ system set. Has set earlier ↔ ComesBefore accesses earlier system) preds found c.loop-system.system c.loop-system.invariant.counted
          (λ system low. c.loop-system.invariant.each earlier system low) (c.preds.ensures.earlier accesses c.in_ok-graph.ensures earlier) system low);
    }
