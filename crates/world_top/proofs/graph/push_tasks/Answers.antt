use Rattle.std.proofs.Common.{◌≡◌, ◌++◌, ◌∷◌, [], ◌+◌, length, map, take, sym, ap, subst, ◌∙◌, arith}
use Rattle.std.proofs.Math.Seq.{take-suc}
use Rattle.std.proofs.lemmas.List.{length-take}
use Rattle.world_top.proofs.GraphLemmas.{IsRest, leading, lines_push}
use Rattle.world_top.proofs.graph.push_tasks.Goals as goal

pub loop-number-preserved : goal.loop-number-preserved
loop-number-preserved c =
    let n = c.loop-number.number in
    let system = c.index-systems-number.result in
    let next = leading c.args.edges.now n c.loop-number.rest.now c.count_leading.result c.loop-number.invariant.1
    (record { within = c.count_leading.ensures.within; each = c.count_leading.ensures.each; end = c.count_leading.ensures.end }) in
    let counted : 0 + length (take n c.args.systems.now) ≡ n = grind (arith, length-take n c.args.systems.now, c.loop-number-test.true) in
    let one_more : take (n + 1) c.args.systems.now ≡ take n c.args.systems.now ++ system ∷ [] =
    grind (arith, take-suc c.args.systems.now n system c.loop-number-test.true, c.index-systems-number.is) in (
      lines_push c.args.edges.now n (take n c.args.systems.now) _ system c.args.out.now.items c.loop-number.out.items c.push_task.new.out.items
          (map (λ edge. edge.from) c.split_at.result.0.now) counted one_more c.loop-number.invariant.0 c.in_ok-push_task.ensures
          (next.0 ∙ ap (map (λ edge. edge.from)) (sym c.split_at.ensures.front)),
      subst (IsRest c.args.edges.now (n + 1)) (sym c.split_at.ensures.back) next.1,
    )
