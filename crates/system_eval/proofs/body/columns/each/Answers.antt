use Rattle.std.proofs.Common.{◌≡◌, pos, ◌∙◌, arith, to_z, of_z, w64, get_or, FitsSigned}
use Rattle.std.proofs.lemmas.List.{length-set}
use Rattle.std.proofs.lemmas.Int.{ints, to_z-of_z}
use Rattle.system_eval.specs.Stacks.{int_at}
use Rattle.system_eval.proofs.ColumnLemmas.{below_written, above_written}
use Rattle.system_eval.proofs.body.columns.each.Goals as goal

pub loop-lane-preserved : goal.loop-lane-preserved
loop-lane-preserved g c =
    let n = c.loop-lane.lane in
    let column = c.loop-lane.left in
    let fits : FitsSigned w64 c.f.result = omega (arith, ints) in
    let same : int_at c.loop-lane.left n ≡ int_at c.args.left.now n = c.loop-lane.invariant.left n (omega arith) in
    let is_left : to_z w64 (of_z w64 (get_or c.loop-lane.left n (pos 0))) ≡ int_at c.args.left.now n = grind (arith, ints, to_z-of_z) in
    let is_right : to_z w64 (of_z w64 (get_or c.args.right.now n (pos 0))) ≡ int_at c.args.right.now n = grind (arith, ints, to_z-of_z) in
    let here : goal.F-post g c.args.f (int_at c.args.left.now n) (int_at c.args.right.now n) c.f.result = rw (is_left, is_right) at c.f.ensures in
    record {
      long = length-set _ _ _ ∙ c.loop-lane.invariant.long;
      done = below_written (λ k x. goal.F-post g c.args.f (int_at c.args.left.now k) (int_at c.args.right.now k) x) column n c.f.result fits (omega (arith, c.loop-lane.invariant.long)) c.loop-lane.invariant.done here;
      left = above_written column c.args.left.now n _ c.loop-lane.invariant.left;
    }
