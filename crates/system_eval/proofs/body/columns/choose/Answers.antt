use Rattle.std.proofs.Common.{◌≡◌, pos, ◌∙◌, arith, to_z, of_z, w64, get_or, FitsSigned}
use Rattle.std.proofs.lemmas.List.{length-set}
use Rattle.std.proofs.lemmas.Int.{ints, to_z-of_z}
use Rattle.row_lang.specs.Arithmetic.{choice}
use Rattle.system_eval.specs.Stacks.{int_at}
use Rattle.system_eval.proofs.ColumnLemmas.{below_written, above_written}
use Rattle.system_eval.proofs.body.columns.choose.Goals as goal

pub loop-lane-preserved : goal.loop-lane-preserved
loop-lane-preserved c =
    let n = c.loop-lane.lane in
    let column = c.loop-lane.test in
    let fits : FitsSigned w64 c.choice.result = omega (arith, ints) in
    let same : int_at c.loop-lane.test n ≡ int_at c.args.test.now n = c.loop-lane.invariant.left n (omega arith) in
    let is_test : to_z w64 (of_z w64 (get_or c.loop-lane.test n (pos 0))) ≡ int_at c.args.test.now n = grind (arith, ints, to_z-of_z) in
    let is_chosen : to_z w64 (of_z w64 (get_or c.args.chosen.now n (pos 0))) ≡ int_at c.args.chosen.now n = grind (arith, ints, to_z-of_z) in
    let is_otherwise : to_z w64 (of_z w64 (get_or c.args.otherwise.now n (pos 0))) ≡ int_at c.args.otherwise.now n = grind (arith, ints, to_z-of_z) in
    let here : c.choice.result ≡ choice (int_at c.args.test.now n) (int_at c.args.chosen.now n) (int_at c.args.otherwise.now n) = rw (is_test, is_chosen, is_otherwise) at c.choice.ensures in
    record {
      long = length-set _ _ _ ∙ c.loop-lane.invariant.long;
      done = below_written (λ k x. x ≡ choice (int_at c.args.test.now k) (int_at c.args.chosen.now k) (int_at c.args.otherwise.now k)) column n c.choice.result fits (omega (arith, c.loop-lane.invariant.long)) c.loop-lane.invariant.done here;
      left = above_written column c.args.test.now n _ c.loop-lane.invariant.left;
    }
