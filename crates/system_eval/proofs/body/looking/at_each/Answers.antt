use Rattle.std.proofs.Common.{◌≡◌, pos, ◌∙◌, arith, to_z, of_z, w64, get_or, FitsSigned}
use Rattle.std.specs.Option.{option_map_or}
use Rattle.std.proofs.lemmas.List.{length-set}
use Rattle.std.proofs.lemmas.Int.{ints, to_z-of_z}
use Rattle.entity_id.specs.Fields.{entity_in}
use Rattle.entity_id.specs.FiniteMap as entries
use Rattle.world_model.specs.Components.{value_at}
use Rattle.system_eval.specs.Stacks.{int_at}
use Rattle.system_eval.proofs.ColumnLemmas.{below_written, above_written}
use Rattle.system_eval.proofs.body.looking.at_each.Goals as goal

pub loop-lane-preserved : goal.loop-lane-preserved
loop-lane-preserved c =
    let n = c.loop-lane.lane in
    let column = c.loop-lane.column in
    let rows = entries.map_of c.args.storage.now.pairs in
    let fits : FitsSigned w64 c.at_one.result = omega (arith, ints) in
    let same : int_at c.loop-lane.column n ≡ int_at c.args.column.now n = c.loop-lane.invariant.left n (omega arith) in
    let is_there : to_z w64 (of_z w64 (get_or c.loop-lane.column n (pos 0))) ≡ int_at c.args.column.now n = grind (arith, ints, to_z-of_z) in
    let is_otherwise : to_z w64 (of_z w64 (get_or c.args.otherwise.now n (pos 0))) ≡ int_at c.args.otherwise.now n = grind (arith, ints, to_z-of_z) in
    let here : c.at_one.result ≡ option_map_or (λ row. value_at row c.args.field) (entries.get rows (entity_in c.args.profile (int_at c.args.column.now n))) (int_at c.args.otherwise.now n) = rw (is_there, is_otherwise) at c.at_one.ensures in
    record {
      long = length-set _ _ _ ∙ c.loop-lane.invariant.long;
      done = below_written (λ k x. x ≡ option_map_or (λ row. value_at row c.args.field) (entries.get rows (entity_in c.args.profile (int_at c.args.column.now k))) (int_at c.args.otherwise.now k)) column n c.at_one.result fits (omega (arith, c.loop-lane.invariant.long)) c.loop-lane.invariant.done here;
      left = above_written column c.args.column.now n _ c.loop-lane.invariant.left;
    }
