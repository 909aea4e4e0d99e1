use Rattle.std.proofs.Common.{◌≡◌, ◌-◌, pos, [], sym, ap, ◌∙◌, arith, to_z, of_z, w64, slice_index_or}
use Rattle.std.proofs.lemmas.Int.{ints, to_z-of_z}
use Rattle.row_lang.specs.Values.{operand}
use Rattle.system_eval.specs.Stacks.{Columns, operands_at}
use Rattle.system_eval.proofs.StackLemmas.{column_there, column_past}
use Rattle.system_eval.proofs.body.stack.Stack.value.Goals as goal

pub returns-then-depth-self : goal.returns-then-depth-self
returns-then-depth-self c =
    let columns = c.self.inside.columns in
    let there = ap (λ (s : Columns). operand (operands_at s c.args.lane) c.args.depth) (sym c.self.view_is) ∙ column_there columns c.args.depth c.self.inside.height c.args.lane c.if-depth-self.true in
    let same : to_z w64 (of_z w64 (slice_index_or (slice_index_or columns (c.self.inside.height - 1 - c.args.depth) []) c.args.lane (pos 0))) ≡ slice_index_or (slice_index_or columns (c.self.inside.height - 1 - c.args.depth) []) c.args.lane (pos 0) = grind (arith, ints, to_z-of_z) in
    same ∙ sym there

pub returns-else-depth-self : goal.returns-else-depth-self
returns-else-depth-self c =
    sym (ap (λ (s : Columns). operand (operands_at s c.args.lane) c.args.depth) (sym c.self.view_is) ∙ column_past c.self.inside.columns c.args.depth c.self.inside.height c.args.lane c.if-depth-self.false)
