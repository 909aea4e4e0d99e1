use Rattle.std.proofs.Common.{sym, ap, ◌∙◌}
use Rattle.row_lang.specs.Values.{operand}
use Rattle.system_eval.specs.Stacks.{Columns, operands_at}
use Rattle.system_eval.proofs.StackLemmas.{column_there, column_past, zeros_at}
use Rattle.system_eval.proofs.body.stack.Stack.column.Goals as goal

pub returns-then-depth-self : goal.returns-then-depth-self
returns-then-depth-self c = λ lane h.
    sym (ap (λ (s : Columns). operand (operands_at s lane) c.args.depth) (sym c.self.view_is) ∙ column_there c.self.inside.columns c.args.depth c.self.inside.height lane c.if-depth-self.true)

pub returns-else-depth-self : goal.returns-else-depth-self
returns-else-depth-self c = λ lane h.
    zeros_at 64 lane ∙ sym (ap (λ (s : Columns). operand (operands_at s lane) c.args.depth) (sym c.self.view_is) ∙ column_past c.self.inside.columns c.args.depth c.self.inside.height lane c.if-depth-self.false)
