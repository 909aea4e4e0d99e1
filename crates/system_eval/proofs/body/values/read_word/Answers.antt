use Rattle.std.proofs.Common.{sym, ap, ◌∙◌}
use Rattle.row_lang.specs.declared.token.Keyword.{Keyword}
use Rattle.row_lang.specs.declared.token.Token.TheVariants.{Word}
use Rattle.row_lang.specs.Values.{operands_with}
use Rattle.system_eval.specs.Lanes.{setting_at}
use Rattle.system_eval.specs.Stacks.{operands_at}
use Rattle.system_eval.proofs.body.values.read_word.Goals as goal

pub returns-in-Oneself : goal.returns-in-Oneself
returns-in-Oneself c = λ rows lane h.
    c.put_entities.ensures rows lane h ∙ ap (λ (w : Keyword). operands_with (setting_at c.args.scene.now lane) rows (Word w) (operands_at c.args.stack.now lane)) (sym c.in-Oneself.is)

pub returns-in-Has : goal.returns-in-Has
returns-in-Has c = λ rows lane h.
    c.read_has.ensures rows lane h ∙ ap (λ (w : Keyword). operands_with (setting_at c.args.scene.now lane) rows (Word w) (operands_at c.args.stack.now lane)) (sym c.in-Has.is)

pub returns-in-At : goal.returns-in-At
returns-in-At c = λ rows lane h.
    c.read_at.ensures rows lane h ∙ ap (λ (w : Keyword). operands_with (setting_at c.args.scene.now lane) rows (Word w) (operands_at c.args.stack.now lane)) (sym c.in-At.is)
