use Rattle.std.proofs.Common.{sym, ap, ◌∙◌}
use Rattle.world_model.specs.Frames.{own_pools}
use Rattle.row_lang.specs.declared.token.Token.{Token}
use Rattle.row_lang.specs.Values.{operands_with}
use Rattle.system_eval.specs.Lanes.{own_at, setting_at}
use Rattle.system_eval.specs.Stacks.{operands_at}
use Rattle.system_eval.proofs.body.values.read_token.Goals as goal

pub returns-in-Word : goal.returns-in-Word
returns-in-Word c = λ lane h.
    let rows = own_at (own_pools c.args.scene.now.access) c.args.columns.now lane in
    c.read_word.ensures rows lane h ∙ ap (λ (t : Token). operands_with (setting_at c.args.scene.now lane) rows t (operands_at c.args.stack.now lane)) (sym c.in-Word.is)
