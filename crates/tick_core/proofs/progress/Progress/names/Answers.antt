use Rattle.std.proofs.Common.{ap, ◌∙◌, eqb}
use Rattle.std.specs.List.{list_any}
use Rattle.tick_core.specs.declared.turns.Turn.{Turn}
use Rattle.tick_core.proofs.PlaceLemmas.{any-map}
use Rattle.tick_core.proofs.progress.Progress.names.Goals as goal

pub returns : goal.returns
returns c =
    c.has_turn.ensures ∙ ap (list_any (λ (turn : Turn). eqb turn.pool c.args.pool)) c.deref.ensures.value
    ∙ any-map (λ (turn : Turn). turn.pool) c.args.self.now.turns.items c.args.pool
