use Rattle.std.proofs.Common.{sym, ap, ◌∙◌}
use Rattle.std.specs.List.{list_any}
use Rattle.tick_core.proofs.TurnLemmas.{at_and, contains-where}
use Rattle.tick_core.proofs.progress.Progress.has_taken.Goals as goal

pub returns : goal.returns
returns c =
    c.has_taken.ensures ∙ ap (list_any (at_and (λ turn. turn.taken) c.args.pool)) c.deref.ensures.value
    ∙ sym (contains-where (λ turn. turn.taken) c.args.self.now.turns.items c.args.pool)
