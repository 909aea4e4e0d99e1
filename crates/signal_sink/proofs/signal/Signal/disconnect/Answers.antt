use Rattle.std.proofs.Common.{◌≡◌, ℕ, set, None, ap, ◌∙◌, rules, slice_set}
use Rattle.std.proofs.lemmas.List.{map-set}
use Rattle.signal_sink.specs.Hearings.{hearing_by, hearings_by}
use Rattle.signal_sink.proofs.signal.Signal.disconnect.Goals as goal

pub returns-clause-hearings : goal.returns-clause-hearings
returns-clause-hearings g c =
    let heard = g.L.Listener.heard in
    let spare = g.L.Listener.spare in
    let items = c.self.inside.listeners.items in
    let number : ℕ = c.args.number in
    let emptied : hearings_by heard spare (set items number c.take.new.self) ≡ slice_set c.args.self.now number None =
    ap (λ place. hearings_by heard spare (set items number place)) c.take.ensures.after
    ∙ map-set (hearing_by heard spare) items number None
    ∙ ap (λ hearings. slice_set hearings number None) c.self.view_is in
    search rules
