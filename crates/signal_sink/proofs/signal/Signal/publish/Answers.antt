use Rattle.std.proofs.Common.{◌+◌, sym, ap, ◌∙◌, subst}
use Rattle.signal_sink.specs.Hearings.{heard_lists, heard_also, HaveSpare}
use Rattle.signal_sink.proofs.HearingLemmas.{told_spare, heard_told}
use Rattle.signal_sink.proofs.signal.Signal.publish.Goals as goal

pub returns-clause-spare : goal.returns-clause-spare
returns-clause-spare g c m before = subst (HaveSpare m) (sym c.tell_all.ensures.hearings) (told_spare c.args.e _ m (subst (HaveSpare (m + 1)) (sym c.self.view_is) before))

pub returns-clause-heard : goal.returns-clause-heard
returns-clause-heard g c = ap heard_lists c.tell_all.ensures.hearings ∙ heard_told c.args.e _ ∙ ap (λ v. heard_also c.args.e (heard_lists v)) c.self.view_is
