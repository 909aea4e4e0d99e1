use Rattle.std.proofs.Common.{sym, subst}
use Rattle.signal_sink.specs.Hearings.{hearings_by, HaveSpare, KeepSpare}
use Rattle.signal_sink.proofs.signal.Signal.reserve.Goals as goal

pub returns-clause-spare : goal.returns-clause-spare
returns-clause-spare g c = subst (λ v. KeepSpare v (hearings_by g.L.Listener.heard g.L.Listener.spare c.reserve_all.new.listeners.items)) c.self.view_is c.reserve_all.ensures.spare

pub returns-clause-room : goal.returns-clause-room
returns-clause-room g c m before = c.reserve_all.ensures.room m (subst (HaveSpare m) (sym c.self.view_is) before)
