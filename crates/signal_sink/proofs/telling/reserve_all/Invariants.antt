use Rattle.std.proofs.Common.{◌≡◌, ℕ, ◌<◌, ◌≤◌, slice_get, length, Some}
use Rattle.signal_sink.specs.Hearings.{hearings_by, heard_lists, HaveSpare, KeepSpare, Hearing}
use Rattle.signal_sink.proofs.telling.reserve_all.Given as goal

abbrev pub invariant-loop-i : goal.invariant-loop-i
invariant-loop-i g l =
    let now = hearings_by g.L.Listener.heard g.L.Listener.spare l.listeners.items in
    let before = hearings_by g.L.Listener.heard g.L.Listener.spare l.fn.listeners.items in
    record {
      heard : heard_lists now ≡ heard_lists before;
      ok : (k : ℕ) (hearing : Hearing) → k < l.i → slice_get now k ≡ Some (Some hearing) → l.n ≤ hearing.spare;
      spare : KeepSpare before now;
      room : (m : ℕ) → HaveSpare m before → HaveSpare m now;
      len : length l.listeners.items ≡ length l.fn.listeners.items;
    }
