use Rattle.std.proofs.Common.{◌≡◌, ℕ, ◌<◌, ◌≤◌, slice_get, length}
use Rattle.std.specs.Option.{option_map}
use Rattle.signal_sink.specs.Hearings.{hearings_by, told}
use Rattle.signal_sink.proofs.telling.tell_all.Given as goal

-- the ones before the index have heard the event, and the others are as before
abbrev pub invariant-loop-i : goal.invariant-loop-i
invariant-loop-i g l =
    let now = hearings_by g.L.Listener.heard g.L.Listener.spare l.listeners.items in
    let before = hearings_by g.L.Listener.heard g.L.Listener.spare l.fn.listeners.items in
    record {
      told : (k : ℕ) → k < l.i → slice_get now k ≡ option_map (option_map (told l.e)) (slice_get before k);
      rest : (k : ℕ) → l.i ≤ k → slice_get now k ≡ slice_get before k;
      len : length l.listeners.items ≡ length l.fn.listeners.items;
    }
