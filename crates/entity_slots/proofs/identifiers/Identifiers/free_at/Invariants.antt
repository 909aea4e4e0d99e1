use Rattle.std.proofs.Common.{length, drop}
use Rattle.entity_slots.specs.Threads.{chain, IsChain}
use Rattle.entity_slots.proofs.identifiers.Identifiers.free_at.Given as goal

abbrev pub invariant-loop-step : goal.invariant-loop-step
invariant-loop-step l = IsChain l.self-inside.list.items l.self-inside.null l.index (drop l._step (chain (length l.self-inside.list.items) l.self-inside.list.items l.self-inside.top))
