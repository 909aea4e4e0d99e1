use Rattle.std.proofs.Common.{◌≡◌, take}
use Rattle.registry.proofs.parts.saving.save_slots.Given as goal

abbrev pub invariant-loop-index : goal.invariant-loop-index
invariant-loop-index l = l.list.items ≡ take l.index l.slots.slots
