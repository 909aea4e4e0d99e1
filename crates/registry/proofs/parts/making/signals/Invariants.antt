use Rattle.std.proofs.Common.{◌≡◌, [], replicate}
use Rattle.registry.proofs.parts.making.signals.Given as goal

abbrev pub invariant-loop-made : goal.invariant-loop-made
invariant-loop-made g l = l.signals.items ≡ replicate l._made []
