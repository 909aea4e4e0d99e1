use Rattle.std.proofs.Common.{◌≡◌, take}
use Rattle.registry.proofs.parts.copying.copy_groups.Given as goal

abbrev pub invariant-loop-decl : goal.invariant-loop-decl
invariant-loop-decl l = l.copied.items ≡ take l.decl-index l.groups
