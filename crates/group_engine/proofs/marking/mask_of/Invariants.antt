use Rattle.group_engine.specs.Masks.{may_enter}
use Rattle.group_engine.proofs.MaskLemmas.{IsMaskUpTo}
use Rattle.group_engine.proofs.marking.mask_of.Given as goal

abbrev pub invariant-loop-place : goal.invariant-loop-place
invariant-loop-place l = record {
  marked : IsMaskUpTo l.decls l.order (may_enter l.pool l.held) l.mask l.place;
}
