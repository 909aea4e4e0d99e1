use Rattle.std.proofs.Common.{None, sym}
use Rattle.world_model.specs.declared.command.Command.TheVariants.{Remove}
use Rattle.registry.specs.Layout.{held_of}
use Rattle.registry.proofs.DoneLemmas.{same, refused, did, removed}
use Rattle.registry.proofs.parts.components.remove.Goals as goal

pub returns-in-Some-clause-does : goal.returns-in-Some-clause-does
returns-in-Some-clause-does g c = (refused (held_of c.args.parts.now) (Remove c.args.entity c.args.pool) c.in-Some.refused (c.in-Some.ensures.cause None)).0

pub returns-in-Some-clause-unchanged : goal.returns-in-Some-clause-unchanged
returns-in-Some-clause-unchanged g c = same (held_of c.args.parts.now)

pub returns-in-None-clause-consistent : goal.returns-in-None-clause-consistent
returns-in-None-clause-consistent g c =
    (did c.args.parts.now c.drop_row.new.parts (Remove c.args.entity c.args.pool) c.requires tt (c.in-None.ensures.cause None) (removed _ _ _ _ (sym c.if-drop_row.ensures.was) c.if-drop_row.ensures.gone)).0

pub returns-in-None-clause-does : goal.returns-in-None-clause-does
returns-in-None-clause-does g c =
    (did c.args.parts.now c.drop_row.new.parts (Remove c.args.entity c.args.pool) c.requires tt (c.in-None.ensures.cause None) (removed _ _ _ _ (sym c.if-drop_row.ensures.was) c.if-drop_row.ensures.gone)).1
