use Rattle.world_model.specs.declared.command.Command.TheVariants.{Emplace}
use Rattle.world_model.specs.Refusing.{when_present}
use Rattle.registry.specs.Layout.{world_of, held_of}
use Rattle.registry.proofs.DoneLemmas.{same, entry_finished}
use Rattle.registry.proofs.parts.components.emplace.Goals as goal

pub returns-in-Some-clause-err : goal.returns-in-Some-clause-err
returns-in-Some-clause-err g c = same (held_of c.args.parts.now)

pub returns-in-None-clause-consistent : goal.returns-in-None-clause-consistent
returns-in-None-clause-consistent g c =
    (entry_finished c.args.parts.now c.put_row.new.parts (Emplace c.args.entity c.args.pool c.args.row) c.put_row.result (when_present (world_of c.args.parts.now) c.args.pool c.args.entity) c.requires.consistent c.requires.allowed (c.in-None.ensures.cause _) c.put_row.ensures.absent c.put_row.ensures.ok c.put_row.ensures.err).kept

pub returns-in-None-clause-ok : goal.returns-in-None-clause-ok
returns-in-None-clause-ok g c =
    (entry_finished c.args.parts.now c.put_row.new.parts (Emplace c.args.entity c.args.pool c.args.row) c.put_row.result (when_present (world_of c.args.parts.now) c.args.pool c.args.entity) c.requires.consistent c.requires.allowed (c.in-None.ensures.cause _) c.put_row.ensures.absent c.put_row.ensures.ok c.put_row.ensures.err).does

pub returns-in-None-clause-reply : goal.returns-in-None-clause-reply
returns-in-None-clause-reply g c =
    (entry_finished c.args.parts.now c.put_row.new.parts (Emplace c.args.entity c.args.pool c.args.row) c.put_row.result (when_present (world_of c.args.parts.now) c.args.pool c.args.entity) c.requires.consistent c.requires.allowed (c.in-None.ensures.cause _) c.put_row.ensures.absent c.put_row.ensures.ok c.put_row.ensures.err).reply

pub returns-in-None-clause-err : goal.returns-in-None-clause-err
returns-in-None-clause-err g c =
    (entry_finished c.args.parts.now c.put_row.new.parts (Emplace c.args.entity c.args.pool c.args.row) c.put_row.result (when_present (world_of c.args.parts.now) c.args.pool c.args.entity) c.requires.consistent c.requires.allowed (c.in-None.ensures.cause _) c.put_row.ensures.absent c.put_row.ensures.ok c.put_row.ensures.err).as_before
