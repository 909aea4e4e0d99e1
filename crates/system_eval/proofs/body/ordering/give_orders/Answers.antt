use Rattle.std.proofs.Common.{List, sym, subst}
use Rattle.system_api.specs.Emissions.{Emission}
use Rattle.system_eval.specs.Doings.{deed_in, Does}
use Rattle.system_eval.proofs.DeedLemmas.{gives}
use Rattle.system_eval.proofs.body.ordering.give_orders.Goals as goal

pub returns-clause-does : goal.returns-clause-does
returns-clause-does c = λ columns.
    subst (λ (es : List Emission). Does c.args.scene.now (deed_in c.args.scene.now c.args.word c.args.test.now c.args.stack.now)
    (record { columns = columns; spawned = c.args.spawned.now; list = c.args.out.now.list }) (record { columns = columns; spawned = c.note_spawn.new.spawned; list = es }))
    (sym c.emit.ensures.list)
    (gives c.args.scene.now c.args.word c.requires.word c.args.test.now c.args.stack.now columns c.args.spawned.now c.note_spawn.new.spawned c.args.out.now.list c.requires.distinct c.note_spawn.ensures)
