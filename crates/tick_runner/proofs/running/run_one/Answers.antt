use Rattle.std.proofs.Common.{ap, ◌∙◌}
use Rattle.registry.specs.Layout.{maps_of}
use Rattle.registry.specs.Lending.{shapes_of}
use Rattle.tick_runner.specs.Putting.{put_back}
use Rattle.tick_runner.proofs.RunLemmas.{taken_by, shows, rows_back, shapes_kept}
use Rattle.tick_runner.proofs.WalkLemmas.{prefix_walks}
use Rattle.tick_runner.proofs.running.run_one.Goals as goal

pub run-requires-clause-room : goal.run-requires-clause-room
run-requires-clause-room g c =
    let taken = taken_by c.lend_written.new.lent c.lend_read.new.lent c.lend_written.new.pools.items c.args.pools.now.items c.requires.lists c.access-access.ensures c.as_slice.ensures
    c.lend_written.ensures.count c.lend_written.ensures.numbers c.lend_written.ensures.back c.deref.ensures.value c.lend_read.ensures.numbers c.lend_read.ensures.reads c.lend_read.ensures.writes in
    record { maps = maps_of c.args.pools.now.items; shown = shows (g.S.System.lists c.args.system.now) c.lend_read.new.lent c.lend_written.new.pools.items c.args.pools.now.items taken; enough = c.requires.ready.room }

pub run-requires-clause-prefix : goal.run-requires-clause-prefix
run-requires-clause-prefix g c = λ maps shown.
    let lists = g.S.System.lists c.args.system.now in
    let pools = c.lend_written.new.pools.items in
    let old = c.args.pools.now.items in
    let taken = taken_by c.lend_written.new.lent c.lend_read.new.lent pools old c.requires.lists c.access-access.ensures c.as_slice.ensures
    c.lend_written.ensures.count c.lend_written.ensures.numbers c.lend_written.ensures.back c.deref.ensures.value c.lend_read.ensures.numbers c.lend_read.ensures.reads c.lend_read.ensures.writes in
    prefix_walks lists c.lend_read.new.lent pools old taken c.args.prefix (c.lend_read.ensures.prefix ∙ c.lend_written.ensures.prefix ∙ c.lend_prefix.ensures.prefix) c.requires.prefix maps shown

pub returns-clause-rows : goal.returns-clause-rows
returns-clause-rows g c =
    let lists = g.S.System.lists c.args.system.now in
    let pools = c.lend_written.new.pools.items in
    let old = c.args.pools.now.items in
    let taken = taken_by c.lend_written.new.lent c.lend_read.new.lent pools old c.requires.lists c.access-access.ensures c.as_slice.ensures
    c.lend_written.ensures.count c.lend_written.ensures.numbers c.lend_written.ensures.back c.deref.ensures.value c.lend_read.ensures.numbers c.lend_read.ensures.reads c.lend_read.ensures.writes in
    ap maps_of (c.give_back.ensures.pools ∙ ap (λ writes. put_back writes pools) c.into_writes-writes.ensures.writes)
    ∙ rows_back lists c.lend_read.new.lent pools old taken c.run.new.lent c.run.ensures.pools _ (c.run.ensures.rows (maps_of old) (shows lists c.lend_read.new.lent pools old taken))
    ((g.met.S.System.frame c.args.system.now).unwritten c.args.tick (maps_of old))

pub returns-clause-shapes : goal.returns-clause-shapes
returns-clause-shapes g c =
    let lists = g.S.System.lists c.args.system.now in
    let pools = c.lend_written.new.pools.items in
    let old = c.args.pools.now.items in
    let taken = taken_by c.lend_written.new.lent c.lend_read.new.lent pools old c.requires.lists c.access-access.ensures c.as_slice.ensures
    c.lend_written.ensures.count c.lend_written.ensures.numbers c.lend_written.ensures.back c.deref.ensures.value c.lend_read.ensures.numbers c.lend_read.ensures.reads c.lend_read.ensures.writes in
    ap shapes_of (c.give_back.ensures.pools ∙ ap (λ writes. put_back writes pools) c.into_writes-writes.ensures.writes)
    ∙ shapes_kept lists c.lend_read.new.lent pools old taken c.run.new.lent c.run.ensures.pools

pub returns-clause-orders : goal.returns-clause-orders
returns-clause-orders g c =
    let lists = g.S.System.lists c.args.system.now in
    let pools = c.lend_written.new.pools.items in
    let old = c.args.pools.now.items in
    let taken = taken_by c.lend_written.new.lent c.lend_read.new.lent pools old c.requires.lists c.access-access.ensures c.as_slice.ensures
    c.lend_written.ensures.count c.lend_written.ensures.numbers c.lend_written.ensures.back c.deref.ensures.value c.lend_read.ensures.numbers c.lend_read.ensures.reads c.lend_read.ensures.writes in
    c.run.ensures.orders (maps_of old) (shows lists c.lend_read.new.lent pools old taken) c.settle.new.self.list c.settle.ensures.settled
