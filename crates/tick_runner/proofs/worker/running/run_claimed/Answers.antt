use Rattle.std.proofs.Common.{◌≡◌, ℕ, ◌≤◌, List, true, length, Some, sym, ap, ◌∙◌, subst, arith}
use Rattle.std.specs.List.{AllZip}
use Rattle.world_model.specs.declared.access.Access.{Access}
use Rattle.world_model.specs.Frames.{pool_limit}
use Rattle.world_model.specs.Groups.{are_declared}
use Rattle.world_model.specs.Ticks.{Maps}
use Rattle.system_api.specs.declared.lent.LentPool.{LentPool}
use Rattle.system_api.specs.Registers.{Register}
use Rattle.registry.specs.Layout.{maps_of}
use Rattle.tick_runner.specs.Turns.{MayComeBack}
use Rattle.tick_runner.specs.Versions.{maps_before, tick_admits}
use Rattle.tick_runner.proofs.LentLemmas.{lent_as, shows, prefix_walks, sizes_stay, may_come_back, slot_count, write_declared, write_few}
use Rattle.tick_runner.proofs.VersionLemmas.{keys_before, orders_at}
use Rattle.tick_runner.proofs.worker.running.run_claimed.Goals as goal

pub write_all-requires : goal.write_all-requires
write_all-requires g c =
    let fact = c.args.fact.now in
    let pools = fact.pools.value.items in
    let access = g.S.System.lists c.args.system.now in
    let list : c.as_slice-3.result.now ≡ access.write = c.as_slice-3.ensures ∙ ap (λ (a : Access). a.write) c.access-access.ensures in
    let count = slot_count g.S.System.lists g.S.System.effect g.met.S.System.frame fact c.args.slots.now c.requires.slots c.args.place in (
      omega arith,
      (
        subst (λ (ns : List ℕ). are_declared (length c.args.slots.now) ns ≡ true) (sym list) (subst (λ (n : ℕ). are_declared n access.write ≡ true) count (write_declared (length pools) access c.requires.lawful)),
        (
          subst (λ (ns : List ℕ). length ns ≤ pool_limit) (sym list) (write_few (length pools) access c.requires.lawful),
          (
            λ pool tag is. (c.requires.slots.slots pool tag is).1,
            (
              ap length c.deref-2.ensures.value ∙ c.requires.part.needs.counted ∙ count,
              (
                c.new-places.ensures,
                c.lend_turns.ensures.writes ∙ c.lend_prefix.ensures.writes ∙ ap (λ (r : Register). r.writes) c.new-lent.ensures,
              ),
            ),
          ),
        ),
      ),
    )

pub run-requires-clause-pools : goal.run-requires-clause-pools
run-requires-clause-pools g c =
    let fact = c.args.fact.now in
    let pools = fact.pools.value.items in
    let lists = g.S.System.lists in
    let effect = g.S.System.effect in
    let frame = g.met.S.System.frame in
    let s = c.args.system.now in
    let fold : Maps = maps_before effect fact.systems.value.now fact.tick (maps_of pools) c.args.place in
    let register = c.write_all.new.lent in
    let lent = lent_as lists effect frame fact c.args.slots.now c.requires.slots c.args.place s c.requires.at c.args.part.now.needs.items c.requires.part.needs c.requires.lawful
    c.access-access.result.now c.access-access.ensures c.lend_turns.new.lent register c.as_slice-shown.result.now c.read_all-turns.result.items c.write_all.new.places.items
    c.deref.result.now c.deref-2.result.now c.as_slice.result.now c.as_slice-2.result.now c.as_slice-3.result.now
    c.as_slice-shown.ensures.value c.read_all-turns.ensures.found c.deref.ensures.value (c.as_slice.ensures.value ∙ sym c.as_slice-2.ensures.value) c.lend_turns.ensures.reads c.write_all.ensures.reads
    c.write_all.ensures.places c.deref-2.ensures.value c.as_slice-3.ensures c.write_all.ensures.writes in
    lent.0.lent

pub run-requires-clause-prefix : goal.run-requires-clause-prefix
run-requires-clause-prefix g c =
    let fact = c.args.fact.now in
    let pools = fact.pools.value.items in
    let lists = g.S.System.lists in
    let effect = g.S.System.effect in
    let frame = g.met.S.System.frame in
    let s = c.args.system.now in
    let fold : Maps = maps_before effect fact.systems.value.now fact.tick (maps_of pools) c.args.place in
    let register = c.write_all.new.lent in
    let lent = lent_as lists effect frame fact c.args.slots.now c.requires.slots c.args.place s c.requires.at c.args.part.now.needs.items c.requires.part.needs c.requires.lawful
    c.access-access.result.now c.access-access.ensures c.lend_turns.new.lent register c.as_slice-shown.result.now c.read_all-turns.result.items c.write_all.new.places.items
    c.deref.result.now c.deref-2.result.now c.as_slice.result.now c.as_slice-2.result.now c.as_slice-3.result.now
    c.as_slice-shown.ensures.value c.read_all-turns.ensures.found c.deref.ensures.value (c.as_slice.ensures.value ∙ sym c.as_slice-2.ensures.value) c.lend_turns.ensures.reads c.write_all.ensures.reads
    c.write_all.ensures.places c.deref-2.ensures.value c.as_slice-3.ensures c.write_all.ensures.writes in
    let keys = keys_before lists effect fact.tick frame fact.systems.value.now c.args.place (maps_of pools) in
    prefix_walks (lists s) fold pools register lent.0 keys c.args.part.now.prefix (c.write_all.ensures.prefix ∙ c.lend_turns.ensures.prefix ∙ c.lend_prefix.ensures.prefix) c.requires.part.prefix

pub run-requires-clause-room : goal.run-requires-clause-room
run-requires-clause-room g c =
    let fact = c.args.fact.now in
    let pools = fact.pools.value.items in
    let lists = g.S.System.lists in
    let effect = g.S.System.effect in
    let frame = g.met.S.System.frame in
    let s = c.args.system.now in
    let fold : Maps = maps_before effect fact.systems.value.now fact.tick (maps_of pools) c.args.place in
    let register = c.write_all.new.lent in
    let lent = lent_as lists effect frame fact c.args.slots.now c.requires.slots c.args.place s c.requires.at c.args.part.now.needs.items c.requires.part.needs c.requires.lawful
    c.access-access.result.now c.access-access.ensures c.lend_turns.new.lent register c.as_slice-shown.result.now c.read_all-turns.result.items c.write_all.new.places.items
    c.deref.result.now c.deref-2.result.now c.as_slice.result.now c.as_slice-2.result.now c.as_slice-3.result.now
    c.as_slice-shown.ensures.value c.read_all-turns.ensures.found c.deref.ensures.value (c.as_slice.ensures.value ∙ sym c.as_slice-2.ensures.value) c.lend_turns.ensures.reads c.write_all.ensures.reads
    c.write_all.ensures.places c.deref-2.ensures.value c.as_slice-3.ensures c.write_all.ensures.writes in
    let keys = keys_before lists effect fact.tick frame fact.systems.value.now c.args.place (maps_of pools) in
    record {
      maps = fold;
      shown = shows (lists s) fold pools register lent.0;
      enough = subst (λ (sizes : List ℕ). g.S.System.limit s sizes ≤ c.args.out.now.spare) (sizes_stay (lists s) fold pools register lent.0 keys)
          (subst (λ (n : ℕ). n ≤ c.args.out.now.spare) c.requires.part.buffer c.requires.ready.room);
    }

pub put_all-requires : goal.put_all-requires
put_all-requires g c =
    let fact = c.args.fact.now in
    let pools = fact.pools.value.items in
    let lists = g.S.System.lists in
    let effect = g.S.System.effect in
    let frame = g.met.S.System.frame in
    let s = c.args.system.now in
    let fold : Maps = maps_before effect fact.systems.value.now fact.tick (maps_of pools) c.args.place in
    let register = c.write_all.new.lent in
    let lent = lent_as lists effect frame fact c.args.slots.now c.requires.slots c.args.place s c.requires.at c.args.part.now.needs.items c.requires.part.needs c.requires.lawful
    c.access-access.result.now c.access-access.ensures c.lend_turns.new.lent register c.as_slice-shown.result.now c.read_all-turns.result.items c.write_all.new.places.items
    c.deref.result.now c.deref-2.result.now c.as_slice.result.now c.as_slice-2.result.now c.as_slice-3.result.now
    c.as_slice-shown.ensures.value c.read_all-turns.ensures.found c.deref.ensures.value (c.as_slice.ensures.value ∙ sym c.as_slice-2.ensures.value) c.lend_turns.ensures.reads c.write_all.ensures.reads
    c.write_all.ensures.places c.deref-2.ensures.value c.as_slice-3.ensures c.write_all.ensures.writes in
    let R = MayComeBack (tick_admits lists effect) in
    let back = may_come_back lists effect frame fact c.args.slots.now c.requires.slots c.args.place s c.requires.at c.requires.few (lists s).write register.writes c.run.new.lent.writes (λ n named. named) lent.1.0
    c.run.ensures.pools.numbers c.run.ensures.pools.rows (c.run.ensures.rows fold (shows (lists s) fold pools register lent.0)) in
    (omega arith, subst (λ (ps : List LentPool). AllZip R c.write_all.new.places.items ps) (sym c.into_writes-writes.ensures.writes) (subst (λ ts. AllZip R ts c.run.new.lent.writes) (sym lent.1.1) back))

pub returns-clause-orders : goal.returns-clause-orders
returns-clause-orders g c =
    let fact = c.args.fact.now in
    let pools = fact.pools.value.items in
    let lists = g.S.System.lists in
    let effect = g.S.System.effect in
    let frame = g.met.S.System.frame in
    let s = c.args.system.now in
    let fold : Maps = maps_before effect fact.systems.value.now fact.tick (maps_of pools) c.args.place in
    let register = c.write_all.new.lent in
    let lent = lent_as lists effect frame fact c.args.slots.now c.requires.slots c.args.place s c.requires.at c.args.part.now.needs.items c.requires.part.needs c.requires.lawful
    c.access-access.result.now c.access-access.ensures c.lend_turns.new.lent register c.as_slice-shown.result.now c.read_all-turns.result.items c.write_all.new.places.items
    c.deref.result.now c.deref-2.result.now c.as_slice.result.now c.as_slice-2.result.now c.as_slice-3.result.now
    c.as_slice-shown.ensures.value c.read_all-turns.ensures.found c.deref.ensures.value (c.as_slice.ensures.value ∙ sym c.as_slice-2.ensures.value) c.lend_turns.ensures.reads c.write_all.ensures.reads
    c.write_all.ensures.places c.deref-2.ensures.value c.as_slice-3.ensures c.write_all.ensures.writes in
    orders_at lists effect fact.tick fact.systems.value.now c.args.place s (maps_of pools) c.requires.at
    ∙ ap Some (sym (c.run.ensures.orders fold (shows (lists s) fold pools register lent.0) c.settle.new.self.list c.settle.ensures.settled))
