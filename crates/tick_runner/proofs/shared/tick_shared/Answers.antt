use Rattle.std.proofs.Common.{List, length, map, sym, ap, ◌∙◌, subst}
use Rattle.std.specs.List.{AllByRecursion}
use Rattle.entity_id.proofs.ListLemmas.{all_at}
use Rattle.storage.specs.Stored.{Stored}
use Rattle.world_model.specs.declared.component.Row.{Row}
use Rattle.world_model.specs.Frames.{IsFitSystem, IsLawfulAccess}
use Rattle.world_model.specs.Orders.{IsFitting}
use Rattle.registry.specs.Held.{Held}
use Rattle.registry.specs.Lending.{IsLent}
use Rattle.tick_runner.specs.Plans.{IsPlanFor}
use Rattle.tick_runner.specs.Running.{orders_in}
use Rattle.tick_runner.proofs.CarryLemmas.{lent_count, orders_fit, may_come_back, restored, ticked}
use Rattle.tick_runner.proofs.shared.tick_shared.Goals as goal

pub make_plan-requires-clause-lists : goal.make_plan-requires-clause-lists
make_plan-requires-clause-lists g c = λ place system at.
    let w = c.args.registry.world in
    let count = ap length c.deref.ensures.value ∙ lent_count c.args.registry c.lend-pools.result.1 c.lend-pools.result.0.items c.lend-pools.ensures.lent c.lend-pools.ensures.same in
    let fit = all_at (λ s. IsFitSystem w.profile w.decls (g.S.System.lists s) (g.S.System.effect s)) c.args.systems.now place system c.requires.fit at in
    subst (λ n. IsLawfulAccess n (g.S.System.lists system)) (sym count) fit.lists

pub make_plan-requires-clause-lent : goal.make_plan-requires-clause-lent
make_plan-requires-clause-lent g c = subst (λ (pools : List (Stored Row)). IsLent c.lend-pools.result.1 pools) (sym c.deref.ensures.value) c.lend-pools.ensures.lent

pub run_prepared-buffers-requires-clause-plan : goal.run_prepared-buffers-requires-clause-plan
run_prepared-buffers-requires-clause-plan g c κs within =
    subst (λ (pools : List (Stored Row)). IsPlanFor g.S.System.lists g.S.System.limit c.args.systems.now pools c.in_ok-plan.plan) c.deref.ensures.value c.in_ok-plan.ensures.plan

pub restore-after-requires : goal.restore-after-requires
restore-after-requires g c =
    may_come_back c.args.registry c.lend-pools.result.1 c.lend-pools.result.0.items c.lend-pools.ensures.lent c.lend-pools.ensures.same g.S.System.lists g.S.System.effect c.systems_keep_frames.ensures
    c.worlds_with_other_rows_are_lawful.ensures c.args.systems.now c.args.tick c.requires.tick c.law.ensures.world c.requires.fit c.run_prepared-buffers.new.pools.items c.run_prepared-buffers.ensures.rows c.run_prepared-buffers.ensures.shapes

pub apply_all-requires : goal.apply_all-requires
apply_all-requires g c =
    let lent = c.lend-pools.result.0.items in
    let back = restored c.args.registry c.lend-pools.result.1 lent c.lend-pools.ensures.lent c.lend-pools.ensures.same g.S.System.lists g.S.System.effect c.systems_keep_frames.ensures
    c.worlds_with_other_rows_are_lawful.ensures c.args.systems.now c.args.tick c.requires.tick c.law.ensures.world c.requires.fit c.run_prepared-buffers.new.pools.items c.run_prepared-buffers.ensures.rows
    c.restore-after.result (c.restore-after.ensures.rows lent c.run_prepared-buffers.ensures.shapes) in
    let fit = orders_fit c.args.registry c.lend-pools.result.1 lent c.lend-pools.ensures.lent c.lend-pools.ensures.same g.S.System.lists g.S.System.effect c.systems_keep_frames.ensures
    c.worlds_with_other_rows_are_lawful.ensures c.args.systems.now c.args.tick c.requires.tick c.law.ensures.world c.requires.fit
    (map orders_in c.deref-2.result.now) (ap (map orders_in) c.deref-2.ensures.value ∙ c.run_prepared-buffers.ensures.orders) in
    subst (λ (h : Held). AllByRecursion (AllByRecursion (IsFitting h.world.profile h.world.decls)) (map orders_in c.deref-2.result.now)) (sym back) fit

pub returns : goal.returns
returns g c =
    let lent = c.lend-pools.result.0.items in
    let back = restored c.args.registry c.lend-pools.result.1 lent c.lend-pools.ensures.lent c.lend-pools.ensures.same g.S.System.lists g.S.System.effect c.systems_keep_frames.ensures
    c.worlds_with_other_rows_are_lawful.ensures c.args.systems.now c.args.tick c.requires.tick c.law.ensures.world c.requires.fit c.run_prepared-buffers.new.pools.items c.run_prepared-buffers.ensures.rows
    c.restore-after.result (c.restore-after.ensures.rows lent c.run_prepared-buffers.ensures.shapes) in
    ticked c.args.registry c.lend-pools.result.1 lent c.lend-pools.ensures.lent c.lend-pools.ensures.same g.S.System.lists g.S.System.effect c.systems_keep_frames.ensures
    c.worlds_with_other_rows_are_lawful.ensures c.args.systems.now c.args.tick c.requires.tick c.law.ensures.world c.requires.fit c.run_prepared-buffers.new.pools.items c.run_prepared-buffers.ensures.rows
    c.registries_change_in_parts.ensures.parts c.registries_change_in_parts.ensures.quiet c.restore-after.result c.apply_all.new.registry back
    (map orders_in c.deref-2.result.now) (ap (map orders_in) c.deref-2.ensures.value ∙ c.run_prepared-buffers.ensures.orders) c.in_ok-apply_all.ensures
