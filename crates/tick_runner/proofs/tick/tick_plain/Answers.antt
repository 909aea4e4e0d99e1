use Rattle.std.proofs.Common.{ℕ, List, Option, length, map, sym, ap, ◌∙◌, subst}
use Rattle.std.specs.List.{AllByRecursion}
use Rattle.entity_id.proofs.ListLemmas.{all_at}
use Rattle.storage.specs.Stored.{Stored}
use Rattle.world_model.specs.declared.component.Row.{Row}
use Rattle.world_model.specs.Frames.{IsFitSystem, IsLawfulAccess}
use Rattle.world_model.specs.Orders.{IsFitting}
use Rattle.registry.specs.Held.{Held}
use Rattle.registry.specs.Lending.{IsLent}
use Rattle.tick_runner.specs.Walking.{ArePrefixesFor}
use Rattle.tick_runner.specs.Running.{orders_in}
use Rattle.tick_runner.proofs.CarryLemmas.{lent_count, orders_fit, may_come_back, restored, ticked}
use Rattle.tick_runner.proofs.tick.tick_plain.Goals as goal

pub prepare-requires-clause-lists : goal.prepare-requires-clause-lists
prepare-requires-clause-lists g c = λ place system at.
    let w = c.args.registry.world in
    let count = ap length c.deref.ensures.value ∙ lent_count c.args.registry c.lend-pools.result.1 c.lend-pools.result.0.items c.lend-pools.ensures.lent c.lend-pools.ensures.same in
    let fit = all_at (λ s. IsFitSystem w.profile w.decls (g.S.System.lists s) (g.S.System.effect s)) c.args.systems.now place system c.requires.fit at in
    subst (λ n. IsLawfulAccess n (g.S.System.lists system)) (sym count) fit.lists

pub prepare-requires-clause-lent : goal.prepare-requires-clause-lent
prepare-requires-clause-lent g c = subst (λ (pools : List (Stored Row)). IsLent c.lend-pools.result.1 pools) (sym c.deref.ensures.value) c.lend-pools.ensures.lent

pub run_all-requires-clause-prefixes : goal.run_all-requires-clause-prefixes
run_all-requires-clause-prefixes g c =
    let lent = c.lend-pools.result.0.items in
    let systems = c.args.systems.now in
    subst (λ (prefixes : List (Option (ℕ × ℕ))). ArePrefixesFor g.S.System.lists lent systems prefixes) (sym c.deref-2.ensures.value)
    (subst (λ (pools : List (Stored Row)). ArePrefixesFor g.S.System.lists pools systems c.in_ok-prepared.prepared.prefixes.items) c.deref.ensures.value c.in_ok-prepared.ensures.prefixes)

pub run_all-requires-clause-lists : goal.run_all-requires-clause-lists
run_all-requires-clause-lists g c = λ place system at.
    let w = c.args.registry.world in
    let count = lent_count c.args.registry c.lend-pools.result.1 c.lend-pools.result.0.items c.lend-pools.ensures.lent c.lend-pools.ensures.same in
    let fit = all_at (λ s. IsFitSystem w.profile w.decls (g.S.System.lists s) (g.S.System.effect s)) c.args.systems.now place system c.requires.fit at in
    subst (λ n. IsLawfulAccess n (g.S.System.lists system)) (sym count) fit.lists

pub restore-after-requires : goal.restore-after-requires
restore-after-requires g c =
    may_come_back c.args.registry c.lend-pools.result.1 c.lend-pools.result.0.items c.lend-pools.ensures.lent c.lend-pools.ensures.same g.S.System.lists g.S.System.effect g.met.S.System.frame
    c.worlds_with_other_rows_are_lawful.ensures c.args.systems.now c.args.tick c.requires.tick c.law.ensures.world c.requires.fit c.run_all.new.pools.items c.run_all.ensures.rows c.run_all.ensures.shapes

pub apply_all-requires : goal.apply_all-requires
apply_all-requires g c =
    let lent = c.lend-pools.result.0.items in
    let back = restored c.args.registry c.lend-pools.result.1 lent c.lend-pools.ensures.lent c.lend-pools.ensures.same g.S.System.lists g.S.System.effect g.met.S.System.frame
    c.worlds_with_other_rows_are_lawful.ensures c.args.systems.now c.args.tick c.requires.tick c.law.ensures.world c.requires.fit c.run_all.new.pools.items c.run_all.ensures.rows
    c.restore-after.result (c.restore-after.ensures.rows lent c.run_all.ensures.shapes) in
    let fit = orders_fit c.args.registry c.lend-pools.result.1 lent c.lend-pools.ensures.lent c.lend-pools.ensures.same g.S.System.lists g.S.System.effect g.met.S.System.frame
    c.worlds_with_other_rows_are_lawful.ensures c.args.systems.now c.args.tick c.requires.tick c.law.ensures.world c.requires.fit
    (map orders_in c.deref-3.result.now) (ap (map orders_in) c.deref-3.ensures.value ∙ c.run_all.ensures.orders) in
    subst (λ (h : Held). AllByRecursion (AllByRecursion (IsFitting h.world.profile h.world.decls)) (map orders_in c.deref-3.result.now)) (sym back) fit

pub returns : goal.returns
returns g c =
    let lent = c.lend-pools.result.0.items in
    let back = restored c.args.registry c.lend-pools.result.1 lent c.lend-pools.ensures.lent c.lend-pools.ensures.same g.S.System.lists g.S.System.effect g.met.S.System.frame
    c.worlds_with_other_rows_are_lawful.ensures c.args.systems.now c.args.tick c.requires.tick c.law.ensures.world c.requires.fit c.run_all.new.pools.items c.run_all.ensures.rows
    c.restore-after.result (c.restore-after.ensures.rows lent c.run_all.ensures.shapes) in
    ticked c.args.registry c.lend-pools.result.1 lent c.lend-pools.ensures.lent c.lend-pools.ensures.same g.S.System.lists g.S.System.effect g.met.S.System.frame
    c.worlds_with_other_rows_are_lawful.ensures c.args.systems.now c.args.tick c.requires.tick c.law.ensures.world c.requires.fit c.run_all.new.pools.items c.run_all.ensures.rows
    c.registries_change_in_parts.ensures.parts c.registries_change_in_parts.ensures.quiet c.restore-after.result c.apply_all.new.registry back
    (map orders_in c.deref-3.result.now) (ap (map orders_in) c.deref-3.ensures.value ∙ c.run_all.ensures.orders) c.in_ok-apply_all.ensures
