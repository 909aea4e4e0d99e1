use Rattle.std.proofs.Common.{◌≡◌, true, length, sym, ap, subst, ◌∙◌}
use Rattle.world_model.specs.Groups.{group_pools, are_declared}
use Rattle.group_engine.specs.Engine.{Groups}
use Rattle.group_engine.specs.Layout.{IsKept}
use Rattle.group_engine.specs.Masks.{AreMarked}
use Rattle.group_engine.proofs.BuildLemmas.{accepted_parts, kept_after}
use Rattle.group_engine.proofs.engine.GroupEngine.build.Goals as goal

pub invariant_of-self : goal.invariant_of-self
invariant_of-self g c =
    let e = c.add_group.ensures in
    let named : are_declared c.self.inside.pools (group_pools c.args.decl) ≡ true =
    subst (λ (v : Groups). are_declared v.pools (group_pools c.args.decl) ≡ true) (sym c.self.view_is) (accepted_parts c.args.self.now c.args.decl c.in_ok-group.ensures.accepted).0 in
    let many : length c.args.pools.now ≡ c.self.inside.pools = c.requires.pools ∙ ap (λ (v : Groups). v.pools) (sym c.self.view_is) in
    let marked : AreMarked c.add_group.new.masks c.add_group.new.family c.add_group.new.order.items c.self.inside.pools = subst (AreMarked c.add_group.new.masks c.add_group.new.family c.add_group.new.order.items) many e.marked in
    kept_after c.add_group.result c.self.inside.pools c.self.inside.family c.add_group.new.family c.self.inside.lens.items c.add_group.new.lens.items c.self.inside.order.items c.add_group.new.order.items c.self.inside.masks c.add_group.new.masks c.args.decl
    c.self.invariant named e.family e.lawful e.order e.each e.family_err e.order_err e.lens_err marked

pub returns-clause-lawful : goal.returns-clause-lawful
returns-clause-lawful g c =
    let kept : IsKept (record { decls = c.add_group.new.family; lens = c.add_group.new.lens.items; pools = c.self.inside.pools }) c.add_group.new.order.items c.add_group.new.masks = invariant_of-self g c in
    kept.lawful
