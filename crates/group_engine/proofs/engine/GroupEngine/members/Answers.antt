use Rattle.std.proofs.Common.{◌≡◌, ◌<◌, true, length, get_or, slice_get, Some, sym, ap, subst, ◌∙◌, arith}
use Rattle.std.proofs.lemmas.Option.{get_or_from_slice_get}
use Rattle.world_model.specs.Groups.{has_pool}
use Rattle.group_engine.specs.Layout.{IsKept}
use Rattle.group_engine.proofs.EngineLemmas.{IsRead, as_read, owned_below, members_fit, owns_first, prefix_here}
use Rattle.group_engine.proofs.engine.GroupEngine.members.Goals as goal

pub bounds-pools-own : goal.bounds-pools-own
bounds-pools-own g c =
    let groups = c.args.self.now in
    let order = c.self.inside.order.items in
    let masks = c.self.inside.masks in
    let d = c.decl.result.now in
    let first = get_or c.as_slice-own.result.now 0 0 in
    let kept : IsKept groups order masks = subst (λ v. IsKept v order masks) c.self.view_is c.self.invariant in
    let here : slice_get groups.decls c.args.group ≡ Some d = ap (λ v. slice_get v.decls c.args.group) (sym c.self.view_is) ∙ c.decl.ensures in
    let owned : has_pool d.own first ≡ true = ap (λ l. has_pool d.own (get_or l 0 0)) c.as_slice-own.ensures ∙ owns_first groups.pools groups.decls c.args.group d kept.lawful here in
    let below : first < groups.pools = owned_below groups.pools groups.decls c.args.group d first kept.lawful here owned in
    let many : length c.args.pools.now ≡ groups.pools = c.requires.pools in
    omega (arith, below, many)

pub members-requires : goal.members-requires
members-requires g c =
    let groups = c.args.self.now in
    let order = c.self.inside.order.items in
    let masks = c.self.inside.masks in
    let d = c.decl.result.now in
    let first = get_or c.as_slice-own.result.now 0 0 in
    let kept : IsKept groups order masks = subst (λ v. IsKept v order masks) c.self.view_is c.self.invariant in
    let here : slice_get groups.decls c.args.group ≡ Some d = ap (λ v. slice_get v.decls c.args.group) (sym c.self.view_is) ∙ c.decl.ensures in
    let owned : has_pool d.own first ≡ true = ap (λ l. has_pool d.own (get_or l 0 0)) c.as_slice-own.ensures ∙ owns_first groups.pools groups.decls c.args.group d kept.lawful here in
    let below : first < groups.pools = owned_below groups.pools groups.decls c.args.group d first kept.lawful here owned in
    let many : length c.args.pools.now ≡ groups.pools = c.requires.pools in
    let n = c.index.result.now in
    let read : IsRead groups c.args.group d n = as_read groups _ order masks c.args.group d n (sym c.self.view_is) c.self.invariant c.requires.group (sym (get_or_from_slice_get c.self.inside.family c.args.group d d c.decl.ensures)) c.index.ensures in
    members_fit groups c.args.pools.now c.args.group d n first c.index-pools-own.result c.requires.grouped read owned (omega (arith, below, many)) c.index-pools-own.is

pub returns-clause-list : goal.returns-clause-list
returns-clause-list g c =
    let groups = c.args.self.now in
    let order = c.self.inside.order.items in
    let masks = c.self.inside.masks in
    let d = c.decl.result.now in
    let first = get_or c.as_slice-own.result.now 0 0 in
    let kept : IsKept groups order masks = subst (λ v. IsKept v order masks) c.self.view_is c.self.invariant in
    let here : slice_get groups.decls c.args.group ≡ Some d = ap (λ v. slice_get v.decls c.args.group) (sym c.self.view_is) ∙ c.decl.ensures in
    let owned : has_pool d.own first ≡ true = ap (λ l. has_pool d.own (get_or l 0 0)) c.as_slice-own.ensures ∙ owns_first groups.pools groups.decls c.args.group d kept.lawful here in
    let below : first < groups.pools = owned_below groups.pools groups.decls c.args.group d first kept.lawful here owned in
    let many : length c.args.pools.now ≡ groups.pools = c.requires.pools in
    let n = c.index.result.now in
    let read : IsRead groups c.args.group d n = as_read groups _ order masks c.args.group d n (sym c.self.view_is) c.self.invariant c.requires.group (sym (get_or_from_slice_get c.self.inside.family c.args.group d d c.decl.ensures)) c.index.ensures in
    c.members.ensures.list ∙ prefix_here groups c.args.pools.now c.args.group d n first c.index-pools-own.result read (ap (λ l. get_or l 0 0) c.as_slice-own.ensures) (omega (arith, below, many)) c.index-pools-own.is
