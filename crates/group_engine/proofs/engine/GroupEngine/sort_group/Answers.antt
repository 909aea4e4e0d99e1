use Rattle.std.proofs.Common.{◌≡◌, ◌<◌, ◌≤◌, ◌+◌, ◌*◌, None, Some, slice_get, length, sym, ap, ap₂, subst, ◌∙◌, arith}
use Rattle.std.proofs.lemmas.Option.{same_Some}
use Rattle.sparse_set.specs.WalkOrders.{IsWalkOrder}
use Rattle.world_model.specs.Groups.{group_prefix}
use Rattle.group_engine.specs.Grouped.{packed_of, AreArranged}
use Rattle.group_engine.specs.Engine.{decl_at, len_at, inner_in}
use Rattle.group_engine.specs.Layout.{IsKept}
use Rattle.group_engine.proofs.EngineLemmas.{IsRead, there, family_seen, owned_below, none_inner}
use Rattle.group_engine.proofs.UseLemmas.{on_no_error}
use Rattle.group_engine.proofs.engine.GroupEngine.sort_group.Goals as goal

pub sort_group-sorted-requires-clause-family : goal.sort_group-sorted-requires-clause-family
sort_group-sorted-requires-clause-family g c = family_seen c.self.inside.pools c.self.inside.family c.as_slice-2.result.now c.self.invariant.lawful c.as_slice-2.ensures.groups

pub sort_group-sorted-requires-clause-declared : goal.sort_group-sorted-requires-clause-declared
sort_group-sorted-requires-clause-declared g c decl here pool has =
    let groups = c.args.self.now in
    let order = c.self.inside.order.items in
    let masks = c.self.inside.masks in
    let kept : IsKept groups order masks = subst (λ v. IsKept v order masks) c.self.view_is c.self.invariant in
    let seen : c.as_slice-2.result.now ≡ groups.decls = c.as_slice-2.ensures.groups ∙ ap (λ v. v.decls) c.self.view_is in
    let below : pool < groups.pools = owned_below groups.pools groups.decls c.args.group decl pool kept.lawful (ap (λ l. slice_get l c.args.group) (sym seen) ∙ here) has in
    let many : length c.args.pools.now ≡ groups.pools = c.requires.pools in
    omega (arith, below, many)

pub sort_group-sorted-requires-clause-keys : goal.sort_group-sorted-requires-clause-keys
sort_group-sorted-requires-clause-keys g c =
    let groups = c.args.self.now in
    let order = c.self.inside.order.items in
    let masks = c.self.inside.masks in
    let kept : IsKept groups order masks = subst (λ v. IsKept v order masks) c.self.view_is c.self.invariant in
    let seen : c.deref.result.now ≡ groups.lens = c.deref.ensures.value ∙ ap (λ v. v.lens) c.self.view_is in
    ap (λ l. slice_get l c.args.group) seen ∙ (there groups order masks c.args.group kept c.requires.group).long ∙ ap Some (sym c.requires.keys)

pub sort_group-sorted-requires-clause-inner : goal.sort_group-sorted-requires-clause-inner
sort_group-sorted-requires-clause-inner g c decl here =
    let decls = c.self.inside.family in
    let d = c.decl.result.now in
    let seen : c.as_slice.result.now ≡ c.as_slice-2.result.now = c.as_slice.ensures.groups ∙ sym c.as_slice-2.ensures.groups in
    let is : d ≡ decl = same_Some d decl (sym c.decl.ensures ∙ ap (λ l. slice_get l c.args.group) (sym c.as_slice-2.ensures.groups) ∙ here) in
    let none : inner_in c.as_slice-2.result.now decl ≡ None = sym (ap₂ (λ l x. inner_in l x) seen is) ∙ sym c.inner.ensures ∙ c.in_default.is in
    none_inner c.as_slice-2.result.now c.args.group decl (family_seen c.self.inside.pools decls c.as_slice-2.result.now c.self.invariant.lawful c.as_slice-2.ensures.groups) here none

pub returns-then-is_err-clause-steps : goal.returns-then-is_err-clause-steps
returns-then-is_err-clause-steps g c =
    let groups = c.args.self.now in
    let order = c.self.inside.order.items in
    let masks = c.self.inside.masks in
    let kept : IsKept groups order masks = subst (λ v. IsKept v order masks) c.self.view_is c.self.invariant in
    let read : IsRead groups c.args.group (decl_at groups c.args.group) (len_at groups c.args.group) = there groups order masks c.args.group kept c.requires.group in
    let seen : c.as_slice-2.result.now ≡ groups.decls = c.as_slice-2.ensures.groups ∙ ap (λ v. v.decls) c.self.view_is in
    subst (λ k. c.sort_group-sorted.new.steps ≤ c.args.steps.now + length (decl_at groups c.args.group).own * k) c.requires.keys (c.sort_group-sorted.ensures.steps (decl_at groups c.args.group) (ap (λ l. slice_get l c.args.group) seen ∙ read.here))

pub returns-clause-steps : goal.returns-clause-steps
returns-clause-steps g c =
    let groups = c.args.self.now in
    let order = c.self.inside.order.items in
    let masks = c.self.inside.masks in
    let kept : IsKept groups order masks = subst (λ v. IsKept v order masks) c.self.view_is c.self.invariant in
    let read : IsRead groups c.args.group (decl_at groups c.args.group) (len_at groups c.args.group) = there groups order masks c.args.group kept c.requires.group in
    let seen : c.as_slice-2.result.now ≡ groups.decls = c.as_slice-2.ensures.groups ∙ ap (λ v. v.decls) c.self.view_is in
    subst (λ k. c.sort_group-sorted.new.steps ≤ c.args.steps.now + length (decl_at groups c.args.group).own * k) c.requires.keys (c.sort_group-sorted.ensures.steps (decl_at groups c.args.group) (ap (λ l. slice_get l c.args.group) seen ∙ read.here))

pub returns-clause-order : goal.returns-clause-order
returns-clause-order g c =
    let groups = c.args.self.now in
    let order = c.self.inside.order.items in
    let masks = c.self.inside.masks in
    let kept : IsKept groups order masks = subst (λ v. IsKept v order masks) c.self.view_is c.self.invariant in
    let d = decl_at groups c.args.group in
    let seen : c.as_slice-2.result.now ≡ groups.decls = c.as_slice-2.ensures.groups ∙ ap (λ v. v.decls) c.self.view_is in
    let here : slice_get c.as_slice-2.result.now c.args.group ≡ Some d = ap (λ l. slice_get l c.args.group) seen ∙ (there groups order masks c.args.group kept c.requires.group).here in
    let sorted = on_no_error c.sort_group-sorted.result _ (sym c.is_err.ensures.value ∙ c.if-is_err.false) c.sort_group-sorted.ensures.order in
    subst (λ k. IsWalkOrder c.args.keys.now (group_prefix (packed_of c.args.pools.now) d k) (group_prefix (packed_of c.sort_group-sorted.new.pools) d k)) c.requires.keys (sorted d here)

pub returns-clause-arranged : goal.returns-clause-arranged
returns-clause-arranged g c =
    let groups = c.args.self.now in
    let order = c.self.inside.order.items in
    let masks = c.self.inside.masks in
    let kept : IsKept groups order masks = subst (λ v. IsKept v order masks) c.self.view_is c.self.invariant in
    let d = decl_at groups c.args.group in
    let new = packed_of c.sort_group-sorted.new.pools in
    let seen : c.as_slice-2.result.now ≡ groups.decls = c.as_slice-2.ensures.groups ∙ ap (λ v. v.decls) c.self.view_is in
    let here : slice_get c.as_slice-2.result.now c.args.group ≡ Some d = ap (λ l. slice_get l c.args.group) seen ∙ (there groups order masks c.args.group kept c.requires.group).here in
    let sorted = on_no_error c.sort_group-sorted.result _ (sym c.is_err.ensures.value ∙ c.if-is_err.false) c.sort_group-sorted.ensures.arranged in
    subst (λ k. AreArranged d.own (group_prefix new d k) (packed_of c.args.pools.now) new) c.requires.keys (sorted d here)
