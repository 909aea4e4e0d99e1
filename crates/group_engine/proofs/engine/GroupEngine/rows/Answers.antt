use Rattle.std.proofs.Common.{◌≡◌, ◌<◌, ◌≤◌, map, take, length, get_or, sym, ap, subst, ◌∙◌, arith}
use Rattle.std.proofs.lemmas.Option.{get_or_from_slice_get}
use Rattle.group_engine.specs.Grouped.{packed_of}
use Rattle.group_engine.specs.Engine.{decl_at, len_at}
use Rattle.group_engine.specs.Layout.{IsKept}
use Rattle.group_engine.proofs.EngineLemmas.{IsRead, there, owned_below, members_fit, values_here, one_order, owns_first}
use Rattle.group_engine.proofs.engine.GroupEngine.rows.Goals as goal

pub bounds-pools-pool : goal.bounds-pools-pool
bounds-pools-pool g c =
    let groups = c.args.self.now in
    let order = c.self.inside.order.items in
    let masks = c.self.inside.masks in
    let kept : IsKept groups order masks = subst (λ v. IsKept v order masks) c.self.view_is c.self.invariant in
    let read : IsRead groups c.args.group (decl_at groups c.args.group) (len_at groups c.args.group) = there groups order masks c.args.group kept c.requires.group in
    let below : c.args.pool < groups.pools = owned_below groups.pools groups.decls c.args.group (decl_at groups c.args.group) c.args.pool kept.lawful read.here c.requires.owned in
    let many : length c.args.pools.now ≡ groups.pools = c.requires.pools in
    omega (arith, below, many)

pub rows-requires : goal.rows-requires
rows-requires g c =
    let groups = c.args.self.now in
    let order = c.self.inside.order.items in
    let masks = c.self.inside.masks in
    let kept : IsKept groups order masks = subst (λ v. IsKept v order masks) c.self.view_is c.self.invariant in
    let read : IsRead groups c.args.group (decl_at groups c.args.group) (len_at groups c.args.group) = there groups order masks c.args.group kept c.requires.group in
    let below : c.args.pool < groups.pools = owned_below groups.pools groups.decls c.args.group (decl_at groups c.args.group) c.args.pool kept.lawful read.here c.requires.owned in
    let many : length c.args.pools.now ≡ groups.pools = c.requires.pools in
    let fits : len_at groups c.args.group ≤ length c.index-pools-pool.result.pairs = members_fit groups c.args.pools.now c.args.group (decl_at groups c.args.group) (len_at groups c.args.group) c.args.pool c.index-pools-pool.result c.requires.grouped read c.requires.owned (omega (arith, below, many)) c.index-pools-pool.is in
    let count : c.index-count.result.now ≡ len_at groups c.args.group = c.index-count.ensures ∙ ap (λ v. get_or v.lens c.args.group c.index-count.result.now) c.self.view_is ∙ get_or_from_slice_get groups.lens c.args.group (len_at groups c.args.group) c.index-count.result.now read.long in
    omega (arith, fits, count)

pub returns-clause-values : goal.returns-clause-values
returns-clause-values g c =
    let groups = c.args.self.now in
    let order = c.self.inside.order.items in
    let masks = c.self.inside.masks in
    let kept : IsKept groups order masks = subst (λ v. IsKept v order masks) c.self.view_is c.self.invariant in
    let read : IsRead groups c.args.group (decl_at groups c.args.group) (len_at groups c.args.group) = there groups order masks c.args.group kept c.requires.group in
    let below : c.args.pool < groups.pools = owned_below groups.pools groups.decls c.args.group (decl_at groups c.args.group) c.args.pool kept.lawful read.here c.requires.owned in
    let many : length c.args.pools.now ≡ groups.pools = c.requires.pools in
    let count : c.index-count.result.now ≡ len_at groups c.args.group = c.index-count.ensures ∙ ap (λ v. get_or v.lens c.args.group c.index-count.result.now) c.self.view_is ∙ get_or_from_slice_get groups.lens c.args.group (len_at groups c.args.group) c.index-count.result.now read.long in
    c.rows.ensures.list ∙ ap (λ k. take k (map (λ pair. pair.1) c.index-pools-pool.result.pairs)) count
    ∙ ap (take (len_at groups c.args.group)) (sym (values_here c.args.pools.now c.args.pool c.index-pools-pool.result (omega (arith, below, many)) c.index-pools-pool.is))

pub returns-clause-order : goal.returns-clause-order
returns-clause-order g c =
    let groups = c.args.self.now in
    let order = c.self.inside.order.items in
    let masks = c.self.inside.masks in
    let kept : IsKept groups order masks = subst (λ v. IsKept v order masks) c.self.view_is c.self.invariant in
    let read : IsRead groups c.args.group (decl_at groups c.args.group) (len_at groups c.args.group) = there groups order masks c.args.group kept c.requires.group in
    one_order groups (packed_of c.args.pools.now) c.args.group (decl_at groups c.args.group) (len_at groups c.args.group) c.args.pool (get_or (decl_at groups c.args.group).own 0 0) c.requires.grouped read c.requires.owned
    (owns_first groups.pools groups.decls c.args.group (decl_at groups c.args.group) kept.lawful read.here)
