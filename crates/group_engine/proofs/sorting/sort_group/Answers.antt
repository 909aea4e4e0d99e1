use Rattle.std.proofs.Common.{◌≡◌, true, ◌++◌, ◌<◌, ◌≤◌, ℕ, List, length, get_or, take, drop, slice_get, Some, sym, refl, ap, ap₂, subst, ◌∙◌, arith}
use Rattle.std.specs.List.Sorted.{IsPermutation}
use Rattle.std.proofs.Math.Seq.{take-append_seam}
use Rattle.std.proofs.lemmas.Option.{slice_get_read, get_or_from_slice_get, same_Some}
use Rattle.entity_id.specs.declared.entity.Entity.{Entity}
use Rattle.entity_id.specs.FiniteMap.{AreDistinctBy}
use Rattle.sparse_set.specs.WalkOrders.{IsWalkOrder}
use Rattle.world_model.specs.declared.group.GroupDecl.{GroupDecl}
use Rattle.world_model.specs.Groups.{has_pool, packed_at, group_prefix}
use Rattle.group_engine.specs.Grouped.{AreArranged, packed_of}
use Rattle.group_engine.proofs.OwnLemmas.{packed_here}
use Rattle.group_engine.proofs.SortLemmas.{first_has, permuted_everywhere, sorted_grouped}
use Rattle.group_engine.proofs.sorting.sort_group.Goals as goal

pub bounds-pools-own : goal.bounds-pools-own
bounds-pools-own g c =
    let a = c.index-decls-group.result in
    let here : slice_get c.args.decls.now c.args.group ≡ Some a = slice_get_read c.args.decls.now (length c.args.decls.now) c.args.group a refl c.requires.group c.index-decls-group.is in
    let some : 0 < length a.own = c.requires.family.some c.args.group a here in
    c.requires.declared a here (get_or c.as_slice-own.result.now 0 0) (ap (λ l. has_pool a.own (get_or l 0 0)) (c.as_slice-own.ensures ∙ ap (λ (d : GroupDecl). d.own) (sym c.index-decls-group.is)) ∙ first_has a.own some)

pub order_of-requires-clause-within : goal.order_of-requires-clause-within
order_of-requires-clause-within g c =
    let a = c.index-decls-group.result in
    let pools = c.args.pools.now in
    let first = get_or c.as_slice-own.result.now 0 0 in
    let n = length c.args.keys.now in
    let here : slice_get c.args.decls.now c.args.group ≡ Some a = slice_get_read c.args.decls.now (length c.args.decls.now) c.args.group a refl c.requires.group c.index-decls-group.is in
    let some : 0 < length a.own = c.requires.family.some c.args.group a here in
    let has : has_pool a.own first ≡ true = ap (λ l. has_pool a.own (get_or l 0 0)) (c.as_slice-own.ensures ∙ ap (λ (d : GroupDecl). d.own) (sym c.index-decls-group.is)) ∙ first_has a.own some in
    let low : first < length pools = c.requires.declared a here first has in
    let is : packed_at (packed_of pools) first ≡ c.index.result.now.list = packed_here pools first c.index-pools-own.result low ∙ sym c.index.ensures.list in
    let fits : n ≤ length (packed_at (packed_of pools) first) = (c.requires.grouped.each c.args.group a n here c.requires.keys).within first has in
    let count : get_or c.args.lens.now c.args.group 0 ≡ n = get_or_from_slice_get c.args.lens.now c.args.group n 0 c.requires.keys in
    let long : length (packed_at (packed_of pools) first) ≡ length c.index.result.now.list = ap length is in
    omega (arith, fits, count, long)

pub order_of-requires-clause-keys : goal.order_of-requires-clause-keys
order_of-requires-clause-keys g c = sym (get_or_from_slice_get c.args.lens.now c.args.group (length c.args.keys.now) 0 c.requires.keys)

pub arrange_all-requires-clause-distinct : goal.arrange_all-requires-clause-distinct
arrange_all-requires-clause-distinct g c =
    let a = c.index-decls-group.result in
    let here : slice_get c.args.decls.now c.args.group ≡ Some a = slice_get_read c.args.decls.now (length c.args.decls.now) c.args.group a refl c.requires.group c.index-decls-group.is in
    subst (AreDistinctBy (λ (pool : ℕ). pool)) (sym (c.as_slice-own.ensures ∙ ap (λ (d : GroupDecl). d.own) (sym c.index-decls-group.is))) (c.requires.family.distinct c.args.group a here)

pub arrange_all-requires-clause-declared : goal.arrange_all-requires-clause-declared
arrange_all-requires-clause-declared g c pool has =
    let a = c.index-decls-group.result in
    let here : slice_get c.args.decls.now c.args.group ≡ Some a = slice_get_read c.args.decls.now (length c.args.decls.now) c.args.group a refl c.requires.group c.index-decls-group.is in
    c.requires.declared a here pool (ap (λ l. has_pool l pool) (sym (c.as_slice-own.ensures ∙ ap (λ (d : GroupDecl). d.own) (sym c.index-decls-group.is))) ∙ has)

-- the order that was found, as a permutation of the members in the pool that it was found in
found_order : (order' order list : List Entity) (m n : ℕ) → order' ≡ order → m ≡ n → IsPermutation order (take m list) → IsPermutation order' (take n list)
found_order order' order list m n same is h = subst (λ l. IsPermutation l (take n list)) (sym same) (subst (λ k. IsPermutation order (take k list)) is h)

pub arrange_all-requires-clause-order : goal.arrange_all-requires-clause-order
arrange_all-requires-clause-order g c pool has' =
    let a = c.index-decls-group.result in
    let pools = c.args.pools.now in
    let first = get_or c.as_slice-own.result.now 0 0 in
    let n = length c.args.keys.now in
    let here : slice_get c.args.decls.now c.args.group ≡ Some a = slice_get_read c.args.decls.now (length c.args.decls.now) c.args.group a refl c.requires.group c.index-decls-group.is in
    let some : 0 < length a.own = c.requires.family.some c.args.group a here in
    let has : has_pool a.own first ≡ true = ap (λ l. has_pool a.own (get_or l 0 0)) (c.as_slice-own.ensures ∙ ap (λ (d : GroupDecl). d.own) (sym c.index-decls-group.is)) ∙ first_has a.own some in
    let low : first < length pools = c.requires.declared a here first has in
    let is : packed_at (packed_of pools) first ≡ c.index.result.now.list = packed_here pools first c.index-pools-own.result low ∙ sym c.index.ensures.list in
    let count : get_or c.args.lens.now c.args.group 0 ≡ n = get_or_from_slice_get c.args.lens.now c.args.group n 0 c.requires.keys in
    permuted_everywhere (packed_of pools) a n first c.as_slice.result.now c.index.result.now.list (c.requires.grouped.each c.args.group a n here c.requires.keys) has is
    (ap length c.as_slice.ensures ∙ c.in_ok-order.ensures.len ∙ count) (found_order c.as_slice.result.now c.in_ok-order.order c.index.result.now.list (get_or c.args.lens.now c.args.group 0) n c.as_slice.ensures count c.in_ok-order.ensures.permutation)
    pool (ap (λ l. has_pool l pool) (sym (c.as_slice-own.ensures ∙ ap (λ (d : GroupDecl). d.own) (sym c.index-decls-group.is))) ∙ has')

pub returns-clause-grouped : goal.returns-clause-grouped
returns-clause-grouped g c =
    let a = c.index-decls-group.result in
    let pools = c.args.pools.now in
    let own = c.as_slice-own.result.now in
    let order = c.as_slice.result.now in
    let first = get_or own 0 0 in
    let n = length c.args.keys.now in
    let here : slice_get c.args.decls.now c.args.group ≡ Some a = slice_get_read c.args.decls.now (length c.args.decls.now) c.args.group a refl c.requires.group c.index-decls-group.is in
    let some : 0 < length a.own = c.requires.family.some c.args.group a here in
    let has : has_pool a.own first ≡ true = ap (λ l. has_pool a.own (get_or l 0 0)) (c.as_slice-own.ensures ∙ ap (λ (d : GroupDecl). d.own) (sym c.index-decls-group.is)) ∙ first_has a.own some in
    let low : first < length pools = c.requires.declared a here first has in
    let is : packed_at (packed_of pools) first ≡ c.index.result.now.list = packed_here pools first c.index-pools-own.result low ∙ sym c.index.ensures.list in
    let count : get_or c.args.lens.now c.args.group 0 ≡ n = get_or_from_slice_get c.args.lens.now c.args.group n 0 c.requires.keys in
    let long : length order ≡ n = ap length c.as_slice.ensures ∙ c.in_ok-order.ensures.len ∙ count in
    let permuted : (pool : ℕ) → has_pool a.own pool ≡ true → IsPermutation order (take (length order) (packed_at (packed_of pools) pool)) =
    permuted_everywhere (packed_of pools) a n first order c.index.result.now.list (c.requires.grouped.each c.args.group a n here c.requires.keys) has is long
    (found_order order c.in_ok-order.order c.index.result.now.list (get_or c.args.lens.now c.args.group 0) n c.as_slice.ensures count c.in_ok-order.ensures.permutation) in
    sorted_grouped c.args.decls.now c.args.lens.now (packed_of pools) (packed_of c.arrange_all.new.pools) c.args.group a order c.requires.family c.requires.grouped here (c.requires.keys ∙ ap Some (sym long)) (c.requires.inner a here) permuted
    (subst (λ l. AreArranged l order (packed_of pools) (packed_of c.arrange_all.new.pools)) (c.as_slice-own.ensures ∙ ap (λ (d : GroupDecl). d.own) (sym c.index-decls-group.is)) c.arrange_all.ensures.arranged)

pub returns-clause-order : goal.returns-clause-order
returns-clause-order g c decl there =
    let a = c.index-decls-group.result in
    let pools = c.args.pools.now in
    let own = c.as_slice-own.result.now in
    let order = c.as_slice.result.now in
    let first = get_or own 0 0 in
    let n = length c.args.keys.now in
    let keys = c.args.keys.now in
    let here : slice_get c.args.decls.now c.args.group ≡ Some a = slice_get_read c.args.decls.now (length c.args.decls.now) c.args.group a refl c.requires.group c.index-decls-group.is in
    let some : 0 < length a.own = c.requires.family.some c.args.group a here in
    let has_own : has_pool own first ≡ true = ap (λ l. has_pool l first) (c.as_slice-own.ensures ∙ ap (λ (d : GroupDecl). d.own) (sym c.index-decls-group.is)) ∙ ap (λ l. has_pool a.own (get_or l 0 0)) (c.as_slice-own.ensures ∙ ap (λ (d : GroupDecl). d.own) (sym c.index-decls-group.is)) ∙ first_has a.own some in
    let has : has_pool a.own first ≡ true = ap (λ l. has_pool a.own (get_or l 0 0)) (c.as_slice-own.ensures ∙ ap (λ (d : GroupDecl). d.own) (sym c.index-decls-group.is)) ∙ first_has a.own some in
    let low : first < length pools = c.requires.declared a here first has in
    let is : packed_at (packed_of pools) first ≡ c.index.result.now.list = packed_here pools first c.index-pools-own.result low ∙ sym c.index.ensures.list in
    let count : get_or c.args.lens.now c.args.group 0 ≡ n = get_or_from_slice_get c.args.lens.now c.args.group n 0 c.requires.keys in
    let long : length order ≡ n = ap length c.as_slice.ensures ∙ c.in_ok-order.ensures.len ∙ count in
    let one : a ≡ decl = same_Some a decl (sym here ∙ there) in
    let walk : IsWalkOrder keys (take (get_or c.args.lens.now c.args.group 0) c.index.result.now.list) c.in_ok-order.order = c.in_ok-order.ensures.order in
    let before : take (get_or c.args.lens.now c.args.group 0) c.index.result.now.list ≡ group_prefix (packed_of pools) decl n =
    ap₂ (λ m (l : List Entity). take m l) count (sym is) ∙ ap (λ l. take n (packed_at (packed_of pools) (get_or l 0 0))) ((c.as_slice-own.ensures ∙ ap (λ (d : GroupDecl). d.own) (sym c.index-decls-group.is)) ∙ ap (λ (d : GroupDecl). d.own) one) in
    let after : c.in_ok-order.order ≡ group_prefix (packed_of c.arrange_all.new.pools) decl n =
    sym c.as_slice.ensures ∙ sym (take-append_seam order (drop (length order) (packed_at (packed_of pools) first)))
    ∙ ap₂ (λ m (l : List Entity). take m l) long (sym (c.arrange_all.ensures.arranged.arranged first has_own))
    ∙ ap (λ l. take n (packed_at (packed_of c.arrange_all.new.pools) (get_or l 0 0))) ((c.as_slice-own.ensures ∙ ap (λ (d : GroupDecl). d.own) (sym c.index-decls-group.is)) ∙ ap (λ (d : GroupDecl). d.own) one) in
    subst (λ l. IsWalkOrder keys l (group_prefix (packed_of c.arrange_all.new.pools) decl n)) before (subst (IsWalkOrder keys (take (get_or c.args.lens.now c.args.group 0) c.index.result.now.list)) after walk)

pub returns-clause-arranged : goal.returns-clause-arranged
returns-clause-arranged g c decl there =
    let a = c.index-decls-group.result in
    let pools = c.args.pools.now in
    let new = packed_of c.arrange_all.new.pools in
    let own = c.as_slice-own.result.now in
    let order = c.as_slice.result.now in
    let n = length c.args.keys.now in
    let here : slice_get c.args.decls.now c.args.group ≡ Some a = slice_get_read c.args.decls.now (length c.args.decls.now) c.args.group a refl c.requires.group c.index-decls-group.is in
    let some : 0 < length a.own = c.requires.family.some c.args.group a here in
    let is_own : own ≡ a.own = c.as_slice-own.ensures ∙ ap (λ (d : GroupDecl). d.own) (sym c.index-decls-group.is) in
    let has : has_pool a.own (get_or a.own 0 0) ≡ true = first_has a.own some in
    let count : get_or c.args.lens.now c.args.group 0 ≡ n = get_or_from_slice_get c.args.lens.now c.args.group n 0 c.requires.keys in
    let long : length order ≡ n = ap length c.as_slice.ensures ∙ c.in_ok-order.ensures.len ∙ count in
    let one : a ≡ decl = same_Some a decl (sym here ∙ there) in
    let arranged : AreArranged a.own order (packed_of pools) new = subst (λ l. AreArranged l order (packed_of pools) new) is_own c.arrange_all.ensures.arranged in
    let prefix : order ≡ group_prefix new a n = sym (front_of order (drop (length order) (packed_at (packed_of pools) (get_or a.own 0 0))) n long) ∙ ap (take n) (sym (arranged.arranged (get_or a.own 0 0) has)) in
    subst (λ (d : GroupDecl). AreArranged d.own (group_prefix new d n) (packed_of pools) new) one (subst (λ l. AreArranged a.own l (packed_of pools) new) prefix arranged)
  where
    front_of : (order rest : List Entity) (n : ℕ) → length order ≡ n → take n (order ++ rest) ≡ order
    front_of order rest n long = ap (λ k. take k (order ++ rest)) (sym long) ∙ take-append_seam order rest
