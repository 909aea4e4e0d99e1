use Rattle.std.proofs.Common.{◌≡◌, ◌<◌, ◌≤◌, ◌+◌, ◌*◌, ◌++◌, ◌∷◌, [], false, true, List, ℕ, length, get_or, slice_get, Some, sym, ap, subst, ◌∙◌, arith, rules}
use Rattle.std.specs.List.{insert}
use Rattle.world_model.specs.declared.group.GroupDecl.{GroupDecl}
use Rattle.world_model.specs.Groups.{has_pool, group_limit, is_inner, packed_at}
use Rattle.group_rules.specs.Families.{AreLawfulTogether}
use Rattle.group_engine.specs.Grouped.{packed_of, IsGrouped, AreGrouped, AreStill}
use Rattle.group_engine.specs.Families.{IsFamily, IsOrdered, KeepsGroups}
use Rattle.group_engine.specs.Masks.{AreMarked}
use Rattle.group_engine.proofs.EngineLemmas.{read_back}
use Rattle.group_engine.proofs.LawfulLemmas.{together_family}
use Rattle.group_engine.proofs.MaskLemmas.{own_named, named_below, order_few, all_declared}
use Rattle.group_engine.proofs.OrderLemmas.{ordered_more, group_added}
use Rattle.group_engine.proofs.SortLemmas.{first_has}
use Rattle.group_engine.proofs.building.add_group.Goals as goal

pub fill-count-requires-clause-some : goal.fill-count-requires-clause-some
fill-count-requires-clause-some g c = (together_family c.add_new.new.self c.add_new.ensures.lawful).some c.in_ok-number.number c.decl.result.now c.decl.ensures

pub fill-count-requires-clause-distinct : goal.fill-count-requires-clause-distinct
fill-count-requires-clause-distinct g c = (together_family c.add_new.new.self c.add_new.ensures.lawful).distinct c.in_ok-number.number c.decl.result.now c.decl.ensures

pub fill-count-requires-clause-declared : goal.fill-count-requires-clause-declared
fill-count-requires-clause-declared g c =
    let d = c.args.decl in
    let same : c.decl.result.now ≡ d = read_back c.args.family.now c.add_new.new.self d c.decl.result.now c.in_ok-number.number c.in_ok-number.ensures.groups c.in_ok-number.ensures.ok c.decl.ensures in
    let some : 0 < length d.own = subst (λ (v : GroupDecl). 0 < length v.own) same (fill-count-requires-clause-some g c) in
    subst (λ (v : GroupDecl). get_or v.own 0 0 < length c.args.pools.now) (sym same) (named_below (length c.args.pools.now) d (get_or d.own 0 0) c.requires.declared (own_named d (get_or d.own 0 0) (first_has d.own some)))

-- what was found in the lists as they are now holds of the lists as they were
ordered_found : (decls decls' : List GroupDecl) (order order' : List ℕ) (d : GroupDecl) (at : ℕ) → decls' ≡ decls → order' ≡ order → IsFamily (decls ++ d ∷ []) → IsOrdered decls order → at ≤ length order'
    → ((k g : ℕ) (c : GroupDecl) → k < at → slice_get order' k ≡ Some g → slice_get decls' g ≡ Some c → is_inner c d ≡ false)
    → ((g : ℕ) (c : GroupDecl) → slice_get order' at ≡ Some g → slice_get decls' g ≡ Some c → is_inner c d ≡ true)
    → IsOrdered (decls ++ d ∷ []) (insert order at (length decls))
ordered_found decls decls' order order' d at ds os family h fits before first =
    ordered_more decls d order at family h (let l : length order' ≡ length order = ap length os in omega arith)
    (λ k g c low at' there. before k g c low (ap (λ l. slice_get l k) os ∙ at') (ap (λ l. slice_get l g) ds ∙ there))
    (λ g c at' there. first g c (ap (λ l. slice_get l at) os ∙ at') (ap (λ l. slice_get l g) ds ∙ there))

-- the order of the groups with the new one
order_added : (decls decls' seen : List GroupDecl) (order order' seen_order : List ℕ) (d : GroupDecl) (at number : ℕ) → decls' ≡ decls ++ d ∷ [] → number ≡ length decls → seen ≡ decls → seen_order ≡ order → order' ≡ insert order at number → AreLawfulTogether decls' → IsOrdered decls order → at ≤ length seen_order
    → ((k g : ℕ) (c : GroupDecl) → k < at → slice_get seen_order k ≡ Some g → slice_get seen g ≡ Some c → is_inner c d ≡ false)
    → ((g : ℕ) (c : GroupDecl) → slice_get seen_order at ≡ Some g → slice_get seen g ≡ Some c → is_inner c d ≡ true)
    → IsOrdered decls' order'
order_added decls decls' seen order order' seen_order d at number ds last sees sees' inserted together h fits before first =
    let family : IsFamily (decls ++ d ∷ []) = subst IsFamily ds (together_family decls' together) in
    let os : order' ≡ insert order at (length decls) = inserted ∙ ap (insert order at) last in
    subst (λ l. IsOrdered l order') (sym ds) (subst (IsOrdered (decls ++ d ∷ [])) (sym os) (ordered_found decls seen order seen_order d at sees sees' family h fits before first))

pub returns-clause-order : goal.returns-clause-order
returns-clause-order g c =
    let seen_order : c.deref.result.now ≡ c.args.order.now.items = search rules in
    let inserted : c.insert.new.self.items ≡ insert c.args.order.now.items c.place_for-place.result c.in_ok-number.number = search rules in
    order_added c.args.family.now c.add_new.new.self c.as_slice.result.now c.args.order.now.items c.insert.new.self.items c.deref.result.now c.args.decl c.place_for-place.result c.in_ok-number.number
    c.in_ok-number.ensures.groups c.in_ok-number.ensures.ok c.as_slice.ensures.groups seen_order inserted c.add_new.ensures.lawful c.requires.order c.place_for-place.ensures.fits c.place_for-place.ensures.before c.place_for-place.ensures.first

pub returns-clause-grouped : goal.returns-clause-grouped
returns-clause-grouped g c =
    let decls = c.args.family.now in
    let lens = c.args.lens.now.items in
    let d = c.args.decl in
    let count = c.fill-count.result in
    let base = packed_of c.args.pools.now in
    let new = packed_of c.fill-count.new.pools in
    let ds : c.add_new.new.self ≡ decls ++ d ∷ [] = c.in_ok-number.ensures.groups in
    let ls : c.push.new.self.items ≡ lens ++ count ∷ [] = search rules in
    let family : IsFamily (decls ++ d ∷ []) = subst IsFamily ds (together_family c.add_new.new.self c.add_new.ensures.lawful) in
    let same : c.decl.result.now ≡ d = read_back decls c.add_new.new.self d c.decl.result.now c.in_ok-number.number ds c.in_ok-number.ensures.ok c.decl.ensures in
    let keeps : KeepsGroups d base new = subst (λ (v : GroupDecl). KeepsGroups v base new) same c.fill-count.ensures.keeps in
    let filled : IsGrouped new d count = subst (λ (v : GroupDecl). IsGrouped new v count) same c.fill-count.ensures.grouped in
    subst (λ l. AreGrouped l c.push.new.self.items new) (sym ds) (subst (λ l. AreGrouped (decls ++ d ∷ []) l new) (sym ls)
    (group_added decls lens d count base new family c.requires.each c.requires.grouped keeps filled))

pub returns-clause-steps : goal.returns-clause-steps
returns-clause-steps g c =
    let same : c.decl.result.now ≡ c.args.decl = read_back c.args.family.now c.add_new.new.self c.args.decl c.decl.result.now c.in_ok-number.number c.in_ok-number.ensures.groups c.in_ok-number.ensures.ok c.decl.ensures in
    subst (λ (v : GroupDecl). c.fill-count.new.steps ≤ c.args.steps.now + length (packed_at (packed_of c.args.pools.now) (get_or v.own 0 0)) * length v.own) same c.fill-count.ensures.steps

pub returns-clause-still : goal.returns-clause-still
returns-clause-still g c =
    let same : c.decl.result.now ≡ c.args.decl = read_back c.args.family.now c.add_new.new.self c.args.decl c.decl.result.now c.in_ok-number.number c.in_ok-number.ensures.groups c.in_ok-number.ensures.ok c.decl.ensures in
    subst (λ (v : GroupDecl). AreStill (has_pool v.own) (packed_of c.args.pools.now) (packed_of c.fill-count.new.pools)) same c.fill-count.ensures.still

pub mark-requires-clause-order : goal.mark-requires-clause-order
mark-requires-clause-order g c =
    let seen_order : c.deref.result.now ≡ c.args.order.now.items = search rules in
    let inserted : c.deref-2.result.now ≡ insert c.args.order.now.items c.place_for-place.result c.in_ok-number.number = search rules in
    order_added c.args.family.now c.as_slice-2.result.now c.as_slice.result.now c.args.order.now.items c.deref-2.result.now c.deref.result.now c.args.decl c.place_for-place.result c.in_ok-number.number
    (c.as_slice-2.ensures.groups ∙ c.in_ok-number.ensures.groups) c.in_ok-number.ensures.ok c.as_slice.ensures.groups seen_order inserted (subst AreLawfulTogether (sym c.as_slice-2.ensures.groups) c.as_slice-2.ensures.lawful) c.requires.order c.place_for-place.ensures.fits c.place_for-place.ensures.before c.place_for-place.ensures.first

pub mark-requires-clause-few : goal.mark-requires-clause-few
mark-requires-clause-few g c = order_few c.as_slice-2.result.now c.deref-2.result.now (mark-requires-clause-order g c) (subst (λ l. length l ≤ group_limit) (sym c.as_slice-2.ensures.groups) c.add_new.ensures.lawful.few)

pub mark-requires-clause-declared : goal.mark-requires-clause-declared
mark-requires-clause-declared g c =
    all_declared (length c.args.pools.now) (length c.make_places.new.self.wanting.items) c.args.family.now c.as_slice-2.result.now c.args.decl c.requires.all_declared c.requires.declared
    (c.as_slice-2.ensures.groups ∙ c.in_ok-number.ensures.groups) c.in_ok-make_places.ensures.wanting

pub returns-clause-marked : goal.returns-clause-marked
returns-clause-marked g c =
    let orders : c.deref-2.result.now ≡ c.insert.new.self.items = search rules in
    subst (AreMarked c.mark.new.self c.add_new.new.self c.insert.new.self.items) c.in_ok-make_places.ensures.wanting
    (subst (λ l. AreMarked c.mark.new.self c.add_new.new.self l (length c.make_places.new.self.wanting.items)) orders
    (subst (λ l. AreMarked c.mark.new.self l c.deref-2.result.now (length c.make_places.new.self.wanting.items)) c.as_slice-2.ensures.groups c.mark.ensures))

pub returns-in_err-make_places-clause-marked : goal.returns-in_err-make_places-clause-marked
returns-in_err-make_places-clause-marked g c =
    let orders : c.reserve.new.self.items ≡ c.args.order.now.items = search rules in
    subst (λ l. AreMarked c.make_places.new.self c.args.family.now l (length c.args.pools.now)) (sym orders) (c.make_places.ensures.marked c.args.family.now c.args.order.now.items c.requires.marked)

pub returns-in_err-number-clause-marked : goal.returns-in_err-number-clause-marked
returns-in_err-number-clause-marked g c =
    let orders : c.reserve.new.self.items ≡ c.args.order.now.items = search rules in
    let decls : c.add_new.new.self ≡ c.args.family.now = search rules in
    subst (λ d. AreMarked c.make_places.new.self d c.reserve.new.self.items (length c.args.pools.now)) (sym decls)
    (subst (λ l. AreMarked c.make_places.new.self c.args.family.now l (length c.args.pools.now)) (sym orders) (c.make_places.ensures.marked c.args.family.now c.args.order.now.items c.requires.marked))
