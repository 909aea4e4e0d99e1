-- What the groups of an engine give the calls on its fields.
use Rattle.std.proofs.Common.{◌≡◌, ℕ, ◌<◌, ◌≤◌, Bool, true, false, not, ◌&&◌, eqb, List, [], ◌∷◌, ◌++◌, length, get_or, map, take, None, Some, slice_get, sym, refl, ap, ap₂, subst, ◌∙◌, inl, inr, arith}
use Rattle.std.proofs.Math.Dec.{ltb}
use Rattle.std.proofs.lemmas.Bool.{cases_Bool, false≢true, ltb-true, eq-eqb, or_left}
use Rattle.std.proofs.lemmas.List.{length-map, get_or-map}
use Rattle.std.proofs.lemmas.List.Folds.{list_any-append}
use Rattle.std.proofs.lemmas.Option.{slice_get_read, slice_get-get_or, get_or_from_slice_get, same_Some}
use Rattle.entity_id.specs.FiniteMap as entries
use Rattle.entity_id.proofs.ListLemmas.{all_at}
use Rattle.entity_id.proofs.PackedListLemmas.{position_gone}
use Rattle.entity_id.specs.declared.entity.Entity.{Entity}
use Rattle.storage.specs.Stored.{Stored}
use Rattle.world_model.specs.declared.group.GroupDecl.{GroupDecl}
use Rattle.world_model.specs.Groups.{has_pool, group_pools, are_declared, is_inner, packed_at, AreLawfulGroups}
use Rattle.world_model.proofs.NestedLemmas.{all_has, every}
use Rattle.group_engine.specs.Grouped.{packed_of, AreGrouped}
use Rattle.group_engine.specs.Engine.{Groups, decl_at, len_at, prefix_at, values_at, inner_in}
use Rattle.group_engine.specs.Families.{IsFamily, IsOutermostFirst, IsOrdered, HasNoInner}
use Rattle.group_engine.specs.declared.marking.Masks.{Masks}
use Rattle.group_engine.specs.Layout.{IsKept}
use Rattle.group_engine.proofs.LawfulLemmas.{lawful_family}
use Rattle.group_engine.proofs.OrderLemmas.{ordered_first}
use Rattle.group_engine.proofs.SortLemmas.{first_has}
use Rattle.group_engine.proofs.OwnLemmas.{packed_here}
use Rattle.group_engine.proofs.PackedLemmas.{same_front}

-- ---- the groups as their slices show them

pub family_seen : (pools : ℕ) (decls seen : List GroupDecl) → AreLawfulGroups pools decls → seen ≡ decls → IsFamily seen
family_seen pools decls seen h is = subst IsFamily (sym is) (lawful_family pools decls h)

pub order_seen : (decls seen : List GroupDecl) (order run : List ℕ) → IsOrdered decls order → seen ≡ decls → run ≡ order → IsOutermostFirst seen run
order_seen decls seen order run h is is' = subst (λ l. IsOutermostFirst l run) (sym is) (subst (IsOutermostFirst decls) (sym is') (ordered_first decls order h))

-- ---- one group, as it was read

-- a group and its length
pub record IsRead (groups : Groups) (group : ℕ) (decl : GroupDecl) (count : ℕ) : Type 0 where
  pub here : slice_get groups.decls group ≡ Some decl
  pub long : slice_get groups.lens group ≡ Some count

pub as_read : (groups inside : Groups) (order : List ℕ) (masks : Masks) (group : ℕ) (decl : GroupDecl) (count : ℕ) → groups ≡ inside → IsKept inside order masks → group < length groups.decls → decl ≡ get_or inside.decls group decl → count ≡ get_or inside.lens group count → IsRead groups group decl count
as_read groups inside order masks group decl count is kept low d n =
    subst (λ v. IsRead v group decl count) (sym is)
    (let below : group < length inside.decls = subst (λ (v : Groups). group < length v.decls) is low in
    record {
      here = slice_get_read inside.decls (length inside.decls) group decl refl below d;
      long = slice_get_read inside.lens (length inside.lens) group count refl (let e : length inside.lens ≡ length inside.decls = kept.each in omega arith) n;
    })

-- what a clause says of the group of a number it says of the one that was read
pub decl_read : (groups : Groups) (group : ℕ) (decl : GroupDecl) (count : ℕ) → IsRead groups group decl count → decl_at groups group ≡ decl
decl_read groups group decl count h = get_or_from_slice_get groups.decls group decl _ h.here

pub len_read : (groups : Groups) (group : ℕ) (decl : GroupDecl) (count : ℕ) → IsRead groups group decl count → len_at groups group ≡ count
len_read groups group decl count h = get_or_from_slice_get groups.lens group count 0 h.long

-- the group of a number, which is there
pub decl_there : (groups : Groups) (group : ℕ) → group < length groups.decls → slice_get groups.decls group ≡ Some (decl_at groups group)
decl_there groups group low = slice_get-get_or groups.decls group _ low

pub len_there : (groups : Groups) (order : List ℕ) (masks : Masks) (group : ℕ) → IsKept groups order masks → group < length groups.decls → slice_get groups.lens group ≡ Some (len_at groups group)
len_there groups order masks group kept low = slice_get-get_or groups.lens group 0 (let e : length groups.lens ≡ length groups.decls = kept.each in omega arith)

pub there : (groups : Groups) (order : List ℕ) (masks : Masks) (group : ℕ) → IsKept groups order masks → group < length groups.decls → IsRead groups group (decl_at groups group) (len_at groups group)
there groups order masks group kept low = record { here = decl_there groups group low; long = len_there groups order masks group kept low }

-- a pool that a group owns is one of the pools
pub owned_below : (pools : ℕ) (decls : List GroupDecl) (group : ℕ) (decl : GroupDecl) (pool : ℕ) → AreLawfulGroups pools decls → slice_get decls group ≡ Some decl → has_pool decl.own pool ≡ true → pool < pools
owned_below pools decls group decl pool h here has =
    let all : are_declared pools (group_pools decl) ≡ true = all_at (λ d. are_declared pools (group_pools d) ≡ true) decls group decl h.declared here in
    let front : has_pool (decl.own ++ decl.get) pool ≡ true = list_any-append (λ q. eqb q pool) decl.own decl.get ∙ or_left (has_pool decl.own pool) (has_pool decl.get pool) has in
    let named : has_pool (group_pools decl) pool ≡ true = list_any-append (λ q. eqb q pool) (decl.own ++ decl.get) decl.without ∙ or_left (has_pool (decl.own ++ decl.get) pool) (has_pool decl.without pool) front in
    ltb-true pool pools (all_has (λ q. ltb q pools ≡ true) (group_pools decl) pool (every (λ q. ltb q pools) (group_pools decl) all) named)

-- the members fit into each pool that the group owns
pub members_fit : {T : Type 0} (groups : Groups) (pools : List (Stored T)) (group : ℕ) (decl : GroupDecl) (count pool : ℕ) (stored : Stored T) → AreGrouped groups.decls groups.lens (packed_of pools) → IsRead groups group decl count → has_pool decl.own pool ≡ true → pool < length pools → stored ≡ get_or pools pool stored → count ≤ length stored.pairs
members_fit {T = T} groups pools group decl count pool stored grouped h has low is =
    let fits : count ≤ length (packed_at (packed_of pools) pool) = (grouped.each group decl count h.here h.long).within pool has in
    let long : length (packed_at (packed_of pools) pool) ≡ length stored.pairs = ap length (packed_here pools pool stored low) ∙ length-map (get_or pools pool stored).pairs (λ pair. pair.0) ∙ ap (λ (v : Stored T). length v.pairs) (sym is) in
    omega arith

-- the values of a pool that was read
pub values_here : {T : Type 0} (pools : List (Stored T)) (pool : ℕ) (stored : Stored T) → pool < length pools → stored ≡ get_or pools pool stored → values_at pools pool ≡ map (λ pair. pair.1) stored.pairs
values_here {T = T} pools pool stored low is = get_or-map (λ (v : Stored T). map (λ pair. pair.1) v.pairs) pools pool stored [] low ∙ ap (λ (v : Stored T). map (λ pair. pair.1) v.pairs) (sym is)

-- the members stand in one order in all owned pools
pub one_order : (groups : Groups) (packed : List (List Entity)) (group : ℕ) (decl : GroupDecl) (count pool other : ℕ) → AreGrouped groups.decls groups.lens packed → IsRead groups group decl count → has_pool decl.own pool ≡ true → has_pool decl.own other ≡ true → take count (packed_at packed pool) ≡ take count (packed_at packed other)
one_order groups packed group decl count pool other grouped h has has' =
    let here = grouped.each group decl count h.here h.long in
    same_front count (packed_at packed pool) (packed_at packed other) (here.within pool has) (here.within other has') (λ k low. here.common pool other k has has' low)

-- a group of a lawful family owns a pool, the first of its owned ones
pub owns_first : (pools : ℕ) (decls : List GroupDecl) (group : ℕ) (decl : GroupDecl) → AreLawfulGroups pools decls → slice_get decls group ≡ Some decl → has_pool decl.own (get_or decl.own 0 0) ≡ true
owns_first pools decls group decl h here = first_has decl.own ((lawful_family pools decls h).some group decl here)

-- the members in the first owned pool, as it was read
pub prefix_here : {T : Type 0} (groups : Groups) (pools : List (Stored T)) (group : ℕ) (decl : GroupDecl) (count first : ℕ) (stored : Stored T) → IsRead groups group decl count → first ≡ get_or decl.own 0 0 → first < length pools → stored ≡ get_or pools first stored → take count (entries.keys stored.pairs) ≡ prefix_at groups (packed_of pools) group
prefix_here {T = T} groups pools group decl count first stored h is_first low is =
    ap (λ (v : Stored T). take count (entries.keys v.pairs)) is ∙ ap (take count) (sym (packed_here pools first stored low))
    ∙ ap (λ k. take count (packed_at (packed_of pools) k)) is_first
    ∙ ap₂ (λ k (v : GroupDecl). take k (packed_at (packed_of pools) (get_or v.own 0 0))) (sym (len_read groups group decl count h)) (sym (decl_read groups group decl count h))

-- the group that was added last
pub read_back : (old new : List GroupDecl) (decl read : GroupDecl) (number : ℕ) → new ≡ old ++ decl ∷ [] → number ≡ length old → slice_get new number ≡ Some read → read ≡ decl
read_back old new decl read number is at here = same_Some read decl (sym here ∙ ap₂ (λ (l : List GroupDecl) k. slice_get l k) is at ∙ at_end old)
  where
    at_end : (l : List GroupDecl) → slice_get (l ++ decl ∷ []) (length l) ≡ Some decl
    at_end [] = refl
    at_end (x ∷ l) = at_end l

-- ---- inner groups

-- where none is found, no group is inner to this one
pub none_inner : (decls : List GroupDecl) (number : ℕ) (decl : GroupDecl) → IsFamily decls → slice_get decls number ≡ Some decl → inner_in decls decl ≡ None → HasNoInner decls number decl
none_inner decls number decl family here none other nested there = elim (cases_Bool (eqb other number)) [
  | inl same ↦ ap (λ b. not b && is_inner nested decl) same
  | inr differs ↦ elim (cases_Bool (is_inner nested decl)) [
    | inr out ↦ ap (λ b. not (eqb other number) && b) out ∙ anyhow (eqb other number)
    | inl within ↦
        let beside : is_inner decl nested ≡ false = family.different other number nested decl there here (λ same. false≢true (sym differs ∙ eq-eqb other number (sym same))) within in
        let failed : (is_inner nested decl && not (is_inner decl nested)) ≡ false = position_gone (λ d. is_inner d decl && not (is_inner decl d)) decls 0 none other nested there in
        absurd (false≢true (sym failed ∙ ap (λ b. b && not (is_inner decl nested)) within ∙ ap not beside))
  ]
]
  where
    anyhow : (b : Bool) → (not b && false) ≡ false
    anyhow true = refl
    anyhow false = refl
