-- Groups once the first identifiers of some pools are put in another order.
use Rattle.std.proofs.Common.{◌≡◌, ◌≢◌, ℕ, zero, suc, ◌+◌, ◌<◌, ◌≤◌, Bool, true, false, not, ◌&&◌, cond, eqb, List, [], ◌∷◌, ◌++◌, take, drop, length, get_or, set, Some, slice_get, sym, refl, ap, subst, ◌∙◌, inl, inr, arith}
use Rattle.std.specs.List.{list_any}
use Rattle.std.specs.List.Sorted.{IsPermutation}
use Rattle.std.proofs.Math.Dec.{ltb}
use Rattle.std.proofs.lemmas.Bool.{cases_Bool, cases_eq, cases_lt, false≢true, lt-ltb, ltb-true, le-ltb, ltb-false, eq-eqb}
use Rattle.std.proofs.lemmas.List.{length-append, length-drop, take-append-drop}
use Rattle.std.proofs.lemmas.List.Folds.{list_any-append}
use Rattle.std.proofs.lemmas.List.Sorted.{list_any-IsPermutation, length_permutation}
use Rattle.std.proofs.lemmas.Option.{same_Some, slice_get_within, slice_get-get_or}
use Rattle.entity_id.specs.declared.entity.Entity.{Entity}
use Rattle.entity_id.specs.FiniteMap.{AreDistinctBy}
use Rattle.entity_id.specs.Identifiers.{is_same}
use Rattle.entity_id.proofs.ListLemmas.{slice_get-append}
use Rattle.entity_id.proofs.PackedListLemmas.{at_taken}
use Rattle.world_model.specs.declared.group.GroupDecl.{GroupDecl}
use Rattle.world_model.specs.Groups.{has_pool, packed_at}
use Rattle.group_engine.specs.Grouped.{AreArranged, matches, IsPartitioned, IsGrouped, AreGrouped}
use Rattle.group_engine.specs.Families.{IsFamily, apart_from, inner_to, outer_to, HasNoInner}
use Rattle.group_engine.specs.Moving.{HaveSame}
use Rattle.group_engine.proofs.FamilyLemmas.{inner_passes, inner_owns}
use Rattle.group_engine.proofs.PassLemmas.{found}
use Rattle.group_engine.proofs.EndLemmas.{any_here}
use Rattle.group_engine.proofs.OwnLemmas.{has_at, at_has}

-- ---- one list

behind_order : (order list : List Entity) (k : ℕ) → length order ≤ length list → length order ≤ k → slice_get (order ++ drop (length order) list) k ≡ slice_get list k
behind_order [] list k p q = refl
behind_order (x ∷ order) [] k p q = absurd (omega arith)
behind_order (x ∷ order) (y ∷ list) zero p q = absurd (omega arith)
behind_order (x ∷ order) (y ∷ list) (suc k) p q = behind_order order list k (omega arith) (omega arith)

module _ (order list : List Entity) (h : IsPermutation order (take (length order) list)) where
  fits : length order ≤ length list
  fits = let same : length (take (length order) list) ≡ length order = length_permutation order (take (length order) list) h in Rattle.world_model.proofs.PrefixLemmas.front_within (length order) list same

  pub ordered_length : length (order ++ drop (length order) list) ≡ length list
  ordered_length =
      let a : length (order ++ drop (length order) list) ≡ length order + length (drop (length order) list) = length-append order (drop (length order) list) in
      omega (arith, a, fits, length-drop (length order) list)

  ordered_same : (x : Entity) → list_any (is_same x) (order ++ drop (length order) list) ≡ list_any (is_same x) list
  ordered_same x =
      list_any-append (is_same x) order (drop (length order) list)
      ∙ ap (λ b. Rattle.std.proofs.Common.◌||◌ b (list_any (is_same x) (drop (length order) list))) (list_any-IsPermutation (is_same x) order (take (length order) list) h)
      ∙ sym (list_any-append (is_same x) (take (length order) list) (drop (length order) list))
      ∙ ap (list_any (is_same x)) (take-append-drop (length order) list)

  -- what stands in the order stood in front
  stood_in_front : (k : ℕ) (x : Entity) → slice_get order k ≡ Some x → (j : ℕ) × (j < length order) × (slice_get list j ≡ Some x)
  stood_in_front k x at =
      let in_front : list_any (is_same x) (take (length order) list) ≡ true = sym (list_any-IsPermutation (is_same x) order (take (length order) list) h) ∙ any_here x order k at in
      let at' = found x (take (length order) list) in_front in
      let low = at_taken (length order) list at'.0 x at'.1 in
      (at'.0, low.0, low.1)

-- ---- the groups

module _ (decls : List GroupDecl) (lens : List ℕ) (old new : List (List Entity)) (g : ℕ) (a : GroupDecl) (order : List Entity) (family : IsFamily decls) (grouped : AreGrouped decls lens old)
    (here : slice_get decls g ≡ Some a) (long : slice_get lens g ≡ Some (length order)) (alone : HasNoInner decls g a)
    (permuted : (pool : ℕ) → has_pool a.own pool ≡ true → IsPermutation order (take (length order) (packed_at old pool))) (move : AreArranged a.own order old new) where
  pub sorted_same : HaveSame old new
  sorted_same x pool = elim (cases_Bool (has_pool a.own pool)) [
    | inl owned ↦ ap (list_any (is_same x)) (move.arranged pool owned) ∙ ordered_same order (packed_at old pool) (permuted pool owned) x
    | inr other ↦ ap (list_any (is_same x)) (move.others pool other)
  ]

  sorted_inside : (c : GroupDecl) (x : Entity) → matches new c x ≡ matches old c x
  sorted_inside c x = let one : Rattle.entity_id.specs.Matching.is_in new x ≡ Rattle.entity_id.specs.Matching.is_in old x = (λ i q. sorted_same x q i) in ap (Rattle.group_engine.specs.Grouped.passes c) one

  sorted_front : (pool k : ℕ) → has_pool a.own pool ≡ true → k < length order → slice_get (packed_at new pool) k ≡ slice_get order k
  sorted_front pool k owned less = ap (λ l. slice_get l k) (move.arranged pool owned) ∙ slice_get-append order (drop (length order) (packed_at old pool)) k less

  sorted_behind : (pool k : ℕ) → has_pool a.own pool ≡ true → length order ≤ k → slice_get (packed_at new pool) k ≡ slice_get (packed_at old pool) k
  sorted_behind pool k owned past = ap (λ l. slice_get l k) (move.arranged pool owned) ∙ behind_order order (packed_at old pool) k (fits order (packed_at old pool) (permuted pool owned)) past

  sorted_length : (pool : ℕ) → length (packed_at new pool) ≡ length (packed_at old pool)
  sorted_length pool = elim (cases_Bool (has_pool a.own pool)) [
    | inl owned ↦ ap length (move.arranged pool owned) ∙ ordered_length order (packed_at old pool) (permuted pool owned)
    | inr other ↦ ap length (move.others pool other)
  ]

  -- a group that shares a pool with the sorted one: it owns no pool besides, and has all of its members
  module _ (c : GroupDecl) (count : ℕ) (before : IsGrouped old c count)
      (whole : (pool third : ℕ) → has_pool a.own pool ≡ true → has_pool c.own pool ≡ true → has_pool c.own third ≡ true → has_pool a.own third ≡ true)
      (within : (pool : ℕ) → has_pool a.own pool ≡ true → has_pool c.own pool ≡ true → (x : Entity) → matches old a x ≡ true → matches old c x ≡ true) where
    sorted_split : (pool k : ℕ) (x : Entity) → has_pool c.own pool ≡ true → slice_get (packed_at new pool) k ≡ Some x → ltb k count ≡ matches new c x
    sorted_split pool k x has at = elim (cases_Bool (has_pool a.own pool)) [
      | inr other ↦ before.split pool k x has (ap (λ l. slice_get l k) (sym (move.others pool other)) ∙ at) ∙ sym (sorted_inside c x)
      | inl owned ↦ elim (cases_lt k (length order)) [
        | inr past ↦ before.split pool k x has (sym (sorted_behind pool k owned past) ∙ at) ∙ sym (sorted_inside c x)
        | inl less ↦
            let stood = stood_in_front order (packed_at old pool) (permuted pool owned) k x (sym (sorted_front pool k owned less) ∙ at) in
            let member : matches old a x ≡ true = sym ((grouped.each g a (length order) here long).split pool stood.0 x owned stood.2) ∙ lt-ltb stood.0 (length order) stood.1 in
            let also : matches old c x ≡ true = within pool owned has x member in
            -- the place is below the other group's length, since what stood there is a member of both
            let y = get_or (packed_at old pool) k x in
            let there : slice_get (packed_at old pool) k ≡ Some y = slice_get-get_or (packed_at old pool) k x (let f : length order ≤ length (packed_at old pool) = fits order (packed_at old pool) (permuted pool owned) in omega arith) in
            let both : matches old c y ≡ true = within pool owned has y (sym ((grouped.each g a (length order) here long).split pool k y owned there) ∙ lt-ltb k (length order) less) in
            before.split pool k y has there ∙ both ∙ sym also ∙ sym (sorted_inside c x)
      ]
    ]

    sorted_common : (pool third k : ℕ) → has_pool c.own pool ≡ true → has_pool c.own third ≡ true → k < count → slice_get (packed_at new pool) k ≡ slice_get (packed_at new third) k
    sorted_common pool third k has has' less = elim (cases_Bool (has_pool a.own pool)) [
      | inl owned ↦
          let owned' : has_pool a.own third ≡ true = whole pool third owned has has' in
          elim (cases_lt k (length order)) [
            | inl front ↦ sorted_front pool k owned front ∙ sym (sorted_front third k owned' front)
            | inr past ↦ sorted_behind pool k owned past ∙ before.common pool third k has has' less ∙ sym (sorted_behind third k owned' past)
          ]
      | inr other ↦ elim (cases_Bool (has_pool a.own third)) [
        | inl owned' ↦ absurd (false≢true (sym other ∙ whole third pool owned' has' has))
        | inr other' ↦ ap (λ l. slice_get l k) (move.others pool other) ∙ before.common pool third k has has' less ∙ sym (ap (λ l. slice_get l k) (move.others third other'))
      ]
    ]

    sorted_one : IsGrouped new c count
    sorted_one = record { within = λ pool has. (let w : count ≤ length (packed_at old pool) = before.within pool has in let same : length (packed_at new pool) ≡ length (packed_at old pool) = sorted_length pool in omega arith); common = sorted_common; split = sorted_split }

  sorted_each : (h : ℕ) (c : GroupDecl) (count : ℕ) → slice_get decls h ≡ Some c → slice_get lens h ≡ Some count → IsGrouped new c count
  sorted_each h c count there at = elim (cases_eq h g) [
    | inl is ↦
        let one : a ≡ c = same_Some a c (sym here ∙ ap (slice_get decls) (sym is) ∙ there) in
        sorted_one c count (grouped.each h c count there at)
        (λ pool third owned has has'. ap (λ d. has_pool d.own third) one ∙ has')
        (λ pool owned has x member. ap (λ d. matches old d x) (sym one) ∙ member)
    | inr differs ↦ elim (family.nested g h a c here there differs) [
      | apart_from none ↦ sorted_one c count (grouped.each h c count there at)
          (λ pool third owned has has'. absurd (false≢true (sym (none pool owned) ∙ has)))
          (λ pool owned has x member. absurd (false≢true (sym (none pool owned) ∙ has)))
      | inner_to inside ↦ sorted_one c count (grouped.each h c count there at)
          (λ pool third owned has has'. inner_owns a c third inside has')
          (λ pool owned has x member. inner_passes a c (Rattle.entity_id.specs.Matching.is_in old x) inside member)
      | outer_to around ↦ absurd (false≢true (sym (alone h c there) ∙ ap₂' (other_number h g differs) around))
    ]
  ]
    where
      other_number : (m n : ℕ) → m ≢ n → eqb m n ≡ false
      other_number m n differs = elim (cases_Bool (eqb m n)) [
        | inl same ↦ absurd (differs (Rattle.std.proofs.lemmas.Bool.eqb-true m n same))
        | inr apart ↦ apart
      ]

      ap₂' : {x y : Bool} → x ≡ false → y ≡ true → (not x && y) ≡ true
      ap₂' {x = x} {y = y} p q = ap (λ b. not b && y) p ∙ q

  pub sorted_grouped : AreGrouped decls lens new
  sorted_grouped = record { each = sorted_each }

-- ---- one pool after another

-- the first so many of these pools are in this order, and no other pool changed
pub record AreArrangedUpTo (own : List ℕ) (i : ℕ) (order : List Entity) (old new : List (List Entity)) : Type 0 where
  pub arranged : (k pool : ℕ) → k < i → slice_get own k ≡ Some pool → packed_at new pool ≡ order ++ drop (length order) (packed_at old pool)
  pub others : (pool : ℕ) → ((k : ℕ) → k < i → slice_get own k ≡ Some pool → ⊥) → packed_at new pool ≡ packed_at old pool

module _ (own : List ℕ) (order : List Entity) (old : List (List Entity)) (distinct : AreDistinctBy (λ (pool : ℕ). pool) own) where
  pub none_arranged : AreArrangedUpTo own 0 order old old
  none_arranged = record { arranged = λ k pool low h. absurd (omega arith); others = λ pool none. refl }

  pub still_unarranged : (i pool : ℕ) (now : List (List Entity)) → AreArrangedUpTo own i order old now → slice_get own i ≡ Some pool → packed_at now pool ≡ packed_at old pool
  still_unarranged i pool now h here = h.others pool (λ k low at. (let same : k ≡ i = distinct k i pool pool at here refl in omega arith))

  pub one_arranged : (i o : ℕ) (now new : List (List Entity)) → AreArrangedUpTo own i order old now → slice_get own i ≡ Some o → packed_at new o ≡ order ++ drop (length order) (packed_at now o) → ((pool : ℕ) → pool ≢ o → packed_at new pool ≡ packed_at now pool) → AreArrangedUpTo own (i + 1) order old new
  one_arranged i o now new h here step rest = record {
    arranged = λ k pool low at. elim (cases_eq k i) [
      | inl is ↦
          let one : o ≡ pool = same_Some o pool (sym here ∙ ap (slice_get own) (sym is) ∙ at) in
          subst (λ p. packed_at new p ≡ order ++ drop (length order) (packed_at old p)) one (step ∙ ap (λ l. order ++ drop (length order) l) (still_unarranged i o now h here))
      | inr apart ↦ rest pool (λ same. apart (distinct k i pool o at here same)) ∙ h.arranged k pool (omega arith) at
    ];
    others = λ pool none. rest pool (λ same. none i (omega arith) (here ∙ ap Some (sym same))) ∙ h.others pool (λ k low at. none k (omega arith) at);
  }

  pub all_arranged : (i : ℕ) (new : List (List Entity)) → length own ≤ i → AreArrangedUpTo own i order old new → AreArranged own order old new
  all_arranged i new all h = record {
    arranged = λ pool has. let at = at_has own pool has in h.arranged at.0 pool (let w : at.0 < length own = slice_get_within own at.0 pool at.1 in omega arith) at.1;
    others = λ pool none. h.others pool (λ k low at. false≢true (sym none ∙ has_at own k pool at));
  }

-- ---- the members of one group

pub first_has : (own : List ℕ) → 0 < length own → has_pool own (get_or own 0 0) ≡ true
first_has own some = has_at own 0 (get_or own 0 0) (slice_get-get_or own 0 0 some)

-- an order of the members in one owned pool is one in each
pub permuted_everywhere : (old : List (List Entity)) (a : GroupDecl) (n first : ℕ) (order list : List Entity) → IsGrouped old a n → has_pool a.own first ≡ true → packed_at old first ≡ list → length order ≡ n → IsPermutation order (take n list) → (pool : ℕ) → has_pool a.own pool ≡ true → IsPermutation order (take (length order) (packed_at old pool))
permuted_everywhere old a n first order list h has is long permuted pool has' =
    let front : take n (packed_at old pool) ≡ take n (packed_at old first) = Rattle.group_engine.proofs.PackedLemmas.same_front n (packed_at old pool) (packed_at old first) (h.within pool has') (h.within first has) (λ k low. h.common pool first k has' has low) in
    subst (λ m. IsPermutation order (take m (packed_at old pool))) (sym long) (subst (IsPermutation order) (sym (front ∙ ap (take n) is)) permuted)
