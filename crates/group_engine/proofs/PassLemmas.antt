-- One group more in the order: entered from the outermost on, left from the innermost on.
use Rattle.std.proofs.Common.{◌≡◌, ◌≢◌, ℕ, zero, suc, ◌+◌, ◌-◌, ◌<◌, ◌≤◌, Bool, true, false, not, ◌&&◌, ◌||◌, cond, eqb, List, [], ◌∷◌, ◌++◌, take, drop, length, set, get_or, Some, slice_get, sym, refl, ap, subst, ◌∙◌, inl, inr, arith}
use Rattle.std.specs.List.{list_any, list_all, sum_by}
use Rattle.std.specs.Option.{option_to_list}
use Rattle.std.proofs.lemmas.List.{take_more}
use Rattle.std.proofs.lemmas.List.Sums.{sum_by-append, sum_by-drop_more}
use Rattle.std.proofs.lemmas.Bool.{cases_Bool, cases_eq, false≢true, ltb-true, ltb-false, and_parts, or_cases, or_right, eq-eqb, eqb-true, not-true}
use Rattle.std.proofs.lemmas.List.Folds.{list_all-append}
use Rattle.std.proofs.lemmas.List.Sorted.{IsPermutation-swap, list_any-IsPermutation}
use Rattle.std.proofs.lemmas.Option.{same_Some, slice_get_within}
use Rattle.entity_id.specs.declared.entity.Entity.{Entity}
use Rattle.entity_id.specs.Identifiers.{is_same}
use Rattle.entity_id.specs.Matching.{is_in}
use Rattle.entity_id.proofs.ListLemmas.{slice_get-set_same, slice_get-set_other, equal_by_place}
use Rattle.entity_id.proofs.MapLemmas.{same_true}
use Rattle.world_model.specs.declared.group.GroupDecl.{GroupDecl}
use Rattle.world_model.specs.Groups.{has_pool, packed_at}
use Rattle.world_model.proofs.NestedLemmas.{all_has, every}
use Rattle.group_engine.specs.Grouped.{passes, IsPartitioned, matches, cost_of}
use Rattle.group_engine.specs.Families.{apart_from, inner_to, outer_to, IsFamily, IsOutermostFirst}
use Rattle.group_engine.specs.Moving.{IsReady, IsMoved, AreMoved, but_for, AreMixed, Beside, apart, outer, inner, in_if, matches_if, stays_in, comes_in, goes_out, HaveSame, Comes, came, stayed_out, Goes, went, stayed_in, cost_in}
use Rattle.group_engine.proofs.FamilyLemmas.{inner_passes, outer_fails, family_entered, family_left}
use Rattle.group_engine.proofs.MoveLemmas.{but_itself}

-- ---- membership

pub moved_same : (own : List ℕ) (e : Entity) (m : ℕ) (old new : List (List Entity)) → AreMoved own e m old new → HaveSame old new
moved_same own e m old new move x pool = elim (cases_Bool (has_pool own pool)) [
  | inl owned ↦
      let mv : IsMoved e m (packed_at old pool) (packed_at new pool) = move.moved pool owned in
      sym (list_any-IsPermutation (is_same x) (packed_at old pool) (packed_at new pool) (IsPermutation-swap (packed_at old pool) (packed_at new pool) mv.from m (slice_get_within (packed_at old pool) mv.from e mv.here) mv.within mv.swapped))
  | inr other ↦ ap (λ l. list_any (is_same x) l) (move.others pool other)
]

pub same_tests : (base now : List (List Entity)) (e : Entity) (p : ℕ) (held : Bool) (c : GroupDecl) → HaveSame base now → matches_if now e p held c ≡ matches_if base e p held c
same_tests base now e p held c same =
    let alike : in_if now e p held ≡ in_if base e p held = (λ i other. cond (eqb other p) held (same e other i)) in
    ap (passes c) alike

pub found : (e : Entity) (l : List Entity) → list_any (is_same e) l ≡ true → (k : ℕ) × (slice_get l k ≡ Some e)
found e [] h = absurd (false≢true h)
found e (x ∷ l) h = elim (or_cases (is_same e x) (list_any (is_same e) l) h) [
  | inl same ↦ (0, ap Some (sym (same_true e x same)))
  | inr further ↦ let rest = found e l further in (suc rest.0, rest.1)
]

-- what matches with the pool held or not is in each owned pool, where it is in that one
pub owned_has : (now : List (List Entity)) (e : Entity) (p : ℕ) (held : Bool) (a : GroupDecl) → is_in now e p ≡ true → matches_if now e p held a ≡ true → (pool : ℕ) → has_pool a.own pool ≡ true → is_in now e pool ≡ true
owned_has now e p held a here h pool has =
    let f : ℕ → Bool = in_if now e p held in
    let all = (and_parts (list_all f (a.own ++ a.get)) (not (list_any f a.without)) h).0 in
    let own = (and_parts (list_all f a.own) (list_all f a.get) (sym (list_all-append f a.own a.get) ∙ all)).0 in
    let one : f pool ≡ true = all_has (λ q. f q ≡ true) a.own pool (every f a.own own) has in
    elim (cases_Bool (eqb pool p)) [
      | inl same ↦ ap (is_in now e) (eqb-true pool p same) ∙ here
      | inr differs ↦ sym (ap (λ b. cond b held (is_in now e pool)) differs) ∙ one
    ]

-- the same answers for each group
pub mixed_alike : (decls : List GroupDecl) (lens : List ℕ) (base now : List (List Entity)) (e : Entity) (has has' : ℕ → GroupDecl → Bool) → AreMixed decls lens base now e has → ((h : ℕ) (c : GroupDecl) → slice_get decls h ≡ Some c → has' h c ≡ has h c) → AreMixed decls lens base now e has'
mixed_alike decls lens base now e has has' mixed alike h c count there there' = subst (λ (b : Bool). IsPartitioned now c.own count (but_for e b (matches base c))) (sym (alike h c there)) (mixed h c count there there')

-- ---- the order

or_last : (a b c : Bool) → (a || (b || c)) ≡ ((a || b) || c)
or_last true b c = refl
or_last false b c = refl

pub or_none : (a : Bool) → (a || false) ≡ a
or_none true = refl
or_none false = refl

has_next : (order : List ℕ) (i g h : ℕ) → slice_get order i ≡ Some g → has_pool (take (i + 1) order) h ≡ (has_pool (take i order) h || eqb g h)
has_next [] i g h at = absurd cc
has_next (o ∷ order) zero g h at = or_none (eqb o h) ∙ ap (λ n. eqb n h) (same_Some o g at)
has_next (o ∷ order) (suc i) g h at = ap (λ n. has_pool (take n (o ∷ order)) h) (let next : suc i + 1 ≡ suc (i + 1) = omega arith in next) ∙ ap (λ b. eqb o h || b) (has_next order i g h at) ∙ or_last (eqb o h) (has_pool (take i order) h) (eqb g h)

pub next_other : (order : List ℕ) (i g h : ℕ) → slice_get order i ≡ Some g → h ≢ g → has_pool (take (i + 1) order) h ≡ has_pool (take i order) h
next_other order i g h at differs = elim (cases_Bool (eqb g h)) [
  | inl same ↦ absurd (differs (sym (eqb-true g h same)))
  | inr other ↦ has_next order i g h at ∙ ap (λ b. has_pool (take i order) h || b) other ∙ or_none (has_pool (take i order) h)
]

pub next_itself : (order : List ℕ) (i g : ℕ) → slice_get order i ≡ Some g → has_pool (take (i + 1) order) g ≡ true
next_itself order i g at = has_next order i g g at ∙ or_right (has_pool (take i order) g) (eqb g g) (eq-eqb g g refl)

module _ (base : List (List Entity)) (e : Entity) (p : ℕ) (held : Bool) (order : List ℕ) where
  -- the groups up to a place are entered where they are to be
  abbrev pub entering : ℕ → ℕ → GroupDecl → Bool
  entering i h c = cond (has_pool (take i order) h) (matches_if base e p held c) (stays_in base e p held c)

  -- the groups from a place on are left where they are to be
  abbrev pub leaving : ℕ → ℕ → GroupDecl → Bool
  leaving i h c = cond (has_pool (take i order) h) (matches_if base e p (not held) c) (stays_in base e p held c)

  -- what the tests say of one group
  only_after : (c : GroupDecl) → comes_in base e p held c ≡ true → (matches_if base e p (not held) c ≡ false) × (matches_if base e p held c ≡ true)
  only_after c h = let parts = and_parts (not (matches_if base e p (not held) c)) (matches_if base e p held c) h in (not-true _ parts.0, parts.1)

  only_before : (c : GroupDecl) → goes_out base e p held c ≡ true → (matches_if base e p (not held) c ≡ true) × (matches_if base e p held c ≡ false)
  only_before c h = let parts = and_parts (matches_if base e p (not held) c) (not (matches_if base e p held c)) h in (parts.0, not-true _ parts.1)

  no_arrival : (was is : Bool) → (not was && is) ≡ false → (was && is) ≡ is
  no_arrival true is h = refl
  no_arrival false true h = sym h
  no_arrival false false h = refl

  no_departure : (was is : Bool) → (was && not is) ≡ false → (was && is) ≡ was
  no_departure true true h = refl
  no_departure true false h = sym h
  no_departure false is h = refl

  not_before : (was is : Bool) → was ≡ false → (was && is) ≡ false
  not_before was is h = ap (λ b. b && is) h

  not_after : (was is : Bool) → is ≡ false → (was && is) ≡ false
  not_after true is h = h
  not_after false is h = refl

  module _ (decls : List GroupDecl) (family : IsFamily decls) (ordered : IsOutermostFirst decls order) (i g : ℕ) (a : GroupDecl) (at : slice_get order i ≡ Some g) (here : slice_get decls g ≡ Some a) where
    entering_beside : comes_in base e p held a ≡ true → (h : ℕ) (c : GroupDecl) → slice_get decls h ≡ Some c → h ≢ g → Beside a c (entering i h c)
    entering_beside is h c there differs =
        let both = only_after a is in
        elim (family.nested g h a c here there differs) [
          | apart_from none ↦ apart none
          | inner_to within ↦ outer within (ap (λ b. cond b (matches_if base e p held c) (stays_in base e p held c)) (ordered.outer_before i g h a c at here there within differs) ∙ inner_passes a c (in_if base e p held) within both.1)
          | outer_to around ↦ inner around (ap (λ b. cond b (matches_if base e p held c) (stays_in base e p held c)) (ordered.inner_after i g h a c at here there around differs) ∙ not_before _ _ (outer_fails c a (in_if base e p (not held)) around both.0))
        ]

    leaving_beside : goes_out base e p held a ≡ true → (h : ℕ) (c : GroupDecl) → slice_get decls h ≡ Some c → h ≢ g → Beside a c (leaving (i + 1) h c)
    leaving_beside is h c there differs =
        let both = only_before a is in
        let next = next_other order i g h at differs in
        elim (family.nested g h a c here there differs) [
          | apart_from none ↦ apart none
          | inner_to within ↦ outer within (ap (λ b. cond b (matches_if base e p (not held) c) (stays_in base e p held c)) (next ∙ ordered.outer_before i g h a c at here there within differs) ∙ inner_passes a c (in_if base e p (not held)) within both.0)
          | outer_to around ↦ inner around (ap (λ b. cond b (matches_if base e p (not held) c) (stays_in base e p held c)) (next ∙ ordered.inner_after i g h a c at here there around differs) ∙ not_after _ _ (outer_fails c a (in_if base e p held) around both.1))
        ]

    -- a group that isn't entered, or isn't left, is as before
    pub passed_over : comes_in base e p held a ≡ false → (h : ℕ) (c : GroupDecl) → slice_get decls h ≡ Some c → entering (i + 1) h c ≡ entering i h c
    passed_over out h c there = elim (cases_eq h g) [
      | inl one ↦
          let c_is : a ≡ c = same_Some a c (sym here ∙ ap (slice_get decls) (sym one) ∙ there) in
          ap (λ k. entering (i + 1) k c) one ∙ ap (entering (i + 1) g) (sym c_is)
          ∙ ap (λ b. cond b (matches_if base e p held a) (stays_in base e p held a)) (next_itself order i g at)
          ∙ sym (no_arrival _ _ out)
          ∙ sym (ap (λ b. cond b (matches_if base e p held a) (stays_in base e p held a)) (ordered.once i g at))
          ∙ ap (entering i g) c_is ∙ ap (λ k. entering i k c) (sym one)
      | inr differs ↦ ap (λ b. cond b (matches_if base e p held c) (stays_in base e p held c)) (next_other order i g h at differs)
    ]

    pub left_alone : goes_out base e p held a ≡ false → (h : ℕ) (c : GroupDecl) → slice_get decls h ≡ Some c → leaving i h c ≡ leaving (i + 1) h c
    left_alone within h c there = elim (cases_eq h g) [
      | inl one ↦
          let c_is : a ≡ c = same_Some a c (sym here ∙ ap (slice_get decls) (sym one) ∙ there) in
          ap (λ k. leaving i k c) one ∙ ap (leaving i g) (sym c_is)
          ∙ ap (λ b. cond b (matches_if base e p (not held) a) (stays_in base e p held a)) (ordered.once i g at)
          ∙ no_departure _ _ within
          ∙ sym (ap (λ b. cond b (matches_if base e p (not held) a) (stays_in base e p held a)) (next_itself order i g at))
          ∙ ap (leaving (i + 1) g) c_is ∙ ap (λ k. leaving (i + 1) k c) (sym one)
      | inr differs ↦ sym (ap (λ b. cond b (matches_if base e p (not held) c) (stays_in base e p held c)) (next_other order i g h at differs))
    ]

    module _ (lens : List ℕ) (now new : List (List Entity)) (n : ℕ) (long : slice_get lens g ≡ Some n) (same : HaveSame base now) where
      unset : set lens g n ≡ lens
      unset = equal_by_place _ _ (λ k. elim (cases_eq k g) [
        | inl is ↦ ap (slice_get (set lens g n)) is ∙ slice_get-set_same lens g n (slice_get_within lens g n long) ∙ sym (ap (slice_get lens) is ∙ long)
        | inr differs ↦ slice_get-set_other lens g k n differs
      ])

      pub entered_next : (m : ℕ) → AreMixed decls lens base now e (entering i) → Comes (comes_in now e p held a) a.own e n m now new → AreMixed decls (set lens g m) base new e (entering (i + 1))
      entered_next m mixed step =
          let before : comes_in now e p held a ≡ comes_in base e p held a = Rattle.std.proofs.Common.ap₂ (λ x y. not x && y) (same_tests base now e p (not held) a same) (same_tests base now e p held a same) in
          elim step [
            | came is move more ↦
                let arrives : comes_in base e p held a ≡ true = sym before ∙ is in
                let both = only_after a arrives in
                let out : entering i g a ≡ false = ap (λ b. cond b (matches_if base e p held a) (stays_in base e p held a)) (ordered.once i g at) ∙ not_before _ _ both.0 in
                let within : entering (i + 1) g a ≡ true = ap (λ b. cond b (matches_if base e p held a) (stays_in base e p held a)) (next_itself order i g at) ∙ both.1 in
                subst (λ k. AreMixed decls (set lens g k) base new e (entering (i + 1))) (sym more)
                (family_entered decls lens base now new e (entering i) (entering (i + 1)) g a n here move mixed (entering_beside arrives)
                (λ h c differs. ap (λ b. cond b (matches_if base e p held c) (stays_in base e p held c)) (next_other order i g h at differs)) long out within)
            | stayed_out is still as_long ↦
                subst (λ k. AreMixed decls (set lens g k) base new e (entering (i + 1))) (sym as_long)
                (subst (λ l. AreMixed decls l base new e (entering (i + 1))) (sym unset)
                (subst (λ l. AreMixed decls lens base l e (entering (i + 1))) (sym still)
                (mixed_alike decls lens base now e (entering i) (entering (i + 1)) mixed (passed_over (sym before ∙ is)))))
          ]

      pub left_next : (m : ℕ) → AreMixed decls lens base now e (leaving (i + 1)) → Goes (goes_out now e p held a) a.own e n m now new → AreMixed decls (set lens g m) base new e (leaving i)
      left_next m mixed step =
          let before : goes_out now e p held a ≡ goes_out base e p held a = Rattle.std.proofs.Common.ap₂ (λ x y. x && not y) (same_tests base now e p (not held) a same) (same_tests base now e p held a same) in
          elim step [
            | went is move less ↦
                let departs : goes_out base e p held a ≡ true = sym before ∙ is in
                let both = only_before a departs in
                let within : leaving (i + 1) g a ≡ true = ap (λ b. cond b (matches_if base e p (not held) a) (stays_in base e p held a)) (next_itself order i g at) ∙ both.0 in
                let out : leaving i g a ≡ false = ap (λ b. cond b (matches_if base e p (not held) a) (stays_in base e p held a)) (ordered.once i g at) ∙ not_after _ _ both.1 in
                family_left decls lens base now new e (leaving (i + 1)) (leaving i) g a m here move mixed (leaving_beside departs)
                (λ h c differs. sym (ap (λ b. cond b (matches_if base e p (not held) c) (stays_in base e p held c)) (next_other order i g h at differs))) (long ∙ ap Some (sym less)) within out
            | stayed_in is still as_long ↦
                subst (λ k. AreMixed decls (set lens g k) base new e (leaving i)) (sym as_long)
                (subst (λ l. AreMixed decls l base new e (leaving i)) (sym unset)
                (subst (λ l. AreMixed decls lens base l e (leaving i)) (sym still)
                (mixed_alike decls lens base now e (leaving (i + 1)) (leaving i) mixed (left_alone (sym before ∙ is)))))
          ]

      -- the pools are ready for it
      pub entering_ready : AreMixed decls lens base now e (entering i) → is_in base e p ≡ true → comes_in now e p held a ≡ true → (pool : ℕ) → has_pool a.own pool ≡ true → IsReady e n (packed_at now pool)
      entering_ready mixed held_now is pool has =
          let before : comes_in now e p held a ≡ comes_in base e p held a = Rattle.std.proofs.Common.ap₂ (λ x y. not x && y) (same_tests base now e p (not held) a same) (same_tests base now e p held a same) in
          let both = only_after a (sym before ∙ is) in
          let out : entering i g a ≡ false = ap (λ b. cond b (matches_if base e p held a) (stays_in base e p held a)) (ordered.once i g at) ∙ not_before _ _ both.0 in
          let contained : is_in now e pool ≡ true = owned_has now e p held a (same e p ∙ held_now) (same_tests base now e p held a same ∙ both.1) pool has in
          let stands = found e (packed_at now pool) contained in
          let high : n ≤ stands.0 = ltb-false stands.0 n ((mixed g a n here long).split pool stands.0 e has stands.1 ∙ but_itself e (entering i g a) (matches base a) ∙ out) in
          let low : stands.0 < length (packed_at now pool) = slice_get_within (packed_at now pool) stands.0 e stands.1 in
          record { contained = contained; within = omega arith }

      pub leaving_ready : AreMixed decls lens base now e (leaving (i + 1)) → is_in base e p ≡ true → goes_out now e p held a ≡ true → (pool : ℕ) → has_pool a.own pool ≡ true → (0 < n) × IsReady e (n - 1) (packed_at now pool)
      leaving_ready mixed held_now is pool has =
          let before : goes_out now e p held a ≡ goes_out base e p held a = Rattle.std.proofs.Common.ap₂ (λ x y. x && not y) (same_tests base now e p (not held) a same) (same_tests base now e p held a same) in
          let both = only_before a (sym before ∙ is) in
          let within : leaving (i + 1) g a ≡ true = ap (λ b. cond b (matches_if base e p (not held) a) (stays_in base e p held a)) (next_itself order i g at) ∙ both.0 in
          let contained : is_in now e pool ≡ true = owned_has now e p (not held) a (same e p ∙ held_now) (same_tests base now e p (not held) a same ∙ both.0) pool has in
          let stands = found e (packed_at now pool) contained in
          let low : stands.0 < n = ltb-true stands.0 n ((mixed g a n here long).split pool stands.0 e has stands.1 ∙ but_itself e (leaving (i + 1) g a) (matches base a) ∙ within) in
          let fits : n ≤ length (packed_at now pool) = (mixed g a n here long).within pool has in
          (omega arith, record { contained = contained; within = omega arith })

-- ---- the ends of a pass

module _ (base now : List (List Entity)) (e : Entity) (p : ℕ) (held : Bool) (order lens : List ℕ) (decls : List GroupDecl) (ordered : IsOutermostFirst decls order) where
  all_taken : (i h : ℕ) (c : GroupDecl) → length order ≤ i → slice_get decls h ≡ Some c → has_pool (take i order) h ≡ true
  all_taken i h c past there = ap (λ l. has_pool l h) (Rattle.std.proofs.lemmas.List.take_all i order past) ∙ ordered.complete h (slice_get_within decls h c there)

  pub all_entered : (i : ℕ) → length order ≤ i → AreMixed decls lens base now e (entering base e p held order i) → AreMixed decls lens base now e (λ h c. matches_if base e p held c)
  all_entered i past mixed = mixed_alike decls lens base now e (entering base e p held order i) (λ h c. matches_if base e p held c) mixed
      (λ h c there. sym (ap (λ b. cond b (matches_if base e p held c) (stays_in base e p held c)) (all_taken i h c past there)))

  pub none_left : (i : ℕ) → length order ≤ i → AreMixed decls lens base now e (λ h c. matches_if base e p (not held) c) → AreMixed decls lens base now e (leaving base e p held order i)
  none_left i past mixed = mixed_alike decls lens base now e (λ h c. matches_if base e p (not held) c) (leaving base e p held order i) mixed
      (λ h c there. ap (λ b. cond b (matches_if base e p (not held) c) (stays_in base e p held c)) (all_taken i h c past there))

pub comes_same : (base now new : List (List Entity)) (e : Entity) (comes : Bool) (own : List ℕ) (n m : ℕ) → HaveSame base now → Comes comes own e n m now new → HaveSame base new
comes_same base now new e comes own n m same step x pool = elim step [
  | came is move more ↦ moved_same own e n now new move x pool ∙ same x pool
  | stayed_out is still as_long ↦ ap (λ l. is_in l x pool) still ∙ same x pool
]

pub goes_same : (base now new : List (List Entity)) (e : Entity) (goes : Bool) (own : List ℕ) (n m : ℕ) → HaveSame base now → Goes goes own e n m now new → HaveSame base new
goes_same base now new e goes own n m same step x pool = elim step [
  | went is move less ↦ moved_same own e m now new move x pool ∙ same x pool
  | stayed_in is still as_long ↦ ap (λ l. is_in l x pool) still ∙ same x pool
]

-- ---- for the loops

-- what stands at a place of the order
pub record AtPlace (decls : List GroupDecl) (order lens : List ℕ) (i : ℕ) (a : GroupDecl) : Type 0 where
  pub at : slice_get order i ≡ Some (get_or order i 0)
  pub low : get_or order i 0 < length decls
  pub here : slice_get decls (get_or order i 0) ≡ Some a
  pub long : slice_get lens (get_or order i 0) ≡ Some (get_or lens (get_or order i 0) 0)

pub at_place : (decls : List GroupDecl) (order lens : List ℕ) (i : ℕ) (a : GroupDecl) → IsOutermostFirst decls order → i < length order → length lens ≡ length decls → a ≡ get_or decls (get_or order i 0) a → AtPlace decls order lens i a
at_place decls order lens i a ordered low each is =
    let g = get_or order i 0 in
    let at : slice_get order i ≡ Some g = Rattle.std.proofs.lemmas.Option.slice_get-get_or order i 0 low in
    let within : g < length decls = ordered.within i g at in
    record {
      at = at;
      low = within;
      here = Rattle.std.proofs.lemmas.Option.slice_get_read decls (length decls) g a refl within is;
      long = Rattle.std.proofs.lemmas.Option.slice_get-get_or lens g 0 (omega arith);
    }

zero_more : (n : ℕ) → 0 + n ≡ n
zero_more n = omega arith

cost_here : (decls : List GroupDecl) (f : GroupDecl → Bool) (g : ℕ) (a : GroupDecl) → slice_get decls g ≡ Some a → cost_in decls f g ≡ cost_of (f a) a
cost_here decls f g a here = ap (λ o. sum_by (λ decl. cost_of (f decl) decl) (option_to_list o)) here ∙ zero_more (cost_of (f a) a)

-- one group's steps more, from the front and from the back
pub steps_next : (decls : List GroupDecl) (f : GroupDecl → Bool) (order lens : List ℕ) (i : ℕ) (a : GroupDecl) (b : Bool) (before after start : ℕ) → AtPlace decls order lens i a → b ≡ f a → i < length order
    → before ≤ start + sum_by (cost_in decls f) (take i order) → after ≤ before + cost_of b a → after ≤ start + sum_by (cost_in decls f) (take (i + 1) order)
steps_next decls f order lens i a b before after start place is low h step =
    let cost : cost_of b a ≡ cost_in decls f (get_or order i 0) = ap (λ v. cost_of v a) is ∙ sym (cost_here decls f (get_or order i 0) a place.here) in
    let more : sum_by (cost_in decls f) (take (i + 1) order) ≡ sum_by (cost_in decls f) (take i order) + (0 + cost_in decls f (get_or order i 0)) =
    ap (sum_by (cost_in decls f)) (take_more order i 0 low) ∙ sum_by-append (cost_in decls f) (take i order) (get_or order i 0 ∷ []) in
    omega arith

pub steps_before : (decls : List GroupDecl) (f : GroupDecl → Bool) (order lens : List ℕ) (i : ℕ) (a : GroupDecl) (b : Bool) (before after start : ℕ) → AtPlace decls order lens i a → b ≡ f a → i < length order
    → before ≤ start + sum_by (cost_in decls f) (drop (i + 1) order) → after ≤ before + cost_of b a → after ≤ start + sum_by (cost_in decls f) (drop i order)
steps_before decls f order lens i a b before after start place is low h step =
    let cost : cost_of b a ≡ cost_in decls f (get_or order i 0) = ap (λ v. cost_of v a) is ∙ sym (cost_here decls f (get_or order i 0) a place.here) in
    let more : sum_by (cost_in decls f) (drop i order) ≡ cost_in decls f (get_or order i 0) + sum_by (cost_in decls f) (drop (i + 1) order) = sum_by-drop_more (cost_in decls f) order i 0 low in
    omega arith

pub comes_alike : (base now : List (List Entity)) (e : Entity) (p : ℕ) (held : Bool) (a : GroupDecl) → HaveSame base now → comes_in now e p held a ≡ comes_in base e p held a
comes_alike base now e p held a same = Rattle.std.proofs.Common.ap₂ (λ x y. not x && y) (same_tests base now e p (not held) a same) (same_tests base now e p held a same)

pub goes_alike : (base now : List (List Entity)) (e : Entity) (p : ℕ) (held : Bool) (a : GroupDecl) → HaveSame base now → goes_out now e p held a ≡ goes_out base e p held a
goes_alike base now e p held a same = Rattle.std.proofs.Common.ap₂ (λ x y. x && not y) (same_tests base now e p (not held) a same) (same_tests base now e p held a same)
