-- Groups before and after one identifier comes into a pool, or goes.
use Rattle.std.proofs.Common.{◌≡◌, ◌≢◌, ℕ, zero, suc, ◌+◌, ◌-◌, ◌<◌, ◌≤◌, Bool, true, false, not, ◌||◌, cond, eqb, List, [], ◌∷◌, ◌++◌, length, set, get_or, Option, Some, None, slice_get, IfSome, sym, refl, ap, subst, ◌∙◌, inl, inr, arith}
use Rattle.std.specs.List.{list_any, list_all, swap}
use Rattle.std.proofs.Math.Dec.{ltb}
use Rattle.std.proofs.lemmas.Bool.{cases_Bool, cases_eq, cases_lt, false≢true, le-ltb, ltb-false, and_parts, or_left, or_right, eq-eqb, eqb-true}
use Rattle.std.proofs.lemmas.List.{get_or-set_same, get_or-set_other, get_or_past, length-append}
use Rattle.std.proofs.lemmas.List.Folds.{list_any-append, list_all-append}
use Rattle.std.proofs.lemmas.Option.{same_Some, slice_get_within, slice_get-get_or, none-some}
use Rattle.entity_id.specs.declared.entity.Entity.{Entity}
use Rattle.entity_id.specs.Identifiers.{is_same}
use Rattle.entity_id.specs.Matching.{is_in}
use Rattle.entity_id.specs.PackedLists.{place_of, swap_popped}
use Rattle.entity_id.proofs.ListLemmas.{slice_get-append}
use Rattle.entity_id.proofs.MapLemmas.{same_itself, same_true}
use Rattle.entity_id.proofs.PackedListLemmas.{at_pushed, at_take, at_taken, kept_at, swap-other, length-popped, place_here}
use Rattle.sparse_set.specs.PackedSets.{AreDistinct}
use Rattle.world_model.specs.declared.group.GroupDecl.{GroupDecl}
use Rattle.world_model.specs.Groups.{has_pool, packed_at}
use Rattle.world_model.proofs.NestedLemmas.{all_has, every}
use Rattle.group_engine.specs.Grouped.{passes, matches, IsPartitioned, IsGrouped, AreGrouped, WereGrouped, AreGroupedWithout}
use Rattle.group_engine.specs.Moving.{but_for, AreMixed, in_if, matches_if, HaveSame}
use Rattle.group_engine.proofs.MoveLemmas.{but_itself, swap-first}
use Rattle.group_engine.proofs.FamilyLemmas.{but_other}
use Rattle.group_engine.proofs.PassLemmas.{found}

-- ---- answers that agree

pub partition_alike : (packed : List (List Entity)) (own : List ℕ) (count : ℕ) (f g : Entity → Bool) → IsPartitioned packed own count f → ((x : Entity) → g x ≡ f x) → IsPartitioned packed own count g
partition_alike packed own count f g h alike = record { within = h.within; common = h.common; split = λ pool place x has at. h.split pool place x has at ∙ sym (alike x) }

pub passes_alike : (c : GroupDecl) (f g : ℕ → Bool) → ((o : ℕ) → f o ≡ g o) → passes c f ≡ passes c g
passes_alike c f g alike = let one : f ≡ g = (λ i o. alike o i) in ap (passes c) one

-- the same lists in another order serve as well
pub rebase : (decls : List GroupDecl) (lens : List ℕ) (base other packed : List (List Entity)) (e : Entity) (has : ℕ → GroupDecl → Bool) → HaveSame base other → AreMixed decls lens base packed e has → AreMixed decls lens other packed e has
rebase decls lens base other packed e has same mixed h c count at at' =
    partition_alike packed c.own count (but_for e (has h c) (matches base c)) (but_for e (has h c) (matches other c)) (mixed h c count at at')
    (λ x. ap (λ b. cond (is_same x e) (has h c) b) (passes_alike c (is_in other x) (is_in base x) (same x)))

-- a test that fails in an owned pool fails
pub owned_fails : (c : GroupDecl) (f : ℕ → Bool) (pool : ℕ) → has_pool c.own pool ≡ true → f pool ≡ false → passes c f ≡ false
owned_fails c f pool has fails = elim (cases_Bool (passes c f)) [
  | inr none ↦ none
  | inl passing ↦
      let all = (and_parts (list_all f (c.own ++ c.get)) (not (list_any f c.without)) passing).0 in
      let own = (and_parts (list_all f c.own) (list_all f c.get) (sym (list_all-append f c.own c.get) ∙ all)).0 in
      absurd (false≢true (sym fails ∙ all_has (λ q. f q ≡ true) c.own pool (every f c.own own) has))
]

-- ---- packed lists with one changed

filled : (packed : List (List Entity)) (p k : ℕ) (x : Entity) → slice_get (packed_at packed p) k ≡ Some x → p < length packed
filled packed p k x here = elim (cases_lt p (length packed)) [
  | inl low ↦ low
  | inr past ↦ absurd (none-some x (ap (λ l. slice_get l k) (sym (get_or_past packed p [] past)) ∙ here))
]

pub any_here : (x : Entity) (l : List Entity) (k : ℕ) → slice_get l k ≡ Some x → list_any (is_same x) l ≡ true
any_here x [] k h = absurd (none-some x h)
any_here x (y ∷ l) zero h = or_left (is_same x y) (list_any (is_same x) l) (ap (is_same x) (same_Some y x h) ∙ same_itself x)
any_here x (y ∷ l) (suc k) h = or_right (is_same x y) (list_any (is_same x) l) (any_here x l k h)

both_ways : (a b : Bool) → (a ≡ true → b ≡ true) → (b ≡ true → a ≡ true) → a ≡ b
both_ways true b f g = sym (f refl)
both_ways false true f g = g refl
both_ways false false f g = refl

apart_same : (x e : Entity) → is_same x e ≡ false → x ≡ e → ⊥
apart_same x e differs same = false≢true (sym differs ∙ ap (λ v. is_same v e) same ∙ same_itself e)

-- ---- one that has come

module _ (decls : List GroupDecl) (lens : List ℕ) (packed : List (List Entity)) (e : Entity) (p : ℕ) (h : WereGrouped decls lens packed e p) where
  last_here : slice_get (packed_at packed p) (length h.before) ≡ Some e
  last_here = ap (λ l. slice_get l (length h.before)) h.appended ∙ at_end h.before
    where
      at_end : (l : List Entity) → slice_get (l ++ e ∷ []) (length l) ≡ Some e
      at_end [] = refl
      at_end (x ∷ l) = at_end l

  low : p < length packed
  low = filled packed p (length h.before) e last_here

  abbrev was : List (List Entity)
  was = set packed p h.before

  was_here : packed_at was p ≡ h.before
  was_here = get_or-set_same packed p h.before [] low

  was_other : (q : ℕ) → q ≢ p → packed_at was q ≡ packed_at packed q
  was_other q apart = get_or-set_other packed p q h.before [] apart

  pub come_here : is_in packed e p ≡ true
  come_here = any_here e (packed_at packed p) (length h.before) last_here

  come_tests : (q : ℕ) → in_if packed e p false q ≡ is_in was e q
  come_tests q = elim (cases_Bool (eqb q p)) [
    | inl is ↦ ap (λ b. cond b false (is_in packed e q)) is ∙ sym (ap (is_in was e) (eqb-true q p is) ∙ ap (list_any (is_same e)) was_here ∙ h.fresh)
    | inr apart ↦ ap (λ b. cond b false (is_in packed e q)) apart ∙ sym (ap (list_any (is_same e)) (was_other q (λ same. false≢true (sym apart ∙ eq-eqb q p same))))
  ]

  come_others : (x : Entity) → is_same x e ≡ false → (q : ℕ) → is_in packed x q ≡ is_in was x q
  come_others x differs q = elim (cases_eq q p) [
    | inl is ↦ ap (is_in packed x) is ∙ ap (list_any (is_same x)) h.appended ∙ list_any-append (is_same x) h.before (e ∷ []) ∙ ap (λ b. list_any (is_same x) h.before || (b || false)) differs ∙ none (list_any (is_same x) h.before) ∙ sym (ap (is_in was x) is ∙ ap (list_any (is_same x)) was_here)
    | inr apart ↦ sym (ap (list_any (is_same x)) (was_other q apart))
  ]
    where
      none : (a : Bool) → (a || (false || false)) ≡ a
      none true = refl
      none false = refl

  come_inside : (c : GroupDecl) (x : Entity) → but_for e (matches_if packed e p false c) (matches packed c) x ≡ matches was c x
  come_inside c x = elim (cases_Bool (is_same x e)) [
    | inl is ↦ ap (λ b. cond b (matches_if packed e p false c) (matches packed c x)) is ∙ passes_alike c (in_if packed e p false) (is_in was e) come_tests ∙ ap (λ v. matches was c v) (sym (same_true x e is))
    | inr differs ↦ ap (λ b. cond b (matches_if packed e p false c) (matches packed c x)) differs ∙ passes_alike c (is_in packed x) (is_in was x) (come_others x differs)
  ]

  -- in front of the new one nothing has changed
  come_front : (q k : ℕ) → k < length (packed_at was q) → slice_get (packed_at packed q) k ≡ slice_get (packed_at was q) k
  come_front q k less = elim (cases_eq q p) [
    | inl is ↦
        let front : k < length h.before = subst (λ l. k < length l) (ap (packed_at was) is ∙ was_here) less in
        ap (λ n. slice_get (packed_at packed n) k) is ∙ ap (λ l. slice_get l k) h.appended ∙ slice_get-append h.before (e ∷ []) k front ∙ sym (ap (λ n. slice_get (packed_at was n) k) is ∙ ap (λ l. slice_get l k) was_here)
    | inr apart ↦ ap (λ l. slice_get l k) (sym (was_other q apart))
  ]

  come_longer : (q : ℕ) → length (packed_at was q) ≤ length (packed_at packed q)
  come_longer q = elim (cases_eq q p) [
    | inl is ↦
        let a : length (packed_at was q) ≡ length h.before = ap (λ n. length (packed_at was n)) is ∙ ap length was_here in
        let b : length (packed_at packed q) ≡ length h.before + length (e ∷ []) = ap (λ n. length (packed_at packed n)) is ∙ ap length h.appended ∙ length-append h.before (e ∷ []) in
        omega arith
    | inr apart ↦ let a : length (packed_at was q) ≡ length (packed_at packed q) = ap length (was_other q apart) in omega arith
  ]

  -- where it is the last of all it is not inside
  come_last : (c : GroupDecl) (count q k : ℕ) (x : Entity) → IsGrouped was c count → has_pool c.own q ≡ true → slice_get (packed_at packed q) k ≡ Some x → length (packed_at was q) ≤ k → ltb k count ≡ but_for e (matches_if packed e p false c) (matches packed c) x
  come_last c count q k x old has at past = elim (cases_eq q p) [
    | inl is ↦
        let within : count ≤ length (packed_at was q) = old.within q has in
        let out : matches_if packed e p false c ≡ false = owned_fails c (in_if packed e p false) p (ap (has_pool c.own) (sym is) ∙ has) (ap (λ b. cond b false (is_in packed e p)) (eq-eqb p p refl)) in
        let where_p : slice_get (h.before ++ e ∷ []) k ≡ Some x = sym (ap (λ n. slice_get (packed_at packed n) k) is ∙ ap (λ l. slice_get l k) h.appended) ∙ at in
        let long : length (packed_at was q) ≡ length h.before = ap (λ n. length (packed_at was n)) is ∙ ap length was_here in
        elim (at_pushed h.before e k x where_p) [
          | inl inside ↦ absurd (let w : k < length h.before = slice_get_within h.before k x inside in omega arith)
          | inr last ↦ le-ltb k count (omega arith) ∙ sym (ap (but_for e (matches_if packed e p false c) (matches packed c)) last.1 ∙ but_itself e (matches_if packed e p false c) (matches packed c) ∙ out)
        ]
    | inr apart ↦ absurd (let w : k < length (packed_at was q) = slice_get_within (packed_at was q) k x (ap (λ l. slice_get l k) (was_other q apart) ∙ at) in omega arith)
  ]

  pub come_mixed : AreMixed decls lens packed packed e (λ group decl. matches_if packed e p false decl)
  come_mixed group c count there long =
      let old = h.grouped.each group c count there long in
      record {
        within = λ q has. (let a : count ≤ length (packed_at was q) = old.within q has in let b : length (packed_at was q) ≤ length (packed_at packed q) = come_longer q in omega arith);
        common = λ q r k has has' less.
            (let a : count ≤ length (packed_at was q) = old.within q has in
            let b : count ≤ length (packed_at was r) = old.within r has' in
            come_front q k (omega arith) ∙ old.common q r k has has' less ∙ sym (come_front r k (omega arith)));
        split = λ q k x has at. elim (cases_lt k (length (packed_at was q))) [
          | inl less ↦ old.split q k x has (sym (come_front q k less) ∙ at) ∙ sym (come_inside c x)
          | inr past ↦ come_last c count q k x old has at past
        ];
      }

-- and where all groups know of it
pub come_grouped : (decls : List GroupDecl) (lens : List ℕ) (base new : List (List Entity)) (e : Entity) (p : ℕ) → is_in base e p ≡ true → HaveSame base new → AreMixed decls lens base new e (λ group decl. matches_if base e p true decl) → AreGrouped decls lens new
come_grouped decls lens base new e p here same mixed = record {
  each = λ group c count there long.
      partition_alike new c.own count (but_for e (matches_if base e p true c) (matches base c)) (matches new c) (mixed group c count there long) (λ x. elim (cases_Bool (is_same x e)) [
        | inl is ↦ ap (matches new c) (same_true x e is) ∙ passes_alike c (is_in new e) (in_if base e p true) (λ q. same e q ∙ tests q) ∙ sym (ap (λ b. cond b (matches_if base e p true c) (matches base c x)) is)
        | inr differs ↦ passes_alike c (is_in new x) (is_in base x) (same x) ∙ sym (but_other e (matches_if base e p true c) (matches base c) x differs)
      ]);
}
  where
    tests : (q : ℕ) → is_in base e q ≡ in_if base e p true q
    tests q = elim (cases_Bool (eqb q p)) [
      | inl is ↦ ap (is_in base e) (eqb-true q p is) ∙ here ∙ sym (ap (λ b. cond b true (is_in base e q)) is)
      | inr apart ↦ sym (ap (λ b. cond b true (is_in base e q)) apart)
    ]

-- ---- one that is about to go

-- lawful groups know of it
pub stay_mixed : (decls : List GroupDecl) (lens : List ℕ) (packed : List (List Entity)) (e : Entity) (p : ℕ) → is_in packed e p ≡ true → AreGrouped decls lens packed → AreMixed decls lens packed packed e (λ group decl. matches_if packed e p true decl)
stay_mixed decls lens packed e p here grouped group c count there long =
    partition_alike packed c.own count (matches packed c) (but_for e (matches_if packed e p true c) (matches packed c)) (grouped.each group c count there long) (λ x. elim (cases_Bool (is_same x e)) [
      | inl is ↦ ap (λ b. cond b (matches_if packed e p true c) (matches packed c x)) is ∙ passes_alike c (in_if packed e p true) (is_in packed e) (λ q. sym (tests q)) ∙ ap (matches packed c) (sym (same_true x e is))
      | inr differs ↦ but_other e (matches_if packed e p true c) (matches packed c) x differs
    ])
  where
    tests : (q : ℕ) → is_in packed e q ≡ in_if packed e p true q
    tests q = elim (cases_Bool (eqb q p)) [
      | inl is ↦ ap (is_in packed e) (eqb-true q p is) ∙ here ∙ sym (ap (λ b. cond b true (is_in packed e q)) is)
      | inr apart ↦ sym (ap (λ b. cond b true (is_in packed e q)) apart)
    ]

-- a list from which it is popped
module _ (l : List Entity) (e : Entity) (k : ℕ) (here : slice_get l k ≡ Some e) (distinct : AreDistinct l) where
  within_l : k < length l
  within_l = slice_get_within l k e here

  pub popped_at : (j : ℕ) → j < length l - 1 → j ≢ k → slice_get (swap_popped l k) j ≡ slice_get l j
  popped_at j less apart = at_take (length l - 1) (swap l k (length l - 1)) j less ∙ swap-other l k (length l - 1) j apart (λ same. omega arith)

  pub popped_here : k < length l - 1 → slice_get (swap_popped l k) k ≡ slice_get l (length l - 1)
  popped_here less = at_take (length l - 1) (swap l k (length l - 1)) k less ∙ swap-first l k (length l - 1) (omega arith) (omega arith) (λ same. omega arith)

  -- what stands there stood in front of the last place, or is the last
  pub popped_from : (j : ℕ) (x : Entity) → slice_get (swap_popped l k) j ≡ Some x → (m : ℕ) × (slice_get l m ≡ Some x) × (j < length l - 1) × (m ≢ k) × ((j ≢ k → m ≡ j) × (j ≡ k → k < m))
  popped_from j x at =
      let low = at_taken (length l - 1) (swap l k (length l - 1)) j x at in
      let less : j < length l - 1 = low.0 in
      elim (cases_eq j k) [
        | inl is ↦ (length l - 1, sym (popped_here (omega arith)) ∙ ap (slice_get (swap_popped l k)) (sym is) ∙ at, less, (λ same. omega arith), ((λ apart. absurd (apart is)), (λ same. omega arith)))
        | inr apart ↦ (j, sym (popped_at j less apart) ∙ at, less, apart, ((λ same. refl), (λ same. absurd (apart same))))
      ]

  pub popped_gone : list_any (is_same e) (swap_popped l k) ≡ false
  popped_gone = elim (cases_Bool (list_any (is_same e) (swap_popped l k))) [
    | inr none ↦ none
    | inl still ↦
        let at = found e (swap_popped l k) still in
        let from = popped_from at.0 e at.1 in
        absurd (from.3 (distinct from.0 k e e from.1 here refl))
  ]

  pub popped_others : (x : Entity) → is_same x e ≡ false → list_any (is_same x) (swap_popped l k) ≡ list_any (is_same x) l
  popped_others x differs = both_ways _ _
      (λ h. let at = found x (swap_popped l k) h in let from = popped_from at.0 x at.1 in any_here x l from.0 from.1)
      (λ h.
      let at = found x l h in
      let last = length l - 1 in
      let other : at.0 ≢ k = (λ same. apart_same x e differs (same_Some x e (sym at.1 ∙ ap (slice_get l) same ∙ here))) in
      let to = kept_at l k at.0 last x (get_or l last e) within_l (slice_get_within l at.0 x at.1) refl at.1 (slice_get-get_or l last e (let w : k < length l = within_l in omega arith)) other in
      any_here x (swap_popped l k) to.0 to.1)

-- all groups know that it goes
module _ (decls : List GroupDecl) (lens : List ℕ) (base new : List (List Entity)) (e : Entity) (p k : ℕ) (here : slice_get (packed_at new p) k ≡ Some e) (distinct : AreDistinct (packed_at new p)) (same : HaveSame base new)
    (mixed : AreMixed decls lens base new e (λ group decl. matches_if base e p false decl)) where
  abbrev list : List Entity
  list = packed_at new p

  abbrev gone : List (List Entity)
  gone = set new p (swap_popped list k)

  gone_here : packed_at gone p ≡ swap_popped list k
  gone_here = get_or-set_same new p (swap_popped list k) [] (filled new p k e here)

  gone_other : (q : ℕ) → q ≢ p → packed_at gone q ≡ packed_at new q
  gone_other q apart = get_or-set_other new p q (swap_popped list k) [] apart

  gone_tests : (q : ℕ) → is_in gone e q ≡ in_if base e p false q
  gone_tests q = elim (cases_Bool (eqb q p)) [
    | inl is ↦ ap (is_in gone e) (eqb-true q p is) ∙ ap (list_any (is_same e)) gone_here ∙ popped_gone list e k here distinct ∙ sym (ap (λ b. cond b false (is_in base e q)) is)
    | inr apart ↦ ap (list_any (is_same e)) (gone_other q (λ one. false≢true (sym apart ∙ eq-eqb q p one))) ∙ same e q ∙ sym (ap (λ b. cond b false (is_in base e q)) apart)
  ]

  gone_others : (x : Entity) → is_same x e ≡ false → (q : ℕ) → is_in gone x q ≡ is_in base x q
  gone_others x differs q = elim (cases_eq q p) [
    | inl is ↦ ap (is_in gone x) is ∙ ap (list_any (is_same x)) gone_here ∙ popped_others list e k here distinct x differs ∙ same x p ∙ ap (is_in base x) (sym is)
    | inr apart ↦ ap (list_any (is_same x)) (gone_other q apart) ∙ same x q
  ]

  gone_inside : (c : GroupDecl) (x : Entity) → matches gone c x ≡ but_for e (matches_if base e p false c) (matches base c) x
  gone_inside c x = elim (cases_Bool (is_same x e)) [
    | inl is ↦ ap (matches gone c) (same_true x e is) ∙ passes_alike c (is_in gone e) (in_if base e p false) gone_tests ∙ sym (ap (λ b. cond b (matches_if base e p false c) (matches base c x)) is)
    | inr differs ↦ passes_alike c (is_in gone x) (is_in base x) (gone_others x differs) ∙ sym (but_other e (matches_if base e p false c) (matches base c) x differs)
  ]

  module _ (c : GroupDecl) (count : ℕ) (old : IsPartitioned new c.own count (but_for e (matches_if base e p false c) (matches base c))) where
    -- it stands behind each group that owns the pool
    behind_all : has_pool c.own p ≡ true → count ≤ k
    behind_all has =
        let out : matches_if base e p false c ≡ false = owned_fails c (in_if base e p false) p has (ap (λ b. cond b false (is_in base e p)) (eq-eqb p p refl)) in
        ltb-false k count (old.split p k e has here ∙ but_itself e (matches_if base e p false c) (matches base c) ∙ out)

    gone_front : (q j : ℕ) → has_pool c.own q ≡ true → j < count → slice_get (packed_at gone q) j ≡ slice_get (packed_at new q) j
    gone_front q j has less = elim (cases_eq q p) [
      | inl is ↦
          let high : count ≤ k = behind_all (ap (has_pool c.own) (sym is) ∙ has) in
          let low : k < length list = slice_get_within list k e here in
          ap (λ n. slice_get (packed_at gone n) j) is ∙ ap (λ l. slice_get l j) gone_here ∙ popped_at list e k here distinct j (omega arith) (λ one. omega arith) ∙ ap (λ n. slice_get (packed_at new n) j) (sym is)
      | inr apart ↦ ap (λ l. slice_get l j) (gone_other q apart)
    ]

    gone_within : (q : ℕ) → has_pool c.own q ≡ true → count ≤ length (packed_at gone q)
    gone_within q has = elim (cases_eq q p) [
      | inl is ↦
          let high : count ≤ k = behind_all (ap (has_pool c.own) (sym is) ∙ has) in
          let low : k < length list = slice_get_within list k e here in
          let short : length (swap_popped list k) + 1 ≡ length list = length-popped list k low in
          let long : length (packed_at gone q) ≡ length (swap_popped list k) = ap (λ n. length (packed_at gone n)) is ∙ ap length gone_here in
          omega arith
      | inr apart ↦ let long : length (packed_at gone q) ≡ length (packed_at new q) = ap length (gone_other q apart) in let w : count ≤ length (packed_at new q) = old.within q has in omega arith
    ]

    gone_split : (q j : ℕ) (x : Entity) → has_pool c.own q ≡ true → slice_get (packed_at gone q) j ≡ Some x → ltb j count ≡ matches gone c x
    gone_split q j x has at = elim (cases_eq q p) [
      | inr apart ↦ old.split q j x has (ap (λ l. slice_get l j) (sym (gone_other q apart)) ∙ at) ∙ sym (gone_inside c x)
      | inl is ↦
          let owned : has_pool c.own p ≡ true = ap (has_pool c.own) (sym is) ∙ has in
          let high : count ≤ k = behind_all owned in
          let at' : slice_get (swap_popped list k) j ≡ Some x = sym (ap (λ n. slice_get (packed_at gone n) j) is ∙ ap (λ l. slice_get l j) gone_here) ∙ at in
          let from = popped_from list e k here distinct j x at' in
          let side : ltb j count ≡ ltb from.0 count = elim (cases_eq j k) [
            | inl one ↦ (let past : k < from.0 = from.4.1 one in le-ltb j count (omega arith) ∙ sym (le-ltb from.0 count (omega arith)))
            | inr other ↦ ap (λ n. ltb n count) (sym (from.4.0 other))
          ] in
          side ∙ old.split p from.0 x owned from.1 ∙ sym (gone_inside c x)
    ]

    gone_one : IsGrouped gone c count
    gone_one = record { within = gone_within; common = λ q r j has has' less. gone_front q j has less ∙ old.common q r j has has' less ∙ sym (gone_front r j has' less); split = gone_split }

  pub gone_grouped : AreGrouped decls lens gone
  gone_grouped = record { each = λ group c count there long. gone_one c count (mixed group c count there long) }

pub gone_where : (decls : List GroupDecl) (lens : List ℕ) (base new : List (List Entity)) (e : Entity) (p : ℕ) → is_in base e p ≡ true → AreDistinct (packed_at new p) → HaveSame base new → AreMixed decls lens base new e (λ group decl. matches_if base e p false decl) → AreGroupedWithout decls lens new e p
gone_where decls lens base new e p here distinct same mixed = record { here = same e p ∙ here; gone = by_place (place_of (packed_at new p) e) refl }
  where
    by_place : (o : Option ℕ) → place_of (packed_at new p) e ≡ o → IfSome o (λ place. AreGrouped decls lens (set new p (swap_popped (packed_at new p) place)))
    by_place None h = tt
    by_place (Some k) h = gone_grouped decls lens base new e p k (place_here (packed_at new p) e k h) distinct same mixed
