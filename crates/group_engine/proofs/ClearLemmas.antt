-- Groups before a pool is emptied.
use Rattle.std.proofs.Common.{◌≡◌, ◌≢◌, ℕ, ◌+◌, ◌*◌, ◌<◌, ◌≤◌, Bool, true, false, not, ◌&&◌, ◌||◌, cond, eqb, List, [], ◌∷◌, ◌++◌, take, drop, length, set, get_or, Some, slice_get, sym, refl, ap, ap₂, subst, ◌∙◌, inl, inr, arith, zero, suc}
use Rattle.std.specs.List.{list_any, list_all, sum_by}
use Rattle.std.proofs.Math.Bool.{and-false}
use Rattle.std.proofs.Math.ListN.{drop_of_length-le, get_or-map}
use Rattle.std.proofs.Math.Nat.{mul-le-mul_left}
use Rattle.std.proofs.lemmas.Bool.{cases_Bool, cases_eq, false≢true, lt-ltb, ltb-true, le-ltb, ltb-false, or_cases, or_left, or_right, and_parts, eq-eqb, eqb-true}
use Rattle.std.proofs.lemmas.List.{drop_more, take_all, map-set, length-map, get_or-set_same, get_or-set_other}
use Rattle.std.proofs.lemmas.List.Folds.{list_any-append}
use Rattle.std.proofs.lemmas.Option.{same_Some, none-some, slice_get_within, slice_get-get_or, get_or_from_slice_get}
use Rattle.entity_id.specs.declared.entity.Entity.{Entity}
use Rattle.entity_id.specs.FiniteMap as entries
use Rattle.entity_id.specs.Identifiers.{is_same}
use Rattle.entity_id.specs.Matching.{is_in}
use Rattle.entity_id.proofs.ListLemmas.{slice_get-set_same, slice_get-set_other}
use Rattle.entity_id.proofs.MapLemmas.{same_itself, same_true}
use Rattle.entity_id.proofs.PackedListLemmas.{any_none}
use Rattle.sparse_set.specs.PackedSets.{AreDistinct}
use Rattle.storage.specs.Stored.{Stored}
use Rattle.world_model.specs.declared.group.GroupDecl.{GroupDecl}
use Rattle.world_model.specs.Groups.{has_pool, group_pools, packed_at}
use Rattle.group_engine.specs.Grouped.{Core, core_of, cores_of, packed_of, passes, matches, IsPartitioned, IsGrouped, AreGrouped, AreStill, moves, cost_of}
use Rattle.group_engine.specs.Families as families
use Rattle.group_engine.specs.Families.{IsFamily, IsOutermostFirst}
use Rattle.group_engine.specs.Moving.{IsReady, IsMoved, AreMoved, but_for, in_if, matches_if, comes_in, HaveSame, Comes, came, stayed_out, cost_in}
use Rattle.group_engine.specs.Clearing.{matches_without, StandsBy, apart_from, outer_to, inner_to, KeepsBeside, refills}
use Rattle.group_engine.proofs.MoveLemmas.{others_keep, entered}
use Rattle.group_engine.proofs.FamilyLemmas.{inner_passes, inner_owns, but_other}
use Rattle.group_engine.proofs.PassLemmas.{found, moved_same, owned_has, same_tests, next_other, next_itself, AtPlace, steps_next}
use Rattle.group_engine.proofs.EndLemmas.{partition_alike, passes_alike, owned_fails, any_here}
use Rattle.group_engine.proofs.StepLemmas.{unnamed}

-- ---- tests that fail

any_of : (f : ℕ → Bool) (pools : List ℕ) (pool : ℕ) → has_pool pools pool ≡ true → f pool ≡ true → list_any f pools ≡ true
any_of f [] pool has h = absurd (false≢true has)
any_of f (o ∷ pools) pool has h = elim (or_cases (eqb o pool) (has_pool pools pool) has) [
  | inl same ↦ or_left (f o) (list_any f pools) (ap f (eqb-true o pool same) ∙ h)
  | inr further ↦ or_right (f o) (list_any f pools) (any_of f pools pool further h)
]

not_all_of : (f : ℕ → Bool) (pools : List ℕ) (pool : ℕ) → has_pool pools pool ≡ true → f pool ≡ false → list_all f pools ≡ false
not_all_of f [] pool has h = absurd (false≢true has)
not_all_of f (o ∷ pools) pool has h = elim (or_cases (eqb o pool) (has_pool pools pool) has) [
  | inl same ↦ ap (λ b. b && list_all f pools) (ap f (eqb-true o pool same) ∙ h)
  | inr further ↦ ap (λ b. f o && b) (not_all_of f pools pool further h) ∙ and-false (f o)
]

-- a test that passes in an excluded pool fails
pub excluded_fails : (d : GroupDecl) (f : ℕ → Bool) (pool : ℕ) → has_pool d.without pool ≡ true → f pool ≡ true → passes d f ≡ false
excluded_fails d f pool has h = ap (λ b. list_all f (d.own ++ d.get) && not b) (any_of f d.without pool has h) ∙ and-false (list_all f (d.own ++ d.get))

-- without a pool that is held nothing matches
unheld : (packed : List (List Entity)) (e : Entity) (p : ℕ) (held : Bool) → in_if packed e p held p ≡ held
unheld packed e p held = ap (λ b. cond b held (is_in packed e p)) (eq-eqb p p refl)

pub held_fails : (packed : List (List Entity)) (p : ℕ) (d : GroupDecl) → has_pool (d.own ++ d.get) p ≡ true → (x : Entity) → matches_without packed p d x ≡ false
held_fails packed p d held x = ap (λ b. b && not (list_any (in_if packed x p false) d.without)) (not_all_of (in_if packed x p false) (d.own ++ d.get) p held (unheld packed x p false))

-- an identifier that is in the pool as it says
as_it_is : (packed : List (List Entity)) (x : Entity) (p : ℕ) (d : GroupDecl) → matches_if packed x p (is_in packed x p) d ≡ matches packed d x
as_it_is packed x p d = passes_alike d (in_if packed x p (is_in packed x p)) (is_in packed x) (λ q. elim (cases_Bool (eqb q p)) [
  | inl is ↦ ap (λ b. cond b (is_in packed x p) (is_in packed x q)) is ∙ sym (ap (is_in packed x) (eqb-true q p is))
  | inr differs ↦ ap (λ b. cond b (is_in packed x p) (is_in packed x q)) differs
])

-- ---- one group that excludes the pool, entered by one identifier after another

-- those that match where the first so many of the pool's identifiers are out of it
abbrev pub taken : List (List Entity) → ℕ → GroupDecl → ℕ → Entity → Bool
taken base p d k x = matches_if base x p (list_any (is_same x) (drop k (packed_at base p))) d

-- the group once so many places of the pool were walked
pub record IsEntered (base now : List (List Entity)) (p : ℕ) (d : GroupDecl) (k count : ℕ) : Type 0 where
  pub mine : IsPartitioned now d.own count (taken base p d k)
  pub keeps : KeepsBeside p d base now
  pub more : (x : Entity) → matches base d x ≡ true → taken base p d k x ≡ true
  pub still : AreStill (has_pool d.own) base now
  pub same : HaveSame base now

at_dropped : {X : Type 0} (xs : List X) (n j : ℕ) (x : X) → slice_get (drop n xs) j ≡ Some x → slice_get xs (n + j) ≡ Some x
at_dropped xs zero j x h = ap (slice_get xs) (let z : 0 + j ≡ j = omega arith in z) ∙ h
at_dropped [] (suc n) j x h = absurd (none-some x h)
at_dropped (y ∷ xs) (suc n) j x h = ap (slice_get (y ∷ xs)) (let z : suc n + j ≡ suc (n + j) = omega arith in z) ∙ at_dropped xs n j x h

module _ (base : List (List Entity)) (p : ℕ) (d : GroupDecl) where
  pub none_entered : (count : ℕ) → IsGrouped base d count → IsEntered base base p d 0 count
  none_entered count grouped = record {
    mine = partition_alike base d.own count (matches base d) (taken base p d 0) grouped (λ x. as_it_is base x p d);
    keeps = λ c n inside stands h. h;
    more = λ x h. as_it_is base x p d ∙ h;
    still = record { still = λ q none. refl };
    same = λ x q. refl;
  }

  pub all_entered : (now : List (List Entity)) (k count : ℕ) → length (packed_at base p) ≤ k → IsEntered base now p d k count → IsPartitioned now d.own count (matches_without base p d)
  all_entered now k count past h = partition_alike now d.own count (taken base p d k) (matches_without base p d) h.mine
      (λ x. ap (λ (l : List Entity). matches_if base x p (list_any (is_same x) l) d) (sym (drop_of_length-le (packed_at base p) past)))

  module _ (free : has_pool d.own p ≡ false) (excluded : has_pool d.without p ≡ true) (distinct : AreDistinct (packed_at base p))
      (now new : List (List Entity)) (k count m : ℕ) (e : Entity) (h : IsEntered base now p d k count) (here : slice_get (packed_at base p) k ≡ Some e) where
    abbrev list : List Entity
    list = packed_at base p

    rest_next : drop k list ≡ e ∷ drop (k + 1) list
    rest_next = drop_more list k e (slice_get_within list k e here) ∙ ap (λ v. v ∷ drop (k + 1) list) (get_or_from_slice_get list k e e here)

    still_in : list_any (is_same e) (drop k list) ≡ true
    still_in = ap (list_any (is_same e)) rest_next ∙ or_left (is_same e e) (list_any (is_same e) (drop (k + 1) list)) (same_itself e)

    out_then : list_any (is_same e) (drop (k + 1) list) ≡ false
    out_then = elim (cases_Bool (list_any (is_same e) (drop (k + 1) list))) [
      | inr none ↦ none
      | inl some ↦
          let at = found e (drop (k + 1) list) some in
          absurd (let one : k ≡ k + 1 + at.0 = distinct k (k + 1 + at.0) e e here (at_dropped list (k + 1) at.0 e at.1) refl in omega arith)
    ]

    -- with it in the pool it doesn't match
    was_out : taken base p d k e ≡ false
    was_out = ap (λ b. matches_if base e p b d) still_in ∙ excluded_fails d (in_if base e p true) p excluded (unheld base e p true)

    is_then : taken base p d (k + 1) e ≡ matches_without base p d e
    is_then = ap (λ b. matches_if base e p b d) out_then

    others_as_before : (x : Entity) → is_same x e ≡ false → taken base p d (k + 1) x ≡ taken base p d k x
    others_as_before x differs = ap (λ b. matches_if base x p b d) (sym (ap (list_any (is_same x)) rest_next ∙ ap (λ b. b || list_any (is_same x) (drop (k + 1) list)) differs))

    comes_as : comes_in now e p false d ≡ matches_without base p d e
    comes_as = ap₂ (λ a b. not a && b) (excluded_fails d (in_if now e p true) p excluded (unheld now e p true)) (same_tests base now e p false d h.same)

    before : IsPartitioned now d.own count (but_for e false (taken base p d k))
    before = partition_alike now d.own count (taken base p d k) (but_for e false (taken base p d k)) h.mine (λ x. elim (cases_Bool (is_same x e)) [
      | inl is ↦ ap (λ b. cond b false (taken base p d k x)) is ∙ sym (ap (taken base p d k) (same_true x e is) ∙ was_out)
      | inr differs ↦ but_other e false (taken base p d k) x differs
    ])

    -- wherever it stands it stands behind the group
    behind : (q j : ℕ) → has_pool d.own q ≡ true → slice_get (packed_at now q) j ≡ Some e → count ≤ j
    behind q j has at = ltb-false j count (h.mine.split q j e has at ∙ was_out)

    more_then : (x : Entity) → matches base d x ≡ true → taken base p d (k + 1) x ≡ true
    more_then x is = elim (cases_Bool (is_same x e)) [
      | inl same ↦ absurd (false≢true (sym was_out ∙ ap (taken base p d k) (sym (same_true x e same)) ∙ h.more x is))
      | inr differs ↦ others_as_before x differs ∙ h.more x is
    ]

    module _ (matching : matches_without base p d e ≡ true) (move : AreMoved d.own e count now new) where
      -- an inner group has none of those that don't match yet
      none_inside : (inside : Entity → Bool) → ((x : Entity) → inside x ≡ true → matches base d x ≡ true) → (x : Entity) → taken base p d k x ≡ false → inside x ≡ false
      none_inside inside within x out = elim (cases_Bool (inside x)) [
        | inr none ↦ none
        | inl is ↦ absurd (false≢true (sym out ∙ h.more x (within x is)))
      ]

      keeps_one : (c : GroupDecl) (n : ℕ) (inside : Entity → Bool) → StandsBy base p d c inside → IsPartitioned now c.own n inside → IsPartitioned new c.own n inside
      keeps_one c n inside stands old = elim stands [
        | apart_from none ↦ others_keep d.own c.own e count n inside now new move old
            (λ q has has'. absurd (false≢true (sym (none q has) ∙ has')))
            (λ q r has has' has'' is. absurd (false≢true (sym (none q has) ∙ has')))
        | outer_to around all ↦
            let held : inside e ≡ true = all e matching in
            others_keep d.own c.own e count n inside now new move old
            (λ q has has'. (let mv : IsMoved e count (packed_at now q) (packed_at new q) = move.moved q has in
            let past : count ≤ mv.from = behind q mv.from has mv.here in
            let less : mv.from < n = ltb-true mv.from n (old.split q mv.from e has' mv.here ∙ held) in
            lt-ltb count n (omega arith)) ∙ sym held)
            (λ q r has has' has'' is. inner_owns d c r around has'')
        | inner_to within only ↦
            let out : inside e ≡ false = none_inside inside only e was_out in
            others_keep d.own c.own e count n inside now new move old
            (λ q has has'. (let mv : IsMoved e count (packed_at now q) (packed_at new q) = move.moved q has in
            let low : count < length (packed_at now q) = mv.within in
            let x : Entity = get_or (packed_at now q) count e in
            let at : slice_get (packed_at now q) count ≡ Some x = slice_get-get_or (packed_at now q) count e low in
            let apart : taken base p d k x ≡ false = sym (h.mine.split q count x has at) ∙ le-ltb count count (omega arith) in
            old.split q count x has' at ∙ none_inside inside only x apart) ∙ sym out)
            (λ q r has has' has'' is. absurd (false≢true (sym out ∙ is)))
      ]

      entered_more : IsEntered base new p d (k + 1) (count + 1)
      entered_more = record {
        mine = partition_alike new d.own (count + 1) (but_for e true (taken base p d k)) (taken base p d (k + 1)) (entered d.own e count (taken base p d k) now new move before) (λ x. elim (cases_Bool (is_same x e)) [
          | inl is ↦ ap (taken base p d (k + 1)) (same_true x e is) ∙ is_then ∙ matching ∙ sym (ap (λ b. cond b true (taken base p d k x)) is)
          | inr differs ↦ others_as_before x differs ∙ sym (but_other e true (taken base p d k) x differs)
        ]);
        keeps = λ c n inside stands old. keeps_one c n inside stands (h.keeps c n inside stands old);
        more = more_then;
        still = record { still = λ q none. move.others q none ∙ h.still.still q none };
        same = λ x q. moved_same d.own e count now new move x q ∙ h.same x q;
      }

    entered_past : matches_without base p d e ≡ false → IsEntered base now p d (k + 1) count
    entered_past out = record {
      mine = partition_alike now d.own count (taken base p d k) (taken base p d (k + 1)) h.mine (λ x. elim (cases_Bool (is_same x e)) [
        | inl is ↦ ap (taken base p d (k + 1)) (same_true x e is) ∙ is_then ∙ out ∙ sym (ap (taken base p d k) (same_true x e is) ∙ was_out)
        | inr differs ↦ others_as_before x differs
      ]);
      keeps = h.keeps;
      more = more_then;
      still = h.still;
      same = h.same;
    }

    pub entered_next : Comes (comes_in now e p false d) d.own e count m now new → IsEntered base new p d (k + 1) m
    entered_next step = elim step [
      | came is move more ↦ subst (IsEntered base new p d (k + 1)) (sym more) (entered_more (sym comes_as ∙ is) move)
      | stayed_out is still as_long ↦ subst (λ l. IsEntered base l p d (k + 1) m) (sym still) (subst (IsEntered base now p d (k + 1)) (sym as_long) (entered_past (sym comes_as ∙ is)))
    ]

    pub entered_ready : comes_in now e p false d ≡ true → (q : ℕ) → has_pool d.own q ≡ true → IsReady e count (packed_at now q)
    entered_ready is q has =
        let here_now : slice_get (packed_at now p) k ≡ Some e = ap (λ l. slice_get l k) (h.still.still p free) ∙ here in
        let matching : matches_if now e p false d ≡ true = (and_parts (not (matches_if now e p true d)) (matches_if now e p false d) is).1 in
        let contained : is_in now e q ≡ true = owned_has now e p false d (any_here e (packed_at now p) k here_now) matching q has in
        let at = found e (packed_at now q) contained in
        let past : count ≤ at.0 = behind q at.0 has at.1 in
        let low : at.0 < length (packed_at now q) = slice_get_within (packed_at now q) at.0 e at.1 in
        record { contained = contained; within = omega arith }

-- ---- one group

-- a group that owns or observes the pool is empty then
pub held_empty : (packed : List (List Entity)) (p : ℕ) (d : GroupDecl) → has_pool (d.own ++ d.get) p ≡ true → IsPartitioned packed d.own 0 (matches_without packed p d)
held_empty packed p d held = record {
  within = λ q has. omega arith;
  common = λ q r k has has' less. absurd (omega arith);
  split = λ q k x has at. le-ltb k 0 (omega arith) ∙ sym (held_fails packed p d held x);
}

-- and one that doesn't name the pool stays
pub unnamed_stays : (packed : List (List Entity)) (p : ℕ) (d : GroupDecl) (count : ℕ) → has_pool (group_pools d) p ≡ false → IsGrouped packed d count → IsPartitioned packed d.own count (matches_without packed p d)
unnamed_stays packed p d count none grouped = partition_alike packed d.own count (matches packed d) (matches_without packed p d) grouped (λ x. unnamed packed x p false (is_in packed x p) d none ∙ as_it_is packed x p d)

-- ---- all groups

-- what a group has: the groups up to a place of the order have those that match without the pool
abbrev pub clearing : List (List Entity) → ℕ → List ℕ → ℕ → ℕ → GroupDecl → Entity → Bool
clearing base p order i h c = cond (has_pool (take i order) h) (matches_without base p c) (matches base c)

-- all groups once so many places of the order were walked
pub record AreCleared (base : List (List Entity)) (p : ℕ) (decls : List GroupDecl) (order lens : List ℕ) (now : List (List Entity)) (i : ℕ) : Type 0 where
  pub each : (group : ℕ) (decl : GroupDecl) (count : ℕ) → slice_get decls group ≡ Some decl → slice_get lens group ≡ Some count → IsPartitioned now decl.own count (clearing base p order i group decl)

same_owned : (old new : List (List Entity)) (own : List ℕ) (count : ℕ) (inside : Entity → Bool) → ((q : ℕ) → has_pool own q ≡ true → packed_at new q ≡ packed_at old q) → IsPartitioned old own count inside → IsPartitioned new own count inside
same_owned old new own count inside same h = record {
  within = λ q has. subst (λ l. count ≤ length l) (sym (same q has)) (h.within q has);
  common = λ q r k has has' less. ap (λ l. slice_get l k) (same q has) ∙ h.common q r k has has' less ∙ sym (ap (λ l. slice_get l k) (same r has'));
  split = λ q k x has at. h.split q k x has (ap (λ l. slice_get l k) (sym (same q has)) ∙ at);
}

matches_same : (base now : List (List Entity)) (c : GroupDecl) (x : Entity) → HaveSame base now → matches now c x ≡ matches base c x
matches_same base now c x same = passes_alike c (is_in now x) (is_in base x) (same x)

module _ (base : List (List Entity)) (p : ℕ) (decls : List GroupDecl) (order : List ℕ) where
  pub none_cleared : (lens : List ℕ) → AreGrouped decls lens base → AreCleared base p decls order lens base 0
  none_cleared lens grouped = record { each = grouped.each }

  module _ (family : IsFamily decls) (ordered : IsOutermostFirst decls order) (lens : List ℕ) (now new : List (List Entity)) (i : ℕ) (a : GroupDecl) (here : AtPlace decls order lens i a)
      (h : AreCleared base p decls order lens now i) (same : HaveSame base now) where
    abbrev g : ℕ
    g = get_or order i 0

    -- the next group is as it was
    pub not_yet : IsGrouped now a (get_or lens g 0)
    not_yet = partition_alike now a.own (get_or lens g 0) (clearing base p order i g a) (matches now a) (h.each g a (get_or lens g 0) here.here here.long)
        (λ x. matches_same base now a x same ∙ sym (ap (λ b. cond b (matches_without base p a) (matches base a) x) (ordered.once i g here.at)))

    stands_by : (other : ℕ) (c : GroupDecl) → slice_get decls other ≡ Some c → other ≢ g → StandsBy now p a c (clearing base p order i other c)
    stands_by other c there differs = elim (family.nested g other a c here.here there differs) [
      | families.apart_from none ↦ apart_from none
      | families.inner_to within ↦ outer_to within (λ x passing.
          ap (λ b. cond b (matches_without base p c) (matches base c) x) (ordered.outer_before i g other a c here.at here.here there within differs)
          ∙ inner_passes a c (in_if base x p false) within (sym (same_tests base now x p false a same) ∙ passing))
      | families.outer_to around ↦ inner_to around (λ x has.
          inner_passes c a (is_in now x) around (matches_same base now c x same
          ∙ sym (ap (λ b. cond b (matches_without base p c) (matches base c) x) (ordered.inner_after i g other a c here.at here.here there around differs)) ∙ has))
    ]

    pub cleared_next : (m : ℕ) → IsPartitioned new a.own m (matches_without now p a) → KeepsBeside p a now new → AreCleared base p decls order (set lens g m) new (i + 1)
    cleared_next m done keeps = record {
      each = λ other c count there there'. elim (cases_eq other g) [
        | inl is ↦
            let one : a ≡ c = same_Some a c (sym here.here ∙ ap (slice_get decls) (sym is) ∙ there) in
            let now_long : m ≡ count = same_Some m count (sym (slice_get-set_same lens g m (slice_get_within lens g (get_or lens g 0) here.long)) ∙ ap (slice_get (set lens g m)) (sym is) ∙ there') in
            partition_alike new c.own count (matches_without now p c) (clearing base p order (i + 1) other c)
            (subst (λ (v : GroupDecl). IsPartitioned new v.own count (matches_without now p v)) one (subst (λ (v : ℕ). IsPartitioned new a.own v (matches_without now p a)) now_long done))
            (λ x. ap (λ k. clearing base p order (i + 1) k c x) is ∙ ap (λ b. cond b (matches_without base p c) (matches base c) x) (next_itself order i g here.at) ∙ sym (same_tests base now x p false c same))
        | inr differs ↦
            let long : slice_get lens other ≡ Some count = sym (slice_get-set_other lens g other m differs) ∙ there' in
            partition_alike new c.own count (clearing base p order i other c) (clearing base p order (i + 1) other c)
            (keeps c count (clearing base p order i other c) (stands_by other c there differs) (h.each other c count there long))
            (λ x. ap (λ b. cond b (matches_without base p c) (matches base c) x) (next_other order i g other here.at differs))
      ];
    }

    -- a pool that no group which names the cleared one owns stays as it is
    pub still_next : AreStill (moves decls p) base now → AreStill (refills a p) now new → AreStill (moves decls p) base new
    still_next before step = record { still = λ q none. step.still q (kept q (any_none (λ (d : GroupDecl). has_pool (group_pools d) p && has_pool d.own q) decls none g a here.here)) ∙ before.still q none }
      where
        kept : (q : ℕ) → (has_pool (group_pools a) p && has_pool a.own q) ≡ false → refills a p q ≡ false
        kept q none = elim (cases_Bool (has_pool a.without p)) [
          | inr out ↦ ap (λ b. b && has_pool a.own q) out
          | inl excluded ↦
              let named : has_pool (group_pools a) p ≡ true = list_any-append (λ o. eqb o p) (a.own ++ a.get) a.without ∙ or_right (has_pool (a.own ++ a.get) p) (has_pool a.without p) excluded in
              ap (λ b. b && has_pool a.own q) excluded ∙ sym (ap (λ b. b && has_pool a.own q) named) ∙ none
        ]

  module _ (ordered : IsOutermostFirst decls order) (lens : List ℕ) (now : List (List Entity)) (i : ℕ) (past : length order ≤ i) (low : p < length now)
      (h : AreCleared base p decls order lens now i) (same : HaveSame base now) where
    abbrev cleared : List (List Entity)
    cleared = set now p []

    other_pools : (q : ℕ) → eqb q p ≡ false → packed_at cleared q ≡ packed_at now q
    other_pools q apart = get_or-set_other now p q [] [] (λ is. false≢true (sym apart ∙ eq-eqb q p is))

    -- no identifier is in the pool then
    then_matches : (c : GroupDecl) (x : Entity) → matches cleared c x ≡ matches_without base p c x
    then_matches c x = passes_alike c (is_in cleared x) (in_if base x p false) (λ q. elim (cases_Bool (eqb q p)) [
      | inl is ↦ ap (is_in cleared x) (eqb-true q p is) ∙ ap (list_any (is_same x)) (get_or-set_same now p [] [] low) ∙ sym (ap (λ b. cond b false (is_in base x q)) is)
      | inr apart ↦ ap (list_any (is_same x)) (other_pools q apart) ∙ same x q ∙ sym (ap (λ b. cond b false (is_in base x q)) apart)
    ])

    -- a group that owns the pool has no members
    owned_empty : (c : GroupDecl) (count : ℕ) → has_pool c.own p ≡ true → IsPartitioned now c.own count (matches_without base p c) → count ≡ 0
    owned_empty c zero owned done = refl
    owned_empty c (suc count) owned done = absurd (nobody (packed_at now p) refl)
      where
        nobody : (l : List Entity) → packed_at now p ≡ l → ⊥
        nobody [] is = (let fits : suc count ≤ length (packed_at now p) = done.within p owned in let none : length (packed_at now p) ≡ 0 = ap length is in omega arith)
        nobody (x ∷ l) is = false≢true (sym (done.split p 0 x owned (ap (λ v. slice_get v 0) is) ∙ owned_fails c (in_if base x p false) p owned (unheld base x p false)) ∙ lt-ltb 0 (suc count) (omega arith))

    then_grouped : (c : GroupDecl) (count : ℕ) → IsPartitioned now c.own count (matches_without base p c) → IsGrouped cleared c count
    then_grouped c count done = partition_alike cleared c.own count (matches_without base p c) (matches cleared c) (elim (cases_Bool (has_pool c.own p)) [
      | inl owned ↦ subst (λ n. IsPartitioned cleared c.own n (matches_without base p c)) (sym (owned_empty c count owned done)) (record {
        within = λ q has. omega arith;
        common = λ q r k has has' less. absurd (omega arith);
        split = λ q k x has at. le-ltb k 0 (omega arith) ∙ sym (owned_fails c (in_if base x p false) p owned (unheld base x p false));
      })
      | inr free ↦ same_owned now cleared c.own count (matches_without base p c) (λ q has. elim (cases_Bool (eqb q p)) [
        | inl is ↦ absurd (false≢true (sym free ∙ ap (has_pool c.own) (sym (eqb-true q p is)) ∙ has))
        | inr apart ↦ other_pools q apart
      ]) done
    ]) (then_matches c)

    pub all_cleared : AreGrouped decls lens cleared
    all_cleared = record {
      each = λ group c count there there'. then_grouped c count
          (partition_alike now c.own count (clearing base p order i group c) (matches_without base p c) (h.each group c count there there')
          (λ x. sym (ap (λ b. cond b (matches_without base p c) (matches base c) x) (ap (λ l. has_pool l group) (take_all i order past) ∙ ordered.complete group (slice_get_within decls group c there)))));
    }

-- ---- steps

-- the lists of the pools are as long as their cores say
pub as_long : {T : Type 0} (old new : List (Stored T)) (p : ℕ) → cores_of new ≡ cores_of old → length (packed_at (packed_of new) p) ≡ length (packed_at (packed_of old) p)
as_long {T = T} old new p same = long new ∙ ap (λ (l : List (Core T)). (get_or l p (core_of none)).len) same ∙ sym (long old)
  where
    none : Stored T
    none = record { pairs = []; spare = 0; index_bound = 0 }

    long : (pools : List (Stored T)) → length (packed_at (packed_of pools) p) ≡ (get_or (cores_of pools) p (core_of none)).len
    long pools =
        ap length (get_or-map (λ (stored : Stored T). entries.keys stored.pairs) pools p none)
        ∙ length-map (get_or pools p none).pairs (λ pair. pair.0)
        ∙ ap (λ (v : Core T). v.len) (sym (get_or-map core_of pools p none))

-- one group's steps more, as often as the pool has identifiers
pub times_next : (decls : List GroupDecl) (f : GroupDecl → Bool) (order lens : List ℕ) (i : ℕ) (a : GroupDecl) (times before after start : ℕ) → AtPlace decls order lens i a → i < length order
    → before ≤ start + times * sum_by (cost_in decls f) (take i order) → after ≤ before + times * cost_of (f a) a → after ≤ start + times * sum_by (cost_in decls f) (take (i + 1) order)
times_next decls f order lens i a times before after start place low h step =
    let done = sum_by (cost_in decls f) (take i order) in
    let next = sum_by (cost_in decls f) (take (i + 1) order) in
    let grown : done + cost_of (f a) a ≤ 0 + next = steps_next decls f order lens i a (f a) done (done + cost_of (f a) a) 0 place refl low (omega arith) (omega arith) in
    let all : times * (done + cost_of (f a) a) ≤ times * next = mul-le-mul_left times (omega (arith, grown)) in
    more_than times done (cost_of (f a) a) next before after start all h step
  where
    more_than : (n a c b before after start : ℕ) → n * (a + c) ≤ n * b → before ≤ start + n * a → after ≤ before + n * c → after ≤ start + n * b
    more_than n a c b before after start h h' h'' = grind arith

-- ---- the pool is empty

pub emptied : {T : Type 0} (decls : List GroupDecl) (lens : List ℕ) (pools : List (Stored T)) (p : ℕ) (new : Stored T) → AreGrouped decls lens (set (packed_of pools) p []) → new.pairs ≡ [] → AreGrouped decls lens (packed_of (set pools p new))
emptied {T = T} decls lens pools p new grouped none =
    subst (AreGrouped decls lens) (sym (map-set (λ (stored : Stored T). entries.keys stored.pairs) pools p new ∙ ap (λ (l : List (Entity × T)). set (packed_of pools) p (entries.keys l)) none)) grouped
