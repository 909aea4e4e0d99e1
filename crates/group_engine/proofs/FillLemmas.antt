-- A group filled by a walk of its first owned pool.
use Rattle.std.proofs.Common.{◌≡◌, ℕ, ◌+◌, ◌<◌, ◌≤◌, Bool, true, false, not, ◌&&◌, ◌||◌, cond, eqb, List, [], ◌∷◌, ◌++◌, take, length, get_or, Some, slice_get, sym, refl, ap, ap₂, subst, ◌∙◌, inl, inr, arith}
use Rattle.std.specs.List.{list_any, swap}
use Rattle.std.proofs.lemmas.Bool.{cases_Bool, cases_eq, cases_lt, false≢true, lt-ltb, ltb-true, le-ltb, ltb-false, or_left, or_right, eq-eqb, eqb-true, and_from}
use Rattle.std.proofs.lemmas.List.{take_more, take_all}
use Rattle.std.proofs.lemmas.List.Folds.{list_any-append}
use Rattle.std.proofs.lemmas.Option.{same_Some, slice_get_within, slice_get-get_or, get_or_from_slice_get}
use Rattle.entity_id.specs.declared.entity.Entity.{Entity}
use Rattle.entity_id.specs.Identifiers.{is_same}
use Rattle.entity_id.specs.Matching.{is_in}
use Rattle.entity_id.proofs.MapLemmas.{same_itself, same_true}
use Rattle.entity_id.proofs.PackedListLemmas.{at_taken, swap-itself}
use Rattle.sparse_set.specs.PackedSets.{AreDistinct}
use Rattle.world_model.specs.declared.group.GroupDecl.{GroupDecl}
use Rattle.world_model.specs.Groups.{has_pool, is_inner, packed_at}
use Rattle.group_engine.specs.Grouped.{matches, IsPartitioned, IsGrouped, AreStill}
use Rattle.group_engine.specs.Families.{StandsTo, apart_from, inner_to, outer_to, KeepsGroups}
use Rattle.group_engine.specs.Moving.{matches_if, in_if, comes_in, IsReady, IsMoved, AreMoved, but_for, HaveSame, Comes, came, stayed_out}
use Rattle.group_engine.proofs.MoveLemmas.{others_keep, entered, only_here, to_target, from_target, beside}
use Rattle.group_engine.proofs.FamilyLemmas.{inner_passes, inner_owns, but_other}
use Rattle.group_engine.proofs.PassLemmas.{found, moved_same, owned_has}
use Rattle.group_engine.proofs.EndLemmas.{partition_alike, passes_alike, owned_fails, any_here}

-- the same lists in each pool
same_lists : (old new : List (List Entity)) (own : List ℕ) (count : ℕ) (inside : Entity → Bool) → ((q : ℕ) → packed_at new q ≡ packed_at old q) → IsPartitioned old own count inside → IsPartitioned new own count inside
same_lists old new own count inside same h = record {
  within = λ q has. subst (λ l. count ≤ length l) (sym (same q)) (h.within q has);
  common = λ q r k has has' less. ap (λ l. slice_get l k) (same q) ∙ h.common q r k has has' less ∙ sym (ap (λ l. slice_get l k) (same r));
  split = λ q k x has at. h.split q k x has (ap (λ l. slice_get l k) (sym (same q)) ∙ at);
}

-- with the first pool held, what comes in is what matches
pub comes_matches : (now : List (List Entity)) (e : Entity) (p : ℕ) (d : GroupDecl) → has_pool d.own p ≡ true → is_in now e p ≡ true → comes_in now e p true d ≡ matches now d e
comes_matches now e p d owned here =
    ap₂ (λ a b. not a && b) (owned_fails d (in_if now e p false) p owned (ap (λ b. cond b false (is_in now e p)) (eq-eqb p p refl)))
    (passes_alike d (in_if now e p true) (is_in now e) (λ q. elim (cases_Bool (eqb q p)) [
      | inl is ↦ ap (λ b. cond b true (is_in now e q)) is ∙ sym (ap (is_in now e) (eqb-true q p is) ∙ here)
      | inr apart ↦ ap (λ b. cond b true (is_in now e q)) apart
    ]))

-- those of a list that were walked already and match
abbrev pub seen : List (List Entity) → GroupDecl → List Entity → ℕ → Entity → Bool
seen base d list place x = matches base d x && list_any (is_same x) (take place list)

-- the group once so many places of a pool that it owns were walked
pub record IsFilled (base now : List (List Entity)) (d : GroupDecl) (first : ℕ) (place count : ℕ) : Type 0 where
  pub mine : IsPartitioned now d.own count (seen base d (packed_at base first) place)
  pub keeps : KeepsGroups d base now
  pub rest : (k : ℕ) → place ≤ k → slice_get (packed_at now first) k ≡ slice_get (packed_at base first) k
  pub front : (k : ℕ) (x : Entity) → k < place → slice_get (packed_at now first) k ≡ Some x → list_any (is_same x) (take place (packed_at base first)) ≡ true
  pub low : count ≤ place
  pub same : HaveSame base now
  pub still : AreStill (has_pool d.own) base now

and_none : (a : Bool) → (a && false) ≡ false
and_none true = refl
and_none false = refl

module _ (base : List (List Entity)) (d : GroupDecl) (first : ℕ) (owned : has_pool d.own first ≡ true) where
  abbrev list : List Entity
  list = packed_at base first

  -- nothing walked yet
  pub none_filled : IsFilled base base d first 0 0
  none_filled = record {
    mine = record { within = λ q has. omega arith; common = λ q r k has has' less. absurd (omega arith); split = λ q k x has at. le-ltb k 0 (omega arith) ∙ sym (and_none (matches base d x)) };
    keeps = λ c count stands h. h;
    rest = λ k past. refl;
    front = λ k x less at. absurd (omega arith);
    low = omega arith;
    same = λ x q. refl;
    still = record { still = λ q free. refl };
  }

  module _ (distinct : AreDistinct list) (now new : List (List Entity)) (place count m : ℕ) (e : Entity) (h : IsFilled base now d first place count) (here : slice_get list place ≡ Some e) where
    here_now : slice_get (packed_at now first) place ≡ Some e
    here_now = h.rest place (omega arith) ∙ here

    -- the next one was not walked before
    unseen : list_any (is_same e) (take place list) ≡ false
    unseen = elim (cases_Bool (list_any (is_same e) (take place list))) [
      | inr none ↦ none
      | inl some ↦
          let at = found e (take place list) some in
          let low = at_taken place list at.0 e at.1 in
          absurd (let one : at.0 ≡ place = distinct at.0 place e e low.1 here refl in let less : at.0 < place = low.0 in omega arith)
    ]

    next_seen : (x : Entity) → list_any (is_same x) (take (place + 1) list) ≡ (list_any (is_same x) (take place list) || is_same x e)
    next_seen x =
        ap (list_any (is_same x)) (take_more list place e (slice_get_within list place e here) ∙ ap (λ v. take place list ++ v ∷ []) (get_or_from_slice_get list place e e here))
        ∙ list_any-append (is_same x) (take place list) (e ∷ [])
        ∙ ap (λ b. list_any (is_same x) (take place list) || b) (or_nothing (is_same x e))
      where
        or_nothing : (b : Bool) → (b || false) ≡ b
        or_nothing true = refl
        or_nothing false = refl

    or_nothing' : (b : Bool) → (b || false) ≡ b
    or_nothing' true = refl
    or_nothing' false = refl

    still_out : (x : Entity) → but_for e false (seen base d list place) x ≡ seen base d list place x
    still_out x = elim (cases_Bool (is_same x e)) [
      | inl is ↦ ap (λ b. cond b false (seen base d list place x)) is ∙ sym (ap (seen base d list place) (same_true x e is) ∙ ap (λ b. matches base d e && b) unseen ∙ and_none (matches base d e))
      | inr differs ↦ but_other e false (seen base d list place) x differs
    ]

    before : IsPartitioned now d.own count (but_for e false (seen base d list place))
    before = partition_alike now d.own count (seen base d list place) (but_for e false (seen base d list place)) h.mine still_out

    -- wherever it stands it stands behind the group
    behind : (q k : ℕ) → has_pool d.own q ≡ true → slice_get (packed_at now q) k ≡ Some e → count ≤ k
    behind q k has at = ltb-false k count (h.mine.split q k e has at ∙ ap (λ b. matches base d e && b) unseen ∙ and_none (matches base d e))

    -- a group that is inner to this one is not longer than what was walked, and lies within this one
    inner_front : (c : GroupDecl) (n k : ℕ) → is_inner c d ≡ true → IsGrouped now c n → k < n → k < place → k < count
    inner_front c n k within old less walked =
        let x = get_or (packed_at now first) k e in
        let at : slice_get (packed_at now first) k ≡ Some x = slice_get-get_or (packed_at now first) k e (let w : place < length (packed_at now first) = slice_get_within (packed_at now first) place e here_now in omega arith) in
        let member : matches now c x ≡ true = sym (old.split first k x (inner_owns c d first within owned) at) ∙ lt-ltb k n less in
        let also : matches base d x ≡ true = sym (passes_alike d (is_in now x) (is_in base x) (h.same x)) ∙ inner_passes c d (is_in now x) within member in
        ltb-true k count (h.mine.split first k x owned at ∙ and_from (matches base d x) (list_any (is_same x) (take place list)) also (h.front k x walked at))

    module _ (matching : matches base d e ≡ true) (move : AreMoved d.own e count now new) where
      mv : IsMoved e count (packed_at now first) (packed_at new first)
      mv = move.moved first owned

      at_first : place ≡ mv.from
      at_first = only_here e count (packed_at now first) (packed_at new first) mv place here_now

      -- where the identifier is in an inner group, it stays where it is
      nothing_moves : (c : GroupDecl) (n : ℕ) → is_inner c d ≡ true → IsGrouped now c n → matches now c e ≡ true → (q : ℕ) → packed_at new q ≡ packed_at now q
      nothing_moves c n within old is_in_c q = elim (cases_Bool (has_pool d.own q)) [
        | inr other ↦ move.others q other
        | inl has ↦
            let mv' : IsMoved e count (packed_at now q) (packed_at new q) = move.moved q has in
            let less : place < n = ltb-true place n (old.split first place e (inner_owns c d first within owned) here_now ∙ is_in_c) in
            let counted : count ≡ place = elim (cases_lt count place) [
              | inl short ↦ absurd (let w : count < count = inner_front c n count within old (omega arith) short in omega arith)
              | inr full ↦ (let l : count ≤ place = h.low in omega arith)
            ] in
            let there : slice_get (packed_at now q) place ≡ Some e = old.common q first place (inner_owns c d q within has) (inner_owns c d first within owned) less ∙ here_now in
            let from : place ≡ mv'.from = only_here e count (packed_at now q) (packed_at new q) mv' place there in
            mv'.swapped ∙ ap₂ (swap (packed_at now q)) (sym from) counted ∙ swap-itself (packed_at now q) place
      ]

      keeps_one : (c : GroupDecl) (n : ℕ) → StandsTo d c → IsGrouped now c n → IsPartitioned new c.own n (matches now c)
      keeps_one c n stands old = elim stands [
        | apart_from none ↦ others_keep d.own c.own e count n (matches now c) now new move old
            (λ q has has'. absurd (false≢true (sym (none q has) ∙ has')))
            (λ q r has has' has'' is. absurd (false≢true (sym (none q has) ∙ has')))
        | inner_to within ↦
            let also : matches now c e ≡ true = inner_passes d c (is_in now e) within (passes_alike d (is_in now e) (is_in base e) (h.same e) ∙ matching) in
            others_keep d.own c.own e count n (matches now c) now new move old
            (λ q has has'. (let mv' : IsMoved e count (packed_at now q) (packed_at new q) = move.moved q has in
            let past : count ≤ mv'.from = behind q mv'.from has mv'.here in
            let less : mv'.from < n = ltb-true mv'.from n (old.split q mv'.from e has' mv'.here ∙ also) in
            lt-ltb count n (omega arith)) ∙ sym also)
            (λ q r has has' has'' is. inner_owns d c r within has'')
        | outer_to around ↦ elim (cases_Bool (matches now c e)) [
          | inl is ↦ same_lists now new c.own n (matches now c) (nothing_moves c n around old is) old
          | inr out ↦ others_keep d.own c.own e count n (matches now c) now new move old
              (λ q has has'. (let past : n ≤ place = ltb-false place n (old.split first place e (inner_owns c d first around owned) here_now ∙ out) in
              let all : n ≤ count = elim (cases_lt count n) [
                | inl short ↦ absurd (let w : count < count = inner_front c n count around old short (omega arith) in omega arith)
                | inr full ↦ full
              ] in
              le-ltb count n all) ∙ sym out)
              (λ q r has has' has'' is. absurd (false≢true (sym out ∙ is)))
        ]
      ]

      walked_on : (x : Entity) → seen base d list (place + 1) x ≡ but_for e true (seen base d list place) x
      walked_on x = elim (cases_Bool (is_same x e)) [
        | inl is ↦
            ap (λ b. matches base d x && b) (next_seen x ∙ or_right (list_any (is_same x) (take place list)) (is_same x e) is)
            ∙ ap (λ b. b && true) (ap (matches base d) (same_true x e is) ∙ matching)
            ∙ sym (ap (λ b. cond b true (seen base d list place x)) is)
        | inr differs ↦ ap (λ b. matches base d x && b) (next_seen x ∙ ap (λ b. list_any (is_same x) (take place list) || b) differs ∙ or_nothing' _) ∙ sym (but_other e true (seen base d list place) x differs)
      ]

      filled_more : IsFilled base new d first (place + 1) (count + 1)
      filled_more =
          let same : HaveSame base new = (λ x q. moved_same d.own e count now new move x q ∙ h.same x q) in
          record {
            mine = partition_alike new d.own (count + 1) (but_for e true (seen base d list place)) (seen base d list (place + 1)) (entered d.own e count (seen base d list place) now new move before) walked_on;
            keeps = λ c n stands old. partition_alike new c.own n (matches now c) (matches new c) (keeps_one c n stands (h.keeps c n stands old)) (λ x. passes_alike c (is_in new x) (is_in now x) (moved_same d.own e count now new move x));
            rest = λ k past. (let f : place ≡ mv.from = at_first in let l : count ≤ place = h.low in beside e count (packed_at now first) (packed_at new first) mv k (λ one. omega arith) (λ one. omega arith)) ∙ h.rest k (omega arith);
            front = λ k x less at. next_seen x ∙ elim (cases_eq k count) [
              | inl is ↦
                  let one : x ≡ e = same_Some x e (sym at ∙ ap (slice_get (packed_at new first)) is ∙ to_target e count (packed_at now first) (packed_at new first) mv) in
                  or_right (list_any (is_same x) (take place list)) (is_same x e) (ap (λ v. is_same v e) one ∙ same_itself e)
              | inr other ↦ elim (cases_eq k mv.from) [
                | inl is_from ↦
                    let l : count ≤ place = h.low in
                    let f : place ≡ mv.from = at_first in
                    let at' : slice_get (packed_at now first) count ≡ Some x = sym (from_target e count (packed_at now first) (packed_at new first) mv (λ one. other (is_from ∙ one))) ∙ ap (slice_get (packed_at new first)) (sym is_from) ∙ at in
                    or_left (list_any (is_same x) (take place list)) (is_same x e) (h.front count x (omega arith) at')
                | inr apart ↦
                    let f : place ≡ mv.from = at_first in
                    or_left (list_any (is_same x) (take place list)) (is_same x e) (h.front k x (omega arith) (sym (beside e count (packed_at now first) (packed_at new first) mv k apart other) ∙ at))
              ]
            ];
            low = (let l : count ≤ place = h.low in omega arith);
            same = same;
            still = record { still = λ q free. move.others q free ∙ h.still.still q free };
          }

    filled_past : matches base d e ≡ false → IsFilled base now d first (place + 1) count
    filled_past out = record {
      mine = partition_alike now d.own count (seen base d list place) (seen base d list (place + 1)) h.mine (λ x. elim (cases_Bool (is_same x e)) [
        | inl is ↦ (let none : matches base d x ≡ false = ap (matches base d) (same_true x e is) ∙ out in ap (λ b. b && list_any (is_same x) (take (place + 1) list)) none ∙ sym (ap (λ b. b && list_any (is_same x) (take place list)) none))
        | inr differs ↦ ap (λ b. matches base d x && b) (next_seen x ∙ ap (λ b. list_any (is_same x) (take place list) || b) differs ∙ or_nothing' _)
      ]);
      keeps = h.keeps;
      rest = λ k past. h.rest k (omega arith);
      front = λ k x less at. next_seen x ∙ elim (cases_eq k place) [
        | inl is ↦ or_right (list_any (is_same x) (take place list)) (is_same x e) (ap (λ v. is_same v e) (same_Some x e (sym at ∙ ap (slice_get (packed_at now first)) is ∙ here_now)) ∙ same_itself e)
        | inr other ↦ or_left (list_any (is_same x) (take place list)) (is_same x e) (h.front k x (omega arith) at)
      ];
      low = (let l : count ≤ place = h.low in omega arith);
      same = h.same;
      still = h.still;
    }

    is_in_first : is_in now e first ≡ true
    is_in_first = any_here e (packed_at now first) place here_now

    pub filled_next : Comes (comes_in now e first true d) d.own e count m now new → IsFilled base new d first (place + 1) m
    filled_next step =
        let test : comes_in now e first true d ≡ matches base d e = comes_matches now e first d owned is_in_first ∙ passes_alike d (is_in now e) (is_in base e) (h.same e) in
        elim step [
          | came is move more ↦ subst (IsFilled base new d first (place + 1)) (sym more) (filled_more (sym test ∙ is) move)
          | stayed_out is still as_long ↦ subst (λ l. IsFilled base l d first (place + 1) m) (sym still) (subst (IsFilled base now d first (place + 1)) (sym as_long) (filled_past (sym test ∙ is)))
        ]

    pub filled_ready : comes_in now e first true d ≡ true → (q : ℕ) → has_pool d.own q ≡ true → IsReady e count (packed_at now q)
    filled_ready is q has =
        let matching : matches_if now e first true d ≡ true = (Rattle.std.proofs.lemmas.Bool.and_parts (not (matches_if now e first false d)) (matches_if now e first true d) is).1 in
        let contained : is_in now e q ≡ true = owned_has now e first true d is_in_first matching q has in
        let at = found e (packed_at now q) contained in
        let past : count ≤ at.0 = behind q at.0 has at.1 in
        let low : at.0 < length (packed_at now q) = slice_get_within (packed_at now q) at.0 e at.1 in
        record { contained = contained; within = omega arith }

  -- all are walked
  pub all_filled : (now : List (List Entity)) (place count : ℕ) → length list ≤ place → IsFilled base now d first place count → IsGrouped now d count
  all_filled now place count past h = partition_alike now d.own count (seen base d list place) (matches now d) h.mine (λ x.
      passes_alike d (is_in now x) (is_in base x) (h.same x) ∙ sym (whole x (matches base d x) refl))
    where
      whole : (x : Entity) (b : Bool) → matches base d x ≡ b → (matches base d x && list_any (is_same x) (take place list)) ≡ matches base d x
      whole x false is = ap (λ b. b && list_any (is_same x) (take place list)) is ∙ sym is
      whole x true is =
          let walked : list_any (is_same x) (take place list) ≡ true = ap (list_any (is_same x)) (take_all place list past) ∙ own_has x is in
          ap₂ (λ a b. a && b) is walked ∙ sym is
        where
          own_has : (x : Entity) → matches base d x ≡ true → is_in base x first ≡ true
          own_has x is = elim (cases_Bool (is_in base x first)) [
            | inl held ↦ held
            | inr out ↦ absurd (false≢true (sym (owned_fails d (is_in base x) first owned out) ∙ is))
          ]
