-- Steps keep the facts.
use Rattle.std.proofs.Common.{◌≡◌, inl, inr, ℕ, zero, suc, ◌+◌, ◌<◌, Bool, true, false, ◌&&◌, ◌||◌, cond, eqb, List, [], ◌∷◌, set, map, length, get_or, Option, Some, unwrap_or, refl, sym, ap, ◌∙◌, subst, arith, get_or-set_same, get_or-set_other, length-set}
use Rattle.std.specs.FinMap as entries
use Rattle.std.specs.FinSet as sets
use Rattle.std.specs.Ordering.{nat_cmp}
use Rattle.std.specs.Cmp.{nat_cmp_total, unsigned_tied}
use Rattle.std.proofs.lemmas.Bool.{cases_eq, eqb-true, false≢true, both_ways, or_right}
use Rattle.std.proofs.lemmas.List.{length-map}
use Rattle.world_model.specs.declared.access.Access.{Access}
use Rattle.world_model.specs.Groups.{has_pool}
use Rattle.access_graph.specs.Conflicts.{access_at}
use Rattle.tick_core.specs.declared.step.Step.{Step}
use Rattle.tick_core.specs.declared.step.Step.TheVariants.{Claim, Take, Leave, Put, Finish}
use Rattle.tick_core.specs.Facts.{HasFacts, given_count}
use Rattle.tick_core.specs.States.{CoreState, PoolSet, SystemState, Versions, are_conflicting, has_given, has_taken, idle, is_done, names, start, system_at, version_at, writes, written_pools}
use Rattle.tick_core.specs.Steps.{CanClaim, CanFinish, CanGive, CanStep, CanTake, after}
use Rattle.tick_core.proofs.FactLemmas.{none_given}

-- ---- sets and versions

-- a set of pools with one pool more
pub contains-insert : (pools : PoolSet) (pool n : ℕ) → sets.contains (sets.insert pools pool) n ≡ (eqb n pool || sets.contains pools n)
contains-insert pools pool n = sets.contains-insert nat_cmp_total pools pool n ∙ ap (λ b. b || sets.contains pools n) (unsigned_tied n pool)

-- what is in a set with one pool more is that pool, or was in the set
was_in : (P : ℕ → Type 0) (pools : PoolSet) (pool n : ℕ) → P pool → (sets.contains pools n ≡ true → P n) → sets.contains (sets.insert pools pool) n ≡ true → P n
was_in P pools pool n here rest is = by (eqb n pool) refl (sym (contains-insert pools pool n) ∙ is)
  where
    by : (b : Bool) → eqb n pool ≡ b → (b || sets.contains pools n) ≡ true → P n
    by true e is = subst P (sym (eqb-true n pool e)) here
    by false e is = rest is

-- a set with one pool more has what it had
still_in : (pools : PoolSet) (pool n : ℕ) → sets.contains pools n ≡ true → sets.contains (sets.insert pools pool) n ≡ true
still_in pools pool n is = contains-insert pools pool n ∙ or_right (eqb n pool) _ is

pub get-insert : (versions : Versions) (pool version n : ℕ) → entries.get (entries.insert versions pool version) n ≡ cond (eqb n pool) (Some version) (entries.get versions n)
get-insert versions pool version n =
    entries.get-insert nat_cmp_total versions pool version n ∙ ap (λ b. cond b (Some version) (entries.get versions n)) (unsigned_tied n pool)

-- ---- counts

-- what a system counts for a pool's version
abbrev counts : List Access → ℕ → ℕ → SystemState → ℕ
counts accesses i pool p = cond (has_pool (access_at accesses i).write pool && sets.contains p.given pool) 1 0

exchange : (a b c d e : ℕ) → a + d ≡ b + e → (c + a) + d ≡ (c + b) + e
exchange a b c d e h = omega (arith, h)

turn : (a b c : ℕ) → (a + b) + c ≡ (c + b) + a
turn a b c = omega arith

count_set : (accesses : List Access) (systems : List SystemState) (i pool : ℕ) (q : SystemState) → length systems ≡ length accesses → i < length systems
    → given_count accesses (set systems i q) pool + counts accesses i pool (get_or systems i idle) ≡ given_count accesses systems pool + counts accesses i pool q
count_set accesses [] i pool q each low = absurd (omega (arith, low))
count_set [] (x ∷ systems) i pool q each low = absurd (omega (arith, each))
count_set (a ∷ accesses) (x ∷ systems) zero pool q each low =
    turn (counts (a ∷ accesses) 0 pool q) (given_count accesses systems pool) (counts (a ∷ accesses) 0 pool x)
count_set (a ∷ accesses) (x ∷ systems) (suc i) pool q each low =
    exchange (given_count accesses (set systems i q) pool) (given_count accesses systems pool) (counts (a ∷ accesses) 0 pool x) (counts accesses i pool (get_or systems i idle)) (counts accesses i pool q)
    (count_set accesses systems i pool q (omega (arith, each)) (omega (arith, low)))

same_count : (a b c d : ℕ) → a + c ≡ b + d → c ≡ d → a ≡ b
same_count a b c d h e = omega (arith, h, e)

next_count : (a b c d : ℕ) → a + c ≡ b + d → c ≡ 0 → d ≡ 1 → a ≡ b + 1
next_count a b c d h e f = omega (arith, h, e, f)

-- ---- one system goes on

module _ (state : CoreState) (i : ℕ) (q : SystemState) (there : i < length state.systems) where
  -- what holds of this system as it is now, and held of each before, holds of each
  each_after : (P : ℕ → SystemState → Type 0) → P i q → ((j : ℕ) → P j (system_at state j)) → (j : ℕ) → P j (get_or (set state.systems i q) j idle)
  each_after P here others j = elim (cases_eq j i) [
    | inl same ↦ subst (λ (n : ℕ). P n (get_or (set state.systems i q) n idle)) (sym same) (subst (P i) (sym (get_or-set_same state.systems i q idle there)) here)
    | inr apart ↦ subst (P j) (sym (get_or-set_other state.systems i j q idle apart)) (others j)
  ]

-- what a step has to keep of its system
record Keeps (state : CoreState) (i : ℕ) (q : SystemState) : Type 0 where
  there : i < length state.systems
  done_claimed : q.done ≡ true → q.claimed ≡ true
  stays_done : is_done state i ≡ true → q.done ≡ true
  earlier_done : (k : ℕ) → k < i → are_conflicting state k i ≡ true → q.claimed ≡ true → is_done state k ≡ true
  unclaimed : (pool : ℕ) → q.claimed ≡ false → sets.contains q.taken pool ≡ false
  own : (pool : ℕ) → sets.contains q.taken pool ≡ true → names state i pool ≡ true
  given_taken : (pool : ℕ) → sets.contains q.given pool ≡ true → sets.contains q.taken pool ≡ true
  all_first : (pool other : ℕ) → sets.contains q.given pool ≡ true → names state i other ≡ true → sets.contains q.taken other ≡ true
  done_given : (pool : ℕ) → q.done ≡ true → names state i pool ≡ true → sets.contains q.given pool ≡ true

module _ (state : CoreState) (facts : HasFacts state) (i : ℕ) (q : SystemState) (k : Keeps state i q) where
  abbrev all_after : (P : ℕ → SystemState → Type 0) → P i q → ((j : ℕ) → P j (system_at state j)) → (j : ℕ) → P j (get_or (set state.systems i q) j idle)
  all_after = each_after state i q k.there

  keeps : (versions : Versions) → ((pool : ℕ) → unwrap_or (entries.get versions pool) 0 ≡ given_count state.accesses (set state.systems i q) pool)
      → HasFacts (record { accesses = state.accesses; systems = set state.systems i q; versions = versions })
  keeps versions v = record {
    counted = length-set state.systems i q ∙ facts.counted;
    done_claimed = all_after (λ j p. p.done ≡ true → p.claimed ≡ true) k.done_claimed facts.done_claimed;
    earlier_done = λ j m low conflict claimed.
        all_after (λ m r. (j : ℕ) → j < m → are_conflicting state j m ≡ true → r.claimed ≡ true → (get_or (set state.systems i q) j idle).done ≡ true)
        (λ j low conflict claimed. all_after (λ j p. is_done state j ≡ true → p.done ≡ true) k.stays_done (λ j is. is) j (k.earlier_done j low conflict claimed))
        (λ m j low conflict claimed. all_after (λ j p. is_done state j ≡ true → p.done ≡ true) k.stays_done (λ j is. is) j (facts.earlier_done j m low conflict claimed))
        m j low conflict claimed;
    unclaimed = λ j pool. all_after (λ j p. p.claimed ≡ false → sets.contains p.taken pool ≡ false) (k.unclaimed pool) (λ j. facts.unclaimed j pool) j;
    own = λ j pool. all_after (λ j p. sets.contains p.taken pool ≡ true → names state j pool ≡ true) (k.own pool) (λ j. facts.own j pool) j;
    given_taken = λ j pool. all_after (λ j p. sets.contains p.given pool ≡ true → sets.contains p.taken pool ≡ true) (k.given_taken pool) (λ j. facts.given_taken j pool) j;
    all_first = λ j pool other. all_after (λ j p. sets.contains p.given pool ≡ true → names state j other ≡ true → sets.contains p.taken other ≡ true) (k.all_first pool other) (λ j. facts.all_first j pool other) j;
    done_given = λ j pool. all_after (λ j p. p.done ≡ true → names state j pool ≡ true → sets.contains p.given pool ≡ true) (k.done_given pool) (λ j. facts.done_given j pool) j;
    versions = v;
  }

  -- where a system counts as before, versions stay
  stay : (pool : ℕ) → counts state.accesses i pool (system_at state i) ≡ counts state.accesses i pool q → version_at state pool ≡ given_count state.accesses (set state.systems i q) pool
  stay pool same = facts.versions pool ∙ sym (same_count _ _ _ _ (count_set state.accesses state.systems i pool q facts.counted k.there) same)

  -- where it counts once more, they rise
  rise : (pool : ℕ) → counts state.accesses i pool (system_at state i) ≡ 0 → counts state.accesses i pool q ≡ 1 → version_at state pool + 1 ≡ given_count state.accesses (set state.systems i q) pool
  rise pool old new = ap (λ n. n + 1) (facts.versions pool) ∙ sym (next_count _ _ _ _ (count_set state.accesses state.systems i pool q facts.counted k.there) old new)

-- ---- claim, take and finish

module _ (state : CoreState) (facts : HasFacts state) (i : ℕ) (can : CanClaim state i) where
  abbrev claimed_now : SystemState
  claimed_now = let old = system_at state i in record old { claimed = true }

  held_by_claim : Keeps state i claimed_now
  held_by_claim = record {
    there = can.there;
    done_claimed = λ is. refl;
    stays_done = λ is. is;
    earlier_done = λ k low conflict is. can.earlier_done k low conflict;
    unclaimed = λ pool is. absurd (false≢true (sym is));
    own = facts.own i;
    given_taken = facts.given_taken i;
    all_first = facts.all_first i;
    done_given = facts.done_given i;
  }

  claim_keeps : HasFacts (after state (Claim i))
  claim_keeps = keeps state facts i claimed_now held_by_claim state.versions (λ pool. stay state facts i claimed_now held_by_claim pool refl)

module _ (state : CoreState) (facts : HasFacts state) (i pool : ℕ) (can : CanTake state i pool) where
  abbrev before_take : SystemState
  before_take = system_at state i

  abbrev taken_now : SystemState
  taken_now = record before_take { taken = sets.insert before_take.taken pool }

  held_by_take : Keeps state i taken_now
  held_by_take = record {
    there = can.there;
    done_claimed = λ is. can.claimed;
    stays_done = λ is. is;
    earlier_done = λ k low conflict is. facts.earlier_done k i low conflict can.claimed;
    unclaimed = λ n is. absurd (both_ways before_take.claimed is can.claimed);
    own = λ n is. was_in (λ n. names state i n ≡ true) before_take.taken pool n can.own (facts.own i n) is;
    given_taken = λ n is. still_in before_take.taken pool n (facts.given_taken i n is);
    all_first = λ n other is named. still_in before_take.taken pool other (facts.all_first i n other is named);
    done_given = λ n is. absurd (both_ways before_take.done can.not_done is);
  }

  take_keeps : HasFacts (after state (Take i pool))
  take_keeps = keeps state facts i taken_now held_by_take state.versions (λ n. stay state facts i taken_now held_by_take n refl)

module _ (state : CoreState) (facts : HasFacts state) (i : ℕ) (can : CanFinish state i) where
  abbrev before_finish : SystemState
  before_finish = system_at state i

  abbrev done_now : SystemState
  done_now = record before_finish { done = true }

  held_by_finish : Keeps state i done_now
  held_by_finish = record {
    there = can.there;
    done_claimed = λ is. can.claimed;
    stays_done = λ is. refl;
    earlier_done = λ k low conflict is. facts.earlier_done k i low conflict can.claimed;
    unclaimed = λ n is. absurd (both_ways before_finish.claimed is can.claimed);
    own = facts.own i;
    given_taken = facts.given_taken i;
    all_first = facts.all_first i;
    done_given = λ pool is named. can.all_given pool named;
  }

  finish_keeps : HasFacts (after state (Finish i))
  finish_keeps = keeps state facts i done_now held_by_finish state.versions (λ n. stay state facts i done_now held_by_finish n refl)

-- ---- leave and put

true_from_ne_false : (b : Bool) → (b ≡ false → ⊥) → b ≡ true
true_from_ne_false true never = refl
true_from_ne_false false never = absurd (never refl)

zero_if : (w g : Bool) → w ≡ false → ◌≡◌ {A = ℕ} (cond (w && g) 1 0) 0
zero_if true g e = absurd (false≢true (sym e))
zero_if false g e = refl

zero_of : (w g : Bool) → g ≡ false → ◌≡◌ {A = ℕ} (cond (w && g) 1 0) 0
zero_of true true e = absurd (false≢true (sym e))
zero_of true false e = refl
zero_of false g e = refl

one_of : (w g : Bool) → w ≡ true → g ≡ true → ◌≡◌ {A = ℕ} (cond (w && g) 1 0) 1
one_of true true e f = refl
one_of true false e f = absurd (false≢true f)
one_of false g e f = absurd (false≢true e)

module _ (state : CoreState) (facts : HasFacts state) (i pool : ℕ) (can : CanGive state i pool) where
  abbrev old : SystemState
  old = system_at state i

  abbrev q : SystemState
  q = record old { given = sets.insert old.given pool }

  claimed : old.claimed ≡ true
  claimed = true_from_ne_false old.claimed (λ unclaimed. both_ways (has_taken state i pool) (facts.unclaimed i pool unclaimed) can.holds.taken)

  held : Keeps state i q
  held = record {
    there = can.there;
    done_claimed = λ is. claimed;
    stays_done = λ is. is;
    earlier_done = λ k low conflict is. facts.earlier_done k i low conflict claimed;
    unclaimed = facts.unclaimed i;
    own = facts.own i;
    given_taken = λ n is. was_in (λ n. has_taken state i n ≡ true) old.given pool n can.holds.taken (facts.given_taken i n) is;
    all_first = λ n other is named. can.all_taken other named;
    done_given = λ n is named. still_in old.given pool n (facts.done_given i n is named);
  }

  -- the counts of the other pools stay
  others_stay : (n : ℕ) → eqb n pool ≡ false → counts state.accesses i n old ≡ counts state.accesses i n q
  others_stay n apart = ap (λ b. cond (writes state i n && b) 1 0) (sym (contains-insert old.given pool n ∙ ap (λ b. b || sets.contains old.given n) apart))

  leave_keeps : writes state i pool ≡ false → HasFacts (after state (Leave i pool))
  leave_keeps unwritten = keeps state facts i q held state.versions (λ n. stay state facts i q held n (by n (eqb n pool) refl))
    where
      by : (n : ℕ) (b : Bool) → eqb n pool ≡ b → counts state.accesses i n old ≡ counts state.accesses i n q
      by n true e =
          let not : writes state i n ≡ false = ap (writes state i) (eqb-true n pool e) ∙ unwritten in
          zero_if (writes state i n) (sets.contains old.given n) not ∙ sym (zero_if (writes state i n) (sets.contains q.given n) not)
      by n false e = others_stay n e

  put_keeps : writes state i pool ≡ true → HasFacts (after state (Put i pool))
  put_keeps written = keeps state facts i q held (entries.insert state.versions pool (version_at state pool + 1))
      (λ n. ap (λ o. unwrap_or o 0) (get-insert state.versions pool (version_at state pool + 1) n) ∙ by n (eqb n pool) refl)
    where
      by : (n : ℕ) (b : Bool) → eqb n pool ≡ b → unwrap_or (cond b (Some (version_at state pool + 1)) (entries.get state.versions n)) 0 ≡ given_count state.accesses (set state.systems i q) n
      by n true e =
          ap (λ m. version_at state m + 1) (sym (eqb-true n pool e))
          ∙ rise state facts i q held n
          (zero_of (writes state i n) (sets.contains old.given n) (ap (sets.contains old.given) (eqb-true n pool e) ∙ can.holds.kept))
          (one_of (writes state i n) (sets.contains q.given n) (ap (writes state i) (eqb-true n pool e) ∙ written)
          (contains-insert old.given pool n ∙ ap (λ b. b || sets.contains old.given n) e))
      by n false e = stay state facts i q held n (others_stay n e)

pub step_keeps : (state : CoreState) (step : Step) → HasFacts state → CanStep state step → HasFacts (after state step)
step_keeps state (Claim i) facts can = claim_keeps state facts i can
step_keeps state (Take i pool) facts can = take_keeps state facts i pool can
step_keeps state (Leave i pool) facts can = leave_keeps state facts i pool can.0 can.1
step_keeps state (Put i pool) facts can = put_keeps state facts i pool can.0 can.1
step_keeps state (Finish i) facts can = finish_keeps state facts i can

-- ---- the first state

pub idle_at : (accesses : List Access) (i : ℕ) → get_or (map (λ (access : Access). idle) accesses) i idle ≡ idle
idle_at [] i = refl
idle_at (a ∷ accesses) zero = refl
idle_at (a ∷ accesses) (suc i) = idle_at accesses i

zero_or : (b : Bool) (version : Option ℕ) → unwrap_or version 0 ≡ 0 → unwrap_or (cond b (Some 0) version) 0 ≡ 0
zero_or true version h = refl
zero_or false version h = h

abbrev at_zero : List ℕ → Versions
at_zero pools = entries.from_entries (map (λ (pool : ℕ). (pool, 0)) pools)

zero_versions : (pools : List ℕ) (n : ℕ) → unwrap_or (entries.get (at_zero pools) n) 0 ≡ 0
zero_versions [] n = ap (λ o. unwrap_or o 0) (entries.get-empty nat_cmp n)
zero_versions (pool ∷ pools) n =
    ap (λ o. unwrap_or o 0) (get-insert (at_zero pools) pool 0 n) ∙ zero_or (eqb n pool) (entries.get (at_zero pools) n) (zero_versions pools n)

pub start_has : (accesses : List Access) → HasFacts (start accesses)
start_has accesses = record {
  counted = length-map accesses (λ (access : Access). idle);
  done_claimed = λ i. idly i (λ p. p.done ≡ true → p.claimed ≡ true) (λ is. absurd (false≢true is));
  earlier_done = λ i j low conflict. idly j (λ p. p.claimed ≡ true → is_done (start accesses) i ≡ true) (λ is. absurd (false≢true is));
  unclaimed = λ i pool is. empty_taken i pool;
  own = λ i pool is. absurd (both_ways (has_taken (start accesses) i pool) (empty_taken i pool) is);
  given_taken = λ i pool is. absurd (both_ways (has_given (start accesses) i pool) (empty_given i pool) is);
  all_first = λ i pool other is. absurd (both_ways (has_given (start accesses) i pool) (empty_given i pool) is);
  done_given = λ i pool. idly i (λ p. p.done ≡ true → names (start accesses) i pool ≡ true → sets.contains p.given pool ≡ true) (λ is. absurd (false≢true is));
  versions = λ pool. zero_versions (written_pools accesses) pool ∙ sym (none_given accesses (map (λ (access : Access). idle) accesses) pool (λ k w. empty_given k pool));
}
  where
    idly : (i : ℕ) (P : SystemState → Type 0) → P idle → P (system_at (start accesses) i)
    idly i P here = subst P (sym (idle_at accesses i)) here

    empty_taken : (i pool : ℕ) → has_taken (start accesses) i pool ≡ false
    empty_taken i pool = idly i (λ p. sets.contains p.taken pool ≡ false) (sets.contains-empty nat_cmp pool)

    empty_given : (i pool : ℕ) → has_given (start accesses) i pool ≡ false
    empty_given i pool = idly i (λ p. sets.contains p.given pool ≡ false) (sets.contains-empty nat_cmp pool)
