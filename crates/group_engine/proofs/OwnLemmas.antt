-- One pool after another.
use Rattle.std.proofs.Common.{◌≡◌, ◌≢◌, ℕ, zero, suc, ◌+◌, ◌<◌, ◌≤◌, true, eqb, List, [], ◌∷◌, length, get_or, set, Some, slice_get, sym, refl, ap, subst, ◌∙◌, inl, inr, arith}
use Rattle.std.proofs.Math.ListN.{get_or-map}
use Rattle.std.proofs.lemmas.Bool.{cases_Bool, cases_eq, false≢true, or_cases, or_left, or_right, eqb-true, eq-eqb}
use Rattle.std.proofs.lemmas.List.{map-set, get_or-set_same, get_or-set_other, get_or_past}
use Rattle.std.proofs.lemmas.Option.{same_Some}
use Rattle.entity_id.specs.declared.entity.Entity.{Entity}
use Rattle.entity_id.specs.FiniteMap as entries
use Rattle.entity_id.specs.FiniteMap.{AreDistinctBy}
use Rattle.storage.specs.Stored.{Stored}
use Rattle.world_model.specs.Groups.{has_pool, packed_at}
use Rattle.group_engine.specs.Grouped.{packed_of}
use Rattle.group_engine.specs.Moving.{IsReady, IsMoved, AreMoved}

-- ---- packed lists of pools

abbrev empty : (T : Type 0) → Stored T
empty T = record { pairs = []; spare = 0; index_bound = 0 }

pub packed_here : {T : Type 0} (pools : List (Stored T)) (pool : ℕ) (d : Stored T) → pool < length pools → packed_at (packed_of pools) pool ≡ entries.keys (get_or pools pool d).pairs
packed_here pools pool d within = Rattle.std.proofs.lemmas.List.get_or-map (λ stored. entries.keys stored.pairs) pools pool d [] within

pub packed-set_same : {T : Type 0} (pools : List (Stored T)) (pool : ℕ) (s : Stored T) → pool < length pools → packed_at (packed_of (set pools pool s)) pool ≡ entries.keys s.pairs
packed-set_same {T = T} pools pool s within = get_or-map (λ (stored : Stored T). entries.keys stored.pairs) (set pools pool s) pool (empty T) ∙ ap (λ (v : Stored T). entries.keys v.pairs) (get_or-set_same pools pool s (empty T) within)

pub packed-set_other : {T : Type 0} (pools : List (Stored T)) (pool other : ℕ) (s : Stored T) → other ≢ pool → packed_at (packed_of (set pools pool s)) other ≡ packed_at (packed_of pools) other
packed-set_other {T = T} pools pool other s apart =
    get_or-map (λ (stored : Stored T). entries.keys stored.pairs) (set pools pool s) other (empty T)
    ∙ ap (λ (v : Stored T). entries.keys v.pairs) (get_or-set_other pools pool other s (empty T) apart)
    ∙ sym (get_or-map (λ (stored : Stored T). entries.keys stored.pairs) pools other (empty T))

-- a pool whose list has something is there
pub declared : {T : Type 0} (pools : List (Stored T)) (pool place : ℕ) → place < length (packed_at (packed_of pools) pool) → pool < length pools
declared {T = T} pools pool place within = elim (Rattle.std.proofs.lemmas.Bool.cases_lt pool (length pools)) [
  | inl low ↦ low
  | inr past ↦ absurd (let none : length (packed_at (packed_of pools) pool) ≡ 0 = ap length (get_or-map (λ (stored : Stored T). entries.keys stored.pairs) pools pool (empty T) ∙ ap (λ (v : Stored T). entries.keys v.pairs) (get_or_past pools pool (empty T) past)) in omega arith)
]

-- ---- the pools of a list

pub has_at : (own : List ℕ) (k pool : ℕ) → slice_get own k ≡ Some pool → has_pool own pool ≡ true
has_at [] k pool h = absurd cc
has_at (o ∷ own) zero pool h = or_left (eqb o pool) (has_pool own pool) (eq-eqb o pool (same_Some o pool h))
has_at (o ∷ own) (suc k) pool h = or_right (eqb o pool) (has_pool own pool) (has_at own k pool h)

pub at_has : (own : List ℕ) (pool : ℕ) → has_pool own pool ≡ true → (k : ℕ) × (slice_get own k ≡ Some pool)
at_has [] pool h = absurd cc
at_has (o ∷ own) pool h = elim (or_cases (eqb o pool) (has_pool own pool) h) [
  | inl same ↦ (0, ap Some (eqb-true o pool same))
  | inr further ↦ let rest = at_has own pool further in (suc rest.0, rest.1)
]

-- the first so many of these pools have the identifier at that place, and no other pool changed
pub record AreMovedUpTo (own : List ℕ) (i : ℕ) (e : Entity) (m : ℕ) (old new : List (List Entity)) : Type 0 where
  pub moved : (k pool : ℕ) → k < i → slice_get own k ≡ Some pool → IsMoved e m (packed_at old pool) (packed_at new pool)
  pub others : (pool : ℕ) → ((k : ℕ) → k < i → slice_get own k ≡ Some pool → ⊥) → packed_at new pool ≡ packed_at old pool

module _ (own : List ℕ) (e : Entity) (m : ℕ) (old : List (List Entity)) (distinct : AreDistinctBy (λ (pool : ℕ). pool) own) where
  pub none_moved : AreMovedUpTo own 0 e m old old
  none_moved = record { moved = λ k pool low h. absurd (omega arith); others = λ pool none. refl }

  -- the next pool is as it was
  pub not_yet : (i pool : ℕ) (now : List (List Entity)) → AreMovedUpTo own i e m old now → slice_get own i ≡ Some pool → packed_at now pool ≡ packed_at old pool
  not_yet i pool now h here = h.others pool (λ k low at. (let same : k ≡ i = distinct k i pool pool at here refl in omega arith))

  pub one_moved : (i o : ℕ) (now new : List (List Entity)) → AreMovedUpTo own i e m old now → slice_get own i ≡ Some o → IsMoved e m (packed_at now o) (packed_at new o) → ((pool : ℕ) → pool ≢ o → packed_at new pool ≡ packed_at now pool) → AreMovedUpTo own (i + 1) e m old new
  one_moved i o now new h here step rest = record {
    moved = λ k pool low at. elim (cases_eq k i) [
      | inl is ↦
          let one : o ≡ pool = same_Some o pool (sym here ∙ ap (slice_get own) (sym is) ∙ at) in
          subst (λ p. IsMoved e m (packed_at old p) (packed_at new p)) one (subst (λ l. IsMoved e m l (packed_at new o)) (not_yet i o now h here) step)
      | inr apart ↦
          let differs : pool ≢ o = (λ same. apart (distinct k i pool o at here same)) in
          subst (IsMoved e m (packed_at old pool)) (sym (rest pool differs)) (h.moved k pool (omega arith) at)
    ];
    others = λ pool none. rest pool (λ same. none i (omega arith) (here ∙ ap Some (sym same))) ∙ h.others pool (λ k low at. none k (omega arith) at);
  }

  pub all_moved : (i : ℕ) (new : List (List Entity)) → length own ≤ i → AreMovedUpTo own i e m old new → AreMoved own e m old new
  all_moved i new all h = record {
    moved = λ pool has. let at = at_has own pool has in h.moved at.0 pool (let w : at.0 < length own = Rattle.std.proofs.lemmas.Option.slice_get_within own at.0 pool at.1 in omega arith) at.1;
    others = λ pool none. h.others pool (λ k low at. false≢true (sym none ∙ has_at own k pool at));
  }

-- what the next pool is: its number, that it is there, and that it is ready
pub next_pool : {T : Type 0} (own : List ℕ) (old now : List (Stored T)) (e : Entity) (m k : ℕ) → AreDistinctBy (λ (pool : ℕ). pool) own → ((pool : ℕ) → has_pool own pool ≡ true → IsReady e m (packed_at (packed_of old) pool)) → AreMovedUpTo own k e m (packed_of old) (packed_of now) → k < length own
    → (slice_get own k ≡ Some (get_or own k 0)) × (get_or own k 0 < length now) × IsReady e m (packed_at (packed_of now) (get_or own k 0))
next_pool own old now e m k distinct ready moved low =
    let o = get_or own k 0 in
    let here : slice_get own k ≡ Some o = Rattle.std.proofs.lemmas.Option.slice_get-get_or own k 0 low in
    let same : packed_at (packed_of now) o ≡ packed_at (packed_of old) o = not_yet own e m (packed_of old) distinct k o (packed_of now) moved here in
    let is : IsReady e m (packed_at (packed_of now) o) = subst (IsReady e m) (sym same) (ready o (has_at own k o here)) in
    (here, declared now o m is.within, is)
