-- The identifiers of a packed list by their places, and that a walk over an own pool comes to each of a system's entities.
use Rattle.std.proofs.Common.{◌≡◌, ℕ, zero, suc, ◌+◌, ◌<◌, ◌≤◌, Bool, true, not, eqb, List, [], ◌∷◌, ◌++◌, length, take, Option, Some, None, refl, sym, ap, ◌∙◌, subst, arith, inl, inr, slice_get}
use Rattle.std.specs.Prelude.{is_some, IsTrue}
use Rattle.std.specs.List.{list_all, list_any}
use Rattle.std.proofs.lemmas.Bool.{and_parts, eqb-true, false≢true, or_cases}
use Rattle.std.proofs.lemmas.List.{length-map}
use Rattle.entity_id.specs.declared.entity.Entity.{Entity}
use Rattle.entity_id.specs.FiniteMap as entries
use Rattle.entity_id.proofs.PackedMapLemmas.{get_at, get-map_of}
use Rattle.world_model.specs.declared.access.Access.{Access}
use Rattle.world_model.specs.declared.component.Row.{Row}
use Rattle.world_model.specs.Groups.{has_pool}
use Rattle.system_api.specs.declared.lent.LentPool.{LentPool}
use Rattle.system_api.specs.Batches.{entity_at}
use Rattle.system_api.specs.Registers.{Register, pool_at}
use Rattle.system_eval.specs.Walks.{rows_in, has_row, own_lent, walked_in, excluded_lent, excluded_from, is_member_in, AreOnce}

-- ---- identifiers by their places

pub entity_at-get : (list : List Entity) (k : ℕ) (e : Entity) → slice_get list k ≡ Some e → entity_at list k ≡ e
entity_at-get [] k e is = absurd (cc)
entity_at-get (x ∷ list) zero e is = cc
entity_at-get (x ∷ list) (suc k) e is = entity_at-get list k e is

pub get-entity_at : (list : List Entity) (k : ℕ) → k < length list → slice_get list k ≡ Some (entity_at list k)
get-entity_at [] k within = absurd (omega arith)
get-entity_at (x ∷ list) zero within = refl
get-entity_at (x ∷ list) (suc k) within = get-entity_at list k (omega arith)

pub entity_at-take : (n : ℕ) (list : List Entity) (k : ℕ) → k < n → entity_at (take n list) k ≡ entity_at list k
entity_at-take zero list k below = absurd (omega arith)
entity_at-take (suc n) [] k below = refl
entity_at-take (suc n) (x ∷ list) zero below = refl
entity_at-take (suc n) (x ∷ list) (suc k) below = entity_at-take n list k (omega arith)

pub length-taken : (n : ℕ) (list : List Entity) → n ≤ length list → length (take n list) ≡ n
length-taken zero list fits = refl
length-taken (suc n) [] fits = absurd (omega arith)
length-taken (suc n) (x ∷ list) fits = ap suc (length-taken n list (omega arith))

pub length-taken-pools : (n : ℕ) (pools : List LentPool) → n ≤ length pools → length (take n pools) ≡ n
length-taken-pools zero pools fits = refl
length-taken-pools (suc n) [] fits = absurd (omega arith)
length-taken-pools (suc n) (p ∷ pools) fits = ap suc (length-taken-pools n pools (omega arith))

module _ {X : Type 0} where
  pub entry_at : (pairs : List (Entity × X)) (k : ℕ) → k < length pairs → (entry : Entity × X) × ((slice_get pairs k ≡ Some entry) × (entity_at (entries.keys pairs) k ≡ entry.0))
  entry_at [] k within = absurd (omega arith)
  entry_at (p ∷ pairs) zero within = (p, (refl, refl))
  entry_at (p ∷ pairs) (suc k) within = entry_at pairs k (omega arith)

  pub key_at : (pairs : List (Entity × X)) (k : ℕ) (e : Entity) (x : X) → slice_get pairs k ≡ Some (e, x) → (k < length pairs) × (entity_at (entries.keys pairs) k ≡ e)
  key_at [] k e x is = absurd (cc)
  key_at (p ∷ pairs) zero e x is = let same : p ≡ (e, x) = cc in (omega arith, ap (λ (q : Entity × X). q.0) same)
  key_at (p ∷ pairs) (suc k) e x is = let rest = key_at pairs k e x is in (omega (arith, rest.0), rest.1)

  pub length-keys : (pairs : List (Entity × X)) → length (entries.keys pairs) ≡ length pairs
  length-keys pairs = length-map pairs (λ (pair : Entity × X). pair.0)

  -- no index stands twice among them
  pub once-keys : (pairs : List (Entity × X)) → entries.HasEachOnce pairs → AreOnce (entries.keys pairs)
  once-keys pairs once a b low high same =
      let x = entry_at pairs a (omega (arith, low, length-keys pairs)) in
      let y = entry_at pairs b (omega (arith, high, length-keys pairs)) in
      once a b x.0 y.0 x.1.0 y.1.0 (ap (λ (e : Entity). e.index) (sym x.1.1) ∙ same ∙ ap (λ (e : Entity). e.index) y.1.1)

pub once-take : (n : ℕ) (list : List Entity) → n ≤ length list → AreOnce list → AreOnce (take n list)
once-take n list fits once a b low high same =
    let long = length-taken n list fits in
    once a b (omega (arith, low, long)) (omega (arith, high, long))
    (ap (λ (e : Entity). e.index) (sym (entity_at-take n list a (omega (arith, low, long)))) ∙ same ∙ ap (λ (e : Entity). e.index) (entity_at-take n list b (omega (arith, high, long))))

-- ---- the list that is walked

pub walked-count : (count : ℕ) (register : Register) (at end : ℕ) → end ≤ length (pool_at (own_lent count register) at).storage.pairs → length (walked_in count register at end) ≡ end
walked-count count register at end fits =
    let pairs = (pool_at (own_lent count register) at).storage.pairs in
    length-taken end (entries.keys pairs) (omega (arith, fits, length-keys pairs))

-- ---- members

pub each-place : (test : LentPool → Bool) (pools : List LentPool) (at : ℕ) → list_all test pools ≡ true → at < length pools → test (pool_at pools at) ≡ true
each-place test [] at all within = absurd (omega arith)
each-place test (p ∷ pools) zero all within = (and_parts (test p) (list_all test pools) all).0
each-place test (p ∷ pools) (suc at) all within = each-place test pools at (and_parts (test p) (list_all test pools) all).1 (omega arith)

pub each-named : (test : ℕ → Bool) (pools : List ℕ) (pool : ℕ) → list_all test pools ≡ true → has_pool pools pool ≡ true → test pool ≡ true
each-named test [] pool all has = absurd (false≢true has)
each-named test (first ∷ pools) pool all has =
    let parts = and_parts (test first) (list_all test pools) all in
    elim (or_cases (eqb first pool) (has_pool pools pool) has) [
      | inl here ↦ subst (λ (n : ℕ). test n ≡ true) (eqb-true first pool here) parts.0
      | inr later ↦ each-named test pools pool parts.1 later
    ]

pub pool_at-both : (xs ys : List LentPool) (n at : ℕ) → n ≡ length xs → pool_at (xs ++ ys) (n + at) ≡ pool_at ys at
pool_at-both [] ys n at is = let same : n + at ≡ at = omega arith in ap (pool_at ys) same
pool_at-both (x ∷ xs) ys zero at is = absurd (omega arith)
pool_at-both (x ∷ xs) ys (suc n) at is = let same : suc n + at ≡ suc (n + at) = omega arith in ap (pool_at (x ∷ (xs ++ ys))) same ∙ pool_at-both xs ys n at (omega arith)

pub all-behind : (test : LentPool → Bool) (xs ys : List LentPool) → list_all test (xs ++ ys) ≡ true → list_all test ys ≡ true
all-behind test [] ys all = all
all-behind test (x ∷ xs) ys all = all-behind test xs ys (and_parts (test x) (list_all test (xs ++ ys)) all).1

module _ (access : Access) (register : Register) (e : Entity) (member : IsTrue (is_member_in access register e)) where
  -- a member has a row in each own pool
  pub in-own : (at : ℕ) → at < length (own_lent (length access.read) register) → has_row e (pool_at (own_lent (length access.read) register) at) ≡ true
  in-own at within = each-place (has_row e) (own_lent (length access.read) register) at (and_parts (list_all (has_row e) (own_lent (length access.read) register)) (not (list_any (has_row e) (excluded_lent (excluded_from access) register))) member).0 within

  -- and so in each that is written
  pub in-written : (at : ℕ) → at < length register.writes → has_row e (pool_at register.writes at) ≡ true
  in-written at within = each-place (has_row e) register.writes at (all-behind (has_row e) (take (length access.read) register.reads) register.writes (and_parts (list_all (has_row e) (own_lent (length access.read) register)) (not (list_any (has_row e) (excluded_lent (excluded_from access) register))) member).0) within

some-of : (o : Option Row) → is_some o ≡ true → (x : Row) × (o ≡ Some x)
some-of None is = absurd (false≢true is)
some-of (Some x) is = (x, refl)

-- what has a row in a pool has it
pub row-of : (e : Entity) (pool : LentPool) → has_row e pool ≡ true → (x : Row) × (entries.get (rows_in pool) e ≡ Some x)
row-of e pool has = some-of (entries.get (rows_in pool) e) has

-- and stands in its packed list
pub place-of : (e : Entity) (pool : LentPool) → entries.HasEachOnce pool.storage.pairs → has_row e pool ≡ true
    → (k : ℕ) × ((k < length (entries.keys pool.storage.pairs)) × (entity_at (entries.keys pool.storage.pairs) k ≡ e))
place-of e pool once has =
    let x = row-of e pool has in
    let at = get_at pool.storage.pairs e x.0 (sym (get-map_of pool.storage.pairs e once) ∙ x.1) in
    let key = key_at pool.storage.pairs at.0 e x.0 at.1 in
    (at.0, (omega (arith, key.0, length-keys pool.storage.pairs), key.1))
