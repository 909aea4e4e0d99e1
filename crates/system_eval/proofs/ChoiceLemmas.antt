-- A walk over all of an own pool, or over a prefix that is lent, comes to each of a system's entities, and isn't long.
use Rattle.std.proofs.Common.{◌≡◌, ℕ, zero, suc, ◌+◌, ◌<◌, ◌≤◌, ◌==◌, Bool, true, false, cond, ◌&&◌, not, List, [], ◌∷◌, ◌++◌, map, length, take, Option, Some, None, refl, sym, ap, ap₂, ◌∙◌, subst, arith, inl, inr}
use Rattle.std.specs.Prelude.{unwrap_or, IfSome, IsPermutation}
use Rattle.std.specs.Cmp.{IsEquivalence}
use Rattle.std.specs.List.{AllByRecursion, IsDistinct, find, list_all, list_any, position_from}
use Rattle.std.proofs.lemmas.Bool.{and_parts, false≢true, or_cases, cases_Bool}
use Rattle.std.proofs.lemmas.Cmp.{nat_eq_equiv}
use Rattle.std.proofs.lemmas.List.Sorted.{list_any-IsPermutation}
use Rattle.std.proofs.lemmas.Map.Made.{length-le_from_is_member}
use Rattle.std.proofs.lemmas.Option.{none-some, same_Some}
use Rattle.entity_id.specs.declared.entity.Entity.{Entity}
use Rattle.entity_id.specs.FiniteMap as entries
use Rattle.entity_id.specs.Identifiers.{is_same}
use Rattle.entity_id.specs.Matching.{is_in, is_match, matches}
use Rattle.entity_id.proofs.MapLemmas.{same_false, same_itself, same_true}
use Rattle.entity_id.proofs.MatchLemmas.{any-matches}
use Rattle.world_model.specs.declared.access.Access.{Access}
use Rattle.world_model.specs.Frames.{own_pools, map_at, is_member, members}
use Rattle.world_model.specs.Groups.{has_pool}
use Rattle.world_model.specs.Ticks.{Maps}
use Rattle.system_api.specs.declared.lent.LentPool.{LentPool}
use Rattle.system_api.specs.Batches.{entity_at}
use Rattle.system_api.specs.Registers.{Register, numbers, no_pool, pool_at, pool_of, Shows, HasMembersFirst}
use Rattle.system_api.specs.Running.{AreLentFor, sizes_of}
use Rattle.system_eval.specs.Choices.{HasAllMembers, IsChosen}
use Rattle.system_eval.specs.Runs.{least_size}
use Rattle.system_eval.specs.RunLaws.{least-size-has, size-of}
use Rattle.system_eval.specs.Walks.{rows_in, own_lent, walked_in, AreOnce}
use Rattle.system_eval.proofs.BatchLemmas.{own-count, own-sum, written-at}
use Rattle.system_eval.proofs.CoverLemmas.{each-named, entity_at-take, length-keys, length-taken, in-own, once-keys, once-take, place-of}
use Rattle.system_eval.proofs.SizeLemmas.{least-shown}
use Rattle.system_eval.proofs.ToldLemmas.{told-member, own-numbers, own-stand, keys-at}

-- ---- all of an own pool

module _ (access : Access) (register : Register) (lent : AreLentFor access register) (maps : Maps) (shows : Shows register maps) (at end : ℕ)
    (there : at < length (own_lent (length access.read) register)) where
  abbrev pool : LentPool
  pool = pool_at (own_lent (length access.read) register) at

  -- it comes to each of the system's entities
  pub all-members : entries.HasEachOnce pool.storage.pairs → end ≡ length pool.storage.pairs → HasAllMembers access maps (walked_in (length access.read) register at end)
  all-members once whole e member =
      let keys = entries.keys pool.storage.pairs in
      let has = in-own access register e (told-member access register lent maps shows e ∙ member) at there in
      let place = place-of e pool once has in
      let low : place.0 < end = omega (arith, place.1.0, whole, length-keys pool.storage.pairs) in
      let long : length (take end keys) ≡ end = length-taken end keys (omega (arith, whole, length-keys pool.storage.pairs)) in
      (place.0, (omega (arith, low, long), entity_at-take end keys place.0 low ∙ place.1.1))

  pub chosen-smallest : entries.HasEachOnce pool.storage.pairs → end ≡ length pool.storage.pairs → 0 < length (own_pools access)
      → ((k : ℕ) → k < length access.read + length register.writes → end ≤ length (rows_in (pool_at (own_lent (length access.read) register) k))) → IsChosen access maps register at end
  chosen-smallest once whole some low = record {
    within = omega (arith, whole);
    all = all-members once whole;
    least = subst (λ (ns : List ℕ). end ≤ least_size (sizes_of maps) ns) (own-numbers access register lent)
        (least-shown maps end (own_lent (length access.read) register) (omega (arith, some, own-count access register lent)) (own-stand access register lent maps shows)
        (λ k within. low k (omega (arith, within, own-count access register lent, own-sum access register lent))));
  }

-- ---- a prefix

any-place : (e : Entity) (list : List Entity) → list_any (is_same e) list ≡ true → (k : ℕ) × ((k < length list) × (entity_at list k ≡ e))
any-place e [] any = absurd (false≢true any)
any-place e (x ∷ list) any = elim (or_cases (is_same e x) (list_any (is_same e) list) any) [
  | inl here ↦ (0, (omega arith, sym (same_true e x here)))
  | inr later ↦ let rest = any-place e list later in (suc rest.0, (omega (arith, rest.1.0), rest.1.1))
]

any-members : (maps : Maps) (all none : List ℕ) (e : Entity) → 0 < length all → list_any (is_same e) (matches (map entries.keys maps) all none) ≡ is_match (map entries.keys maps) all none e
any-members maps [] none e some = absurd (omega arith)
any-members maps (first ∷ rest) none e some = any-matches (map entries.keys maps) first rest none e

same_laws : IsEquivalence is_same
same_laws = record {
  refl = same_itself;
  symm = λ a b. ap₂ (λ x y. x && y) (nat_eq_equiv.symm a.index b.index) (nat_eq_equiv.symm a.version b.version);
  congr = λ a b c same. ap (λ e. is_same e c) (same_true a b same);
}

-- no identifier stands twice where no index does
distinct-once : (list : List Entity) → AreOnce list → IsDistinct is_same list
unfolding IsDistinct
distinct-once [] once = tt
distinct-once (e ∷ list) once = (
  differ list (λ k within same. let z : 0 ≡ suc k = once 0 (suc k) (omega arith) (omega (arith, within)) same in omega arith),
  distinct-once list (λ a b low high same. let more : suc a ≡ suc b = once (suc a) (suc b) (omega arith) (omega arith) same in omega arith),
)
  where
    differ : (rest : List Entity) → ((k : ℕ) → k < length rest → e.index ≡ (entity_at rest k).index → ⊥) → AllByRecursion (λ other. is_same e other ≡ false) rest
    differ [] apart = tt
    differ (x ∷ rest) apart = (same_false e x (apart 0 (omega arith)), differ rest (λ k within. apart (suc k) (omega arith)))

module _ (access : Access) (register : Register) (maps : Maps) (number count at : ℕ) (some : 0 < length (own_pools access)) (first : HasMembersFirst access maps register number count)
    (is : pool_of register number ≡ pool_at (own_lent (length access.read) register) at) where
  abbrev keys : List Entity
  keys = entries.keys (pool_at (own_lent (length access.read) register) at).storage.pairs

  prefix-members : IsPermutation (take count keys) (members access maps)
  prefix-members = subst (λ (p : LentPool). IsPermutation (take count (entries.keys p.storage.pairs)) (members access maps)) is first.first

  prefix-within : count ≤ length (pool_at (own_lent (length access.read) register) at).storage.pairs
  prefix-within = subst (λ (p : LentPool). count ≤ length p.storage.pairs) is first.within

  any-same : (e : Entity) → list_any (is_same e) (take count keys) ≡ is_member access maps e
  any-same e = list_any-IsPermutation (is_same e) (take count keys) (members access maps) prefix-members ∙ any-members maps (own_pools access) access.without e some

  -- its entities are no more than a pool of the system's own has
  prefix-few : entries.HasEachOnce (pool_at (own_lent (length access.read) register) at).storage.pairs → (pool : ℕ) → has_pool (own_pools access) pool ≡ true → count ≤ length (map_at maps pool)
  prefix-few once pool named =
      let pairs = (pool_at (own_lent (length access.read) register) at).storage.pairs in
      let distinct = distinct-once (take count keys) (once-take count keys (omega (arith, prefix-within, length-keys pairs)) (once-keys pairs once)) in
      let among = length-le_from_is_member same_laws (take count keys) (entries.keys (map_at maps pool)) distinct
      (λ e any. subst (λ (es : List Entity). list_any (is_same e) es ≡ true) (keys-at maps pool)
      (each-named (is_in (map entries.keys maps) e) (own_pools access) pool
      (and_parts (list_all (is_in (map entries.keys maps) e) (own_pools access)) (not (list_any (is_in (map entries.keys maps) e) access.without)) (sym (any-same e) ∙ any)).0 named)) in
      omega (arith, among, length-taken count keys (omega (arith, prefix-within, length-keys pairs)), length-keys (map_at maps pool))

  pub chosen-prefix : entries.HasEachOnce (pool_at (own_lent (length access.read) register) at).storage.pairs → IsChosen access maps register at count
  chosen-prefix once = record {
    within = prefix-within;
    all = λ e member. any-place e (take count keys) (any-same e ∙ member);
    least = least-size-has (λ n. count ≤ n) (sizes_of maps) (own_pools access) some (λ pool named. subst (λ (n : ℕ). count ≤ n) (sym (size-of maps pool)) (prefix-few once pool named));
  }

-- ---- the place of a number

module _ (n : ℕ) where
  abbrev is_it : ℕ → Bool
  is_it other = other == n

  abbrev has_it : LentPool → Bool
  has_it pool = pool.number == n

  -- the pool of a number stands at the place of the number
  found-at : (pools : List LentPool) (i p : ℕ) → position_from is_it i (numbers pools) ≡ Some p → (k : ℕ) × ((p ≡ i + k) × ((k < length pools) × (find has_it pools ≡ Some (pool_at pools k))))
  found-at [] i p is = absurd (none-some p is)
  found-at (x ∷ pools) i p is = elim (cases_Bool (x.number == n)) [
    | inl here ↦ (0, (let at = same_Some i p (sym (ap (λ (b : Bool). cond b (Some i) (position_from is_it (i + 1) (numbers pools))) here) ∙ is) in omega (arith, at), (omega arith, ap (λ (b : Bool). cond b (Some x) (find has_it pools)) here)))
    | inr other ↦
        let rest = found-at pools (i + 1) p (sym (ap (λ (b : Bool). cond b (Some i) (position_from is_it (i + 1) (numbers pools))) other) ∙ is) in
        (suc rest.0, (omega (arith, rest.1.0), (omega (arith, rest.1.1.0), ap (λ (b : Bool). cond b (Some x) (find has_it pools)) other ∙ rest.1.1.1)))
  ]

  found-none : (pools : List LentPool) (i : ℕ) → position_from is_it i (numbers pools) ≡ None → find has_it pools ≡ None
  found-none [] i is = refl
  found-none (x ∷ pools) i is = elim (cases_Bool (x.number == n)) [
    | inl here ↦ absurd (none-some i (sym is ∙ ap (λ (b : Bool). cond b (Some i) (position_from is_it (i + 1) (numbers pools))) here))
    | inr other ↦ ap (λ (b : Bool). cond b (Some x) (find has_it pools)) other ∙ found-none pools (i + 1) (sym (ap (λ (b : Bool). cond b (Some i) (position_from is_it (i + 1) (numbers pools))) other) ∙ is)
  ]

  find-first : (xs ys : List LentPool) (x : LentPool) → find has_it xs ≡ Some x → find has_it (xs ++ ys) ≡ Some x
  find-first [] ys x is = absurd (none-some x is)
  find-first (p ∷ xs) ys x is = elim (cases_Bool (p.number == n)) [
    | inl here ↦ ap (λ (b : Bool). cond b (Some p) (find has_it (xs ++ ys))) here ∙ sym (ap (λ (b : Bool). cond b (Some p) (find has_it xs)) here) ∙ is
    | inr other ↦ ap (λ (b : Bool). cond b (Some p) (find has_it (xs ++ ys))) other ∙ find-first xs ys x (sym (ap (λ (b : Bool). cond b (Some p) (find has_it xs)) other) ∙ is)
  ]

  find-second : (xs ys : List LentPool) → find has_it xs ≡ None → find has_it (xs ++ ys) ≡ find has_it ys
  find-second [] ys is = refl
  find-second (p ∷ xs) ys is = elim (cases_Bool (p.number == n)) [
    | inl here ↦ absurd (none-some p (sym is ∙ ap (λ (b : Bool). cond b (Some p) (find has_it xs)) here))
    | inr other ↦ ap (λ (b : Bool). cond b (Some p) (find has_it (xs ++ ys))) other ∙ find-second xs ys (sym (ap (λ (b : Bool). cond b (Some p) (find has_it xs)) other) ∙ is)
  ]

  position-front : (xs ys : List ℕ) (i p : ℕ) → position_from is_it i xs ≡ Some p → position_from is_it i (xs ++ ys) ≡ Some p
  position-front [] ys i p is = absurd (none-some p is)
  position-front (x ∷ xs) ys i p is = elim (cases_Bool (x == n)) [
    | inl here ↦ ap (λ (b : Bool). cond b (Some i) (position_from is_it (i + 1) (xs ++ ys))) here ∙ sym (ap (λ (b : Bool). cond b (Some i) (position_from is_it (i + 1) xs)) here) ∙ is
    | inr other ↦ ap (λ (b : Bool). cond b (Some i) (position_from is_it (i + 1) (xs ++ ys))) other ∙ position-front xs ys (i + 1) p (sym (ap (λ (b : Bool). cond b (Some i) (position_from is_it (i + 1) xs)) other) ∙ is)
  ]

  position-within : (xs : List ℕ) (i p : ℕ) → position_from is_it i xs ≡ Some p → p < i + length xs
  position-within [] i p is = absurd (none-some p is)
  position-within (x ∷ xs) i p is = elim (cases_Bool (x == n)) [
    | inl here ↦ let at = same_Some i p (sym (ap (λ (b : Bool). cond b (Some i) (position_from is_it (i + 1) xs)) here) ∙ is) in omega (arith, at)
    | inr other ↦ let rest = position-within xs (i + 1) p (sym (ap (λ (b : Bool). cond b (Some i) (position_from is_it (i + 1) xs)) other) ∙ is) in omega (arith, rest)
  ]

pool_at-first : (xs ys : List LentPool) (count k : ℕ) → k < count → k < length xs → pool_at (take count xs ++ ys) k ≡ pool_at xs k
pool_at-first [] ys count k low within = absurd (omega arith)
pool_at-first (x ∷ xs) ys zero k low within = absurd (omega arith)
pool_at-first (x ∷ xs) ys (suc count) zero low within = refl
pool_at-first (x ∷ xs) ys (suc count) (suc k) low within = pool_at-first xs ys count k (omega arith) (omega arith)

module _ (access : Access) (register : Register) (lent : AreLentFor access register) (number : ℕ) where
  -- a written pool
  pub pool-written : (p : ℕ) → position_from (is_it number) 0 access.write ≡ Some p → pool_of register number ≡ pool_at (own_lent (length access.read) register) (length access.read + p)
  pool-written p is =
      let at = found-at number register.writes 0 p (ap (position_from (is_it number) 0) lent.writes ∙ is) in
      let same : at.0 ≡ p = omega (arith, at.1.0) in
      ap (λ o. unwrap_or o no_pool) (find-first number register.writes register.reads (pool_at register.writes at.0) at.1.1.1)
      ∙ ap (pool_at register.writes) same
      ∙ sym (written-at access register lent p)

  -- and one that is read alone
  pub pool-read : (p : ℕ) → position_from (is_it number) 0 access.write ≡ None → position_from (is_it number) 0 access.read ≡ Some p → pool_of register number ≡ pool_at (own_lent (length access.read) register) p
  pool-read p unwritten is =
      let none = found-none number register.writes 0 (ap (position_from (is_it number) 0) lent.writes ∙ unwritten) in
      let front : position_from (is_it number) 0 (numbers register.reads) ≡ Some p =
      ap (position_from (is_it number) 0) lent.reads ∙ position-front number (access.read ++ access.look) access.without 0 p (position-front number access.read access.look 0 p is) in
      let at = found-at number register.reads 0 p front in
      let same : at.0 ≡ p = omega (arith, at.1.0) in
      let low : p < length access.read = let w = position-within number access.read 0 p is in omega (arith, w) in
      ap (λ o. unwrap_or o no_pool) (find-second number register.writes register.reads none ∙ at.1.1.1)
      ∙ ap (pool_at register.reads) same
      ∙ sym (pool_at-first register.reads register.writes (length access.read) p low (omega (arith, at.1.1.0, same)))

pub written-within : (number : ℕ) (access : Access) (p : ℕ) → position_from (λ (other : ℕ). other == number) 0 access.write ≡ Some p → p < length access.write
written-within number access p is = let w = position-within number access.write 0 p is in omega (arith, w)

pub read-within : (number : ℕ) (access : Access) (p : ℕ) → position_from (λ (other : ℕ). other == number) 0 access.read ≡ Some p → p < length access.read
read-within number access p is = let w = position-within number access.read 0 p is in omega (arith, w)

pub if-some : (o : Option ℕ) (P : ℕ → Type 0) → ((p : ℕ) → o ≡ Some p → P p) → IfSome o P
if-some None P each = tt
if-some (Some p) P each = each p refl

-- the smallest own pool, where its place was found among so many that are read
pub chosen-whole : (access : Access) (register : Register) (reads : List ℕ) (maps : Maps) (at end : ℕ) → reads ≡ access.read → AreLentFor access register → Shows register maps → 0 < length (own_pools access)
    → at < length reads + length register.writes → end ≡ length (pool_at (own_lent (length reads) register) at).storage.pairs
    → ((k : ℕ) → k < length reads + length register.writes → end ≤ length (rows_in (pool_at (own_lent (length reads) register) k)))
    → entries.HasEachOnce (pool_at (own_lent (length access.read) register) at).storage.pairs → IsChosen access maps register at end
chosen-whole access register reads maps at end is lent shows some there whole low once =
    chosen-smallest access register lent maps shows at end (omega (arith, there, ap length is, own-count access register lent, own-sum access register lent)) once
    (subst (λ (ns : List ℕ). end ≡ length (pool_at (own_lent (length ns) register) at).storage.pairs) is whole) some
    (subst (λ (ns : List ℕ). (k : ℕ) → k < length ns + length register.writes → end ≤ length (rows_in (pool_at (own_lent (length ns) register) k))) is low)
