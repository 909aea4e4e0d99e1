-- Lists that name each pool once.
use Rattle.std.proofs.Common.{◌≡◌, ℕ, suc, ◌+◌, ◌<◌, Bool, true, false, not, ◌&&◌, ◌||◌, cond, eqb, List, [], ◌∷◌, ◌++◌, map, length, take, get_or, Option, Some, slice_get, refl, sym, ap, ap₂, ◌∙◌, subst, arith, eq-eqb, zero-add}
use Rattle.std.specs.Prelude.{nat_lt}
use Rattle.std.proofs.lemmas.Bool.Decides.{nat_tests}
use Rattle.std.specs.List.{AllByRecursion, position_from}
use Rattle.std.proofs.lemmas.Bool.{eqb-true}
use Rattle.std.proofs.lemmas.List.{take_more}
use Rattle.std.proofs.lemmas.Option.{same_Some}
use Rattle.world_model.specs.declared.access.Access.{Access}
use Rattle.system_api.specs.Running.{read_pools}
use Rattle.world_model.specs.Groups.{has_pool, are_declared, are_distinct}
use Rattle.tick_runner.proofs.ListLemmas.{and-left, and-right, clash, not-false, or-left, or-right, named-append, named_first, named_later, declared_first}

none_of_last : (b : Bool) (n x : ℕ) → eqb n x ≡ b → eqb x n ≡ false → (b || false) ≡ false
none_of_last false n x e apart = refl
none_of_last true n x e apart = absurd (clash (eqb x n) (eq-eqb x n (sym (eqb-true n x e))) apart)

-- one that isn't named may be named last
pub distinct-push : (list : List ℕ) (n : ℕ) → are_distinct list ≡ true → has_pool list n ≡ false → are_distinct (list ++ n ∷ []) ≡ true
distinct-push [] n distinct absent = refl
distinct-push (x ∷ list) n distinct absent =
    let apart : has_pool list x ≡ false = not-false (has_pool list x) (and-left (not (has_pool list x)) (are_distinct list) distinct) in
    let other : eqb x n ≡ false = or-left (eqb x n) (has_pool list n) absent in
    let alone : has_pool (list ++ n ∷ []) x ≡ false = named-append list (n ∷ []) x ∙ ap₂ (λ b c. b || c) apart (none_of_last (eqb n x) n x refl other) in
    ap (λ b. not b && are_distinct (list ++ n ∷ [])) alone ∙ distinct-push list n (and-right (not (has_pool list x)) (are_distinct list) distinct) (or-right (eqb x n) (has_pool list n) absent)

or-false : (b : Bool) → (b || false) ≡ b
or-false true = refl
or-false false = refl

-- what is named after one more
pub named-push : (list : List ℕ) (n other : ℕ) → has_pool (list ++ n ∷ []) other ≡ has_pool list other || eqb n other
named-push list n other = named-append list (n ∷ []) other ∙ ap (λ b. has_pool list other || b) (or-false (eqb n other))

pub named-take : (list : List ℕ) (k other : ℕ) → k < length list → has_pool (take (k + 1) list) other ≡ has_pool (take k list) other || eqb (get_or list k 0) other
named-take list k other low = ap (λ (ps : List ℕ). has_pool ps other) (take_more list k 0 low) ∙ named-push (take k list) (get_or list k 0) other

-- a number that is named already adds nothing
pub named-again : (list : List ℕ) (n other : ℕ) → has_pool list n ≡ true → has_pool list other ≡ has_pool list other || eqb n other
named-again list n other named = by (eqb n other) refl
  where
    by : (b : Bool) → eqb n other ≡ b → has_pool list other ≡ has_pool list other || b
    by false e = sym (or-false (has_pool list other))
    by true e = subst (λ (m : ℕ). has_pool list m ≡ has_pool list m || true) (eqb-true n other e) (ap (λ b. b) named ∙ sym (ap (λ b. b || true) named))

-- numbers that are all named in a list of declared ones are declared
pub declared-named : (count : ℕ) (list : List ℕ) → ((n : ℕ) → has_pool list n ≡ true → n < count) → are_declared count list ≡ true
declared-named count [] low = refl
declared-named count (n ∷ list) low = ap₂ (λ b c. b && c) (less n count (low n (named_first n list))) (declared-named count list (λ m named. low m (named_later n list m named)))
  where
    less : (m n : ℕ) → m < n → nat_lt m n ≡ true
    less m n h = grind (arith, nat_tests)

declared-step : (b : Bool) (count x n : ℕ) (list : List ℕ) → eqb x n ≡ b → x < count → (has_pool list n ≡ true → n < count) → (b || has_pool list n) ≡ true → n < count
declared-step true count x n list e low later named = subst (λ (m : ℕ). m < count) (eqb-true x n e) low
declared-step false count x n list e low later named = later named

pub named-declared : (count : ℕ) (list : List ℕ) (n : ℕ) → are_declared count list ≡ true → has_pool list n ≡ true → n < count
named-declared count [] n declared named = absurd (cc)
named-declared count (x ∷ list) n declared named =
    declared-step (eqb x n) count x n list refl (declared_first count x list declared) (named-declared count list n (and-right _ (are_declared count list) declared)) named

-- one of these stands at the place of a number, which is counted from another one
pub record IsPlaced {X : Type 0} (found : ℕ → X) (pools : List ℕ) (pool : ℕ) (from : ℕ) (place : Option ℕ) : Type 0 where
  pub at : ℕ
  pub is : place ≡ Some (from + at)
  pub here : slice_get (map found pools) at ≡ Some (found pool)

placed-step : {X : Type 0} (b : Bool) (found : ℕ → X) (x pool from : ℕ) (pools : List ℕ) → eqb x pool ≡ b
    → (has_pool pools pool ≡ true → IsPlaced found pools pool (from + 1) (position_from (λ (other : ℕ). eqb other pool) (from + 1) pools)) → (b || has_pool pools pool) ≡ true
    → IsPlaced found (x ∷ pools) pool from (cond b (Some from) (position_from (λ (other : ℕ). eqb other pool) (from + 1) pools))
placed-step true found x pool from pools e later named = record { at = 0; is = ap Some (plus-zero from); here = ap (λ (n : ℕ). Some (found n)) (eqb-true x pool e) }
  where
    plus-zero : (n : ℕ) → n ≡ n + 0
    plus-zero n = omega arith
placed-step false found x pool from pools e later named = let rest = later named in record { at = suc rest.at; is = rest.is ∙ ap Some (moved from rest.at); here = rest.here }
  where
    moved : (a b : ℕ) → (a + 1) + b ≡ a + suc b
    moved a b = omega arith

-- at the place of a named number stands what is found for it
pub place_found : {X : Type 0} (found : ℕ → X) (pool : ℕ) (pools : List ℕ) (from : ℕ) → has_pool pools pool ≡ true → IsPlaced found pools pool from (position_from (λ (other : ℕ). eqb other pool) from pools)
place_found found pool [] from named = absurd (cc)
place_found found pool (x ∷ pools) from named = placed-step (eqb x pool) found x pool from pools refl (place_found found pool pools (from + 1)) named

-- the same, where the place is known
pub found_there : {X : Type 0} (found : ℕ → X) (pool : ℕ) (pools : List ℕ) (at : ℕ) → has_pool pools pool ≡ true → Some at ≡ position_from (λ (other : ℕ). eqb other pool) 0 pools
    → slice_get (map found pools) at ≡ Some (found pool)
found_there found pool pools at named is =
    let placed = place_found found pool pools 0 named in
    subst (λ (n : ℕ). slice_get (map found pools) n ≡ Some (found pool)) (sym (same_Some at placed.at (is ∙ placed.is ∙ ap Some (zero-add placed.at)))) placed.here

pub all-named : (pools list : List ℕ) → ((n : ℕ) → has_pool list n ≡ true → has_pool pools n ≡ true) → AllByRecursion (λ (n : ℕ). has_pool pools n ≡ true) list
all-named pools [] named = tt
all-named pools (x ∷ list) named = (named x (named_first x list), all-named pools list (λ n is. named n (named_later x list n is)))

-- ---- the lists of pools that a system is shown

or-first : (b c : Bool) → b ≡ true → (b || c) ≡ true
or-first true c e = refl
or-first false c e = absurd (cc)

or-second : (b c : Bool) → c ≡ true → (b || c) ≡ true
or-second true c e = refl
or-second false c e = e

pub read_named : (access : Access) (n : ℕ) → has_pool access.read n ≡ true → has_pool (read_pools access) n ≡ true
read_named access n named =
    named-append (access.read ++ access.look) access.without n
    ∙ or-first (has_pool (access.read ++ access.look) n) (has_pool access.without n) (named-append access.read access.look n ∙ or-first (has_pool access.read n) (has_pool access.look n) named)

pub look_named : (access : Access) (n : ℕ) → has_pool access.look n ≡ true → has_pool (read_pools access) n ≡ true
look_named access n named =
    named-append (access.read ++ access.look) access.without n
    ∙ or-first (has_pool (access.read ++ access.look) n) (has_pool access.without n) (named-append access.read access.look n ∙ or-second (has_pool access.read n) (has_pool access.look n) named)

pub without_named : (access : Access) (n : ℕ) → has_pool access.without n ≡ true → has_pool (read_pools access) n ≡ true
without_named access n named = named-append (access.read ++ access.look) access.without n ∙ or-second (has_pool (access.read ++ access.look) n) (has_pool access.without n) named
