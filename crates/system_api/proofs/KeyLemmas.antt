-- Keys of orders.
use Rattle.std.proofs.Common.{◌≡◌, ℕ, zero, suc, ◌+◌, ◌*◌, ◌/◌, ◌%◌, ◌^◌, ◌<◌, ◌≤◌, ◌==◌, Bool, true, false, cond, List, [], ◌∷◌, ◌++◌, map, filter, length, refl, sym, ap, ap₂, ◌∙◌, subst, arith, eqb, slice_index_or}
use Rattle.std.specs.List.{AllByRecursion, sum_by}
use Rattle.std.specs.List.Sorted.{IsPermutation}
use Rattle.std.proofs.lemmas.Bool.{eqb-true}
use Rattle.std.proofs.lemmas.List.Sorted.{sum_by-IsPermutation}
use Rattle.std.proofs.lemmas.List.{map-append, append-nil}
use Rattle.std.proofs.lemmas.List.Recursion.{is_sum_by}
use Rattle.entity_id.proofs.ListLemmas.{all-filter, all_weaker}
use Rattle.world_model.specs.declared.deferred.Deferred.{Deferred}
use Rattle.world_model.specs.declared.deferred.Deferred.TheVariants.{Spawn}
use Rattle.system_api.specs.Emissions.{Emission}
use Rattle.system_api.specs.Settling.{of_number, NeverFalls}
use Rattle.system_api.proofs.SettledLemmas.{one-list}
use Rattle.system_api.specs.KeyedOrders.{index_of_key, emission_of}

-- an index and a place make a key
pub key-index : (i p : ℕ) → p < 2 ^ 32 → (i * 2 ^ 32 + p) / 2 ^ 32 ≡ i
key-index i p h = omega arith

pub key-place : (i p : ℕ) → p < 2 ^ 32 → (i * 2 ^ 32 + p) % 2 ^ 32 ≡ p
key-place i p h = omega arith

more : {X : Type 0} (b : Bool) (x : X) (ys zs us : List X) → ys ≡ zs ++ us → cond b (x ∷ ys) ys ≡ cond b (x ∷ zs) zs ++ us
more true x ys zs us e = ap (λ vs. x ∷ vs) e
more false x ys zs us e = e

-- those of one number, of an appended list
pub of-push : {X : Type 0} (n : X → ℕ) (i : ℕ) (xs : List X) (y : X) → of_number n i (xs ++ y ∷ []) ≡ of_number n i xs ++ cond (eqb (n y) i) (y ∷ []) []
of-push n i [] y = refl
of-push n i (x ∷ xs) y = more (eqb (n x) i) x _ (of_number n i xs) (cond (eqb (n y) i) (y ∷ []) []) (of-push n i xs y)

-- ---- settling

-- entries of one index, from keys of one index
entries-step : (b : Bool) (x : Emission) (k : ℕ) (f : ℕ → Emission) (ys : List (Emission)) (ks : List ℕ) → x ≡ f k → ys ≡ map f ks → cond b (x ∷ ys) ys ≡ map f (cond b (k ∷ ks) ks)
entries-step true x k f ys ks ex e = ap₂ (λ a rest. a ∷ rest) ex e
entries-step false x k f ys ks ex e = e

pub of-entries : (orders : List Deferred) (i : ℕ) (keys : List ℕ) → of_number (λ (entry : Emission). entry.index) i (map (emission_of orders) keys) ≡ map (emission_of orders) (of_number index_of_key i keys)
of-entries orders i [] = refl
of-entries orders i (k ∷ ks) = entries-step (eqb (index_of_key k) i) (emission_of orders k) k (emission_of orders) _ (of_number index_of_key i ks) refl (of-entries orders i ks)

-- a number, as often as it stands in a list
abbrev flag : ℕ → ℕ → ℕ
flag i x = cond (eqb x i) 1 0

abbrev times : ℕ → ℕ → List ℕ
times zero i = []
times (suc n) i = i ∷ times n i

counted-step : (b : Bool) (i x : ℕ) (ys : List ℕ) (n : ℕ) → eqb x i ≡ b → ys ≡ times n i → cond b (x ∷ ys) ys ≡ times (cond b 1 0 + n) i
counted-step true i x ys n e is = let one : suc n ≡ 1 + n = omega arith in ap₂ (λ (a : ℕ) (rest : List ℕ). a ∷ rest) (eqb-true x i e) is ∙ ap (λ k. times k i) one
counted-step false i x ys n e is = let none : n ≡ 0 + n = omega arith in is ∙ ap (λ k. times k i) none

abbrev count_of : ℕ → List ℕ → ℕ
count_of i [] = 0
count_of i (x ∷ xs) = flag i x + count_of i xs

counted-own : (i : ℕ) (xs : List ℕ) → of_number (λ x. x) i xs ≡ times (count_of i xs) i
counted-own i [] = refl
counted-own i (x ∷ xs) = counted-step (eqb x i) i x (of_number (λ x. x) i xs) (count_of i xs) refl (counted-own i xs)

counted : (i : ℕ) (xs : List ℕ) → of_number (λ x. x) i xs ≡ times (sum_by (flag i) xs) i
counted i xs = counted-own i xs ∙ ap (λ n. times n i) (is_sum_by (count_of i) (flag i) refl (λ _ _. refl) xs)

-- those equal to j among those of index i
both-step : (b c : Bool) (k : ℕ) (p : ℕ → Bool) (q : ℕ → Bool) (ks : List ℕ) → filter p (filter q ks) ≡ filter q (filter p ks) → q k ≡ b → p k ≡ c → filter p (cond b (k ∷ filter q ks) (filter q ks)) ≡ filter q (cond c (k ∷ filter p ks) (filter p ks))
both-step true true k p q ks h eq ep = ap (λ (d : Bool). cond d (k ∷ filter p (filter q ks)) (filter p (filter q ks))) ep ∙ ap (λ zs. k ∷ zs) h ∙ sym (ap (λ (d : Bool). cond d (k ∷ filter q (filter p ks)) (filter q (filter p ks))) eq)
both-step true false k p q ks h eq ep = ap (λ (d : Bool). cond d (k ∷ filter p (filter q ks)) (filter p (filter q ks))) ep ∙ h
both-step false true k p q ks h eq ep = h ∙ sym (ap (λ (d : Bool). cond d (k ∷ filter q (filter p ks)) (filter q (filter p ks))) eq)
both-step false false k p q ks h eq ep = h

both : (p q : ℕ → Bool) (ks : List ℕ) → filter p (filter q ks) ≡ filter q (filter p ks)
both p q [] = refl
both p q (k ∷ ks) = both-step (q k) (p k) k p q ks (both p q ks) refl refl

falls-step : (b : Bool) (k : ℕ) (ks : List ℕ) → AllByRecursion (λ y. k ≤ y) ks → NeverFalls (λ (x : ℕ). x) ks → NeverFalls (λ (x : ℕ). x) (cond b (k ∷ ks) ks)
falls-step true k ks all falls = (all, falls)
falls-step false k ks all falls = falls

pub falls-filter : (p : ℕ → Bool) (ks : List ℕ) → NeverFalls (λ (x : ℕ). x) ks → NeverFalls (λ (x : ℕ). x) (filter p ks)
falls-filter p [] falls = tt
falls-filter p (k ∷ ks) falls = falls-step (p k) k (filter p ks) (all-filter (λ y. k ≤ y) p ks falls.0) (falls-filter p ks falls.1)

-- the keys of one index are the same after a sort
pub same-keys : (i : ℕ) (old new : List ℕ) → IsPermutation old new → NeverFalls (λ (x : ℕ). x) new → NeverFalls (λ (x : ℕ). x) (of_number index_of_key i old) → of_number index_of_key i new ≡ of_number index_of_key i old
same-keys i old new perm up rising =
    one-list (λ (x : ℕ). x) (of_number index_of_key i new) (of_number index_of_key i old) (falls-filter (λ k. index_of_key k == i) new up) rising
    (λ j. both (λ x. x == j) (λ k. index_of_key k == i) new
    ∙ ap (filter (λ k. index_of_key k == i)) (counted j new ∙ ap (λ n. times n j) (sum_by-IsPermutation (flag j) old new perm) ∙ sym (counted j old))
    ∙ sym (both (λ x. x == j) (λ k. index_of_key k == i) old))

-- and the entries never fall
div-mono : (a b : ℕ) → a ≤ b → index_of_key a ≤ index_of_key b
div-mono a b h = omega arith

all-entries : (orders : List Deferred) (k : ℕ) (ks : List ℕ) → AllByRecursion (λ y. k ≤ y) ks → AllByRecursion (λ (entry : Emission). index_of_key k ≤ entry.index) (map (emission_of orders) ks)
all-entries orders k [] all = tt
all-entries orders k (y ∷ ys) all = (div-mono k y all.0, all-entries orders k ys all.1)

pub falls-entries : (orders : List Deferred) (ks : List ℕ) → NeverFalls (λ (x : ℕ). x) ks → NeverFalls (λ (entry : Emission). entry.index) (map (emission_of orders) ks)
falls-entries orders [] falls = tt
falls-entries orders (k ∷ ks) falls = (all-entries orders k ks falls.0, falls-entries orders ks falls.1)

-- a sorted list never falls
pub from-places : (P : ℕ → Type 0) (ys : List ℕ) → ((j : ℕ) → j < length ys → P (slice_index_or ys j 0)) → AllByRecursion P ys
from-places P [] h = tt
from-places P (y ∷ ys) h = (h 0 (omega arith), from-places P ys (λ j w. h (suc j) (omega arith)))

all-low : (k : ℕ) (ys : List ℕ) → ((j : ℕ) → j < length ys → k ≤ slice_index_or ys j 0) → AllByRecursion (λ y. k ≤ y) ys
all-low k [] h = tt
all-low k (y ∷ ys) h = (h 0 (omega arith), all-low k ys (λ j w. h (suc j) (omega arith)))

pub falls-sorted : (ks : List ℕ) → ((i j : ℕ) → i ≤ j → j < length ks → slice_index_or ks i 0 ≤ slice_index_or ks j 0) → NeverFalls (λ (x : ℕ). x) ks
falls-sorted [] h = tt
falls-sorted (k ∷ ks) h = (all-low k ks (λ j w. h 0 (suc j) (omega arith) (omega arith)), falls-sorted ks (λ i j le w. h (suc i) (suc j) (omega arith) (omega arith)))

-- ---- pushing

all-snoc : (P : ℕ → Type 0) (xs : List ℕ) (y : ℕ) → AllByRecursion P xs → P y → AllByRecursion P (xs ++ y ∷ [])
all-snoc P [] y all here = (here, tt)
all-snoc P (x ∷ xs) y all here = (all.0, all-snoc P xs y all.1 here)

pub falls-snoc : (xs : List ℕ) (y : ℕ) → NeverFalls (λ (x : ℕ). x) xs → AllByRecursion (λ x. x ≤ y) xs → NeverFalls (λ (x : ℕ). x) (xs ++ y ∷ [])
falls-snoc [] y falls all = (tt, tt)
falls-snoc (x ∷ xs) y falls all = (all-snoc (λ z. x ≤ z) xs y falls.0 all.0, falls-snoc xs y falls.1 all.1)

below-step : (b : Bool) (i n key k : ℕ) (ks : List ℕ) → eqb (index_of_key k) i ≡ b → index_of_key key ≡ i → key % 2 ^ 32 ≡ n → k % 2 ^ 32 < n → AllByRecursion (λ x. x ≤ key) ks → AllByRecursion (λ x. x ≤ key) (cond b (k ∷ ks) ks)
below-step true i n key k ks e is low less all = let same : index_of_key k ≡ i = eqb-true (index_of_key k) i e in (omega (arith, same, is, low, less), all)
below-step false i n key k ks e is low less all = all

pub below-key : (i n key : ℕ) (ks : List ℕ) → index_of_key key ≡ i → key % 2 ^ 32 ≡ n → AllByRecursion (λ k. k % 2 ^ 32 < n) ks → AllByRecursion (λ x. x ≤ key) (of_number index_of_key i ks)
below-key i n key [] is low all = tt
below-key i n key (k ∷ ks) is low all = below-step (eqb (index_of_key k) i) i n key k (of_number index_of_key i ks) refl is low all.0 (below-key i n key ks is low all.1)

rising-step : (b : Bool) (i n key : ℕ) (ks : List ℕ) → eqb (index_of_key key) i ≡ b → key % 2 ^ 32 ≡ n → AllByRecursion (λ k. k % 2 ^ 32 < n) ks → NeverFalls (λ (x : ℕ). x) (of_number index_of_key i ks) → NeverFalls (λ (x : ℕ). x) (of_number index_of_key i ks ++ cond b (key ∷ []) [])
rising-step true i n key ks e low all falls = falls-snoc (of_number index_of_key i ks) key falls (below-key i n key ks (eqb-true (index_of_key key) i e) low all)
rising-step false i n key ks e low all falls = subst (λ (xs : List ℕ). NeverFalls (λ (x : ℕ). x) xs) (sym (append-nil (of_number index_of_key i ks))) falls

pub rising-push : (i n key : ℕ) (ks : List ℕ) → key % 2 ^ 32 ≡ n → AllByRecursion (λ k. k % 2 ^ 32 < n) ks → NeverFalls (λ (x : ℕ). x) (of_number index_of_key i ks) → NeverFalls (λ (x : ℕ). x) (of_number index_of_key i (ks ++ key ∷ []))
rising-push i n key ks low all falls = subst (λ (xs : List ℕ). NeverFalls (λ (x : ℕ). x) xs) (sym (of-push index_of_key i ks key)) (rising-step (eqb (index_of_key key) i) i n key ks refl low all falls)

pub below-push : (n key : ℕ) (ks : List ℕ) → key % 2 ^ 32 ≡ n → AllByRecursion (λ k. k % 2 ^ 32 < n) ks → AllByRecursion (λ k. k % 2 ^ 32 < n + 1) (ks ++ key ∷ [])
below-push n key ks low all = all-snoc (λ k. k % 2 ^ 32 < n + 1) ks key (all_weaker (λ k. k % 2 ^ 32 < n) (λ k. k % 2 ^ 32 < n + 1) (λ k h. omega arith) ks all) (omega (arith, low))

-- the entries of keys stay where an order is appended
get-front : (os : List Deferred) (o : Deferred) (p : ℕ) → p < length os → slice_index_or (os ++ o ∷ []) p Spawn ≡ slice_index_or os p Spawn
get-front [] o p h = absurd (omega arith)
get-front (x ∷ os) o zero h = refl
get-front (x ∷ os) o (suc p) h = get-front os o p (omega arith)

get-last : (os : List Deferred) (o : Deferred) (p : ℕ) → p ≡ length os → slice_index_or (os ++ o ∷ []) p Spawn ≡ o
get-last [] o p h = ap (λ k. slice_index_or (o ∷ []) k Spawn) h
get-last (x ∷ os) o zero h = absurd (omega arith)
get-last (x ∷ os) o (suc p) h = get-last os o p (omega arith)

front-entries : (os : List Deferred) (o : Deferred) (n : ℕ) (ks : List ℕ) → n ≡ length os → AllByRecursion (λ k. k % 2 ^ 32 < n) ks → map (emission_of (os ++ o ∷ [])) ks ≡ map (emission_of os) ks
front-entries os o n [] e all = refl
front-entries os o n (k ∷ ks) e all = ap₂ (λ (d : Deferred) es. record { index = index_of_key k; order = d } ∷ es) (get-front os o (k % 2 ^ 32) (omega (arith, all.0))) (front-entries os o n ks e all.1)

pub pushed-entries : (os : List Deferred) (o : Deferred) (i n key : ℕ) (ks : List ℕ) → n ≡ length os → index_of_key key ≡ i → key % 2 ^ 32 ≡ n → AllByRecursion (λ k. k % 2 ^ 32 < n) ks → map (emission_of (os ++ o ∷ [])) (ks ++ key ∷ []) ≡ map (emission_of os) ks ++ record { index = i; order = o } ∷ []
pushed-entries os o i n key ks e is low all =
    map-append (emission_of (os ++ o ∷ [])) ks (key ∷ [])
    ∙ ap₂ (λ xs ys. xs ++ ys) (front-entries os o n ks e all) (ap₂ (λ (j : ℕ) (d : Deferred). record { index = j; order = d } ∷ []) is (get-last os o (key % 2 ^ 32) (low ∙ e)))

-- ---- places

pub all-places : (P : ℕ → Type 0) (xs : List ℕ) (k d : ℕ) → AllByRecursion P xs → k < length xs → P (slice_index_or xs k d)
all-places P [] k d all h = absurd (omega (arith, h))
all-places P (x ∷ xs) zero d all h = all.0
all-places P (x ∷ xs) (suc k) d all h = all-places P xs k d all.1 (omega (arith, h))
