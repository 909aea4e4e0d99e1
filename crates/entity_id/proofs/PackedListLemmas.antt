-- Places in lists, exchanges, and items that are told apart by a number.
use Rattle.std.proofs.Common.{◌≡◌, ◌≢◌, ◌⊎◌, ℕ, zero, suc, ◌+◌, ◌-◌, ◌<◌, Bool, true, false, cond, ◌||◌, List, [], ◌∷◌, ◌++◌, get_or, set, take, drop, length, Some, None, slice_get, sym, refl, ap, ◌∙◌, inl, inr, arith, length-set}
use Rattle.std.specs.Prelude.{is_some}
use Rattle.std.specs.List.{list_any, position_from, swap, swap_remove}
use Rattle.std.proofs.lemmas.Bool.{cases_Bool, cases_eq, false≢true}
use Rattle.std.specs.List.Sorted.{IsPermutation}
use Rattle.std.proofs.lemmas.List.{get_or_default, take-set, length-take-le, set-get_or}
use Rattle.std.proofs.lemmas.List.Sorted.{IsPermutation-keeps}
use Rattle.std.proofs.lemmas.Option.{none-some, same_Some, slice_get_within, slice_get-get_or, get_or_from_slice_get}
use Rattle.entity_id.proofs.ListLemmas.{slice_get-set_same, slice_get-set_other}
use Rattle.entity_id.specs.declared.entity.Entity.{Entity}
use Rattle.entity_id.specs.Identifiers.{is_same}
use Rattle.entity_id.specs.FiniteMap.{AreDistinctBy}
use Rattle.entity_id.specs.PackedLists.{place_of, swap_popped}
use Rattle.entity_id.proofs.MapLemmas.{same_itself, same_true}

-- the one place at which a test passes
pub position_is : {X : Type 0} (t : X → Bool) (xs : List X) (n k : ℕ) (x : X) → slice_get xs k ≡ Some x → t x ≡ true → ((j : ℕ) (y : X) → slice_get xs j ≡ Some y → t y ≡ true → j ≡ k) → position_from t n xs ≡ Some (n + k)
position_is t [] n k x h p one = absurd (none-some x h)
position_is t (y ∷ xs) n zero x h p one = ap (λ b. cond b (Some n) (position_from t (n + 1) xs)) (ap t (same_Some y x h) ∙ p) ∙ ap Some (let e : n ≡ n + 0 = omega arith in e)
position_is t (y ∷ xs) n (suc k) x h p one =
    elim (cases_Bool (t y)) [
      | inl passes ↦ absurd (let e : 0 ≡ suc k = one 0 y refl passes in omega arith)
      | inr other ↦ ap (λ b. cond b (Some n) (position_from t (n + 1) xs)) other
          ∙ position_is t xs (n + 1) k x h p (λ j z g q. let e : suc j ≡ suc k = one (suc j) z g q in omega arith)
          ∙ ap Some (let e : n + 1 + k ≡ n + suc k = omega arith in e)
    ]

pub position_none : {X : Type 0} (t : X → Bool) (xs : List X) (n : ℕ) → ((j : ℕ) (y : X) → slice_get xs j ≡ Some y → t y ≡ true → ⊥) → position_from t n xs ≡ None
position_none t [] n none = refl
position_none t (y ∷ xs) n none =
    elim (cases_Bool (t y)) [
      | inl passes ↦ absurd (none 0 y refl passes)
      | inr other ↦ ap (λ b. cond b (Some n) (position_from t (n + 1) xs)) other ∙ position_none t xs (n + 1) (λ j z g q. none (suc j) z g q)
    ]

pub any_by_position : {X : Type 0} (t : X → Bool) (xs : List X) (n : ℕ) → list_any t xs ≡ is_some (position_from t n xs)
any_by_position t [] n = refl
any_by_position t (x ∷ xs) n =
    elim (t x) as (λ b. (b || list_any t xs) ≡ is_some (cond b (Some n) (position_from t (n + 1) xs))) [
      | true ↦ refl
      | false ↦ any_by_position t xs (n + 1)
    ]

pub any_none : {X : Type 0} (t : X → Bool) (xs : List X) → list_any t xs ≡ false → (k : ℕ) (x : X) → slice_get xs k ≡ Some x → t x ≡ false
any_none t [] h k x g = absurd (none-some x g)
any_none t (y ∷ xs) h zero x g = ap t (sym (same_Some y x g)) ∙ first (t y) (list_any t xs) h
  where
    first : (a b : Bool) → (a || b) ≡ false → a ≡ false
    first false b h = refl
    first true b h = h
any_none t (y ∷ xs) h (suc k) x g = any_none t xs (rest (t y) (list_any t xs) h) k x g
  where
    rest : (a b : Bool) → (a || b) ≡ false → b ≡ false
    rest false b h = h
    rest true b h = absurd (false≢true (sym h))

pub none_by_place : {X : Type 0} (t : X → Bool) (xs : List X) → ((k : ℕ) (x : X) → slice_get xs k ≡ Some x → t x ≡ false) → list_any t xs ≡ false
none_by_place t [] h = refl
none_by_place t (y ∷ xs) h = ap (λ b. b || list_any t xs) (h 0 y refl) ∙ none_by_place t xs (λ k x g. h (suc k) x g)

-- what stands at a place after an exchange of two others
pub data After {X : Type 0} (xs : List X) (i j : ℕ) (x y : X) (k : ℕ) (z : X) : Type 0 where
  second : k ≡ j → z ≡ x → After xs i j x y k z
  first : k ≢ j → k ≡ i → z ≡ y → After xs i j x y k z
  other : k ≢ j → k ≢ i → slice_get xs k ≡ Some z → After xs i j x y k z

pub at_swapped : {X : Type 0} (xs : List X) (i j : ℕ) (x y : X) → slice_get xs i ≡ Some x → slice_get xs j ≡ Some y → (k : ℕ) (z : X) → slice_get (swap xs i j) k ≡ Some z → After xs i j x y k z
at_swapped [] i j x y hx hy k z g = absurd (none-some x hx)
at_swapped (d ∷ l) i j x y hx hy k z g =
    let xs = d ∷ l in
    let at_i : get_or xs i d ≡ x = get_or_from_slice_get xs i x d hx in
    let at_j : get_or xs j d ≡ y = get_or_from_slice_get xs j y d hy in
    let inner = set xs i (get_or xs j d) in
    let in_j : j < length inner = let w : j < length xs = slice_get_within xs j y hy in omega (arith, length-set xs i (get_or xs j d)) in
    let in_i : i < length xs = slice_get_within xs i x hx in
    elim (cases_eq k j) [
      | inl same ↦ second same (same_Some z x (sym g ∙ ap (slice_get (swap xs i j)) same ∙ slice_get-set_same inner j (get_or xs i d) in_j ∙ ap Some at_i))
      | inr apart ↦
          let g' : slice_get inner k ≡ Some z = sym (slice_get-set_other inner j k (get_or xs i d) apart) ∙ g in
          elim (cases_eq k i) [
            | inl same ↦ first apart same (same_Some z y (sym g' ∙ ap (slice_get inner) same ∙ slice_get-set_same xs i (get_or xs j d) in_i ∙ ap Some at_j))
            | inr apart' ↦ other apart apart' (sym (slice_get-set_other xs i k (get_or xs j d) apart') ∙ g')
          ]
    ]

pub at_taken : {X : Type 0} (n : ℕ) (xs : List X) (k : ℕ) (z : X) → slice_get (take n xs) k ≡ Some z → (k < n) × (slice_get xs k ≡ Some z)
at_taken zero xs k z g = absurd (none-some z g)
at_taken (suc n) [] k z g = absurd (none-some z g)
at_taken (suc n) (x ∷ xs) zero z g = (omega arith, g)
at_taken (suc n) (x ∷ xs) (suc k) z g = let h = at_taken n xs k z g in (let w : k < n = h.0 in omega arith, h.1)

-- what is left behind the first ones stood somewhere
pub at_dropped : {X : Type 0} (n : ℕ) (xs : List X) (k : ℕ) (z : X) → slice_get (drop n xs) k ≡ Some z → (j : ℕ) × (slice_get xs j ≡ Some z)
at_dropped zero xs k z g = (k, g)
at_dropped (suc n) [] k z g = absurd (none-some z g)
at_dropped (suc n) (x ∷ xs) k z g = let before = at_dropped n xs k z g in (suc before.0, before.1)

pub at_pushed : {X : Type 0} (xs : List X) (x : X) (k : ℕ) (z : X) → slice_get (xs ++ x ∷ []) k ≡ Some z → (slice_get xs k ≡ Some z) ⊎ ((k ≡ length xs) × (z ≡ x))
at_pushed [] x zero z g = inr (refl, same_Some z x (sym g))
at_pushed [] x (suc k) z g = absurd (none-some z g)
at_pushed (y ∷ xs) x zero z g = inl g
at_pushed (y ∷ xs) x (suc k) z g = elim (at_pushed xs x k z g) [ inl h ↦ inl h | inr h ↦ inr (ap suc h.0, h.1) ]

-- what the vector's own call gives
pub swap_removed : {X : Type 0} (xs : List X) (i : ℕ) (x : X) → i < length xs → swap_remove xs i x ≡ swap_popped xs i
swap_removed [] i x h = absurd (omega arith)
swap_removed (d ∷ ys) i x h =
    let xs = d ∷ ys in
    let m = length xs - 1 in
    let last : m < length xs = omega arith in
    ap (λ v. take m (set xs i v)) (get_or_default xs m x d last) ∙ sym (take-set (set xs i (get_or xs m d)) m (get_or xs i d))

pub at_take : {X : Type 0} (n : ℕ) (xs : List X) (k : ℕ) → k < n → slice_get (take n xs) k ≡ slice_get xs k
at_take zero xs k h = absurd (omega arith)
at_take (suc n) [] k h = refl
at_take (suc n) (x ∷ xs) zero h = refl
at_take (suc n) (x ∷ xs) (suc k) h = at_take n xs k (omega arith)

-- what stood elsewhere than at the place that is emptied still stands somewhere
pub kept_at : {X : Type 0} (xs : List X) (place k m : ℕ) (x last : X) → place < length xs → k < length xs → m ≡ length xs - 1 → slice_get xs k ≡ Some x → slice_get xs m ≡ Some last → k ≢ place → (n : ℕ) × (slice_get (swap_popped xs place) n ≡ Some x)
kept_at [] place k m x last wp wk is h end apart = absurd (omega arith)
kept_at {X = X} (d ∷ ys) place k m x last wp wk is h end apart =
    let xs : List X = d ∷ ys in
    let top = length xs - 1 in
    let inner = set xs place (get_or xs top d) in
    elim (cases_eq k top) [
      | inl at_end ↦
          let low : place < top = omega arith in
          let value : get_or xs top d ≡ x = get_or_from_slice_get xs top x d (ap (slice_get xs) (sym at_end) ∙ h) in
          (place, at_take top (swap xs place top) place low ∙ slice_get-set_other inner top place (get_or xs place d) (λ same. omega arith) ∙ slice_get-set_same xs place (get_or xs top d) wp ∙ ap Some value)
      | inr before ↦
          (k, at_take top (swap xs place top) k (omega arith) ∙ slice_get-set_other inner top k (get_or xs place d) before ∙ slice_get-set_other xs place k (get_or xs top d) apart ∙ h)
    ]

-- what a position tells
pub position_here : {X : Type 0} (t : X → Bool) (xs : List X) (n p : ℕ) → position_from t n xs ≡ Some p → (k : ℕ) × (x : X) × (p ≡ n + k) × (slice_get xs k ≡ Some x) × (t x ≡ true)
position_here t [] n p h = absurd (none-some p h)
position_here t (y ∷ xs) n p h =
    elim (cases_Bool (t y)) [
      | inl passes ↦ (0, y, (let e : n ≡ p = same_Some n p (sym (ap (λ b. cond b (Some n) (position_from t (n + 1) xs)) passes) ∙ h) in omega arith), refl, passes)
      | inr fails ↦
          let rest = position_here t xs (n + 1) p (sym (ap (λ b. cond b (Some n) (position_from t (n + 1) xs)) fails) ∙ h) in
          (suc rest.0, rest.1, (let e : p ≡ n + 1 + rest.0 = rest.2 in omega arith), rest.3, rest.4)
    ]

first_fails : {X : Type 0} (t : X → Bool) (y : X) (xs : List X) (n : ℕ) → position_from t n (y ∷ xs) ≡ None → t y ≡ false
first_fails t y xs n h = elim (cases_Bool (t y)) [
  | inl passes ↦ absurd (none-some n (sym h ∙ ap (λ b. cond b (Some n) (position_from t (n + 1) xs)) passes))
  | inr fails ↦ fails
]

pub position_gone : {X : Type 0} (t : X → Bool) (xs : List X) (n : ℕ) → position_from t n xs ≡ None → (k : ℕ) (x : X) → slice_get xs k ≡ Some x → t x ≡ false
position_gone t [] n h k x g = absurd (none-some x g)
position_gone t (y ∷ xs) n h zero x g = ap t (sym (same_Some y x g)) ∙ first_fails t y xs n h
position_gone t (y ∷ xs) n h (suc k) x g = position_gone t xs (n + 1) (sym (ap (λ b. cond b (Some n) (position_from t (n + 1) xs)) (first_fails t y xs n h)) ∙ h) k x g

-- where an item goes in an exchange, which is below whatever the three places are below
pub swapped_to : {X : Type 0} (xs : List X) (i j : ℕ) (x y : X) → slice_get xs i ≡ Some x → slice_get xs j ≡ Some y → (k : ℕ) (z : X) → slice_get xs k ≡ Some z → (n : ℕ) × (slice_get (swap xs i j) n ≡ Some z) × ((m : ℕ) → i < m → j < m → k < m → n < m)
swapped_to [] i j x y hx hy k z g = absurd (none-some x hx)
swapped_to {X = X} (d ∷ l) i j x y hx hy k z g =
    let xs : List X = d ∷ l in
    let at_i : get_or xs i d ≡ x = get_or_from_slice_get xs i x d hx in
    let at_j : get_or xs j d ≡ y = get_or_from_slice_get xs j y d hy in
    let inner = set xs i (get_or xs j d) in
    let in_j : j < length inner = let w : j < length xs = slice_get_within xs j y hy in omega (arith, length-set xs i (get_or xs j d)) in
    let in_i : i < length xs = slice_get_within xs i x hx in
    elim (cases_eq k i) [
      | inl same ↦ (j, slice_get-set_same inner j (get_or xs i d) in_j ∙ ap Some at_i ∙ sym (ap (slice_get xs) same ∙ hx) ∙ g, λ m p q r. q)
      | inr apart ↦ elim (cases_eq k j) [
        | inl same ↦ elim (cases_eq i j) [
          | inl one ↦ absurd (apart (same ∙ sym one))
          | inr two ↦ (i, slice_get-set_other inner j i (get_or xs i d) two ∙ slice_get-set_same xs i (get_or xs j d) in_i ∙ ap Some at_j ∙ sym (ap (slice_get xs) same ∙ hy) ∙ g, λ m p q r. p)
        ]
        | inr apart' ↦ (k, slice_get-set_other inner j k (get_or xs i d) apart' ∙ slice_get-set_other xs i k (get_or xs j d) apart ∙ g, λ m p q r. r)
      ]
    ]

-- the item of the first place stands at the second
pub swap-second : {X : Type 0} (xs : List X) (i j : ℕ) (x : X) → slice_get xs i ≡ Some x → j < length xs → slice_get (swap xs i j) j ≡ Some x
swap-second [] i j x h within = absurd (omega arith)
swap-second {X = X} (d ∷ l) i j x h within =
    let xs : List X = d ∷ l in
    slice_get-set_same (set xs i (get_or xs j d)) j (get_or xs i d) (omega (arith, length-set xs i (get_or xs j d))) ∙ ap Some (get_or_from_slice_get xs i x d h)

pub swap-other : {X : Type 0} (xs : List X) (i j k : ℕ) → k ≢ i → k ≢ j → slice_get (swap xs i j) k ≡ slice_get xs k
swap-other [] i j k p q = refl
swap-other {X = X} (d ∷ l) i j k p q =
    let xs : List X = d ∷ l in
    slice_get-set_other (set xs i (get_or xs j d)) j k (get_or xs i d) q ∙ slice_get-set_other xs i k (get_or xs j d) p

pub swap-itself : {X : Type 0} (xs : List X) (i : ℕ) → swap xs i i ≡ xs
swap-itself [] i = refl
swap-itself {X = X} (d ∷ l) i =
    let xs : List X = d ∷ l in
    ap (λ ys. set ys i (get_or xs i d)) (set-get_or xs i d) ∙ set-get_or xs i d

-- where an item stood before an exchange
pub swapped_from : {X : Type 0} (xs : List X) (i j : ℕ) (a b : X) → slice_get xs i ≡ Some a → slice_get xs j ≡ Some b → (k : ℕ) (z : X) → slice_get (swap xs i j) k ≡ Some z → (n : ℕ) × (slice_get xs n ≡ Some z) × ((k ≡ j) × (n ≡ i) ⊎ (k ≢ j) × (((k ≡ i) × (n ≡ j)) ⊎ (k ≢ i) × (n ≡ k)))
swapped_from {X = X} xs i j a b hi hj k z h = elim (at_swapped xs i j a b hi hj k z h) [
  | second at is ↦ (i, hi ∙ ap (λ (v : X). Some v) (sym is), inl (at, refl))
  | first apart at is ↦ (j, hj ∙ ap (λ (v : X). Some v) (sym is), inr (apart, inl (at, refl)))
  | other apart apart' old ↦ (k, old, inr (apart, inr (apart', refl)))
]

-- items that are told apart still are after an exchange
pub distinct-swap : {X : Type 0} (number : X → ℕ) (xs : List X) → AreDistinctBy number xs → (i j : ℕ) (a b : X) → slice_get xs i ≡ Some a → slice_get xs j ≡ Some b → AreDistinctBy number (swap xs i j)
distinct-swap number xs once i j a b hi hj k l r s hr hs same =
    let from = swapped_from xs i j a b hi hj k r hr in
    let from' = swapped_from xs i j a b hi hj l s hs in
    let one : from.0 ≡ from'.0 = once from.0 from'.0 r s from.1 from'.1 same in
    elim from.2 [
      | inl (at, is) ↦ elim from'.2 [ inl (at', is') ↦ omega arith | inr (apart', rest') ↦ elim rest' [ inl (at', is') ↦ omega arith | inr (apart'', is') ↦ omega arith ] ]
      | inr (apart, rest) ↦ elim rest [
        | inl (at, is) ↦ elim from'.2 [ inl (at', is') ↦ omega arith | inr (apart', rest') ↦ elim rest' [ inl (at', is') ↦ omega arith | inr (apart'', is') ↦ omega arith ] ]
        | inr (beside, is) ↦ elim from'.2 [ inl (at', is') ↦ omega arith | inr (apart', rest') ↦ elim rest' [ inl (at', is') ↦ omega arith | inr (apart'', is') ↦ omega arith ] ]
      ]
    ]

-- the same where only the places are known
pub distinct-swap_within : {X : Type 0} (number : X → ℕ) (xs : List X) → AreDistinctBy number xs → (i j : ℕ) → i < length xs → j < length xs → AreDistinctBy number (swap xs i j)
distinct-swap_within number [] once i j p q = absurd (omega arith)
distinct-swap_within number (x ∷ xs) once i j p q = distinct-swap number (x ∷ xs) once i j _ _ (slice_get-get_or (x ∷ xs) i x p) (slice_get-get_or (x ∷ xs) j x q)

pub distinct-take : {X : Type 0} (number : X → ℕ) (n : ℕ) (xs : List X) → AreDistinctBy number xs → AreDistinctBy number (take n xs)
distinct-take number n xs once i j a b hi hj same = once i j a b (at_taken n xs i a hi).1 (at_taken n xs j b hj).1 same

-- and after any number of exchanges
pub distinct-permutation : {X : Type 0} (number : X → ℕ) (xs ys : List X) → IsPermutation xs ys → AreDistinctBy number xs → AreDistinctBy number ys
distinct-permutation number xs ys h once = IsPermutation-keeps xs (λ l. AreDistinctBy number l) once (λ l i j a b before. distinct-swap_within number l before i j a b) ys h

pub length-swap : {X : Type 0} (xs : List X) (i j : ℕ) → length (swap xs i j) ≡ length xs
length-swap [] i j = refl
length-swap (d ∷ l) i j = length-set (set (d ∷ l) i (get_or (d ∷ l) j d)) j (get_or (d ∷ l) i d) ∙ length-set (d ∷ l) i (get_or (d ∷ l) j d)

pub length-popped : {X : Type 0} (xs : List X) (place : ℕ) → place < length xs → length (swap_popped xs place) + 1 ≡ length xs
length-popped xs place h =
    let n = length xs - 1 in
    let s : length (swap xs place n) ≡ length xs = length-swap xs place n in
    let t : length (take n (swap xs place n)) ≡ n = length-take-le n (swap xs place n) (omega arith) in
    omega arith

-- an identifier stands where it is found
pub place_here : (list : List Entity) (e : Entity) (place : ℕ) → place_of list e ≡ Some place → slice_get list place ≡ Some e
place_here list e place h =
    let at = position_here (is_same e) list 0 place h in
    let k : place ≡ at.0 = let z : place ≡ 0 + at.0 = at.2 in omega arith in
    ap (slice_get list) k ∙ at.3 ∙ ap Some (sym (same_true e at.1 at.4))

-- and it is found where it stands, where no index comes twice
pub place_found : (list : List Entity) → AreDistinctBy (λ (e : Entity). e.index) list → (e : Entity) (place : ℕ) → slice_get list place ≡ Some e → place_of list e ≡ Some place
place_found list once e place here = position_is (is_same e) list 0 place e here (same_itself e) (λ j y g q. once j place y e g here (ap (λ (v : Entity). v.index) (sym (same_true e y q)))) ∙ ap Some (let z : 0 + place ≡ place = omega arith in z)
