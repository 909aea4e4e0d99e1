-- What is emitted in the lanes of a batch, told by the index of one lane's entity.
use Rattle.std.proofs.Common.{◌≡◌, ◌≢◌, ℕ, zero, suc, ◌+◌, ◌<◌, ◌≤◌, ◌==◌, Bool, true, false, cond, not, ◌&&◌, IsTrue, ℤ, List, [], ◌∷◌, ◌++◌, take, length, Option, Some, None, refl, sym, ap, ap₂, ◌∙◌, subst, arith, append_assoc, length-append, if◌then◌else◌}
use Rattle.std.specs.Prelude.{is_some, option_to_list}
use Rattle.std.proofs.lemmas.Bool.{and_parts, false≢true, eqb-true, eq-eqb}
use Rattle.std.proofs.lemmas.List.Elements.{filter-append}
use Rattle.std.proofs.lemmas.List.Sums.{sum_by-cons, sum_by-take-drop}
use Rattle.entity_id.specs.declared.entity.Entity.{Entity}
use Rattle.world_model.specs.declared.deferred.Deferred.{Deferred}
use Rattle.row_lang.specs.declared.token.Keyword.{Keyword}
use Rattle.row_lang.specs.Arithmetic.{is_zero}
use Rattle.system_api.specs.Batches.{lanes, entity_at, is_marked}
use Rattle.system_api.specs.Emissions.{Emission}
use Rattle.system_eval.specs.Doings.{emitted, order_given, orders_in}
use Rattle.system_eval.specs.Lanes.{Scenery, given_to, beside, marked_count, AreDistinctMarked, IsOfNoLane}
use Rattle.system_eval.specs.Stacks.{Columns, int_at, operands_at}

-- ---- how many are marked

pub marked_more : (marks : List Bool) (n : ℕ) → marked_count (take (suc n) marks) ≡ marked_count (take n marks) + cond (is_marked marks n) 1 0
marked_more [] zero = refl
marked_more [] (suc n) = refl
marked_more (m ∷ marks) zero = let one = sum_by-cons (λ (mark : Bool). cond mark 1 0) m [] in omega (arith, one)
marked_more (m ∷ marks) (suc n) =
    let behind = marked_more marks n in
    let more = sum_by-cons (λ (mark : Bool). cond mark 1 0) m (take (suc n) marks) in
    let few = sum_by-cons (λ (mark : Bool). cond mark 1 0) m (take n marks) in
    omega (arith, behind, more, few)

pub marked_first : (marks : List Bool) (n : ℕ) → marked_count (take n marks) ≤ marked_count marks
marked_first marks n = let all = sum_by-take-drop (λ (mark : Bool). cond mark 1 0) marks n in omega (arith, all)

-- an order is given only where a lane counts
counts_there : (b : Bool) (o order : Option Deferred) → order ≡ (if b then o else None) → IsTrue (is_some order) → b ≡ true
counts_there true o order is some = refl
counts_there false o order is some = absurd (false≢true (ap is_some (sym is) ∙ some))

-- an order more is one for which there is room
pub room_there : (marks : List Bool) (lane : ℕ) (b t : Bool) (o order : Option Deferred) (spare before now room : ℕ) → b ≡ (is_marked marks lane && t) → order ≡ (if b then o else None) →
    marked_count marks ≤ room → spare + now ≡ room + before → now ≤ before + marked_count (take lane marks) → IsTrue (is_some order) → 0 < spare
room_there marks lane b t o order spare before now room counts is enough same few some =
    let marked = (and_parts (is_marked marks lane) t (sym counts ∙ counts_there b o order is some)).0 in
    let one = marked_more marks lane ∙ ap (λ (m : Bool). marked_count (take lane marks) + cond m 1 0) marked in
    omega (arith, one, marked_first marks (suc lane), enough, same, few)

one_at_most : (o : Option Deferred) → length (option_to_list o) ≤ 1
one_at_most None = omega arith
one_at_most (Some order) = omega arith

length-beside : (index : ℕ) (orders : List Deferred) → length (beside index orders) ≡ length orders
length-beside index [] = refl
length-beside index (order ∷ orders) = ap suc (length-beside index orders)

pub few_there : (marks : List Bool) (lane : ℕ) (b t : Bool) (o order : Option Deferred) (index before : ℕ) (list new : List Emission) → b ≡ (is_marked marks lane && t) → order ≡ (if b then o else None) →
    new ≡ list ++ beside index (option_to_list order) → length list ≤ before + marked_count (take lane marks) → length new ≤ before + marked_count (take (lane + 1) marks)
few_there marks lane b t o order index before list new counts is put few =
    let next : lane + 1 ≡ suc lane = omega arith in
    let long = ap length put ∙ length-append list (beside index (option_to_list order)) in
    let beside_long = length-beside index (option_to_list order) in
    subst (λ n. length new ≤ before + marked_count (take n marks)) (sym next) (split (is_marked marks lane) refl long beside_long)
  where
    split : (m : Bool) → is_marked marks lane ≡ m → length new ≡ length list + length (beside index (option_to_list order)) → length (beside index (option_to_list order)) ≡ length (option_to_list order) → length new ≤ before + marked_count (take (suc lane) marks)
    split true marked long beside_long =
        let one = marked_more marks lane ∙ ap (λ (m : Bool). marked_count (take lane marks) + cond m 1 0) marked in
        omega (arith, one, long, beside_long, few, one_at_most order)
    split false marked long beside_long =
        let none : length (option_to_list order) ≡ 0 = ap (λ o. length (option_to_list o)) (is ∙ ap (λ (c : Bool). if c then o else None) (counts ∙ ap (λ (m : Bool). m && t) marked)) in
        let one = marked_more marks lane ∙ ap (λ (m : Bool). marked_count (take lane marks) + cond m 1 0) marked in
        omega (arith, one, long, beside_long, few, none)

-- ---- lane after lane

pub emitted_none : (entities : List Entity) (give : ℕ → List Deferred) → emitted entities give 0 ≡ []
unfolding emitted
emitted_none entities give = refl

pub emitted_more : (entities : List Entity) (give : ℕ → List Deferred) (n : ℕ) → emitted entities give (suc n) ≡ emitted entities give n ++ beside (entity_at entities n).index (give n)
unfolding emitted
emitted_more entities give n = refl

option_list : (b : Bool) (o : Option Deferred) → option_to_list (if b then o else None) ≡ (if b then option_to_list o else [])
option_list true o = refl
option_list false o = refl

pub emit_step : (s : Scenery) (word : Keyword) (test : List ℤ) (stack : Columns) (spawned : List Bool) (lane : ℕ) (b : Bool) (order : Option Deferred) (before list new : List Emission) →
    b ≡ (is_marked s.marks lane && not (is_zero (int_at test lane))) → order ≡ (if b then order_given s.profile word (operands_at stack lane) (is_marked spawned lane) else None) →
    list ≡ before ++ emitted s.entities (orders_in s word test stack spawned) lane → new ≡ list ++ beside (entity_at s.entities lane).index (option_to_list order) →
    new ≡ before ++ emitted s.entities (orders_in s word test stack spawned) (lane + 1)
emit_step s word test stack spawned lane b order before list new counts is so_far put =
    let give = orders_in s word test stack spawned in
    let next : lane + 1 ≡ suc lane = omega arith in
    let index = (entity_at s.entities lane).index in
    let o = order_given s.profile word (operands_at stack lane) (is_marked spawned lane) in
    let here : option_to_list order ≡ give lane = ap (λ o. option_to_list o) is ∙ option_list b o ∙ ap (λ (c : Bool). if c then option_to_list o else []) counts in
    put ∙ ap₂ (λ (a : List Emission) (x : List Deferred). a ++ beside index x) so_far here ∙ append_assoc before (emitted s.entities give lane) (beside index (give lane))
    ∙ ap (λ es. before ++ es) (sym (emitted_more s.entities give lane) ∙ ap (emitted s.entities give) (sym next))

-- ---- by index

own_part : (index : ℕ) (orders : List Deferred) → given_to index (beside index orders) ≡ beside index orders
own_part index [] = refl
own_part index (order ∷ orders) = rw (eq-eqb index index refl) (ap (λ es. record { index = index; order = order } ∷ es) (own_part index orders))

other_test : (a b : ℕ) → a ≢ b → (a == b) ≡ false
other_test a b ne = split (a == b) refl
  where
    split : (t : Bool) → (a == b) ≡ t → t ≡ false
    split true is = absurd (ne (eqb-true a b is))
    split false is = refl

other_part : (index other : ℕ) (orders : List Deferred) → other ≢ index → given_to index (beside other orders) ≡ []
other_part index other [] ne = refl
other_part index other (order ∷ orders) ne = rw (other_test other index ne) (other_part index other orders ne)

module _ (index : ℕ) (entities : List Entity) (give : ℕ → List Deferred) where
  abbrev part : ℕ → List Emission
  part n = given_to index (beside (entity_at entities n).index (give n))

  more_given : (n : ℕ) → given_to index (emitted entities give (suc n)) ≡ given_to index (emitted entities give n) ++ part n
  more_given n = ap (given_to index) (emitted_more entities give n) ∙ filter-append (λ (emission : Emission). emission.index == index) (emitted entities give n) (beside (entity_at entities n).index (give n))

  pub none_given : (n : ℕ) → ((k : ℕ) → k < n → part k ≡ []) → given_to index (emitted entities give n) ≡ []
  none_given zero none = ap (given_to index) (emitted_none entities give)
  none_given (suc n) none = more_given n ∙ ap₂ (λ (a b : List Emission). a ++ b) (none_given n (λ k h. none k (omega (arith, h)))) (none n (omega arith))

  append_none : (xs ys : List Emission) → ys ≡ [] → xs ++ ys ≡ xs
  append_none [] ys none = none
  append_none (x ∷ xs) ys none = ap (λ zs. x ∷ zs) (append_none xs ys none)

  pub one_given : (n lane : ℕ) → lane < n → ((k : ℕ) → k < n → k ≢ lane → part k ≡ []) → given_to index (emitted entities give n) ≡ part lane
  one_given zero lane within others = absurd (omega arith)
  one_given (suc n) lane within others = split (lane == n) refl (λ h. one_given n lane h (λ k below ne. others k (omega (arith, below)) ne))
    where
      split : (b : Bool) → (lane == n) ≡ b → (lane < n → given_to index (emitted entities give n) ≡ part lane) → given_to index (emitted entities give (suc n)) ≡ part lane
      split true is behind =
          let here : lane ≡ n = eqb-true lane n is in
          more_given n ∙ ap (λ es. es ++ part n) (none_given n (λ k h. others k (omega (arith, h)) (omega (arith, h, here)))) ∙ ap (λ k. part k) (sym here)
      split false is behind =
          let other : lane ≢ n = λ same. false≢true (sym is ∙ eq-eqb lane n same) in
          more_given n ∙ append_none (given_to index (emitted entities give n)) (part n) (others n (omega arith) (omega (arith, other))) ∙ behind (omega (arith, within, other))

-- ---- in a batch

module _ (s : Scenery) (word : Keyword) (test : List ℤ) (stack : Columns) (spawned : List Bool) where
  unmarked : (lane : ℕ) → is_marked s.marks lane ≡ false → orders_in s word test stack spawned lane ≡ []
  unmarked lane is = rw is refl

  either_marked : (lane : ℕ) (P : Type 0) → (is_marked s.marks lane ≡ true → P) → (is_marked s.marks lane ≡ false → P) → P
  either_marked lane P there lacks = split (is_marked s.marks lane) refl
    where
      split : (b : Bool) → is_marked s.marks lane ≡ b → P
      split true is = there is
      split false is = lacks is

  part_none : (index k : ℕ) → is_marked s.marks k ≡ false → given_to index (beside (entity_at s.entities k).index (orders_in s word test stack spawned k)) ≡ []
  part_none index k is = ap (λ orders. given_to index (beside (entity_at s.entities k).index orders)) (unmarked k is)

  pub given_in_lane : (lane : ℕ) → AreDistinctMarked s.marks s.entities → lane < lanes → IsTrue (is_marked s.marks lane) →
      given_to (entity_at s.entities lane).index (emitted s.entities (orders_in s word test stack spawned) lanes) ≡ beside (entity_at s.entities lane).index (orders_in s word test stack spawned lane)
  given_in_lane lane distinct within marked =
      let index = (entity_at s.entities lane).index in
      one_given index s.entities (orders_in s word test stack spawned) lanes lane within
      (λ k h ne. either_marked k (given_to index (beside (entity_at s.entities k).index (orders_in s word test stack spawned k)) ≡ [])
      (λ there. other_part index (entity_at s.entities k).index (orders_in s word test stack spawned k) (λ same. ne (distinct k lane h within there marked same)))
      (λ none. part_none index k none))
      ∙ own_part index (orders_in s word test stack spawned lane)

  pub given_to_none : (index : ℕ) → IsOfNoLane s.marks s.entities index → given_to index (emitted s.entities (orders_in s word test stack spawned) lanes) ≡ []
  given_to_none index none =
      none_given index s.entities (orders_in s word test stack spawned) lanes
      (λ k h. either_marked k (given_to index (beside (entity_at s.entities k).index (orders_in s word test stack spawned k)) ≡ [])
      (λ there. other_part index (entity_at s.entities k).index (orders_in s word test stack spawned k) (none k h there))
      (λ unmarked. part_none index k unmarked))
