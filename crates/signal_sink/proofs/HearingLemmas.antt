-- What is seen of listeners after one of them, or each, was told or made room in.
use Rattle.std.proofs.Common.{◌≡◌, ◌≢◌, ℕ, zero, suc, ◌+◌, ◌-◌, ◌<◌, ◌≤◌, List, [], ◌∷◌, ◌++◌, set, get_or, length, Option, Some, None, slice_get, sym, refl, ap, ◌∙◌, subst, inl, inr, arith, IsSomeAnd}
use Rattle.std.specs.Option.{option_map}
use Rattle.std.proofs.lemmas.Bool.{cases_eq}
use Rattle.std.proofs.lemmas.List.{map-set, length-map}
use Rattle.std.proofs.lemmas.Option.{none-some, same_Some, slice_get-map, slice_get_read}
use Rattle.world_model.specs.declared.event.Event.{Event}
use Rattle.world_model.proofs.ListLemmas.{slice_get-set_same, slice_get-set_other}
use Rattle.signal_sink.specs.Hearings.{Hearing, hearing_by, hearings_by, told, all_told, heard_lists, heard_also, HasSpare, HaveSpare, KeepsSpare, KeepSpare}

-- lists that have the same at each place are the same
pub same_by_get : {X : Type 0} (xs ys : List X) → ((n : ℕ) → slice_get xs n ≡ slice_get ys n) → xs ≡ ys
same_by_get [] [] h = refl
same_by_get [] (y ∷ ys) h = absurd (none-some y (h 0))
same_by_get (x ∷ xs) [] h = absurd (none-some x (sym (h 0)))
same_by_get {X = X} (x ∷ xs) (y ∷ ys) h = ap (λ (v : X). v ∷ xs) (same_Some x y (h 0)) ∙ ap (λ l. y ∷ l) (same_by_get xs ys (λ n. h (suc n)))

-- each that is told of an event has room for one less
pub told_spare : (e : Event) (hearings : List (Option Hearing)) (m : ℕ) → HaveSpare (m + 1) hearings → HaveSpare m (all_told e hearings)
told_spare e [] m h number hearing g = absurd (none-some (Some hearing) g)
told_spare e (None ∷ hearings) m h zero hearing g = absurd (none-some hearing (same_Some None (Some hearing) g))
told_spare e (Some first ∷ hearings) m h zero hearing g =
    let more : m + 1 ≤ first.spare = h 0 first refl in
    let is : first.spare - 1 ≡ hearing.spare = ap (λ (v : Hearing). v.spare) (same_Some (told e first) hearing (same_Some (Some (told e first)) (Some hearing) g)) in
    omega arith
told_spare e (o ∷ hearings) m h (suc number) hearing g = told_spare e hearings m (λ k v q. h (suc k) v q) number hearing g

-- where each that may be connected has room, the one that is connected has
pub spare_of : (o : Option Hearing) (m : ℕ) → ((e : Hearing) → o ≡ Some e → m ≤ e.spare) → HasSpare m o
spare_of None m w = tt
spare_of (Some e) m w = w e refl

-- the room that no change leaves
pub same_spare : (hearings : List (Option Hearing)) → KeepSpare hearings hearings
same_spare hearings number hearing g = subst (λ (o : Option (Option Hearing)). IsSomeAnd o (KeepsSpare (Some hearing))) (sym g) (omega arith)

-- over two changes
keeps_on : (first second third : Option Hearing) → KeepsSpare first second → KeepsSpare second third → KeepsSpare first third
keeps_on None second third one two = tt
keeps_on (Some a) (Some b) (Some c) one two = omega (arith, one, two)
keeps_on (Some a) (Some b) None one two = absurd two
keeps_on (Some a) None third one two = absurd one

-- ---- one listener of a list is replaced: `y` stands where `x` was

module _ {L : Type 0} (h : L → List Event) (s : L → ℕ) (items : List (Option L)) (i : ℕ) (x y : Option L) (read : x ≡ get_or items i x) (within : i < length items) where
  -- what is seen at the place, before
  pub hearing_here : slice_get (hearings_by h s items) i ≡ Some (hearing_by h s x)
  hearing_here = slice_get-map (hearing_by h s) items i ∙ ap (option_map (hearing_by h s)) (slice_get_read items (length items) i x refl within read)

  -- and after
  pub hearings-set : hearings_by h s (set items i y) ≡ set (hearings_by h s items) i (hearing_by h s y)
  hearings-set = map-set (hearing_by h s) items i y

  in_hearings : i < length (hearings_by h s items)
  in_hearings = let e : length (hearings_by h s items) ≡ length items = length-map items (hearing_by h s) in omega arith

  pub new_here : slice_get (hearings_by h s (set items i y)) i ≡ Some (hearing_by h s y)
  new_here = ap (λ l. slice_get l i) hearings-set ∙ slice_get-set_same (hearings_by h s items) i (hearing_by h s y) in_hearings

  -- what is seen elsewhere
  pub new_there : (k : ℕ) → k ≢ i → slice_get (hearings_by h s (set items i y)) k ≡ slice_get (hearings_by h s items) k
  new_there k apart = ap (λ l. slice_get l k) hearings-set ∙ slice_get-set_other (hearings_by h s items) i k (hearing_by h s y) apart

  -- where the two heard the same, so does each
  pub same_heard : option_map (λ (e : Hearing). e.heard) (hearing_by h s y) ≡ option_map (λ (e : Hearing). e.heard) (hearing_by h s x) → heard_lists (hearings_by h s (set items i y)) ≡ heard_lists (hearings_by h s items)
  same_heard same = same_by_get _ _ (λ k.
      slice_get-map (option_map (λ (e : Hearing). e.heard)) (hearings_by h s (set items i y)) k
      ∙ elim (cases_eq k i) [
        | inl at ↦ ap (λ n. option_map (option_map (λ (e : Hearing). e.heard)) (slice_get (hearings_by h s (set items i y)) n)) at ∙ ap (option_map (option_map (λ (e : Hearing). e.heard))) new_here ∙ ap (λ (v : Option (List Event)). Some v) same
            ∙ sym (ap (λ n. option_map (option_map (λ (e : Hearing). e.heard)) (slice_get (hearings_by h s items) n)) at ∙ ap (option_map (option_map (λ (e : Hearing). e.heard))) hearing_here)
        | inr apart ↦ ap (option_map (option_map (λ (e : Hearing). e.heard))) (new_there k apart)
      ]
      ∙ sym (slice_get-map (option_map (λ (e : Hearing). e.heard)) (hearings_by h s items) k))

  -- where the second has all the room that the first had, so has each
  pub same_kept : ((m : ℕ) → HasSpare m (hearing_by h s x) → HasSpare m (hearing_by h s y)) → (m : ℕ) → HaveSpare m (hearings_by h s items) → HaveSpare m (hearings_by h s (set items i y))
  same_kept kept m before k hearing g = elim (cases_eq k i) [
    | inr apart ↦ before k hearing (sym (new_there k apart) ∙ g)
    | inl at ↦
        let new : hearing_by h s y ≡ Some hearing = same_Some (hearing_by h s y) (Some hearing) (sym new_here ∙ ap (slice_get (hearings_by h s (set items i y))) (sym at) ∙ g) in
        subst (HasSpare m) new (kept m (spare_of (hearing_by h s x) m (λ e q. before i e (hearing_here ∙ ap (λ (v : Option Hearing). Some v) q))))
  ]

  -- where the room of the second is no less than that of the first, none has less
  pub same_room : (before : List (Option Hearing)) → KeepsSpare (hearing_by h s x) (hearing_by h s y) → KeepSpare before (hearings_by h s items) → KeepSpare before (hearings_by h s (set items i y))
  same_room before more so_far k hearing g = elim (cases_eq k i) [
    | inr apart ↦ subst (λ (o : Option (Option Hearing)). IsSomeAnd o (KeepsSpare (Some hearing))) (sym (new_there k apart)) (so_far k hearing g)
    | inl at ↦
        let here : slice_get (hearings_by h s items) k ≡ Some (hearing_by h s x) = ap (slice_get (hearings_by h s items)) at ∙ hearing_here in
        let there : slice_get (hearings_by h s (set items i y)) k ≡ Some (hearing_by h s y) = ap (slice_get (hearings_by h s (set items i y))) at ∙ new_here in
        let old : KeepsSpare (Some hearing) (hearing_by h s x) = subst (λ (o : Option (Option Hearing)). IsSomeAnd o (KeepsSpare (Some hearing))) here (so_far k hearing g) in
        subst (λ (o : Option (Option Hearing)). IsSomeAnd o (KeepsSpare (Some hearing))) (sym there) (keeps_on (Some hearing) (hearing_by h s x) (hearing_by h s y) old more)
  ]

-- each that is told of an event heard that event more
pub heard_told : (e : Event) (hearings : List (Option Hearing)) → heard_lists (all_told e hearings) ≡ heard_also e (heard_lists hearings)
heard_told e [] = refl
heard_told e (None ∷ hearings) = ap (λ l. None ∷ l) (heard_told e hearings)
heard_told e (Some hearing ∷ hearings) = ap (λ l. Some (hearing.heard ++ e ∷ []) ∷ l) (heard_told e hearings)
