-- What groups keep and gain where one identifier is moved in the pools that one of them owns.
use Rattle.std.proofs.Common.{◌≡◌, ◌≢◌, ℕ, ◌+◌, ◌<◌, ◌≤◌, Bool, true, false, cond, List, [], ◌∷◌, length, get_or, set, Some, slice_get, sym, refl, ap, ◌∙◌, inl, inr, arith}
use Rattle.std.specs.List.{swap}
use Rattle.std.proofs.Math.Dec.{ltb}
use Rattle.std.proofs.lemmas.Bool.{cases_Bool, cases_eq, false≢true, lt-ltb, ltb-true, le-ltb, ltb-false}
use Rattle.std.proofs.lemmas.Option.{same_Some, slice_get-get_or}
use Rattle.entity_id.specs.declared.entity.Entity.{Entity}
use Rattle.entity_id.specs.Identifiers.{is_same}
use Rattle.entity_id.proofs.ListLemmas.{slice_get-set_same, slice_get-set_other}
use Rattle.entity_id.proofs.MapLemmas.{same_itself, same_true}
use Rattle.entity_id.proofs.PackedListLemmas.{swap-second, swap-other, length-swap}
use Rattle.world_model.specs.Groups.{has_pool, packed_at}
use Rattle.group_engine.specs.Grouped.{IsPartitioned}
use Rattle.group_engine.specs.Moving.{IsMoved, AreMoved, but_for}

pub swap-first : {X : Type 0} (xs : List X) (i j : ℕ) → i < length xs → j < length xs → i ≢ j → slice_get (swap xs i j) i ≡ slice_get xs j
swap-first [] i j p q apart = absurd (omega arith)
swap-first {X = X} (d ∷ l) i j p q apart =
    let xs : List X = d ∷ l in
    slice_get-set_other (set xs i (get_or xs j d)) j i (get_or xs i d) apart ∙ slice_get-set_same xs i (get_or xs j d) p ∙ sym (slice_get-get_or xs j d q)

within_here : {X : Type 0} (xs : List X) (k : ℕ) (x : X) → slice_get xs k ≡ Some x → k < length xs
within_here xs k x h = Rattle.std.proofs.lemmas.Option.slice_get_within xs k x h

-- ---- one list

module _ (e : Entity) (m : ℕ) (old new : List Entity) (h : IsMoved e m old new) where
  pub to_target : slice_get new m ≡ Some e
  to_target = ap (λ l. slice_get l m) h.swapped ∙ swap-second old h.from m e h.here h.within

  pub from_target : h.from ≢ m → slice_get new h.from ≡ slice_get old m
  from_target apart = ap (λ l. slice_get l h.from) h.swapped ∙ swap-first old h.from m (within_here old h.from e h.here) h.within apart

  pub beside : (k : ℕ) → k ≢ h.from → k ≢ m → slice_get new k ≡ slice_get old k
  beside k p q = ap (λ l. slice_get l k) h.swapped ∙ swap-other old h.from m k p q

  pub only_here : (k : ℕ) → slice_get old k ≡ Some e → k ≡ h.from
  only_here k g = h.distinct k h.from e e g h.here refl

  pub moved_length : length new ≡ length old
  moved_length = ap length h.swapped ∙ length-swap old h.from m

-- ---- the answers of a test with an exception

pub but_itself : (e : Entity) (b : Bool) (test : Entity → Bool) → but_for e b test e ≡ b
but_itself e b test = ap (λ same. cond same b (test e)) (same_itself e)

but_either : (e : Entity) (b b' : Bool) (test : Entity → Bool) (x : Entity) → is_same x e ≡ false → but_for e b test x ≡ but_for e b' test x
but_either e b b' test x other = ap (λ same. cond same b (test x)) other ∙ sym (ap (λ same. cond same b' (test x)) other)

-- what stands elsewhere is another
other_here : (e : Entity) (m : ℕ) (old new : List Entity) (h : IsMoved e m old new) (k : ℕ) (z : Entity) → slice_get old k ≡ Some z → k ≢ h.from → is_same z e ≡ false
other_here e m old new h k z g apart = elim (cases_Bool (is_same z e)) [
  | inl same ↦ absurd (apart (only_here e m old new h k (g ∙ ap Some (same_true z e same))))
  | inr differs ↦ differs
]

-- ---- another group

module _ (own other : List ℕ) (e : Entity) (m count : ℕ) (inside : Entity → Bool) (old new : List (List Entity))
    (move : AreMoved own e m old new) (before : IsPartitioned old other count inside)
    (side : (pool : ℕ) → has_pool own pool ≡ true → has_pool other pool ≡ true → ltb m count ≡ inside e)
    (whole : (pool third : ℕ) → has_pool own pool ≡ true → has_pool other pool ≡ true → has_pool other third ≡ true → inside e ≡ true → has_pool own third ≡ true) where
  keeps_split : (pool k : ℕ) (z : Entity) → has_pool other pool ≡ true → slice_get (packed_at new pool) k ≡ Some z → ltb k count ≡ inside z
  keeps_split pool k z has g = elim (cases_Bool (has_pool own pool)) [
    | inr apart ↦ before.split pool k z has (ap (λ l. slice_get l k) (sym (move.others pool apart)) ∙ g)
    | inl shared ↦
        let was = packed_at old pool in
        let now = packed_at new pool in
        let mv : IsMoved e m was now = move.moved pool shared in
        elim (cases_eq k m) [
          | inl is ↦
              let one : z ≡ e = same_Some z e (sym g ∙ ap (slice_get now) is ∙ to_target e m was now mv) in
              ap (λ n. ltb n count) is ∙ side pool shared has ∙ ap inside (sym one)
          | inr not_m ↦ elim (cases_eq k mv.from) [
            | inl at ↦
                let g' : slice_get was m ≡ Some z = sym (from_target e m was now mv (λ same. not_m (at ∙ same))) ∙ ap (slice_get now) (sym at) ∙ g in
                ap (λ n. ltb n count) at ∙ before.split pool mv.from e has mv.here ∙ sym (side pool shared has) ∙ before.split pool m z has g'
            | inr not_from ↦ before.split pool k z has (sym (beside e m was now mv k not_from not_m) ∙ g)
          ]
        ]
  ]

  -- where the identifier is not in the group, nothing moves below its length
  unmoved : inside e ≡ false → (pool k : ℕ) → has_pool other pool ≡ true → k < count → slice_get (packed_at new pool) k ≡ slice_get (packed_at old pool) k
  unmoved out pool k has low = elim (cases_Bool (has_pool own pool)) [
    | inr apart ↦ ap (λ l. slice_get l k) (move.others pool apart)
    | inl shared ↦
        let mv : IsMoved e m (packed_at old pool) (packed_at new pool) = move.moved pool shared in
        let high : count ≤ m = ltb-false m count (side pool shared has ∙ out) in
        let behind : count ≤ mv.from = ltb-false mv.from count (before.split pool mv.from e has mv.here ∙ out) in
        beside e m (packed_at old pool) (packed_at new pool) mv k (λ same. omega arith) (λ same. omega arith)
  ]

  both_moved : inside e ≡ true → (pool third k : ℕ) → has_pool other pool ≡ true → has_pool other third ≡ true → has_pool own pool ≡ true → has_pool own third ≡ true → k < count → slice_get (packed_at new pool) k ≡ slice_get (packed_at new third) k
  both_moved is_in pool third k has has' shared shared' low =
      let a = packed_at old pool in
      let b = packed_at old third in
      let mv : IsMoved e m a (packed_at new pool) = move.moved pool shared in
      let mv' : IsMoved e m b (packed_at new third) = move.moved third shared' in
      let front : mv.from < count = ltb-true mv.from count (before.split pool mv.from e has mv.here ∙ is_in) in
      let target : m < count = ltb-true m count (side pool shared has ∙ is_in) in
      let one : mv.from ≡ mv'.from = only_here e m b (packed_at new third) mv' mv.from (sym (before.common pool third mv.from has has' front) ∙ mv.here) in
      elim (cases_eq k m) [
        | inl is ↦ ap (slice_get (packed_at new pool)) is ∙ to_target e m a (packed_at new pool) mv ∙ sym (ap (slice_get (packed_at new third)) is ∙ to_target e m b (packed_at new third) mv')
        | inr not_m ↦ elim (cases_eq k mv.from) [
          | inl at ↦
              ap (slice_get (packed_at new pool)) at ∙ from_target e m a (packed_at new pool) mv (λ same. not_m (at ∙ same))
              ∙ before.common pool third m has has' target
              ∙ sym (ap (slice_get (packed_at new third)) (at ∙ one) ∙ from_target e m b (packed_at new third) mv' (λ same. not_m (at ∙ one ∙ same)))
          | inr not_from ↦
              beside e m a (packed_at new pool) mv k not_from not_m
              ∙ before.common pool third k has has' low
              ∙ sym (beside e m b (packed_at new third) mv' k (λ same. not_from (same ∙ sym one)) not_m)
        ]
      ]

  keeps_common : (pool third k : ℕ) → has_pool other pool ≡ true → has_pool other third ≡ true → k < count → slice_get (packed_at new pool) k ≡ slice_get (packed_at new third) k
  keeps_common pool third k has has' low = elim (cases_Bool (inside e)) [
    | inr out ↦ unmoved out pool k has low ∙ before.common pool third k has has' low ∙ sym (unmoved out third k has' low)
    | inl is_in ↦ elim (cases_Bool (has_pool own pool)) [
      | inl shared ↦ both_moved is_in pool third k has has' shared (whole pool third shared has has' is_in) low
      | inr apart ↦ elim (cases_Bool (has_pool own third)) [
        | inl shared' ↦ absurd (false≢true (sym apart ∙ whole third pool shared' has' has is_in))
        | inr apart' ↦ ap (λ l. slice_get l k) (move.others pool apart) ∙ before.common pool third k has has' low ∙ sym (ap (λ l. slice_get l k) (move.others third apart'))
      ]
    ]
  ]

  keeps_within : (pool : ℕ) → has_pool other pool ≡ true → count ≤ length (packed_at new pool)
  keeps_within pool has = elim (cases_Bool (has_pool own pool)) [
    | inl shared ↦
        let long : length (packed_at new pool) ≡ length (packed_at old pool) = moved_length e m (packed_at old pool) (packed_at new pool) (move.moved pool shared) in
        let w : count ≤ length (packed_at old pool) = before.within pool has in
        omega arith
    | inr apart ↦
        let long : length (packed_at new pool) ≡ length (packed_at old pool) = ap length (move.others pool apart) in
        let w : count ≤ length (packed_at old pool) = before.within pool has in
        omega arith
  ]

  -- a group stays as it is where the identifier goes to a place on its own side of the group's length
  pub others_keep : IsPartitioned new other count inside
  others_keep = record { within = keeps_within; common = keeps_common; split = keeps_split }

-- ---- the group itself

ltb_next : (k n : ℕ) → k ≢ n → ltb k (n + 1) ≡ ltb k n
ltb_next k n apart = elim (cases_Bool (ltb k n)) [
  | inl low ↦ (let l : k < n = ltb-true k n low in lt-ltb k (n + 1) (omega arith)) ∙ sym low
  | inr high ↦ (let l : n ≤ k = ltb-false k n high in le-ltb k (n + 1) (omega arith)) ∙ sym high
]

module _ (own : List ℕ) (e : Entity) (n : ℕ) (test : Entity → Bool) (old new : List (List Entity)) (move : AreMoved own e n old new) where
  -- it goes to the first place behind the group, which is one longer then
  module _ (before : IsPartitioned old own n (but_for e false test)) where
    behind : (pool : ℕ) (has : has_pool own pool ≡ true) → n ≤ (move.moved pool has).from
    behind pool has =
        let mv : IsMoved e n (packed_at old pool) (packed_at new pool) = move.moved pool has in
        ltb-false mv.from n (before.split pool mv.from e has mv.here ∙ but_itself e false test)

    entered_split : (pool k : ℕ) (z : Entity) → has_pool own pool ≡ true → slice_get (packed_at new pool) k ≡ Some z → ltb k (n + 1) ≡ but_for e true test z
    entered_split pool k z has g =
        let was = packed_at old pool in
        let now = packed_at new pool in
        let mv : IsMoved e n was now = move.moved pool has in
        let high : n ≤ mv.from = behind pool has in
        elim (cases_eq k n) [
          | inl is ↦
              let one : z ≡ e = same_Some z e (sym g ∙ ap (slice_get now) is ∙ to_target e n was now mv) in
              lt-ltb k (n + 1) (omega arith) ∙ sym (ap (but_for e true test) one ∙ but_itself e true test)
          | inr not_n ↦ elim (cases_eq k mv.from) [
            | inl at ↦
                let g' : slice_get was n ≡ Some z = sym (from_target e n was now mv (λ same. not_n (at ∙ same))) ∙ ap (slice_get now) (sym at) ∙ g in
                let differs : is_same z e ≡ false = other_here e n was now mv n z g' (λ same. not_n (at ∙ sym same)) in
                le-ltb k (n + 1) (omega arith) ∙ sym (le-ltb n n (omega arith)) ∙ before.split pool n z has g' ∙ but_either e false true test z differs
            | inr not_from ↦
                let g' : slice_get was k ≡ Some z = sym (beside e n was now mv k not_from not_n) ∙ g in
                ltb_next k n not_n ∙ before.split pool k z has g' ∙ but_either e false true test z (other_here e n was now mv k z g' not_from)
          ]
        ]

    entered_common : (pool third k : ℕ) → has_pool own pool ≡ true → has_pool own third ≡ true → k < n + 1 → slice_get (packed_at new pool) k ≡ slice_get (packed_at new third) k
    entered_common pool third k has has' low =
        let mv : IsMoved e n (packed_at old pool) (packed_at new pool) = move.moved pool has in
        let mv' : IsMoved e n (packed_at old third) (packed_at new third) = move.moved third has' in
        let high : n ≤ mv.from = behind pool has in
        let high' : n ≤ mv'.from = behind third has' in
        elim (cases_eq k n) [
          | inl is ↦ ap (slice_get (packed_at new pool)) is ∙ to_target e n _ _ mv ∙ sym (ap (slice_get (packed_at new third)) is ∙ to_target e n _ _ mv')
          | inr not_n ↦
              beside e n _ _ mv k (λ same. not_n (omega arith)) not_n
              ∙ before.common pool third k has has' (omega arith)
              ∙ sym (beside e n _ _ mv' k (λ same. not_n (omega arith)) not_n)
        ]

    entered_within : (pool : ℕ) → has_pool own pool ≡ true → n + 1 ≤ length (packed_at new pool)
    entered_within pool has =
        let mv : IsMoved e n (packed_at old pool) (packed_at new pool) = move.moved pool has in
        let long : length (packed_at new pool) ≡ length (packed_at old pool) = moved_length e n _ _ mv in
        let w : n < length (packed_at old pool) = mv.within in
        omega arith

    pub entered : IsPartitioned new own (n + 1) (but_for e true test)
    entered = record { within = entered_within; common = entered_common; split = entered_split }

  -- it goes to the last place of the group, which is one shorter then
  module _ (before : IsPartitioned old own (n + 1) (but_for e true test)) where
    inside : (pool : ℕ) (has : has_pool own pool ≡ true) → (move.moved pool has).from < n + 1
    inside pool has =
        let mv : IsMoved e n (packed_at old pool) (packed_at new pool) = move.moved pool has in
        ltb-true mv.from (n + 1) (before.split pool mv.from e has mv.here ∙ but_itself e true test)

    left_split : (pool k : ℕ) (z : Entity) → has_pool own pool ≡ true → slice_get (packed_at new pool) k ≡ Some z → ltb k n ≡ but_for e false test z
    left_split pool k z has g =
        let was = packed_at old pool in
        let now = packed_at new pool in
        let mv : IsMoved e n was now = move.moved pool has in
        let low : mv.from < n + 1 = inside pool has in
        elim (cases_eq k n) [
          | inl is ↦
              let one : z ≡ e = same_Some z e (sym g ∙ ap (slice_get now) is ∙ to_target e n was now mv) in
              le-ltb k n (omega arith) ∙ sym (ap (but_for e false test) one ∙ but_itself e false test)
          | inr not_n ↦ elim (cases_eq k mv.from) [
            | inl at ↦
                let g' : slice_get was n ≡ Some z = sym (from_target e n was now mv (λ same. not_n (at ∙ same))) ∙ ap (slice_get now) (sym at) ∙ g in
                let differs : is_same z e ≡ false = other_here e n was now mv n z g' (λ same. not_n (at ∙ sym same)) in
                lt-ltb k n (omega arith) ∙ sym (lt-ltb n (n + 1) (omega arith)) ∙ before.split pool n z has g' ∙ but_either e true false test z differs
            | inr not_from ↦
                let g' : slice_get was k ≡ Some z = sym (beside e n was now mv k not_from not_n) ∙ g in
                sym (ltb_next k n not_n) ∙ before.split pool k z has g' ∙ but_either e true false test z (other_here e n was now mv k z g' not_from)
          ]
        ]

    left_common : (pool third k : ℕ) → has_pool own pool ≡ true → has_pool own third ≡ true → k < n → slice_get (packed_at new pool) k ≡ slice_get (packed_at new third) k
    left_common pool third k has has' low =
        let a = packed_at old pool in
        let b = packed_at old third in
        let mv : IsMoved e n a (packed_at new pool) = move.moved pool has in
        let mv' : IsMoved e n b (packed_at new third) = move.moved third has' in
        let one : mv.from ≡ mv'.from = only_here e n b (packed_at new third) mv' mv.from (sym (before.common pool third mv.from has has' (inside pool has)) ∙ mv.here) in
        elim (cases_eq k mv.from) [
          | inl at ↦
              ap (slice_get (packed_at new pool)) at ∙ from_target e n a (packed_at new pool) mv (λ same. omega arith)
              ∙ before.common pool third n has has' (omega arith)
              ∙ sym (ap (slice_get (packed_at new third)) (at ∙ one) ∙ from_target e n b (packed_at new third) mv' (λ same. omega arith))
          | inr not_from ↦
              beside e n a (packed_at new pool) mv k not_from (λ same. omega arith)
              ∙ before.common pool third k has has' (omega arith)
              ∙ sym (beside e n b (packed_at new third) mv' k (λ same. not_from (same ∙ sym one)) (λ same. omega arith))
        ]

    left_within : (pool : ℕ) → has_pool own pool ≡ true → n ≤ length (packed_at new pool)
    left_within pool has =
        let mv : IsMoved e n (packed_at old pool) (packed_at new pool) = move.moved pool has in
        let long : length (packed_at new pool) ≡ length (packed_at old pool) = moved_length e n _ _ mv in
        let w : n < length (packed_at old pool) = mv.within in
        omega arith

    pub left : IsPartitioned new own n (but_for e false test)
    left = record { within = left_within; common = left_common; split = left_split }
