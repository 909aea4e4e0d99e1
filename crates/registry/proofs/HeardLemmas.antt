-- What listeners hear of events.
use Rattle.std.proofs.Common.{◌≡◌, ◌≢◌, ℕ, zero, suc, ◌+◌, ◌<◌, ◌≤◌, Bool, true, false, cond, ◌&&◌, eqb, List, [], ◌∷◌, ◌++◌, map, reverse, set, length, Option, Some, None, slice_get, sym, refl, ap, ap₂, ◌∙◌, inl, inr, arith, append-nil}
use Rattle.std.specs.Prelude.{filter}
use Rattle.std.specs.List.{range_with_len}
use Rattle.std.specs.Option.{option_map}
use Rattle.std.proofs.lemmas.Bool.{cases_eq, eq-eqb, ne_eqb}
use Rattle.std.proofs.lemmas.Option.{slice_get_within}
use Rattle.entity_id.proofs.ListLemmas.{slice_get-set_same, slice_get-set_other}
use Rattle.std.proofs.lemmas.List.{reverse-append}
use Rattle.std.proofs.lemmas.List.Elements.{filter-append}
use Rattle.entity_id.specs.declared.entity.Entity.{Entity}
use Rattle.world_model.specs.declared.world.World.{World}
use Rattle.world_model.specs.declared.event.Event.{Event}
use Rattle.world_model.specs.declared.event.EventKind.{EventKind}
use Rattle.world_model.specs.declared.event.EventKind.TheVariants as event
use Rattle.world_model.specs.Contents.{holders, has_row}
use Rattle.world_model.specs.Outcomes.{tells}
use Rattle.world_model.specs.Steps.{heard_by, is_same_kind}
use Rattle.signal_sink.specs.Hearings.{Hearing, all_told, heard_lists, heard_also}
use Rattle.registry.specs.Held.{heard_after, Hear}

-- nothing more heard
pub heard_nothing : (kind : EventKind) (pool : ℕ) (events : List Event) (lists : List (Option (List Event))) → heard_by kind pool events ≡ [] → heard_after kind pool events lists ≡ lists
heard_nothing kind pool events [] h = refl
heard_nothing kind pool events (None ∷ lists) h = ap (λ l. None ∷ l) (heard_nothing kind pool events lists h)
heard_nothing kind pool events (Some heard ∷ lists) h =
    ap₂ (λ (a : List Event) (l : List (Option (List Event))). Some a ∷ l) (ap (λ more. heard ++ more) h ∙ append-nil heard) (heard_nothing kind pool events lists h)

-- one event heard
pub heard_one : (kind : EventKind) (pool : ℕ) (events : List Event) (e : Event) (hearings : List (Option Hearing)) → heard_by kind pool events ≡ e ∷ [] → heard_lists (all_told e hearings) ≡ heard_after kind pool events (heard_lists hearings)
heard_one kind pool events e [] h = refl
heard_one kind pool events e (None ∷ hearings) h = ap (λ l. None ∷ l) (heard_one kind pool events e hearings h)
heard_one kind pool events e (Some ear ∷ hearings) h =
    ap₂ (λ (a : List Event) (l : List (Option (List Event))). Some a ∷ l) (ap (λ more. ear.heard ++ more) (sym h)) (heard_one kind pool events e hearings h)

pub hear_nothing : (kind : EventKind) (events : List Event) (hearings : List (List (Option Hearing))) → ((pool : ℕ) → heard_by kind pool events ≡ []) → Hear kind events hearings hearings
hear_nothing kind events hearings h pool = elim (slice_get hearings pool) as (λ o. option_map heard_lists o ≡ option_map (λ l. heard_after kind pool events (heard_lists l)) o) [
  | None ↦ refl
  | Some l ↦ ap (λ (v : List (Option (List Event))). Some v) (sym (heard_nothing kind pool events (heard_lists l) (h pool)))
]

-- of the events of destruction, those of one pool
pub heard_of_destroyed : (pool : ℕ) (e : Entity) (pools : List ℕ) → heard_by event.Destroy pool (map (λ q. tells event.Destroy q e) pools) ≡ map (λ q. tells event.Destroy q e) (filter (λ q. eqb q pool) pools)
heard_of_destroyed pool e [] = refl
heard_of_destroyed pool e (q ∷ pools) = elim (eqb q pool) as (λ b. cond b (tells event.Destroy q e ∷ heard_by event.Destroy pool (map (λ q. tells event.Destroy q e) pools)) (heard_by event.Destroy pool (map (λ q. tells event.Destroy q e) pools)) ≡ map (λ q. tells event.Destroy q e) (cond b (q ∷ filter (λ q. eqb q pool) pools) (filter (λ q. eqb q pool) pools))) [
  | true ↦ ap (λ l. tells event.Destroy q e ∷ l) (heard_of_destroyed pool e pools)
  | false ↦ heard_of_destroyed pool e pools
]

pub constructed_of_destroyed : (pool : ℕ) (e : Entity) (pools : List ℕ) → heard_by event.Construct pool (map (λ q. tells event.Destroy q e) pools) ≡ []
constructed_of_destroyed pool e [] = refl
constructed_of_destroyed pool e (q ∷ pools) = constructed_of_destroyed pool e pools

pub updated_of_destroyed : (pool : ℕ) (e : Entity) (pools : List ℕ) → heard_by event.Update pool (map (λ q. tells event.Destroy q e) pools) ≡ []
updated_of_destroyed pool e [] = refl
updated_of_destroyed pool e (q ∷ pools) = updated_of_destroyed pool e pools

-- a number in a range, counted down
none_in_range : (p a n : ℕ) → p < a → filter (λ q. eqb q p) (reverse (range_with_len a n)) ≡ []
none_in_range p a zero h = refl
none_in_range p a (suc n) h =
    ap (filter (λ q. eqb q p)) (reverse-append (a ∷ []) (range_with_len (a + 1) n)) ∙ filter-append (λ q. eqb q p) (reverse (range_with_len (a + 1) n)) (a ∷ [])
    ∙ ap₂ (λ l b. l ++ cond b (a ∷ []) []) (none_in_range p (a + 1) n (omega arith)) (ne_eqb a p (λ e. omega arith))

one_in_range : (p a n : ℕ) → a ≤ p → p < a + n → filter (λ q. eqb q p) (reverse (range_with_len a n)) ≡ p ∷ []
one_in_range p a zero h k = absurd (omega arith)
one_in_range p a (suc n) h k =
    ap (filter (λ q. eqb q p)) (reverse-append (a ∷ []) (range_with_len (a + 1) n)) ∙ filter-append (λ q. eqb q p) (reverse (range_with_len (a + 1) n)) (a ∷ [])
    ∙ elim (cases_eq a p) [
      | inl same ↦ ap₂ (λ l b. l ++ cond b (a ∷ []) []) (none_in_range p (a + 1) n (omega arith)) (eq-eqb a p same) ∙ ap (λ q. q ∷ []) same
      | inr apart ↦ ap₂ (λ l b. l ++ cond b (a ∷ []) []) (one_in_range p (a + 1) n (omega arith) (omega arith)) (ne_eqb a p apart)
    ]

keep_comm : (a b : Bool) (x : ℕ) (s t : ℕ → Bool) (xs ys : List ℕ) → s x ≡ a → t x ≡ b → filter s xs ≡ filter t ys → filter s (cond b (x ∷ xs) xs) ≡ filter t (cond a (x ∷ ys) ys)
keep_comm true true x s t xs ys p q h = ap₂ (λ c l. cond c (x ∷ l) l) p h ∙ sym (ap (λ c. cond c (x ∷ filter t ys) (filter t ys)) q)
keep_comm true false x s t xs ys p q h = h ∙ sym (ap (λ c. cond c (x ∷ filter t ys) (filter t ys)) q)
keep_comm false true x s t xs ys p q h = ap (λ c. cond c (x ∷ filter s xs) (filter s xs)) p ∙ h
keep_comm false false x s t xs ys p q h = h

filters_comm : (s t : ℕ → Bool) (xs : List ℕ) → filter s (filter t xs) ≡ filter t (filter s xs)
filters_comm s t [] = refl
filters_comm s t (x ∷ xs) = keep_comm (s x) (t x) x s t (filter t xs) (filter s xs) refl refl (filters_comm s t xs)

-- the destruction that a pool's listeners hear of
pub heard_of_holders : (w : World) (e : Entity) (pool : ℕ) → pool < length w.pools → heard_by event.Destroy pool (map (λ q. tells event.Destroy q e) (holders w e)) ≡ cond (has_row w pool e) (tells event.Destroy pool e ∷ []) []
heard_of_holders w e pool h =
    heard_of_destroyed pool e (holders w e)
    ∙ ap (map (λ q. tells event.Destroy q e)) (filters_comm (λ q. eqb q pool) (λ q. has_row w q e) (reverse (range_with_len 0 (length w.pools))) ∙ ap (filter (λ q. has_row w q e)) (one_in_range pool 0 (length w.pools) (omega arith) (omega arith)))
    ∙ elim (has_row w pool e) as (λ b. map (λ q. tells event.Destroy q e) (cond b (pool ∷ []) []) ≡ cond b (tells event.Destroy pool e ∷ []) []) [ true ↦ refl | false ↦ refl ]

-- one event told to the listeners of its kind and pool
pub hear_set : (kind : EventKind) (e : Event) (hearings : List (List (Option Hearing))) (s : List (Option Hearing)) → is_same_kind e.kind kind ≡ true → slice_get hearings e.pool ≡ Some s → Hear kind (e ∷ []) hearings (set hearings e.pool (all_told e s))
hear_set kind e hearings s same hs pool =
    elim (cases_eq pool e.pool) [
      | inl at ↦
          let mine : heard_by kind pool (e ∷ []) ≡ e ∷ [] = ap₂ (λ a b. cond (a && b) (e ∷ []) []) same (eq-eqb e.pool pool (sym at)) in
          ap (option_map heard_lists) (ap (slice_get (set hearings e.pool (all_told e s))) at ∙ slice_get-set_same hearings e.pool (all_told e s) (slice_get_within hearings e.pool s hs))
          ∙ ap (λ (v : List (Option (List Event))). Some v) (heard_one kind pool (e ∷ []) e s mine)
          ∙ sym (ap (option_map (λ l. heard_after kind pool (e ∷ []) (heard_lists l))) (ap (slice_get hearings) at ∙ hs))
      | inr apart ↦
          let none : heard_by kind pool (e ∷ []) ≡ [] = other_pool (is_same_kind e.kind kind) (eqb e.pool pool) e (ne_eqb e.pool pool (λ q. apart (sym q))) in
          ap (option_map heard_lists) (slice_get-set_other hearings e.pool pool (all_told e s) apart)
          ∙ elim (slice_get hearings pool) as (λ o. option_map heard_lists o ≡ option_map (λ l. heard_after kind pool (e ∷ []) (heard_lists l)) o) [
            | None ↦ refl
            | Some l ↦ ap (λ (v : List (Option (List Event))). Some v) (sym (heard_nothing kind pool (e ∷ []) (heard_lists l) none))
          ]
    ]
  where
    other_pool : (a b : Bool) (e : Event) → b ≡ false → cond (a && b) (e ∷ []) [] ≡ []
    other_pool true b e h = ap (λ c. cond c (e ∷ []) []) h
    other_pool false b e h = refl

-- the listeners of one pool changed
pub hear_put : (kind : EventKind) (events : List Event) (hearings : List (List (Option Hearing))) (p : ℕ) (s s' : List (Option Hearing)) → slice_get hearings p ≡ Some s → heard_lists s' ≡ heard_after kind p events (heard_lists s) → ((n : ℕ) → n ≢ p → heard_by kind n events ≡ []) → Hear kind events hearings (set hearings p s')
hear_put kind events hearings p s s' hs here others pool =
    elim (cases_eq pool p) [
      | inl at ↦
          ap (option_map heard_lists) (ap (slice_get (set hearings p s')) at ∙ slice_get-set_same hearings p s' (slice_get_within hearings p s hs))
          ∙ ap (λ (v : List (Option (List Event))). Some v) (here ∙ ap (λ n. heard_after kind n events (heard_lists s)) (sym at))
          ∙ sym (ap (option_map (λ l. heard_after kind pool events (heard_lists l))) (ap (slice_get hearings) at ∙ hs))
      | inr apart ↦
          ap (option_map heard_lists) (slice_get-set_other hearings p pool s' apart)
          ∙ elim (slice_get hearings pool) as (λ o. option_map heard_lists o ≡ option_map (λ l. heard_after kind pool events (heard_lists l)) o) [
            | None ↦ refl
            | Some l ↦ ap (λ (v : List (Option (List Event))). Some v) (sym (heard_nothing kind pool events (heard_lists l) (others pool apart)))
          ]
    ]

-- an event is heard by the listeners of its own kind and pool, and by no others of its kind
same_kind : (kind : EventKind) → is_same_kind kind kind ≡ true
same_kind event.Construct = refl
same_kind event.Update = refl
same_kind event.Destroy = refl

told_here : (kind : EventKind) (p : ℕ) (e : Entity) → heard_by kind p (tells kind p e ∷ []) ≡ tells kind p e ∷ []
told_here kind p e = ap₂ (λ a b. cond (a && b) (tells kind p e ∷ []) []) (same_kind kind) (eq-eqb p p refl)

told_elsewhere : (kind : EventKind) (p n : ℕ) (e : Entity) → n ≢ p → heard_by kind n (tells kind p e ∷ []) ≡ []
told_elsewhere kind p n e apart = ap₂ (λ a b. cond (a && b) (tells kind p e ∷ []) []) (same_kind kind) (ne_eqb p n (λ q. apart (sym q)))

-- the listeners of one kind and pool were told an event of theirs
pub hear_told : (kind : EventKind) (hearings : List (List (Option Hearing))) (p : ℕ) (e : Entity) (s s' : List (Option Hearing)) → slice_get hearings p ≡ Some s → heard_lists s' ≡ heard_also (tells kind p e) (heard_lists s)
    → Hear kind (tells kind p e ∷ []) hearings (set hearings p s')
hear_told kind hearings p e s s' hs heard =
    hear_put kind (tells kind p e ∷ []) hearings p s s' hs (heard ∙ ap (λ (more : List Event). map (option_map (λ h. h ++ more)) (heard_lists s)) (sym (told_here kind p e))) (λ n apart. told_elsewhere kind p n e apart)

-- the listeners of one pool heard nothing
pub hear_quiet : (kind : EventKind) (events : List Event) (hearings : List (List (Option Hearing))) (p : ℕ) (s s' : List (Option Hearing)) → slice_get hearings p ≡ Some s → heard_lists s' ≡ heard_lists s → ((n : ℕ) → heard_by kind n events ≡ [])
    → Hear kind events hearings (set hearings p s')
hear_quiet kind events hearings p s s' hs quiet none =
    hear_put kind events hearings p s s' hs (quiet ∙ sym (heard_nothing kind p events (heard_lists s) (none p))) (λ n apart. none n)
