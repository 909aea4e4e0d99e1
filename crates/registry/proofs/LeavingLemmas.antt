-- An identifier out of one pool more.
use Rattle.std.proofs.Common.{◌≡◌, ℕ, ◌+◌, ◌<◌, ◌≤◌, false, cond, None, List, [], set, get_or, length, Option, Some, slice_get, sym, refl, ap, ◌∙◌, subst, inl, inr, arith, length-set}
use Rattle.std.specs.Option.{option_map}
use Rattle.std.specs.Prelude.{is_some}
use Rattle.std.proofs.lemmas.List.{length-map, set-get_or}
use Rattle.std.proofs.lemmas.Bool.{cases_eq}
use Rattle.std.proofs.lemmas.Option.{same_Some, slice_get_within, slice_get_past, slice_get-get_or, get_or_from_slice_get}
use Rattle.entity_id.specs.declared.entity.Entity.{Entity}
use Rattle.world_model.specs.declared.component.Row.{Row}
use Rattle.entity_id.specs.FiniteMap as entries
use Rattle.entity_id.proofs.ListLemmas.{slice_get-set_same, slice_get-set_other}
use Rattle.storage.specs.Stored.{Stored}
use Rattle.entity_id.proofs.PackedMapLemmas.{remove-absent}
use Rattle.world_model.specs.declared.event.EventKind.TheVariants as event
use Rattle.world_model.specs.Outcomes.{tells}
use Rattle.signal_sink.specs.Hearings.{Hearing, HaveSpare, all_told}
use Rattle.registry.specs.Layout.{maps_of, HaveRoom}
use Rattle.registry.specs.Leaving.{hearings_after}

abbrev map_in : Stored Row → List (Entity × Row)
map_in pool = entries.map_of pool.pairs

-- the pools from a number on are left, and the others are as before
pub record IsLeft (e : Entity) (left : ℕ) (pools now : List (Stored Row)) (signals hearings : List (List (Option Hearing))) : Type 0 where
  pub low : left ≤ length pools
  pub pool_each : length now ≡ length pools
  pub signal_each : length hearings ≡ length signals
  pub maps_done : (k : ℕ) → left ≤ k → slice_get (maps_of now) k ≡ option_map (λ m. entries.remove m e) (slice_get (maps_of pools) k)
  pub maps_rest : (k : ℕ) → k < left → slice_get (maps_of now) k ≡ slice_get (maps_of pools) k
  pub hearings_done : (k : ℕ) → left ≤ k → slice_get hearings k ≡ option_map (hearings_after k e (get_or (maps_of pools) k [])) (slice_get signals k)
  pub hearings_rest : (k : ℕ) → k < left → slice_get hearings k ≡ slice_get signals k
  pub room : HaveRoom now hearings

pub left_one : (e : Entity) (i : ℕ) (pools now new : List (Stored Row)) (signals hearings told : List (List (Option Hearing))) → IsLeft e (i + 1) pools now signals hearings → i < length now → i < length hearings
    → maps_of new ≡ set (maps_of now) i (entries.remove (get_or (maps_of now) i []) e) → told ≡ set hearings i (hearings_after i e (get_or (maps_of now) i []) (get_or hearings i [])) → HaveRoom new told
    → IsLeft e i pools new signals told
left_one e i pools now new signals hearings told h in_p in_s maps_are told_is room =
    let m = get_or (maps_of now) i [] in
    let s = get_or hearings i [] in
    let s' = hearings_after i e m s in
    let in_m : i < length (maps_of now) = omega (arith, length-map now map_in) in
    let old_map : slice_get (maps_of pools) i ≡ Some m = sym (h.maps_rest i (omega arith)) ∙ slice_get-get_or (maps_of now) i [] in_m in
    let old_s : slice_get signals i ≡ Some s = sym (h.hearings_rest i (omega arith)) ∙ slice_get-get_or hearings i [] in_s in
    record {
      low = let l : i + 1 ≤ length pools = h.low in omega arith;
      pool_each = sym (length-map new map_in) ∙ ap length maps_are ∙ length-set (maps_of now) i (entries.remove m e) ∙ length-map now map_in ∙ h.pool_each;
      signal_each = ap length told_is ∙ length-set hearings i s' ∙ h.signal_each;
      maps_done = λ k le. ap (λ maps. slice_get maps k) maps_are ∙ elim (cases_eq k i) [
        | inl at ↦ ap (slice_get (set (maps_of now) i (entries.remove m e))) at ∙ slice_get-set_same (maps_of now) i (entries.remove m e) in_m
            ∙ sym (ap (λ n. option_map (λ m. entries.remove m e) (slice_get (maps_of pools) n)) at ∙ ap (option_map (λ m. entries.remove m e)) old_map)
        | inr apart ↦ slice_get-set_other (maps_of now) i k (entries.remove m e) apart ∙ h.maps_done k (omega arith)
      ];
      maps_rest = λ k less. ap (λ maps. slice_get maps k) maps_are ∙ slice_get-set_other (maps_of now) i k (entries.remove m e) (λ at. omega arith) ∙ h.maps_rest k (omega arith);
      hearings_done = λ k le. ap (λ list. slice_get list k) told_is ∙ elim (cases_eq k i) [
        | inl at ↦ ap (slice_get (set hearings i s')) at ∙ slice_get-set_same hearings i s' in_s
            ∙ sym (ap (λ n. option_map (hearings_after n e (get_or (maps_of pools) n [])) (slice_get signals n)) at
            ∙ ap (λ m. option_map (hearings_after i e m) (slice_get signals i)) (get_or_from_slice_get (maps_of pools) i m [] old_map)
            ∙ ap (option_map (hearings_after i e m)) old_s)
        | inr apart ↦ slice_get-set_other hearings i k s' apart ∙ h.hearings_done k (omega arith)
      ];
      hearings_rest = λ k less. ap (λ list. slice_get list k) told_is ∙ slice_get-set_other hearings i k s' (λ at. omega arith) ∙ h.hearings_rest k (omega arith);
      room = room;
    }

-- nothing is left yet
pub none_left : (e : Entity) (pools : List (Stored Row)) (signals : List (List (Option Hearing))) → length pools ≡ length signals → HaveRoom pools signals → IsLeft e (length pools) pools pools signals signals
none_left e pools signals each room =
    let long : length (maps_of pools) ≡ length pools = length-map pools map_in in
    record {
      low = omega arith;
      pool_each = refl;
      signal_each = refl;
      maps_done = λ k le. slice_get_past (maps_of pools) k (omega arith) ∙ sym (ap (option_map (λ m. entries.remove m e)) (slice_get_past (maps_of pools) k (omega arith)));
      maps_rest = λ k less. refl;
      hearings_done = λ k le. slice_get_past signals k (omega arith) ∙ sym (ap (option_map (hearings_after k e (get_or (maps_of pools) k []))) (slice_get_past signals k (omega arith)));
      hearings_rest = λ k less. refl;
      room = room;
    }

-- the room of all pools, where one changed with its listeners
pub room_set : (pools : List (Stored Row)) (hearings : List (List (Option Hearing))) (i : ℕ) (p p' : Stored Row) (s s' : List (Option Hearing)) → slice_get pools i ≡ Some p → slice_get hearings i ≡ Some s → HaveRoom pools hearings → HaveSpare (length p'.pairs) s' → HaveRoom (set pools i p') (set hearings i s')
room_set pools hearings i p p' s s' hp hs room room' k stored list hk hl =
    let in_p : i < length pools = slice_get_within pools i p hp in
    let in_s : i < length hearings = slice_get_within hearings i s hs in
    elim (cases_eq k i) [
      | inl at ↦
          let is_p : p' ≡ stored = same_Some p' stored (sym (slice_get-set_same pools i p' in_p) ∙ ap (slice_get (set pools i p')) (sym at) ∙ hk) in
          let is_s : s' ≡ list = same_Some s' list (sym (slice_get-set_same hearings i s' in_s) ∙ ap (slice_get (set hearings i s')) (sym at) ∙ hl) in
          subst (λ (v : Stored Row). HaveSpare (length v.pairs) list) is_p (subst (HaveSpare (length p'.pairs)) is_s room')
      | inr apart ↦ room k stored list (sym (slice_get-set_other pools i k p' apart) ∙ hk) (sym (slice_get-set_other hearings i k s' apart) ∙ hl)
    ]

-- and where it is as long as before
pub same_room : (pools : List (Stored Row)) (hearings : List (List (Option Hearing))) (i : ℕ) (p p' : Stored Row) → slice_get pools i ≡ Some p → HaveRoom pools hearings → length p'.pairs ≡ length p.pairs → HaveRoom (set pools i p') hearings
same_room pools hearings i p p' hp room long k stored list hk hl =
    let in_p : i < length pools = slice_get_within pools i p hp in
    elim (cases_eq k i) [
      | inl at ↦
          let is_p : p' ≡ stored = same_Some p' stored (sym (slice_get-set_same pools i p' in_p) ∙ ap (slice_get (set pools i p')) (sym at) ∙ hk) in
          subst (λ (n : ℕ). HaveSpare n list) (sym long ∙ ap (λ (v : Stored Row). length v.pairs) is_p) (room k p list (ap (slice_get pools) at ∙ hp) hl)
      | inr apart ↦ room k stored list (sym (slice_get-set_other pools i k p' apart) ∙ hk) hl
    ]

-- where a pool doesn't have an identifier, none goes and nothing is told
pub none_withdrawn : (maps : List (List (Entity × Row))) (pool : ℕ) (e : Entity) → entries.contains (get_or maps pool []) e ≡ false → maps ≡ set maps pool (entries.remove (get_or maps pool []) e)
none_withdrawn maps pool e none = sym (ap (set maps pool) (remove-absent (get_or maps pool []) e (none_is (entries.get (get_or maps pool []) e) none)) ∙ set-get_or maps pool [])
  where
    none_is : {X : Type 0} (o : Option X) → is_some o ≡ false → o ≡ None
    none_is None h = refl
    none_is (Some x) h = cc

pub none_told : (signals : List (List (Option Hearing))) (pool : ℕ) (e : Entity) (rows : List (Entity × Row)) → entries.contains rows e ≡ false → signals ≡ set signals pool (hearings_after pool e rows (get_or signals pool []))
none_told signals pool e rows none =
    let s = get_or signals pool [] in
    sym (ap (λ b. set signals pool (cond b (all_told (tells event.Destroy pool e) s) s)) none ∙ set-get_or signals pool [])
