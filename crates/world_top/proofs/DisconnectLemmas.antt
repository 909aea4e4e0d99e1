-- A watch that ends: one recorder fewer.
use Rattle.std.proofs.Common.{◌≡◌, ◌≢◌, ◌⊎◌, inl, inr, ℕ, zero, suc, ◌<◌, true, false, List, [], ◌∷◌, map, length, Option, Some, None, slice_get, slice_set, slice_index_or, refl, sym, ap, subst, ◌∙◌, arith, if◌then◌else◌}
use Rattle.std.specs.Option.{option_map, option_map_or}
use Rattle.std.proofs.lemmas.Bool.{cases_eq}
use Rattle.std.proofs.lemmas.Option.{slice_get_within, slice_get-map, same_Some, none-some}
use Rattle.signal_sink.specs.Hearings.{is_connected, Hearing, heard_lists}
use Rattle.registry.specs.Held.{Held}
use Rattle.registry.specs.Listeners.{listeners_at, IsRewired}
use Rattle.world_model.specs.declared.event.Event.{Event}
use Rattle.world_model.specs.declared.event.EventKind.{EventKind}
use Rattle.world_model.specs.declared.world.World.{World}
use Rattle.world_model.proofs.ListLemmas.{slice_get-set_same, slice_get-set_other}
use Rattle.world_text.specs.Playing.{Watching, is_watch_of, ended}
use Rattle.world_top.specs.declared.watching.Watch.{Watch}
use Rattle.world_top.specs.Watched.{heard_at, IsWatch, AreWatched}
use Rattle.world_top.proofs.WatchParts.{count-set, heard_each, length-set, map-set}
use Rattle.world_top.proofs.ConnectLemmas.{elsewhere}

pub record Disconnects (old new : Held) (kind : EventKind) (pool number : ℕ) : Type 0 where
  pub rewired : IsRewired old new kind pool
  pub gone : listeners_at new kind pool ≡ slice_set (listeners_at old kind pool) number None

module _ (old new : Held) (watches : List Watch) (its : List Watching) (at : ℕ) (w : Watch) (s : Watching) (h : AreWatched old watches its) (is_w : slice_get watches at ≡ Some w) (is_s : slice_get its at ≡ Some s) (d : Disconnects old new w.kind w.pool w.number) where
  abbrev over : Watch
  over = record w { stands = false }

  lists_gone : heard_lists (listeners_at new w.kind w.pool) ≡ slice_set (heard_lists (listeners_at old w.kind w.pool)) w.number None
  lists_gone = ap heard_lists d.gone ∙ map-set (option_map (λ (x : Hearing). x.heard)) (listeners_at old w.kind w.pool) w.number None

  as_many : (k : EventKind) (p : ℕ) → length (listeners_at new k p) ≡ length (listeners_at old k p)
  as_many k p = elim (elsewhere old new w.kind w.pool d.rewired k p) as (λ _. length (listeners_at new k p) ≡ length (listeners_at old k p)) [
    | inr other ↦ ap length other.1
    | inl same ↦ (λ i. length (listeners_at new (same.0 i) (same.1 i))) ∙ ap length d.gone ∙ length-set (listeners_at old w.kind w.pool) w.number None ∙ (λ i. length (listeners_at old (sym same.0 i) (sym same.1 i)))
  ]

  other_place : (k : EventKind) (p n : ℕ) (v : Option (Option (List Event))) → (k ≡ w.kind → p ≡ w.pool → n ≢ w.number) → heard_at old k p n ≡ v → heard_at new k p n ≡ v
  other_place k p n v apart e = elim (elsewhere old new w.kind w.pool d.rewired k p) as (λ _. heard_at new k p n ≡ v) [
    | inr other ↦ ap (λ xs. slice_get (heard_lists xs) n) other.1 ∙ e
    | inl same ↦
        (λ i. heard_at new (same.0 i) (same.1 i) n) ∙ ap (λ xs. slice_get xs n) lists_gone
        ∙ slice_get-set_other (heard_lists (listeners_at old w.kind w.pool)) w.number n None (apart same.0 same.1)
        ∙ (λ i. heard_at old (sym same.0 i) (sym same.1 i) n) ∙ e
  ]

  low_number : w.number < length (heard_lists (listeners_at old w.kind w.pool))
  low_number = subst (λ (n : ℕ). w.number < n) (sym (heard_each (listeners_at old w.kind w.pool))) (h.below at w is_w)

  its_is : IsWatch old w s
  its_is = h.each at w s is_w is_s

  over_is : IsWatch new over (ended s)
  over_is = record {
    kind = its_is.kind;
    pool = its_is.pool;
    stands = refl;
    events = its_is.events;
    place = (λ i. heard_at new (sym its_is.kind i) (sym its_is.pool i) w.number) ∙ ap (λ xs. slice_get xs w.number) lists_gone ∙ slice_get-set_same (heard_lists (listeners_at old w.kind w.pool)) w.number None low_number;
    heard = its_is.heard;
  }

  -- an item of a list with one replaced is the new one, or one of the others
  placed : {X : Type 0} (xs : List X) (x y : X) (k : ℕ) (a : X) → slice_get xs at ≡ Some x → slice_get (slice_set xs at y) k ≡ Some a → ((k ≡ at) × (y ≡ a)) ⊎ ((k ≢ at) × (slice_get xs k ≡ Some a))
  placed {X} xs x y k a there e = elim (cases_eq k at) as (λ _. ((k ≡ at) × (y ≡ a)) ⊎ ((k ≢ at) × (slice_get xs k ≡ Some a))) [
    | inl same ↦ inl (same, same_Some y a (sym (slice_get-set_same xs at y (slice_get_within xs at x there)) ∙ ap (slice_get (slice_set xs at y)) (sym same) ∙ e))
    | inr other ↦ inr (other, sym (slice_get-set_other xs at k y other) ∙ e)
  ]

  -- which watch it was before, with the same kind, component and number
  was : (k : ℕ) (a : Watch) → slice_get (slice_set watches at over) k ≡ Some a → (b : Watch) × (slice_get watches k ≡ Some b) × (a.kind ≡ b.kind) × (a.pool ≡ b.pool) × (a.number ≡ b.number)
  was k a e = elim (placed watches w over k a is_w e) as (λ _. (b : Watch) × (slice_get watches k ≡ Some b) × (a.kind ≡ b.kind) × (a.pool ≡ b.pool) × (a.number ≡ b.number)) [
    | inl p ↦ (w, ap (slice_get watches) p.0 ∙ is_w, ap (λ (x : Watch). x.kind) (sym p.1), ap (λ (x : Watch). x.pool) (sym p.1), ap (λ (x : Watch). x.number) (sym p.1))
    | inr p ↦ (a, p.1, refl, refl, refl)
  ]

  other_is : (k : ℕ) (a : Watch) (b : Watching) → k ≢ at → slice_get watches k ≡ Some a → slice_get its k ≡ Some b → IsWatch new a b
  other_is k a b other ha hb =
      let is = h.each k a b ha hb in
      record {
        kind = is.kind;
        pool = is.pool;
        stands = is.stands;
        events = is.events;
        place = other_place b.kind b.pool a.number _ (λ ek ep en. other (h.apart k at a w ha is_w (is.kind ∙ ek) (is.pool ∙ ep) en)) is.place;
        heard = is.heard;
      }

  -- the program's watches, once one of them ended
  pub stopped : AreWatched new (slice_set watches at over) (slice_set its at (ended s))
  stopped = record {
    counted = length-set watches at over ∙ h.counted ∙ sym (length-set its at (ended s));
    each = λ k a b ha hb. elim (placed watches w over k a is_w ha) as (λ _. IsWatch new a b) [
      | inl p ↦ elim (placed its s (ended s) k b is_s hb) as (λ _. IsWatch new a b) [
        | inl q ↦ subst (λ (x : Watch). IsWatch new x b) p.1 (subst (λ (y : Watching). IsWatch new over y) q.1 over_is)
        | inr q ↦ absurd (q.0 p.0)
      ]
      | inr p ↦ elim (placed its s (ended s) k b is_s hb) as (λ _. IsWatch new a b) [
        | inl q ↦ absurd (p.0 q.0)
        | inr q ↦ other_is k a b p.0 p.1 q.1
      ]
    ];
    apart = λ i j a b ha hb ek ep en.
        let p = was i a ha in
        let q = was j b hb in
        h.apart i j p.0 q.0 p.1 q.1 (sym p.2 ∙ ek ∙ q.2) (sym p.3 ∙ ep ∙ q.3) (sym p.4 ∙ en ∙ q.4);
    listeners = λ k p low. as_many k p ∙ h.listeners k p (subst (λ (v : World). p < length v.decls) d.rewired.world low) ∙ sym (count-set (is_watch_of k p) its at s (ended s) is_s refl);
    below = λ k a ha.
        let p = was k a ha in
        subst (λ (n : ℕ). a.number < n) (sym (as_many a.kind a.pool)) (subst (λ (n : ℕ). n < length (listeners_at old a.kind a.pool)) (sym p.4) (subst (λ (n : ℕ). p.0.number < n) (λ i. length (listeners_at old (sym p.2 i) (sym p.3 i))) (h.below k p.0 p.1)));
    declared = λ k a ha. let p = was k a ha in subst (λ (v : World). a.pool < length v.decls) (sym d.rewired.world) (subst (λ (n : ℕ). n < length old.world.decls) (sym p.3) (h.declared k p.0 p.1));
  }

-- the events of the recorder of a watch that stands
pub what_it_heard : (held : Held) (w : Watch) (s : Watching) (events : List Event) (spare : ℕ) → IsWatch held w s → w.stands ≡ true → slice_get (listeners_at held w.kind w.pool) w.number ≡ Some (Some (record { heard = events; spare = spare })) → map (λ (e : Event). e.entity) events ≡ s.heard
what_it_heard held w s events spare is stands at =
    let there : heard_at held s.kind s.pool w.number ≡ Some (Some events) =
    (λ i. heard_at held (sym is.kind i) (sym is.pool i) w.number) ∙ slice_get-map (option_map (λ (x : Hearing). x.heard)) (listeners_at held w.kind w.pool) w.number ∙ ap (option_map (option_map (λ (x : Hearing). x.heard))) at in
    let stood : s.stands ≡ true = sym is.stands ∙ stands in
    let its : Some (Some is.events) ≡ Some (Some events) = sym (is.place ∙ ap (λ b. Some (if b then Some is.events else None)) stood) ∙ there in
    ap (map (λ (e : Event). e.entity)) (sym (same_Some is.events events (same_Some (Some is.events) (Some events) its))) ∙ is.heard

hearing_there : (o : Option (Option Hearing)) (events : List Event) → option_map (option_map (λ (x : Hearing). x.heard)) o ≡ Some (Some events) → option_map_or (λ place. option_map_or (λ hearing. true) place false) o false ≡ true
hearing_there None events at = absurd (none-some (Some events) at)
hearing_there (Some None) events at = absurd (none-some events (same_Some None (Some events) at))
hearing_there (Some (Some hearing)) events at = refl

-- the recorder of a watch that stands is connected
pub is_heard_by : (held : Held) (w : Watch) (s : Watching) → IsWatch held w s → w.stands ≡ true → is_connected (listeners_at held w.kind w.pool) w.number ≡ true
is_heard_by held w s is stands =
    let stood : s.stands ≡ true = sym is.stands ∙ stands in
    let there : heard_at held w.kind w.pool w.number ≡ Some (Some is.events) =
    (λ i. heard_at held (is.kind i) (is.pool i) w.number) ∙ is.place ∙ ap (λ b. Some (if b then Some is.events else None)) stood in
    hearing_there (slice_get (listeners_at held w.kind w.pool) w.number) is.events
    (sym (slice_get-map (option_map (λ (x : Hearing). x.heard)) (listeners_at held w.kind w.pool) w.number) ∙ there)

pub record IsItem {X : Type 0} (xs : List X) (k : ℕ) : Type 0 where
  pub item : X
  pub at : slice_get xs k ≡ Some item

pub item_at : {X : Type 0} (xs : List X) (k : ℕ) → k < length xs → IsItem xs k
item_at [] k low = absurd (omega arith)
item_at (x ∷ xs) zero low = record { item = x; at = refl }
item_at (x ∷ xs) (suc k) low = let i = item_at xs k (omega arith) in record { item = i.item; at = i.at }

-- one item, read twice
pub read_item : {X : Type 0} (xs : List X) (k : ℕ) (x : X) → k < length xs → x ≡ slice_index_or xs k x → slice_get xs k ≡ Some x
read_item [] k x low e = absurd (omega arith)
read_item (y ∷ xs) zero x low e = ap Some (sym e)
read_item (y ∷ xs) (suc k) x low e = read_item xs k x (omega arith) e
