-- What recorders hear of a command.
use Rattle.std.proofs.Common.{◌≡◌, ℕ, ◌<◌, Bool, true, false, List, [], ◌++◌, map, length, Option, Some, None, slice_get, refl, sym, ap, subst, ◌∙◌, if◌then◌else◌}
use Rattle.std.specs.Option.{option_map, option_map_or}
use Rattle.std.proofs.lemmas.List.{length-map, map-append}
use Rattle.std.proofs.lemmas.Option.{slice_get-map, same_Some, none-some}
use Rattle.entity_id.specs.declared.entity.Entity.{Entity}
use Rattle.signal_sink.specs.Hearings.{heard_lists}
use Rattle.registry.specs.Held.{Held, Becomes, heard_after}
use Rattle.registry.specs.Listeners.{listeners_at}
use Rattle.world_model.specs.declared.event.Event.{Event}
use Rattle.world_model.specs.declared.event.EventKind.{EventKind}
use Rattle.world_model.specs.declared.event.EventKind.TheVariants.{Construct, Update, Destroy}
use Rattle.world_model.specs.declared.world.World.{World}
use Rattle.world_model.specs.Steps.{heard_by}
use Rattle.world_text.specs.Playing.{Watching, is_watch_of, hears}
use Rattle.world_top.specs.declared.watching.Watch.{Watch}
use Rattle.world_top.specs.Watched.{heard_at, IsWatch, AreWatched}
use Rattle.world_top.proofs.WatchParts.{count-map, heard_each, index_map}

-- what listeners heard after a command's step
heard_after_step : (old new : Held) (after : World) (events : List Event) → Becomes old new after events → (k : EventKind) (p : ℕ) → heard_lists (listeners_at new k p) ≡ heard_after k p events (heard_lists (listeners_at old k p))
heard_after_step old new after events b Construct p =
    index_map heard_lists new.construct p [] ∙ ap (λ o. option_map_or (λ y. y) o []) (b.construct p) ∙ sym (index_map (λ l. heard_after Construct p events (heard_lists l)) old.construct p [])
heard_after_step old new after events b Update p =
    index_map heard_lists new.update p [] ∙ ap (λ o. option_map_or (λ y. y) o []) (b.update p) ∙ sym (index_map (λ l. heard_after Update p events (heard_lists l)) old.update p [])
heard_after_step old new after events b Destroy p =
    index_map heard_lists new.destroy p [] ∙ ap (λ o. option_map_or (λ y. y) o []) (b.destroy p) ∙ sym (index_map (λ l. heard_after Destroy p events (heard_lists l)) old.destroy p [])

same_listeners : (old new : Held) (after : World) (events : List Event) → Becomes old new after events → (k : EventKind) (p : ℕ) → length (listeners_at new k p) ≡ length (listeners_at old k p)
same_listeners old new after events b k p =
    sym (heard_each (listeners_at new k p)) ∙ ap length (heard_after_step old new after events b k p) ∙ length-map (heard_lists (listeners_at old k p)) (option_map (λ heard. heard ++ heard_by k p events)) ∙ heard_each (listeners_at old k p)

place_after : (old new : Held) (after : World) (events : List Event) → Becomes old new after events → (k : EventKind) (p n : ℕ) (v : Option (List Event)) → heard_at old k p n ≡ Some v → heard_at new k p n ≡ Some (option_map (λ heard. heard ++ heard_by k p events) v)
place_after old new after events b k p n v h =
    ap (λ xs. slice_get xs n) (heard_after_step old new after events b k p)
    ∙ slice_get-map (option_map (λ heard. heard ++ heard_by k p events)) (heard_lists (listeners_at old k p)) n
    ∙ ap (option_map (option_map (λ heard. heard ++ heard_by k p events))) h

heard_more : (old new : Held) (after : World) (events : List Event) → Becomes old new after events → (w : Watch) (k : EventKind) (p : ℕ) (heard : List Entity) (stands : Bool) → IsWatch old w (record { kind = k; pool = p; heard = heard; stands = stands }) → IsWatch new w (hears events (record { kind = k; pool = p; heard = heard; stands = stands }))
heard_more old new after events b w k p heard true is = record {
  kind = is.kind;
  pool = is.pool;
  stands = is.stands;
  events = is.events ++ heard_by k p events;
  place = place_after old new after events b k p w.number (Some is.events) is.place;
  heard = map-append (λ (e : Event). e.entity) is.events (heard_by k p events) ∙ ap (λ es. es ++ map (λ (e : Event). e.entity) (heard_by k p events)) is.heard;
}
heard_more old new after events b w k p heard false is = record {
  kind = is.kind;
  pool = is.pool;
  stands = is.stands;
  events = is.events;
  place = place_after old new after events b k p w.number None is.place;
  heard = is.heard;
}

hears_same : (events : List Event) (k : EventKind) (p : ℕ) (s : Watching) → is_watch_of k p (hears events s) ≡ is_watch_of k p s
hears_same events k p s = elim s.stands as (λ b. is_watch_of k p (if b then record s { heard = s.heard ++ map (λ e. e.entity) (heard_by s.kind s.pool events) } else s) ≡ is_watch_of k p s) [ true ↦ refl | false ↦ refl ]

mapped : {X Y : Type 0} (f : X → Y) (o : Option X) (y : Y) → option_map f o ≡ Some y → (x : X) × (o ≡ Some x) × (f x ≡ y)
mapped f None y h = absurd (none-some y h)
mapped f (Some x) y h = (x, refl, same_Some (f x) y h)

-- the program's watches, once a command was carried out
pub stepped : (old new : Held) (after : World) (events : List Event) (watches : List Watch) (its : List Watching) → AreWatched old watches its → Becomes old new after events → after.decls ≡ old.world.decls → AreWatched new watches (map (hears events) its)
stepped old new after events watches its h b same =
    let decls = ap (λ (w : World). w.decls) b.world ∙ same in
    record {
      counted = h.counted ∙ sym (length-map its (hears events));
      each = λ k w s hw hs.
          let from = mapped (hears events) (slice_get its k) s (sym (slice_get-map (hears events) its k) ∙ hs) in
          let was = from.0 in
          subst (λ (x : Watching). IsWatch new w x) from.2 (heard_more old new after events b w was.kind was.pool was.heard was.stands (h.each k w was hw from.1));
      apart = h.apart;
      listeners = λ k p low. same_listeners old new after events b k p ∙ h.listeners k p (subst (λ ds. p < length ds) decls low) ∙ sym (count-map (is_watch_of k p) (hears events) its (hears_same events k p));
      below = λ k w hw. subst (λ (n : ℕ). w.number < n) (sym (same_listeners old new after events b w.kind w.pool)) (h.below k w hw);
      declared = λ k w hw. subst (λ ds. w.pool < length ds) (sym decls) (h.declared k w hw);
    }
