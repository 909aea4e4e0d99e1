-- Changes of a registry one after another.
use Rattle.std.proofs.Common.{◌≡◌, ℕ, List, [], ◌∷◌, ◌++◌, Option, Some, None, refl, sym, ap, ap₂, ◌∙◌, slice_get, append_assoc}
use Rattle.std.specs.Option.{option_map}
use Rattle.std.proofs.lemmas.List.Elements.{filter-append}
use Rattle.signal_sink.specs.Hearings.{Hearing, heard_lists}
use Rattle.world_model.specs.declared.event.Event.{Event}
use Rattle.world_model.specs.declared.event.EventKind.{EventKind}
use Rattle.world_model.specs.declared.event.EventKind.TheVariants as event
use Rattle.world_model.specs.declared.world.World.{World}
use Rattle.world_model.specs.Steps.{heard_by}
use Rattle.registry.specs.Held.{Held, Becomes, Hear, heard_after}
use Rattle.registry.proofs.HeardLemmas.{hear_nothing}

-- heard of some events, and of others behind them
heard_more : (kind : EventKind) (pool : ℕ) (first later : List Event) (lists : List (Option (List Event)))
    → heard_after kind pool later (heard_after kind pool first lists) ≡ heard_after kind pool (first ++ later) lists
heard_more kind pool first later [] = refl
heard_more kind pool first later (None ∷ lists) = ap (λ l. None ∷ l) (heard_more kind pool first later lists)
heard_more kind pool first later (Some heard ∷ lists) =
    let behind : heard_by kind pool (first ++ later) ≡ heard_by kind pool first ++ heard_by kind pool later = filter-append _ first later in
    ap₂ (λ (a : List Event) (l : List (Option (List Event))). Some a ∷ l)
    (append_assoc heard (heard_by kind pool first) (heard_by kind pool later) ∙ ap (λ more. heard ++ more) (sym behind)) (heard_more kind pool first later lists)

map_again : {X Y Z : Type 0} (f : X → Y) (g : Y → Z) (o : Option X) → option_map (λ x. g (f x)) o ≡ option_map g (option_map f o)
map_again f g None = refl
map_again f g (Some x) = refl

pub hear_both : (kind : EventKind) (first later : List Event) (old mid new : List (List (Option Hearing))) → Hear kind first old mid → Hear kind later mid new → Hear kind (first ++ later) old new
hear_both kind first later old mid new one next pool =
    next pool
    ∙ map_again heard_lists (heard_after kind pool later) (slice_get mid pool)
    ∙ ap (option_map (heard_after kind pool later)) (one pool)
    ∙ at_place (slice_get old pool)
  where
    at_place : (o : Option (List (Option Hearing)))
        → option_map (heard_after kind pool later) (option_map (λ hearings. heard_after kind pool first (heard_lists hearings)) o) ≡ option_map (λ hearings. heard_after kind pool (first ++ later) (heard_lists hearings)) o
    at_place None = refl
    at_place (Some hearings) = ap (λ (l : List (Option (List Event))). Some l) (heard_more kind pool first later (heard_lists hearings))

-- a change, and another
pub becomes_both : (old mid new : Held) (between after : World) (first later : List Event) → Becomes old mid between first → Becomes mid new after later → Becomes old new after (first ++ later)
becomes_both old mid new between after first later one next = record {
  limit = next.limit ∙ one.limit;
  world = next.world;
  construct = hear_both event.Construct first later old.construct mid.construct new.construct one.construct next.construct;
  update = hear_both event.Update first later old.update mid.update new.update one.update next.update;
  destroy = hear_both event.Destroy first later old.destroy mid.destroy new.destroy one.destroy next.destroy;
}

-- another world, of which nobody hears
pub becomes_quietly : (old : Held) (world : World) → Becomes old (record old { world = world }) world []
becomes_quietly old world = record {
  limit = refl;
  world = refl;
  construct = hear_nothing event.Construct [] old.construct (λ pool. refl);
  update = hear_nothing event.Update [] old.update (λ pool. refl);
  destroy = hear_nothing event.Destroy [] old.destroy (λ pool. refl);
}
