-- What commands do one after another.
use Rattle.std.proofs.Common.{◌≡◌, ℕ, List, [], ◌∷◌, ◌++◌, Option, Some, None, refl, sym, ap, ap₂, ◌∙◌, subst, slice_get, append_assoc, append-nil}
use Rattle.std.specs.Option.{option_map}
use Rattle.std.proofs.lemmas.List.Elements.{filter-append}
use Rattle.signal_sink.specs.Hearings.{Hearing, heard_lists}
use Rattle.world_model.specs.declared.command.Command.{Command}
use Rattle.world_model.specs.declared.event.Event.{Event}
use Rattle.world_model.specs.declared.event.EventKind.{EventKind}
use Rattle.world_model.specs.declared.world.World.{World}
use Rattle.world_model.specs.Outcomes.{Outcome}
use Rattle.world_model.specs.Steps.{step, heard_by}
use Rattle.registry.specs.Held.{Held, AsBefore, Becomes, Does, Hear, heard_after}
use Rattle.registry_uses.specs.Scenes.{DoesAll}

-- ---- heard

-- of some events, and of others behind them
heard_more : (kind : EventKind) (pool : ℕ) (first later : List Event) (lists : List (Option (List Event))) → heard_after kind pool later (heard_after kind pool first lists) ≡ heard_after kind pool (first ++ later) lists
heard_more kind pool first later [] = refl
heard_more kind pool first later (None ∷ lists) = ap (λ l. None ∷ l) (heard_more kind pool first later lists)
heard_more kind pool first later (Some heard ∷ lists) =
    let behind : heard_by kind pool (first ++ later) ≡ heard_by kind pool first ++ heard_by kind pool later = filter-append _ first later in
    ap₂ (λ (a : List Event) (l : List (Option (List Event))). Some a ∷ l) (append_assoc heard (heard_by kind pool first) (heard_by kind pool later) ∙ ap (λ more. heard ++ more) (sym behind)) (heard_more kind pool first later lists)

map_again : {X Y Z : Type 0} (f : X → Y) (g : Y → Z) (o : Option X) → option_map (λ x. g (f x)) o ≡ option_map g (option_map f o)
map_again f g None = refl
map_again f g (Some x) = refl

hear_both : (kind : EventKind) (first later : List Event) (old mid new : List (List (Option Hearing))) → Hear kind first old mid → Hear kind later mid new → Hear kind (first ++ later) old new
hear_both kind first later old mid new one next pool =
    next pool
    ∙ map_again heard_lists (heard_after kind pool later) (slice_get mid pool)
    ∙ ap (option_map (heard_after kind pool later)) (one pool)
    ∙ at_place (slice_get old pool)
  where
    at_place : (o : Option (List (Option Hearing))) → option_map (heard_after kind pool later) (option_map (λ hearings. heard_after kind pool first (heard_lists hearings)) o) ≡ option_map (λ hearings. heard_after kind pool (first ++ later) (heard_lists hearings)) o
    at_place None = refl
    at_place (Some hearings) = ap (λ (l : List (Option (List Event))). Some l) (heard_more kind pool first later (heard_lists hearings))

-- ---- done

becomes_both : (old mid new : Held) (between after : World) (first later : List Event) → Becomes old mid between first → Becomes mid new after later → Becomes old new after (first ++ later)
becomes_both old mid new between after first later one next = record {
  limit = next.limit ∙ one.limit;
  world = next.world;
  construct = hear_both _ first later old.construct mid.construct new.construct one.construct next.construct;
  update = hear_both _ first later old.update mid.update new.update one.update next.update;
  destroy = hear_both _ first later old.destroy mid.destroy new.destroy one.destroy next.destroy;
}

-- a command, and then another
pub does_both : (old mid new : Held) (command next : Command) → Does old mid command → Does mid new next → DoesAll old new (command ∷ next ∷ [])
does_both old mid new command next one two =
    let first : Outcome = step old.limit old.world command in
    let here : Outcome = step mid.limit mid.world next in
    let same : here ≡ step old.limit first.world next = ap₂ (λ (limit : ℕ) (w : World). step limit w next) one.limit one.world in
    let both = becomes_both old mid new first.world here.world first.events here.events one two in
    subst (λ (o : Outcome). Becomes old new o.world (first.events ++ (o.events ++ []))) same
    (subst (λ (events : List Event). Becomes old new here.world (first.events ++ events)) (sym (append-nil here.events)) both)

-- a command, and then nothing
pub does_alone : (old mid new : Held) (command : Command) → Does old mid command → AsBefore mid new → Does old new command
does_alone old mid new command one before =
    let first : Outcome = step old.limit old.world command in
    subst (λ (w : World). Becomes old new w first.events) one.world
    (subst (λ (events : List Event). Becomes old new mid.world events) (append-nil first.events) (becomes_both old mid new first.world mid.world first.events [] one before.unchanged))
