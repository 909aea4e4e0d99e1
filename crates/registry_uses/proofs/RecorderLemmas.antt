-- What a recorder hears between its connection and its disconnection.
use Rattle.std.proofs.Common.{◌≡◌, ℕ, ◌<◌, true, false, cond, List, [], ◌∷◌, ◌++◌, map, length, Option, Some, None, refl, sym, subst, ap, ◌∙◌, arith, get_or, slice_get, set, ◌+◌, length-append, length-set}
use Rattle.std.specs.Option.{option_map, option_map_or}
use Rattle.std.proofs.lemmas.List.{length-map}
use Rattle.std.proofs.lemmas.Option.{none-some, same_Some, slice_get-map}
use Rattle.entity_id.specs.declared.entity.Entity.{Entity}
use Rattle.signal_sink.specs.Hearings.{Hearing, heard_lists, is_connected}
use Rattle.world_model.specs.declared.command.Command.TheVariants.{Destroy}
use Rattle.world_model.specs.declared.event.Event.{Event}
use Rattle.world_model.specs.declared.event.EventKind.TheVariants as event
use Rattle.world_model.specs.declared.world.World.{World}
use Rattle.world_model.specs.Contents.{has_row}
use Rattle.world_model.specs.Outcomes.{Outcome, tells}
use Rattle.world_model.specs.Steps.{step, heard_by}
use Rattle.world_model.specs.Worlds.{IsLawful}
use Rattle.world_model.proofs.SlotLemmas.{slice_get-push}
use Rattle.registry.specs.Held.{Held, Does, heard_after, refusal_to}
use Rattle.registry.specs.Listeners.{listeners_at}
use Rattle.registry.proofs.DoneLemmas.{accepted}
use Rattle.registry.proofs.HeardLemmas.{heard_of_holders}
use Rattle.registry_uses.specs.declared.beginning.TheConstants.{POSITION}
use Rattle.registry_uses.specs.Scenes.{IsScene}
use Rattle.registry_uses.proofs.RowLemmas.{pools_of}

-- the same of the first items, or of what stands for one that isn't there
at_first : {X Y : Type 0} (f g : X → Y) (xs ys : List X) (d : X) → f d ≡ g d → option_map f (slice_get ys 0) ≡ option_map g (slice_get xs 0) → f (get_or ys 0 d) ≡ g (get_or xs 0 d)
at_first f g [] [] d same h = same
at_first f g [] (y ∷ ys) d same h = absurd (none-some (f y) (sym h))
at_first f g (x ∷ xs) [] d same h = absurd (none-some (g x) h)
at_first f g (x ∷ xs) (y ∷ ys) d same h = same_Some (f y) (g x) h

-- the list of the listener behind all others is just these events
last_list : (old mid after : List (Option Hearing)) (kind_events : List Event) (number : ℕ) → number ≡ length old → heard_lists mid ≡ heard_lists old ++ Some [] ∷ []
    → heard_lists after ≡ map (option_map (λ heard. heard ++ kind_events)) (heard_lists mid) → slice_get (heard_lists after) number ≡ Some (Some kind_events)
last_list old mid after kind_events number is connected heard =
    let more : Option (List Event) → Option (List Event) = option_map (λ heard. heard ++ kind_events) in
    let last : number ≡ length (heard_lists old) = is ∙ sym (length-map old (option_map (λ (h : Hearing). h.heard))) in
    let before : slice_get (heard_lists mid) number ≡ Some (Some []) = ap (λ l. slice_get l number) connected ∙ ap (λ k. slice_get (heard_lists old ++ Some [] ∷ []) k) last ∙ slice_get-push (heard_lists old) (Some []) in
    ap (λ l. slice_get l number) heard ∙ slice_get-map more (heard_lists mid) number ∙ ap (option_map more) before

-- so that is what it heard
last_heard : (old mid after : List (Option Hearing)) (kind_events : List Event) (number : ℕ) (recorder : Hearing) → number ≡ length old → heard_lists mid ≡ heard_lists old ++ Some [] ∷ []
    → heard_lists after ≡ map (option_map (λ heard. heard ++ kind_events)) (heard_lists mid) → slice_get after number ≡ Some (Some recorder) → recorder.heard ≡ kind_events
last_heard old mid after kind_events number recorder is connected heard there =
    let heard_there = slice_get-map (option_map (λ (h : Hearing). h.heard)) after number ∙ ap (option_map (option_map (λ (h : Hearing). h.heard))) there in
    same_Some recorder.heard kind_events (same_Some (Some recorder.heard) (Some kind_events) (sym heard_there ∙ last_list old mid after kind_events number is connected heard))

-- a recorder that was connected for a destruction has heard of the entity's place, where it had one
pub heard_of_place : (old mid after : Held) (e : Entity) (number : ℕ) (recorder : Hearing) → IsScene old → IsLawful old.limit old.world → mid.world ≡ old.world → number ≡ length (listeners_at old event.Destroy POSITION)
    → heard_lists (listeners_at mid event.Destroy POSITION) ≡ heard_lists (listeners_at old event.Destroy POSITION) ++ Some [] ∷ []
    → Does mid after (Destroy e) → refusal_to mid (Destroy e) ≡ None → slice_get (listeners_at after event.Destroy POSITION) number ≡ Some (Some recorder)
    → recorder.heard ≡ cond (has_row old.world POSITION e) (tells event.Destroy POSITION e ∷ []) []
heard_of_place old mid after e number recorder h lawful world is connected does passes there =
    let events : List Event = (step mid.limit mid.world (Destroy e)).events in
    let within : POSITION < length mid.world.pools = subst (λ (w : World). POSITION < length w.pools) (sym world) (pools_of old.limit old.world POSITION lawful (let few = ap length h.decls in omega (arith, few))) in
    last_heard (listeners_at old event.Destroy POSITION) (listeners_at mid event.Destroy POSITION) (listeners_at after event.Destroy POSITION) (heard_by event.Destroy POSITION events) number recorder is connected
    (at_first heard_lists (λ hearings. heard_after event.Destroy POSITION events (heard_lists hearings)) mid.destroy after.destroy [] refl (does.destroy POSITION)) there
    ∙ ap (λ (o : Outcome). heard_by event.Destroy POSITION o.events) (accepted mid.limit mid.world (Destroy e) passes)
    ∙ heard_of_holders mid.world e POSITION within
    ∙ ap (λ (w : World). cond (has_row w POSITION e) (tells event.Destroy POSITION e ∷ []) []) world

-- a recorder that was connected is connected still
pub still_connected : (old mid after : Held) (e : Entity) (number : ℕ) → number ≡ length (listeners_at old event.Destroy POSITION)
    → heard_lists (listeners_at mid event.Destroy POSITION) ≡ heard_lists (listeners_at old event.Destroy POSITION) ++ Some [] ∷ []
    → Does mid after (Destroy e) → is_connected (listeners_at after event.Destroy POSITION) number ≡ true
still_connected old mid after e number is connected does =
    let events : List Event = (step mid.limit mid.world (Destroy e)).events in
    let heard = at_first heard_lists (λ hearings. heard_after event.Destroy POSITION events (heard_lists hearings)) mid.destroy after.destroy [] refl (does.destroy POSITION) in
    of_place (slice_get (listeners_at after event.Destroy POSITION) number) _
    (sym (slice_get-map (option_map (λ (h : Hearing). h.heard)) (listeners_at after event.Destroy POSITION) number)
    ∙ last_list (listeners_at old event.Destroy POSITION) (listeners_at mid event.Destroy POSITION) (listeners_at after event.Destroy POSITION) (heard_by event.Destroy POSITION events) number is connected heard)
  where
    of_place : (place : Option (Option Hearing)) (heard : List Event) → option_map (option_map (λ (h : Hearing). h.heard)) place ≡ Some (Some heard)
        → option_map_or (λ (p : Option Hearing). option_map_or (λ hearing. true) p false) place false ≡ true
    of_place None heard h = absurd (none-some (Some heard) h)
    of_place (Some None) heard h = absurd (none-some heard (same_Some None (Some heard) h))
    of_place (Some (Some hearing)) heard h = refl

-- ---- connections used up

-- a list with one more behind it, of which another is made item by item
length_more : {X : Type 0} (f : X → X) (now mid before : List X) (x : X) → now ≡ map f mid → mid ≡ before ++ x ∷ [] → length now ≡ length before + 1
length_more f now mid before x is behind = ap length is ∙ length-map mid f ∙ ap length behind ∙ length-append before (x ∷ [])

-- a recorder that was connected and disconnected has used up a number
pub one_used : (old mid after new : Held) (e : Entity) (number : ℕ) → heard_lists (listeners_at mid event.Destroy POSITION) ≡ heard_lists (listeners_at old event.Destroy POSITION) ++ Some [] ∷ []
    → Does mid after (Destroy e) → listeners_at new event.Destroy POSITION ≡ set (listeners_at after event.Destroy POSITION) number None
    → length (listeners_at new event.Destroy POSITION) ≡ length (listeners_at old event.Destroy POSITION) + 1
one_used old mid after new e number connected does gone =
    let events : List Event = (step mid.limit mid.world (Destroy e)).events in
    let heard : heard_lists (listeners_at after event.Destroy POSITION) ≡ heard_after event.Destroy POSITION events (heard_lists (listeners_at mid event.Destroy POSITION)) = at_first heard_lists (λ hearings. heard_after event.Destroy POSITION events (heard_lists hearings)) mid.destroy after.destroy [] refl (does.destroy POSITION) in
    let there : length (listeners_at new event.Destroy POSITION) ≡ length (listeners_at after event.Destroy POSITION) = ap length gone ∙ length-set (listeners_at after event.Destroy POSITION) number None in
    let lists : length (heard_lists (listeners_at after event.Destroy POSITION)) ≡ length (heard_lists (listeners_at old event.Destroy POSITION)) + 1 = length_more _ _ _ (heard_lists (listeners_at old event.Destroy POSITION)) (Some []) heard connected in
    there
    ∙ sym (length-map (listeners_at after event.Destroy POSITION) (option_map (λ (h : Hearing). h.heard)))
    ∙ lists
    ∙ ap (λ (n : ℕ). n + 1) (length-map (listeners_at old event.Destroy POSITION) (option_map (λ (h : Hearing). h.heard)))
