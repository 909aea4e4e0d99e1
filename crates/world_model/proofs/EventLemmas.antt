-- What is told of are identifiers that were live.
use Rattle.std.proofs.Common.{◌≡◌, ℕ, true, List, [], ◌∷◌, None}
use Rattle.std.specs.List.{AllByRecursion}
use Rattle.entity_id.specs.Identifiers.{IsOfProfile}
use Rattle.entity_id.specs.FiniteMap as rows
use Rattle.entity_id.proofs.ListLemmas.{all-map, all_weaker}
use Rattle.world_model.specs.declared.command.Command.{Command}
use Rattle.world_model.specs.declared.command.Command.TheVariants.{Destroy, Emplace, EmplaceOrReplace, Replace, Patch, Remove, Erase, Clear, Group}
use Rattle.world_model.specs.declared.event.Event.{Event}
use Rattle.world_model.specs.declared.world.World.{World}
use Rattle.world_model.specs.Contents.{pool_at, holders}
use Rattle.world_model.specs.Outcomes.{outcome_of}
use Rattle.world_model.specs.Refusing.{refusal_of}
use Rattle.world_model.specs.Slots.{is_live}
use Rattle.world_model.specs.Steps.{step}
use Rattle.world_model.specs.Worlds.{IsLawful}
use Rattle.world_model.proofs.AcceptedLemmas.{alive, entry_live}
use Rattle.world_model.proofs.ReplyLemmas.{live_rows, live_keys}
use Rattle.world_model.proofs.SlotLemmas.{live_of_profile}
use Rattle.world_model.proofs.StepLemmas.{step_cases, remove_cases, group_cases}

-- the identifier of each event is live in this world
abbrev AreLive : World → List Event → Type 0
AreLive w events = AllByRecursion (λ event. is_live w.slots event.entity ≡ true) events

always : {X : Type 0} (P : Type 0) (xs : List X) → P → AllByRecursion (λ _. P) xs
always P [] h = tt
always P (x ∷ xs) h = (h, always P xs h)

accepted_events : (limit : ℕ) (w : World) (command : Command) → IsLawful limit w → refusal_of limit w command ≡ None → AreLive w (outcome_of limit w command).events
accepted_events limit w (Destroy e) h k = all-map _ _ (holders w e) (always _ (holders w e) (alive w e k))
accepted_events limit w (Emplace e pool row) h k = (entry_live w pool e _ k, tt)
accepted_events limit w (EmplaceOrReplace e pool row) h k = (entry_live w pool e None k, tt)
accepted_events limit w (Replace e pool row) h k = (entry_live w pool e _ k, tt)
accepted_events limit w (Patch e pool field value) h k = (entry_live w pool e _ k, tt)
accepted_events limit w (Remove e pool) h k = remove_cases (λ o. AreLive w o.events) w e pool (entry_live w pool e None k, tt) tt
accepted_events limit w (Erase e pool) h k = (entry_live w pool e _ k, tt)
accepted_events limit w (Clear pool) h k = all-map _ _ (rows.keys (pool_at w pool)) (live_keys w (pool_at w pool) (live_rows limit w h pool))
accepted_events limit w (Group decl) h k = group_cases (λ o. AreLive w o.events) w decl (λ _. tt) tt
accepted_events limit w _ h k = tt

pub events_live : (limit : ℕ) (w : World) (command : Command) → IsLawful limit w → AreLive w (step limit w command).events
events_live limit w command h = step_cases (λ o. AreLive w o.events) limit w command (λ _ _. tt) (accepted_events limit w command h)

pub events_of_profile : (limit : ℕ) (w : World) (command : Command) → IsLawful limit w → AllByRecursion (λ event. IsOfProfile w.profile event.entity) (step limit w command).events
events_of_profile limit w command h =
    all_weaker _ _ (λ event. live_of_profile w.profile limit w.slots w.free event.entity h.slots) (step limit w command).events (events_live limit w command h)
