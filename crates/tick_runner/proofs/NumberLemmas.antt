-- Orders don't see the tick number.
use Rattle.std.proofs.Common.{◌≡◌, ℕ, ◌+◌, List, [], ◌∷◌, ◌++◌, Option, Some, None, refl, ap, ◌∙◌, if◌then◌else◌}
use Rattle.std.specs.Option.{option_map_or}
use Rattle.entity_id.specs.declared.entity.Entity.{Entity}
use Rattle.world_model.specs.declared.command.Command.{Command}
use Rattle.world_model.specs.declared.command.Reply.TheVariants.{Refused}
use Rattle.world_model.specs.declared.deferred.Deferred.{Deferred}
use Rattle.world_model.specs.declared.deferred.Deferred.TheVariants.{Kill, Give, Take, Send, Add, Spawn, Bear}
use Rattle.world_model.specs.declared.refusal.Refusal.TheVariants.{Dead}
use Rattle.world_model.specs.declared.world.World.{World}
use Rattle.world_model.specs.Orders.{Progress, beginning, command_of, order_outcome, last_after, is_refused, apply, apply_all}
use Rattle.world_model.specs.Outcomes.{Outcome, answers}
use Rattle.world_model.specs.Steps.{step}
use Rattle.world_model.specs.Ticks.{order_events, world_after_orders}

module _ (tick : ℕ) where
  -- a world, an outcome and a progress at this tick number
  abbrev pub numbered : World → World
  numbered w = record w { tick = tick }

  abbrev pub outcome_at : Outcome → Outcome
  outcome_at outcome = record outcome { world = numbered outcome.world }

  abbrev pub progress_at : Progress → Progress
  progress_at progress = record progress { world = numbered progress.world }

  same_command : (w : World) (last : Option Entity) (order : Deferred) → command_of (numbered w) last order ≡ command_of w last order
  same_command w last (Kill entity) = refl
  same_command w last (Give entity pool row) = refl
  same_command w last (Take entity pool) = refl
  same_command w last (Send entity pool field value) = refl
  same_command w last (Add entity pool field value) = refl
  same_command w last Spawn = refl
  same_command w last (Bear pool row) = refl

  module _ (limit : ℕ) (reply : (limit tick : ℕ) (world : World) (command : Command) → (step limit (record world { tick = tick }) command).reply ≡ (step limit world command).reply)
      (world : (limit tick : ℕ) (world : World) (command : Command) → (step limit (record world { tick = tick }) command).world ≡ record (step limit world command).world { tick = tick })
      (events : (limit tick : ℕ) (world : World) (command : Command) → (step limit (record world { tick = tick }) command).events ≡ (step limit world command).events) where
    same_step : (w : World) (command : Command) → step limit (numbered w) command ≡ outcome_at (step limit w command)
    same_step w command = λ i. record { reply = reply limit tick w command i; world = world limit tick w command i; events = events limit tick w command i }

    by_command : (w : World) (o : Option Command) → option_map_or (λ command. step limit (numbered w) command) o (answers (numbered w) (Refused Dead)) ≡ outcome_at (option_map_or (λ command. step limit w command) o (answers w (Refused Dead)))
    by_command w None = refl
    by_command w (Some command) = same_step w command

    same_outcome : (w : World) (last : Option Entity) (order : Deferred) → order_outcome limit (numbered w) last order ≡ outcome_at (order_outcome limit w last order)
    same_outcome w last order =
        ap (λ (o : Option Command). option_map_or (λ command. step limit (numbered w) command) o (answers (numbered w) (Refused Dead))) (same_command w last order) ∙ by_command w (command_of w last order)

    same_apply : (p : Progress) (order : Deferred) → apply limit (progress_at p) order ≡ progress_at (apply limit p order)
    same_apply p order = ap (λ (outcome : Outcome). record {
      world = outcome.world;
      last = last_after p.last order outcome.reply;
      events = p.events ++ outcome.events;
      done = p.done + (if is_refused outcome.reply then 0 else 1);
      skipped = p.skipped + (if is_refused outcome.reply then 1 else 0);
    }) (same_outcome p.world p.last order)

    same_orders : (p : Progress) (orders : List Deferred) → apply_all limit (progress_at p) orders ≡ progress_at (apply_all limit p orders)
    same_orders p [] = refl
    same_orders p (order ∷ orders) = ap (λ (q : Progress). apply_all limit q orders) (same_apply p order) ∙ same_orders (apply limit p order) orders

    pub same_world : (w : World) (lists : List (List Deferred)) → world_after_orders limit (numbered w) lists ≡ numbered (world_after_orders limit w lists)
    same_world w [] = refl
    same_world w (orders ∷ lists) =
        ap (λ (p : Progress). world_after_orders limit p.world lists) (same_orders (beginning w) orders) ∙ same_world (apply_all limit (beginning w) orders).world lists

    pub same_events : (w : World) (lists : List (List Deferred)) → order_events limit (numbered w) lists ≡ order_events limit w lists
    same_events w [] = refl
    same_events w (orders ∷ lists) =
        ap (λ (p : Progress). p.events ++ order_events limit p.world lists) (same_orders (beginning w) orders)
        ∙ ap (λ rest. (apply_all limit (beginning w) orders).events ++ rest) (same_events (apply_all limit (beginning w) orders).world lists)
