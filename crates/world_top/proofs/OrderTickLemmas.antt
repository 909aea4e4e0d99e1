-- Orders do the same at another tick.
use Rattle.std.proofs.Common.{◌≡◌, ℕ, ◌+◌, ◌++◌, List, [], ◌∷◌, Option, Some, None, refl, ap, ◌∙◌, if◌then◌else◌}
use Rattle.entity_id.specs.declared.entity.Entity.{Entity}
use Rattle.world_model.specs.declared.command.Command.{Command}
use Rattle.world_model.specs.declared.command.Command.TheVariants.{Create, Destroy, EmplaceOrReplace, Erase, Patch}
use Rattle.world_model.specs.declared.deferred.Deferred.{Deferred}
use Rattle.world_model.specs.declared.deferred.Deferred.TheVariants.{Kill, Give, Take, Send, Add, Spawn, Bear}
use Rattle.world_model.specs.declared.world.World.{World}
use Rattle.std.specs.Int.{int_wrapping_add, w64}
use Rattle.world_model.specs.Components.{value_at}
use Rattle.world_model.specs.Contents.{row_at}
use Rattle.world_model.specs.Orders.{Progress, beginning, is_refused, last_after, order_outcome, apply, apply_all}
use Rattle.world_model.specs.Outcomes.{Outcome}
use Rattle.world_model.specs.Steps.{step}
use Rattle.world_model.specs.Ticks.{world_after_orders}
use Rattle.world_top.proofs.TickLemmas.{at_tick, step_reply, step_world, step_events}

-- what a command gives, with its world at this tick
abbrev given_at : ℕ → Outcome → Outcome
given_at tick o = record o { world = at_tick tick o.world }

-- how far orders were carried out, with the world at this tick
abbrev progress_at : ℕ → Progress → Progress
progress_at tick p = record p { world = at_tick tick p.world }

step_at_tick : (limit tick : ℕ) (w : World) (command : Command) → step limit (at_tick tick w) command ≡ given_at tick (step limit w command)
step_at_tick limit tick w command = λ i. record { world = step_world limit tick w command i; reply = step_reply limit tick w command i; events = step_events limit tick w command i }

order_at_tick : (limit tick : ℕ) (w : World) (last : Option Entity) (order : Deferred) → order_outcome limit (at_tick tick w) last order ≡ given_at tick (order_outcome limit w last order)
order_at_tick limit tick w last (Kill e) = step_at_tick limit tick w (Destroy e)
order_at_tick limit tick w last (Give e pool row) = step_at_tick limit tick w (EmplaceOrReplace e pool row)
order_at_tick limit tick w last (Take e pool) = step_at_tick limit tick w (Erase e pool)
order_at_tick limit tick w last (Send e pool field value) = step_at_tick limit tick w (Patch e pool field value)
order_at_tick limit tick w last (Add e pool field value) = step_at_tick limit tick w (Patch e pool field (int_wrapping_add w64 (value_at (row_at w pool e) field) value))
order_at_tick limit tick w last Spawn = step_at_tick limit tick w Create
order_at_tick limit tick w None (Bear pool row) = refl
order_at_tick limit tick w (Some e) (Bear pool row) = step_at_tick limit tick w (EmplaceOrReplace e pool row)

-- how far orders were carried out, with what one more gave
abbrev with_order : Progress → Deferred → Outcome → Progress
with_order p order outcome = record {
  world = outcome.world;
  last = last_after p.last order outcome.reply;
  events = p.events ++ outcome.events;
  done = p.done + (if is_refused outcome.reply then 0 else 1);
  skipped = p.skipped + (if is_refused outcome.reply then 1 else 0);
}

apply_at_tick : (limit tick : ℕ) (p : Progress) (order : Deferred) → apply limit (progress_at tick p) order ≡ progress_at tick (apply limit p order)
apply_at_tick limit tick p order = ap (with_order p order) (order_at_tick limit tick p.world p.last order)

all_at_tick : (limit tick : ℕ) (p : Progress) (orders : List Deferred) → apply_all limit (progress_at tick p) orders ≡ progress_at tick (apply_all limit p orders)
all_at_tick limit tick p [] = refl
all_at_tick limit tick p (order ∷ orders) = ap (λ (q : Progress). apply_all limit q orders) (apply_at_tick limit tick p order) ∙ all_at_tick limit tick (apply limit p order) orders

-- lists of orders leave the same at another tick
pub lists_at_tick : (limit tick : ℕ) (w : World) (lists : List (List Deferred)) → world_after_orders limit (at_tick tick w) lists ≡ at_tick tick (world_after_orders limit w lists)
lists_at_tick limit tick w [] = refl
lists_at_tick limit tick w (orders ∷ lists) =
    ap (λ (q : Progress). world_after_orders limit q.world lists) (all_at_tick limit tick (beginning w) orders)
    ∙ lists_at_tick limit tick (apply_all limit (beginning w) orders).world lists
