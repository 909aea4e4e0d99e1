-- Orders: fitting ones leave a lawful world lawful; in two parts; how many were done and skipped.
use Rattle.std.proofs.Common.{◌≡◌, ℕ, ◌+◌, Bool, true, false, cond, List, [], ◌∷◌, ◌++◌, length, Option, Some, None, IfSome, ℤ, sym, refl, ◌∙◌, subst, arith}
use Rattle.std.specs.List.{AllByRecursion}
use Rattle.std.specs.Option.{option_map_or}
use Rattle.entity_id.specs.declared.entity.Entity.{Entity}
use Rattle.entity_id.specs.declared.entity.Profile.{Profile}
use Rattle.world_model.specs.declared.command.Reply.TheVariants.{Refused}
use Rattle.world_model.specs.declared.component.Decl.{Decl}
use Rattle.world_model.specs.declared.deferred.Deferred.{Deferred}
use Rattle.world_model.specs.declared.deferred.Deferred.TheVariants.{Kill, Give, Take, Send, Add, Spawn, Bear}
use Rattle.world_model.specs.declared.refusal.Refusal.TheVariants.{Dead}
use Rattle.world_model.specs.declared.world.World.{World}
use Rattle.world_model.specs.Components.{value_at, fits_kind, has_field, has_int_field}
use Rattle.world_model.specs.Conditions.{IsAllowed}
use Rattle.world_model.specs.Contents.{row_at}
use Rattle.world_model.specs.Orders.{Progress, IsFitting, command_of, order_outcome, is_refused, apply, apply_all}
use Rattle.world_model.specs.Outcomes.{answers}
use Rattle.world_model.specs.Steps.{step}
use Rattle.world_model.specs.Worlds.{IsLawful}
use Rattle.world_model.proofs.RowLemmas.{wrapped_is_i64}
use Rattle.world_model.proofs.StepLaw.{step_lawful}
use Rattle.world_model.proofs.StepLemmas.{SameComponents, both, same}

-- ---- the command of an order

-- any number may stand in an int field
any_int : (profile : Profile) (decls : List Decl) (pool field : ℕ) (value : ℤ) → has_int_field decls pool field ≡ true → has_field (λ kind. fits_kind profile kind value) decls pool field ≡ true
any_int profile decls pool field value h = grind arith

-- the command of a fitting order is allowed
order_allowed : (w : World) (last : Option Entity) (order : Deferred) → IsFitting w.profile w.decls order → IfSome (command_of w last order) (IsAllowed w)
order_allowed w last (Kill e) fit = tt
order_allowed w last (Give e pool row) fit = fit.1
order_allowed w last (Take e pool) fit = tt
order_allowed w last (Send e pool field value) fit = fit.1
order_allowed w last (Add e pool field value) fit = record { wide = wrapped_is_i64 (value_at (row_at w pool e) field) value; fit = λ _. any_int w.profile w.decls pool field _ fit.1.0 }
order_allowed w last Spawn fit = tt
order_allowed w None (Bear pool row) fit = tt
order_allowed w (Some e) (Bear pool row) fit = fit.1

-- ---- lawful worlds

order_same : (limit : ℕ) (p : Progress) (order : Deferred) → SameComponents p.world (apply limit p order).world
order_same limit p order = record { profile = grind arith; decls = grind arith; tick = grind arith }

order_lawful : (limit : ℕ) (p : Progress) (order : Deferred) → IsLawful limit p.world → IsFitting p.world.profile p.world.decls order → IsLawful limit (apply limit p order).world
order_lawful limit p order h fit =
    elim (command_of p.world p.last order) as
    (λ c. IfSome c (IsAllowed p.world) → IsLawful limit (option_map_or (λ command. step limit p.world command) c (answers p.world (Refused Dead))).world) [
      | None ↦ λ _. h
      | Some command ↦ step_lawful limit p.world command h
    ] (order_allowed p.world p.last order fit)

pub fitting_after : (w v : World) (orders : List Deferred) → SameComponents w v → AllByRecursion (IsFitting w.profile w.decls) orders → AllByRecursion (IsFitting v.profile v.decls) orders
fitting_after w v orders is h =
    subst (λ (p : Profile). AllByRecursion (IsFitting p v.decls) orders) (sym is.profile)
    (subst (λ (d : List Decl). AllByRecursion (IsFitting w.profile d) orders) (sym is.decls) h)

pub orders_lawful : (limit : ℕ) (p : Progress) (orders : List Deferred) → IsLawful limit p.world → AllByRecursion (IsFitting p.world.profile p.world.decls) orders → IsLawful limit (apply_all limit p orders).world
orders_lawful limit p [] h fit = h
orders_lawful limit p (order ∷ orders) h fit =
    orders_lawful limit (apply limit p order) orders (order_lawful limit p order h fit.0)
    (fitting_after p.world (apply limit p order).world orders (order_same limit p order) fit.1)

-- ---- what stays

pub orders_same : (limit : ℕ) (p : Progress) (orders : List Deferred) → SameComponents p.world (apply_all limit p orders).world
orders_same limit p [] = same p.world
orders_same limit p (order ∷ orders) = both (order_same limit p order) (orders_same limit (apply limit p order) orders)

-- no order changes the groups
order_groups : (limit : ℕ) (p : Progress) (order : Deferred) → (apply limit p order).world.groups ≡ p.world.groups
order_groups limit p order = grind arith

-- nor are orders one after another
pub orders_groups : (limit : ℕ) (p : Progress) (orders : List Deferred) → (apply_all limit p orders).world.groups ≡ p.world.groups
orders_groups limit p [] = refl
orders_groups limit p (order ∷ orders) = orders_groups limit (apply limit p order) orders ∙ order_groups limit p order

-- ---- done and skipped

-- each order is done or skipped
pub orders_counted : (limit : ℕ) (p : Progress) (orders : List Deferred) → (apply_all limit p orders).done + (apply_all limit p orders).skipped ≡ p.done + p.skipped + length orders
orders_counted limit p [] = omega arith
orders_counted limit p (order ∷ orders) = omega (arith, one (is_refused (order_outcome limit p.world p.last order).reply), orders_counted limit (apply limit p order) orders)
  where
    one : (refused : Bool) → (p.done + cond refused 0 1) + (p.skipped + cond refused 1 0) ≡ p.done + p.skipped + 1
    one true = omega arith
    one false = omega arith

-- ---- two parts

-- orders in two parts, what was spawned carried over
pub orders-append : (limit : ℕ) (p : Progress) (xs ys : List Deferred) → apply_all limit p (xs ++ ys) ≡ apply_all limit (apply_all limit p xs) ys
orders-append limit p [] ys = refl
orders-append limit p (x ∷ xs) ys = orders-append limit (apply limit p x) xs ys
