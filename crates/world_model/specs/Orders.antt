-- Orders, the structural commands of a tick: what they do when they are carried out.
use Rattle.std.specs.Prelude.{◌≡◌, ℕ, ◌+◌, ◌<◌, ◌≤◌, Bool, true, false, ◌==◌, length, count_by, slice_index, if◌then◌else◌, List, [], ◌∷◌, ◌++◌, Option, Some, None}
use Rattle.std.specs.Option.{option_map, option_map_or}
use Rattle.std.specs.Int.{int_wrapping_add, w64}
use Rattle.entity_id.specs.declared.entity.Entity.{Entity}
use Rattle.entity_id.specs.declared.entity.Profile.{Profile}
use Rattle.world_model.specs.declared.command.Command.{Command}
use Rattle.world_model.specs.declared.command.Command.TheVariants.{Create, Destroy, EmplaceOrReplace, Erase, Patch}
use Rattle.world_model.specs.declared.command.Reply.{Reply}
use Rattle.world_model.specs.declared.command.Reply.TheVariants.{Made, Refused}
use Rattle.world_model.specs.declared.component.Decl.{Decl}
use Rattle.world_model.specs.declared.deferred.Deferred.{Deferred}
use Rattle.world_model.specs.declared.deferred.Deferred.TheVariants.{Kill, Give, Take, Send, Add, Spawn, Bear}
use Rattle.world_model.specs.declared.deferred.Needs.{Needs}
use Rattle.world_model.specs.declared.event.Event.{Event}
use Rattle.world_model.specs.declared.refusal.Refusal.TheVariants.{Dead}
use Rattle.world_model.specs.declared.world.World.{World}
use Rattle.world_model.specs.Components.{value_at, has_int_field}
use Rattle.world_model.specs.Conditions.{MaySet, MaySetField}
use Rattle.world_model.specs.Contents.{row_at}
use Rattle.world_model.specs.Integers.{IsI64}
use Rattle.world_model.specs.Outcomes.{Outcome, answers}
use Rattle.world_model.specs.Steps.{step}

-- ---- fitting orders

-- the component of an order is declared, and this holds
abbrev pub Names : List Decl → ℕ → Type 0 → Type 0
Names decls pool Fits = (pool < length decls) × Fits

-- an order is fitting: it names declared components and fields, an int field for an Add, and the rows and values that it carries may
-- be set
abbrev pub IsFitting : Profile → List Decl → Deferred → Type 0
IsFitting profile decls (Kill entity) = Unit {0}
IsFitting profile decls (Give entity pool row) = Names decls pool (MaySet profile decls pool row)
IsFitting profile decls (Take entity pool) = pool < length decls
IsFitting profile decls (Send entity pool field value) = Names decls pool (MaySetField profile decls pool field value)
IsFitting profile decls (Add entity pool field value) = Names decls pool ((has_int_field decls pool field ≡ true) × IsI64 value)
IsFitting profile decls Spawn = Unit {0}
IsFitting profile decls (Bear pool row) = Names decls pool (MaySet profile decls pool row)

-- ---- carrying them out

-- how far orders have been carried out; last is what the last Spawn made: none where it was skipped or none came
pub record Progress : Type 0 where
  pub world : World
  pub last : Option Entity
  pub events : List Event
  pub done : ℕ
  pub skipped : ℕ

-- a list of orders begins with nothing spawned
abbrev pub beginning : World → Progress
beginning w = record { world = w; last = None; events = []; done = 0; skipped = 0 }

-- the command that an order is; a Bear is none where nothing was spawned
abbrev pub command_of : World → Option Entity → Deferred → Option Command
command_of w last (Kill entity) = Some (Destroy entity)
command_of w last (Give entity pool row) = Some (EmplaceOrReplace entity pool row)
command_of w last (Take entity pool) = Some (Erase entity pool)
command_of w last (Send entity pool field value) = Some (Patch entity pool field value)
command_of w last (Add entity pool field value) = Some (Patch entity pool field (int_wrapping_add w64 (value_at (row_at w pool entity) field) value))
command_of w last Spawn = Some Create
command_of w last (Bear pool row) = option_map (λ entity. EmplaceOrReplace entity pool row) last

-- what an order gives: what its command gives; one that is no command is refused
abbrev pub order_outcome : ℕ → World → Option Entity → Deferred → Outcome
order_outcome limit w last order = option_map_or (λ command. step limit w command) (command_of w last order) (answers w (Refused Dead))

-- what the last Spawn made, after an order with this reply
abbrev pub last_after : Option Entity → Deferred → Reply → Option Entity
last_after last Spawn (Made entity) = Some entity
last_after last Spawn _ = None
last_after last _ reply = last

-- whether a reply is a refusal
abbrev pub is_refused : Reply → Bool
is_refused (Refused cause) = true
is_refused _ = false

-- one order; it is skipped where its command is refused, and then the world stays
abbrev pub apply : ℕ → Progress → Deferred → Progress
apply limit p order =
    let outcome = order_outcome limit p.world p.last order in
    let refused = is_refused outcome.reply in
    record {
      world = outcome.world;
      last = last_after p.last order outcome.reply;
      events = p.events ++ outcome.events;
      done = p.done + (if refused then 0 else 1);
      skipped = p.skipped + (if refused then 1 else 0);
    }

-- orders one after another
abbrev pub apply_all : ℕ → Progress → List Deferred → Progress
apply_all limit p [] = p
apply_all limit p (order ∷ orders) = apply_all limit (apply limit p order) orders

-- ---- what they need room for

-- whether an order may add a row to the component
abbrev pub is_add : ℕ → Deferred → Bool
is_add pool (Give entity other row) = other == pool
is_add pool (Bear other row) = other == pool
is_add pool _ = false

-- whether an order may change a row of the component
abbrev pub is_update : ℕ → Deferred → Bool
is_update pool (Give entity other row) = other == pool
is_update pool (Bear other row) = other == pool
is_update pool (Send entity other field value) = other == pool
is_update pool (Add entity other field value) = other == pool
is_update pool _ = false

-- whether an order makes an identifier
abbrev pub is_spawn : Deferred → Bool
is_spawn Spawn = true
is_spawn _ = false

-- needs that cover orders: a number for each of this many components, each at least what the orders count
pub record Covers (count : ℕ) (needs : Needs) (orders : List Deferred) : Type 0 where
  pub adds_long : length needs.adds ≡ count
  pub updates_long : length needs.updates ≡ count
  pub adds : (pool : ℕ) → pool < count → count_by (is_add pool) orders ≤ slice_index needs.adds pool
  pub updates : (pool : ℕ) → pool < count → count_by (is_update pool) orders ≤ slice_index needs.updates pool
  pub spawns : count_by is_spawn orders ≤ needs.spawns
