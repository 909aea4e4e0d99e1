-- What a contract sees of a registry, and what its calls do to it.
use Rattle.std.specs.Prelude.{◌≡◌, ℕ, ◌++◌, List, [], ◌∷◌, not, map, replicate, length, Option, slice_get}
use Rattle.std.specs.Option.{option_map}
use Rattle.entity_id.specs.declared.entity.Entity.{Entity}
use Rattle.signal_sink.specs.Hearings.{Hearing, heard_lists}
use Rattle.world_model.specs.declared.command.Command.{Command}
use Rattle.world_model.specs.declared.command.Reply.{Reply}
use Rattle.world_model.specs.declared.event.Event.{Event}
use Rattle.world_model.specs.declared.event.EventKind.{EventKind}
use Rattle.world_model.specs.declared.event.EventKind.TheVariants as event
use Rattle.world_model.specs.declared.refusal.Refusal.{Refusal}
use Rattle.world_model.specs.declared.refusal.Refusal.TheVariants as refusal
use Rattle.world_model.specs.declared.world.World.{World}
use Rattle.world_model.specs.Contents.{keys_of, group_at}
use Rattle.world_model.specs.Groups.{has_pool, members, group_prefix}
use Rattle.world_model.specs.Refusing.{first_refusal, refuse, refusal_of, when_no_group, when_no_pool}
use Rattle.world_model.specs.Steps.{step, heard_by}

-- for how many more rows a pool has room, and below which index their identifiers are
pub record PoolRoom : Type 0 where
  pub spare : ℕ
  pub index_bound : ℕ

-- room for no row
abbrev pub no_room : PoolRoom
no_room = record { spare = 0; index_bound = 0 }

-- a world at tick 0 with at most so many slots, the packed list of each pool, for each kind of event the listeners of each pool, and
-- what more there is room for
pub record Held : Type 0 where
  -- the most slots
  pub limit : ℕ
  -- the world that the registry stands for
  pub world : World
  -- the packed list of each pool: the identifiers that have a row in it, in the order in which the pool keeps them
  pub packed : List (List Entity)
  -- the listeners of each pool that hear of rows added
  pub construct : List (List (Option Hearing))
  -- those that hear of rows replaced and fields set
  pub update : List (List (Option Hearing))
  -- those that hear of rows removed
  pub destroy : List (List (Option Hearing))
  -- the room of each pool
  pub rooms : List PoolRoom
  -- how many slots more there is room for
  pub slots_spare : ℕ

-- what listeners heard, with the events of their kind and pool behind it
abbrev pub heard_after : EventKind → ℕ → List Event → List (Option (List Event)) → List (Option (List Event))
heard_after kind pool events lists = map (option_map (λ heard. heard ++ heard_by kind pool events)) lists

-- each listener of a kind has heard, of these events, just those of its kind and pool more
abbrev pub Hear : EventKind → List Event → List (List (Option Hearing)) → List (List (Option Hearing)) → Type 0
Hear kind events old new =
    (pool : ℕ) → option_map heard_lists (slice_get new pool) ≡ option_map (λ hearings. heard_after kind pool events (heard_lists hearings)) (slice_get old pool)

-- the world is this one now, and the listeners have heard these events
pub record Becomes (old new : Held) (after : World) (events : List Event) : Type 0 where
  pub limit : new.limit ≡ old.limit
  pub world : new.world ≡ after
  pub construct : Hear event.Construct events old.construct new.construct
  pub update : Hear event.Update events old.update new.update
  pub destroy : Hear event.Destroy events old.destroy new.destroy

-- the command's step: its world, and its events
abbrev pub Does : Held → Held → Command → Type 0
Does old new command = let outcome = step old.limit old.world command in Becomes old new outcome.world outcome.events

-- all is as before, but for spare
pub record AsBefore (old new : Held) : Type 0 where
  pub unchanged : Becomes old new old.world []
  pub packed : new.packed ≡ old.packed

-- a registry of this world, packed so, that nobody listens to, and with no room made
abbrev pub unheard : ℕ → World → List (List Entity) → Held
unheard limit world packed = record {
  limit = limit;
  world = world;
  packed = packed;
  construct = replicate (length world.decls) [];
  update = replicate (length world.decls) [];
  destroy = replicate (length world.decls) [];
  rooms = replicate (length world.decls) no_room;
  slots_spare = 0;
}

-- how many members a group has
abbrev pub member_count : Held → ℕ → ℕ
member_count held group = length (members (keys_of held.world) (group_at held.world group))

-- the members of a group in packed order: the first so many identifiers of its first owned pool
abbrev pub packed_members : Held → ℕ → List Entity
packed_members held group = group_prefix held.packed (group_at held.world group) (member_count held group)

-- why the rows of a group in a pool are not lent, if they are not: there is no such group, the pool is not declared, or the group
-- does not own it
abbrev pub rows_refusal : World → ℕ → ℕ → Option Refusal
rows_refusal w group pool =
    first_refusal
    (when_no_group w group ∷ when_no_pool w (pool ∷ []) ∷ refuse (not (has_pool (group_at w group).own pool)) refusal.BadKey ∷ [])

-- what the command is answered
abbrev pub reply_to : Held → Command → Reply
reply_to held command = (step held.limit held.world command).reply

-- why the command is refused, if it is
abbrev pub refusal_to : Held → Command → Option Refusal
refusal_to held command = refusal_of held.limit held.world command
