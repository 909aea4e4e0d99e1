-- Worked examples of a registry, computed: rows, views, sorts, and what listeners hear.
use Rattle.std.proofs.Common.{◌≡◌, ℕ, true, false, List, [], ◌∷◌, pos, refl}
use Rattle.world_model.specs.declared.command.Command.{Command}
use Rattle.world_model.specs.declared.command.Command.TheVariants.{Destroy, Emplace, EmplaceOrReplace, Replace, Patch, Remove, Erase, Clear, Get, AllOf, AnyOf, Orphan, Alive, Size, View, Group, Members, SortPool}
use Rattle.world_model.specs.declared.command.Reply.TheVariants.{Done, Truth, Number, Values, Listed, GroupNumber, Refused}
use Rattle.world_model.specs.declared.refusal.Refusal.TheVariants as refusal
use Rattle.world_model.specs.declared.world.World.{World}
use Rattle.world_model.proofs.WorkedWorlds.{id, live, free, ints, row, bare, owns, empty, result, replies, moving_and_frozen}
use Rattle.world_model.specs.declared.event.Event.{Event}
use Rattle.world_model.specs.declared.event.EventKind.{EventKind}
use Rattle.world_model.specs.declared.event.EventKind.TheVariants as event
use Rattle.world_model.specs.Steps.{heard_by}

abbrev one_int : World
one_int = empty (ints 1 ∷ []) [] (live 0 ∷ [])

-- ---- the rows of one component

-- a row is added, told and removed once
row_comes_and_goes : replies one_int
    (Emplace (id 0 0) 0 (row (pos 4)) ∷ Get (id 0 0) 0 ∷ Emplace (id 0 0) 0 (row (pos 5)) ∷ Remove (id 0 0) 0 ∷ Get (id 0 0) 0 ∷ Remove (id 3 0) 0 ∷ [])
    ≡ Done ∷ Values (row (pos 4)) ∷ Refused refusal.Present ∷ Number 1 ∷ Refused refusal.Absent ∷ Refused refusal.Dead ∷ []
row_comes_and_goes = refl

abbrev each_command : List Command
each_command =
    Emplace (id 0 0) 0 (row (pos 4)) ∷ Emplace (id 0 0) 0 (row (pos 5)) ∷ Get (id 0 0) 0 ∷ Replace (id 0 0) 0 (row (pos 6)) ∷ Patch (id 0 0) 0 0 (pos 7) ∷ Get (id 0 0) 0
    ∷ Remove (id 0 0) 0 ∷ Replace (id 0 0) 0 (row (pos 1)) ∷ Remove (id 0 0) 0 ∷ Erase (id 0 0) 0 ∷ Orphan (id 0 0) ∷ EmplaceOrReplace (id 0 0) 0 (row (pos 2))
    ∷ AllOf (id 0 0) (0 ∷ []) ∷ AnyOf (id 9 0) (0 ∷ []) ∷ Clear 0 ∷ Alive ∷ Size ∷ []

-- every command on the rows of one entity
each_command_answers : replies one_int each_command
    ≡ Done ∷ Refused refusal.Present ∷ Values (row (pos 4)) ∷ Done ∷ Done ∷ Values (row (pos 7))
    ∷ Number 1 ∷ Refused refusal.Absent ∷ Number 0 ∷ Refused refusal.Absent ∷ Truth true ∷ Done
    ∷ Truth true ∷ Refused refusal.Dead ∷ Number 1 ∷ Number 1 ∷ Number 1 ∷ []
each_command_answers = refl

-- and leaves none
no_row_is_left : (result one_int each_command).world ≡ one_int
no_row_is_left = refl

abbrev two_ints : World
two_ints = empty (ints 1 ∷ ints 1 ∷ []) [] (live 0 ∷ [])

abbrev set_twice : List Command
set_twice =
    Orphan (id 0 0) ∷ EmplaceOrReplace (id 0 0) 0 (row (pos 1)) ∷ EmplaceOrReplace (id 0 0) 0 (row (pos 2)) ∷ Patch (id 0 0) 0 0 (pos 3) ∷ Get (id 0 0) 0
    ∷ AllOf (id 0 0) (0 ∷ 1 ∷ []) ∷ AnyOf (id 0 0) (0 ∷ 1 ∷ []) ∷ AnyOf (id 0 0) (1 ∷ []) ∷ Orphan (id 0 0) ∷ Remove (id 0 0) 0 ∷ Get (id 9 0) 5 ∷ []

-- an entity in one component of two; where neither the component nor the entity is there, the component is the cause
in_one_of_two : replies two_ints set_twice
    ≡ Truth true ∷ Done ∷ Done ∷ Done ∷ Values (row (pos 3)) ∷ Truth false ∷ Truth true ∷ Truth false ∷ Truth false ∷ Number 1 ∷ Refused refusal.NoPool ∷ []
in_one_of_two = refl

-- ---- sorts and views

-- a number and a mark: the numbers of four entities, one of them marked
abbrev marked : World
marked =
    record (empty (ints 1 ∷ ints 0 ∷ []) [] (live 0 ∷ live 0 ∷ live 0 ∷ live 0 ∷ [])) {
      pools = ((id 0 0, row (pos 3)) ∷ (id 1 0, row (pos 1)) ∷ (id 2 0, row (pos 1)) ∷ (id 3 0, row (pos 2)) ∷ []) ∷ ((id 2 0, bare) ∷ []) ∷ [];
    }

-- a sort lists by field and then by index, a view by index; a group finds the rows that stand already
sorted_viewed_and_grouped : replies marked (SortPool 0 0 ∷ View (0 ∷ []) [] ∷ View (0 ∷ []) (1 ∷ []) ∷ View (1 ∷ 0 ∷ []) [] ∷ Group (owns (0 ∷ 1 ∷ []) []) ∷ Members 0 ∷ [])
    ≡ Listed (id 1 0 ∷ id 2 0 ∷ id 3 0 ∷ id 0 0 ∷ []) ∷ Listed (id 0 0 ∷ id 1 0 ∷ id 2 0 ∷ id 3 0 ∷ []) ∷ Listed (id 0 0 ∷ id 1 0 ∷ id 3 0 ∷ []) ∷ Listed (id 2 0 ∷ []) ∷ GroupNumber 0 ∷ Listed (id 2 0 ∷ []) ∷ []
sorted_viewed_and_grouped = refl

-- ---- events

abbrev of_first : EventKind → ℕ → Event
of_first kind pool = record { kind = kind; pool = pool; entity = id 0 0 }

-- a row that is set anew is constructed the first time, and updated then
set_row_is_told : (result two_ints set_twice).events ≡ of_first event.Construct 0 ∷ of_first event.Update 0 ∷ of_first event.Update 0 ∷ of_first event.Destroy 0 ∷ []
set_row_is_told = refl

-- what is refused, or removed where there was none, is not told
each_command_tells : (result one_int each_command).events
    ≡ of_first event.Construct 0 ∷ of_first event.Update 0 ∷ of_first event.Update 0 ∷ of_first event.Destroy 0 ∷ of_first event.Construct 0 ∷ of_first event.Destroy 0 ∷ []
each_command_tells = refl

abbrev made_and_destroyed : List Command
made_and_destroyed =
    Emplace (id 0 0) 0 (row (pos 1)) ∷ Emplace (id 0 0) 1 (row (pos 2)) ∷ Emplace (id 0 0) 2 (row (pos 3)) ∷ Emplace (id 0 0) 3 bare ∷ Members 0 ∷ Destroy (id 0 0) ∷ Members 0 ∷ []

destroyed_leaves_group : replies moving_and_frozen made_and_destroyed ≡ Done ∷ Done ∷ Done ∷ Done ∷ Listed [] ∷ Done ∷ Listed [] ∷ []
destroyed_leaves_group = refl

-- each row is told of as it comes; with the entity they go in descending number of the component
rows_go_last_first : (result moving_and_frozen made_and_destroyed).events
    ≡ of_first event.Construct 0 ∷ of_first event.Construct 1 ∷ of_first event.Construct 2 ∷ of_first event.Construct 3
    ∷ of_first event.Destroy 3 ∷ of_first event.Destroy 2 ∷ of_first event.Destroy 1 ∷ of_first event.Destroy 0 ∷ []
rows_go_last_first = refl

-- a listener hears of its component and its kind alone
listener_hears_first : heard_by event.Destroy 0 (result moving_and_frozen made_and_destroyed).events ≡ of_first event.Destroy 0 ∷ []
listener_hears_first = refl

listener_hears_last : heard_by event.Destroy 3 (result moving_and_frozen made_and_destroyed).events ≡ of_first event.Destroy 3 ∷ []
listener_hears_last = refl

-- the slot is free, and no row is left
slot_is_free : (result moving_and_frozen made_and_destroyed).world ≡ record moving_and_frozen { slots = free 1 ∷ live 0 ∷ live 0 ∷ []; free = 0 ∷ [] }
slot_is_free = refl
