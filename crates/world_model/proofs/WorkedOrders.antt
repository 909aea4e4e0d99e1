-- Worked examples of orders and ticks, computed. The orders of the systems are given.
use Rattle.std.proofs.Common.{map, slice_index_or, ◌≡◌, ℕ, List, [], ◌∷◌, pos, negsuc, refl}
use Rattle.world_model.specs.declared.event.Event.{Event}
use Rattle.world_model.specs.declared.event.EventKind.{EventKind}
use Rattle.world_model.specs.declared.event.EventKind.TheVariants as event
use Rattle.world_model.specs.declared.world.World.{World}
use Rattle.world_model.proofs.WorkedWorlds.{id, live, free, ints, row, empty}
use Rattle.world_model.specs.declared.deferred.Deferred.{Deferred}
use Rattle.world_model.specs.declared.deferred.Deferred.TheVariants.{Kill, Give, Take, Send, Add, Spawn, Bear}
use Rattle.world_model.specs.Orders.{beginning, apply_all}
use Rattle.world_model.specs.Ticks.{System, tick_events, world_after_orders, world_after_tick}
use Rattle.world_model.proofs.WorkedWorlds.{reference}

-- a system that writes nothing and gives these orders
abbrev gives : List Deferred → System
gives orders tick maps = record { maps = maps; orders = orders }

-- how many orders of a list are done, and how many skipped
abbrev counts : ℕ → World → List Deferred → ℕ × ℕ
counts limit w orders = let after = apply_all limit (beginning w) orders in (after.done, after.skipped)

-- ---- two systems aim at one entity

abbrev aimed_at : World
aimed_at = record (empty (reference ∷ ints 1 ∷ []) [] (live 0 ∷ live 0 ∷ [])) { pools = ((id 0 0, row (pos 1)) ∷ []) ∷ ((id 1 0, row (pos 9)) ∷ []) ∷ [] }

-- two of them kill it, and a third adds to its row
abbrev killers : List System
killers = gives (Kill (id 1 0) ∷ []) ∷ gives (Kill (id 1 0) ∷ []) ∷ gives (Add (id 1 0) 1 0 (negsuc 4) ∷ []) ∷ []

killed_once : world_after_tick 1048575 killers aimed_at
    ≡ record aimed_at { tick = 1; slots = live 0 ∷ free 1 ∷ []; free = 1 ∷ []; pools = ((id 0 0, row (pos 1)) ∷ []) ∷ [] ∷ [] }
killed_once = refl

abbrev after_kill : World
after_kill = (apply_all 1048575 (beginning aimed_at) (Kill (id 1 0) ∷ [])).world

-- the first kill is done, and the other orders are skipped
first_kill_is_done : counts 1048575 aimed_at (Kill (id 1 0) ∷ []) ≡ (1, 0)
first_kill_is_done = refl

second_kill_is_skipped : counts 1048575 after_kill (Kill (id 1 0) ∷ []) ≡ (0, 1)
second_kill_is_skipped = refl

late_add_is_skipped : counts 1048575 after_kill (Add (id 1 0) 1 0 (negsuc 4) ∷ []) ≡ (0, 1)
late_add_is_skipped = refl

-- a Give sets a row whether or not it is there, a Send sets one field, a Take wants the row
abbrev given_and_taken : List Deferred
given_and_taken = Give (id 0 0) 1 (row (pos 4)) ∷ Give (id 0 0) 1 (row (pos 5)) ∷ Send (id 0 0) 1 0 (pos 6) ∷ Take (id 0 0) 0 ∷ Take (id 0 0) 0 ∷ []

last_take_is_skipped : counts 1048575 aimed_at given_and_taken ≡ (4, 1)
last_take_is_skipped = refl

rows_given_and_taken : (apply_all 1048575 (beginning aimed_at) given_and_taken).world.pools ≡ [] ∷ ((id 0 0, row (pos 6)) ∷ (id 1 0, row (pos 9)) ∷ []) ∷ []
rows_given_and_taken = refl

abbrev of_first : EventKind → ℕ → Event
of_first kind pool = record { kind = kind; pool = pool; entity = id 0 0 }

orders_are_told : tick_events 1048575 (gives given_and_taken ∷ []) aimed_at
    ≡ of_first event.Construct 1 ∷ of_first event.Update 1 ∷ of_first event.Update 1 ∷ of_first event.Destroy 0 ∷ []
orders_are_told = refl

-- the sum of an Add wraps in 64 bits: 9 - 5 + (2 ^ 63 - 1)
sums_wrap : (world_after_tick 1048575 (gives (Add (id 1 0) 1 0 (negsuc 4) ∷ Add (id 1 0) 1 0 (pos 9223372036854775807) ∷ []) ∷ []) aimed_at).pools
    ≡ ((id 0 0, row (pos 1)) ∷ []) ∷ ((id 1 0, row (negsuc 9223372036854775804)) ∷ []) ∷ []
sums_wrap = refl

-- ---- systems that write

-- a system that takes every row away, and one that kills whatever has a row in the first component
abbrev empties : System
empties tick maps = record { maps = [] ∷ [] ∷ []; orders = [] }

abbrev kills_first : System
kills_first tick maps = record { maps = maps; orders = map (λ entry. Kill entry.0) (slice_index_or maps 0 []) }

-- what systems write is not told, and stands before any order is carried out
written_before_orders : tick_events 1048575 (gives (Take (id 0 0) 0 ∷ []) ∷ empties ∷ []) aimed_at ≡ []
written_before_orders = refl

-- a system finds what those before it wrote
killed_where_found : (world_after_tick 1048575 (kills_first ∷ empties ∷ []) aimed_at).slots ≡ free 1 ∷ live 0 ∷ []
killed_where_found = refl

spared_where_gone : world_after_tick 1048575 (empties ∷ kills_first ∷ []) aimed_at ≡ record aimed_at { tick = 1; pools = [] ∷ [] ∷ [] }
spared_where_gone = refl

-- ---- spawned and born

abbrev two_eggs : World
two_eggs = record (empty (ints 1 ∷ ints 1 ∷ []) [] (live 0 ∷ live 0 ∷ [])) { pools = ((id 0 0, row (pos 0)) ∷ (id 1 0, row (pos 5)) ∷ []) ∷ [] ∷ [] }

-- an egg hatches a bird, which has a row of its own; both eggs go
one_bird_hatches : world_after_tick 1048575 (gives (Spawn ∷ Bear 1 (row (pos 7)) ∷ Take (id 0 0) 0 ∷ Take (id 1 0) 0 ∷ []) ∷ []) two_eggs
    ≡ record two_eggs { tick = 1; slots = live 0 ∷ live 0 ∷ live 0 ∷ []; pools = [] ∷ ((id 2 0, row (pos 7)) ∷ []) ∷ [] }
one_bird_hatches = refl

-- a Bear before any Spawn is skipped, and so is one of a spawned entity that was killed
untimely_bears_are_skipped : counts 1048575 two_eggs (Bear 1 (row (pos 7)) ∷ Spawn ∷ Bear 1 (row (pos 7)) ∷ Kill (id 2 0) ∷ Bear 1 (row (pos 8)) ∷ []) ≡ (3, 2)
untimely_bears_are_skipped = refl

-- each list begins with nothing spawned
next_list_knows_no_spawn : (world_after_orders 1048575 two_eggs ((Spawn ∷ []) ∷ (Bear 1 (row (pos 7)) ∷ []) ∷ [])).pools ≡ two_eggs.pools
next_list_knows_no_spawn = refl

-- with room for one slot the second Spawn is skipped, and then the Bear too, though the first one made an entity
abbrev room_for_one : World
room_for_one = empty (ints 1 ∷ []) [] []

full_spawn_forgets_the_last : counts 1 room_for_one (Spawn ∷ Spawn ∷ Bear 0 (row (pos 7)) ∷ []) ≡ (1, 2)
full_spawn_forgets_the_last = refl

no_row_is_born : (apply_all 1 (beginning room_for_one) (Spawn ∷ Spawn ∷ Bear 0 (row (pos 7)) ∷ [])).world ≡ record room_for_one { slots = live 0 ∷ [] }
no_row_is_born = refl
