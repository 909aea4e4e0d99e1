-- Worked examples of systems and ticks, computed.
use Rattle.std.proofs.Common.{◌≡◌, ℕ, pos, negsuc, List, [], ◌∷◌, map, refl}
use Rattle.entity_id.specs.declared.entity.Entity.{Entity}
use Rattle.entity_id.specs.FiniteMap as entries
use Rattle.entity_id.specs.Identifiers.{p20_12}
use Rattle.world_model.specs.declared.component.Decl.{Decl}
use Rattle.world_model.specs.declared.component.Row.{Row}
use Rattle.world_model.specs.declared.deferred.Deferred.TheVariants as order
use Rattle.world_model.specs.declared.world.World.{World}
use Rattle.world_model.specs.Ticks.{Maps, Effect, world_after_tick, orders_of}
use Rattle.world_model.proofs.WorkedWorlds.{id, live, free, ints, reference, row, bare, empty}
use Rattle.row_lang.specs.declared.token.Keyword.TheVariants as key
use Rattle.row_lang.specs.declared.token.Token.{Token}
use Rattle.row_lang.specs.declared.token.Token.TheVariants.{Word, Number, Pool}
use Rattle.row_lang.specs.Effects.{system_effect}
use Rattle.row_lang.specs.Systems.{System}
use Rattle.row_lang.proofs.WorkedBodies.{own, field, number, before_zero, least, greatest, row2, row4, only_where}

-- ---- in short

-- a system of these lists and statements
abbrev of_lists : List ℕ → List ℕ → List ℕ → List ℕ → List (List Token) → System
of_lists read write look without statements = record { name = []; access = record { read = read; write = write; look = look; without = without }; statements = statements }

abbrev effect_of : System → ℕ → Maps → Effect
effect_of system = system_effect p20_12 system

-- the world after one tick of systems
abbrev after_tick : List System → World → World
after_tick systems w = world_after_tick 1048575 (map effect_of systems) w

-- a world of these components, with so many live entities and these rows
abbrev world_of : List Decl → List (List (Entity × Row)) → World
world_of decls pools = record (empty decls [] (live 0 ∷ live 0 ∷ [])) { pools = pools }

-- ---- which entities, and in which order

-- set 0.0 + 0.0 1.0; kill self: over components 0 and 1, and not in 2
abbrev summing : System
summing = of_lists (1 ∷ []) (0 ∷ []) [] (2 ∷ [])
    ((Word key.Set ∷ field 0 0 ∷ Word key.Plus ∷ own 0 0 ∷ own 1 0 ∷ []) ∷ (Word key.Kill ∷ Word key.Oneself ∷ []) ∷ [])

-- 9:0 and 3:0 are in both, though written down the other way round; 4:0 isn't in 1, 5:0 is in 2, and of index 6 there are two versions
abbrev summed : Maps
summed = entries.map_of ((id 9 0, row (pos 90)) ∷ (id 3 0, row (pos 30)) ∷ (id 4 0, row (pos 40)) ∷ (id 5 0, row (pos 50)) ∷ (id 6 1, row (pos 60)) ∷ [])
    ∷ entries.map_of ((id 9 0, row (pos 9)) ∷ (id 5 0, row (pos 5)) ∷ (id 3 0, row (pos 3)) ∷ (id 6 0, row (pos 6)) ∷ [])
    ∷ ((id 5 0, bare) ∷ []) ∷ []

-- the entities of a system in ascending index, each in all components that are read or written and in none that is excluded; the rows of
-- all others stay
entities_in_order : effect_of summing 0 summed
    ≡ record {
      maps = ((id 3 0, row (pos 33)) ∷ (id 4 0, row (pos 40)) ∷ (id 5 0, row (pos 50)) ∷ (id 6 1, row (pos 60)) ∷ (id 9 0, row (pos 99)) ∷ [])
          ∷ ((id 3 0, row (pos 3)) ∷ (id 5 0, row (pos 5)) ∷ (id 6 0, row (pos 6)) ∷ (id 9 0, row (pos 9)) ∷ [])
          ∷ ((id 5 0, bare) ∷ []) ∷ [];
      orders = order.Kill (id 3 0) ∷ order.Kill (id 9 0) ∷ [];
    }
entities_in_order = refl

-- the entities in ascending index, and for each its orders in the order of the statements
orders_by_entity : (effect_of (of_lists (0 ∷ []) [] [] [] ((Word key.Take ∷ Word key.Oneself ∷ Pool 0 ∷ []) ∷ (Word key.Kill ∷ Word key.Oneself ∷ []) ∷ [])) 0 (((id 1 0, bare) ∷ (id 2 0, bare) ∷ []) ∷ [])).orders
    ≡ order.Take (id 1 0) 0 ∷ order.Kill (id 1 0) ∷ order.Take (id 2 0) 0 ∷ order.Kill (id 2 0) ∷ []
orders_by_entity = refl

-- a spawn of one entity serves no bear of another: when 0.0 spawn, bear 0 7
spawned_by_each : (effect_of (of_lists (0 ∷ []) [] [] [] (only_where (own 0 0) (Word key.Spawn ∷ []) ∷ (Word key.Bear ∷ Pool 0 ∷ number 7 ∷ []) ∷ [])) 0 (((id 1 0, row (pos 1)) ∷ (id 2 0, row (pos 0)) ∷ (id 3 0, row (pos 2)) ∷ []) ∷ [])).orders
    ≡ order.Spawn ∷ order.Bear 0 (row (pos 7)) ∷ order.Spawn ∷ order.Bear 0 (row (pos 7)) ∷ []
spawned_by_each = refl

-- a row that one entity sets is not what another finds: a component may be read and looked at, and another one be written. Component 1 of
-- each becomes that of component 0 of the entity before it
looked_at_before : (effect_of (of_lists (0 ∷ []) (1 ∷ 2 ∷ []) (0 ∷ []) []
    ((Word key.Set ∷ field 2 0 ∷ own 1 0 ∷ []) ∷ (Word key.Set ∷ field 1 0 ∷ Word key.At ∷ own 2 1 ∷ field 0 0 ∷ own 0 0 ∷ []) ∷ []))
    0 (((id 0 0, row (pos 5)) ∷ (id 1 0, row (pos 6)) ∷ []) ∷ ((id 0 0, row (pos 1)) ∷ (id 1 0, row (pos 2)) ∷ []) ∷ ((id 0 0, row2 (pos 0) (pos 1)) ∷ (id 1 0, row2 (pos 0) (negsuc 0)) ∷ []) ∷ [])).maps
    ≡ ((id 0 0, row (pos 5)) ∷ (id 1 0, row (pos 6)) ∷ []) ∷ ((id 0 0, row (pos 6)) ∷ (id 1 0, row (pos 6)) ∷ []) ∷ ((id 0 0, row2 (pos 1) (pos 1)) ∷ (id 1 0, row2 (pos 2) (negsuc 0)) ∷ []) ∷ []
looked_at_before = refl

-- no orders and no rows of no entities
without_entities : effect_of summing 0 (((id 1 0, bare) ∷ []) ∷ [] ∷ [] ∷ []) ≡ record { maps = ((id 1 0, bare) ∷ []) ∷ [] ∷ [] ∷ []; orders = [] }
without_entities = refl

-- ---- one tick

-- each system finds the rows that those before it leave, and all orders come behind all systems: the second system reads what the first one
-- sets, and its order the row that the entity has then
one_behind_the_other : (after_tick
    (of_lists [] (0 ∷ []) [] [] ((Word key.Set ∷ field 0 0 ∷ number 5 ∷ []) ∷ (Word key.Kill ∷ Word key.Oneself ∷ []) ∷ [])
    ∷ of_lists (0 ∷ []) (1 ∷ []) [] [] ((Word key.Set ∷ field 1 0 ∷ own 0 0 ∷ []) ∷ (Word key.Add ∷ Word key.Oneself ∷ field 1 0 ∷ number 1 ∷ []) ∷ (Word key.Spawn ∷ []) ∷ (Word key.Bear ∷ Pool 1 ∷ own 1 0 ∷ []) ∷ []) ∷ [])
    (world_of (ints 1 ∷ ints 1 ∷ []) (((id 0 0, row (pos 1)) ∷ []) ∷ ((id 0 0, row (pos 2)) ∷ []) ∷ []))).pools
    ≡ [] ∷ ((id 0 1, row (pos 5)) ∷ []) ∷ []
one_behind_the_other = refl

-- ---- two systems kill one entity, and a third adds to its row

abbrev aimed_at : World
aimed_at = world_of (reference ∷ ints 1 ∷ []) (((id 0 0, row (pos 1)) ∷ []) ∷ ((id 1 0, row (pos 9)) ∷ []) ∷ [])

abbrev killer : System
killer = of_lists (0 ∷ []) [] [] [] ((Word key.Kill ∷ own 0 0 ∷ []) ∷ [])

abbrev adder : System
adder = of_lists (0 ∷ []) [] [] [] ((Word key.Add ∷ own 0 0 ∷ field 1 0 ∷ Number (negsuc 4) ∷ []) ∷ [])

their_orders : orders_of (map effect_of (killer ∷ killer ∷ adder ∷ [])) 0 aimed_at.pools
    ≡ (order.Kill (id 1 0) ∷ []) ∷ (order.Kill (id 1 0) ∷ []) ∷ (order.Add (id 1 0) 1 0 (negsuc 4) ∷ []) ∷ []
their_orders = refl

killed_once : after_tick (killer ∷ killer ∷ adder ∷ []) aimed_at
    ≡ record aimed_at { tick = 1; slots = live 0 ∷ free 1 ∷ []; free = 1 ∷ []; pools = ((id 0 0, row (pos 1)) ∷ []) ∷ [] ∷ [] }
killed_once = refl

-- ---- numbers at their edges, and a look at an entity that isn't there

-- set v.0 / v.0 -1, set v.1 / v.1 0, set v.2 + v.2 1, set v.3 at r.0 w.0 42: v is component 0, r is 1, w is 2
abbrev edges : System
edges = of_lists (1 ∷ []) (0 ∷ []) (2 ∷ []) []
    ((Word key.Set ∷ field 0 0 ∷ Word key.Divide ∷ own 0 0 ∷ before_zero ∷ [])
    ∷ (Word key.Set ∷ field 0 1 ∷ Word key.Divide ∷ own 0 1 ∷ number 0 ∷ [])
    ∷ (Word key.Set ∷ field 0 2 ∷ Word key.Plus ∷ own 0 2 ∷ number 1 ∷ [])
    ∷ (Word key.Set ∷ field 0 3 ∷ Word key.At ∷ own 1 0 ∷ field 2 0 ∷ number 42 ∷ []) ∷ [])

abbrev before_edges : World
before_edges = record (empty (ints 4 ∷ reference ∷ ints 1 ∷ []) [] (live 0 ∷ [])) {
  pools = ((id 0 0, row4 least (pos 7) greatest (pos 0)) ∷ []) ∷ ((id 0 0, row (pos 5)) ∷ []) ∷ [] ∷ [];
}

at_the_edges : after_tick (edges ∷ []) before_edges
    ≡ record before_edges { tick = 1; pools = ((id 0 0, row4 least (pos 0) least (pos 42)) ∷ []) ∷ ((id 0 0, row (pos 5)) ∷ []) ∷ [] ∷ [] }
at_the_edges = refl

-- ---- eggs and birds

-- when < egg.0 1 spawn, bear bird 7, take self egg: egg is component 0, bird is 1
abbrev hatch : System
hatch = of_lists (0 ∷ []) [] [] []
    ((Word key.When ∷ Word key.Less ∷ own 0 0 ∷ number 1 ∷ Word key.Spawn ∷ [])
    ∷ (Word key.Bear ∷ Pool 1 ∷ number 7 ∷ [])
    ∷ (Word key.Take ∷ Word key.Oneself ∷ Pool 0 ∷ []) ∷ [])

abbrev eggs : World
eggs = world_of (ints 1 ∷ ints 1 ∷ []) (((id 0 0, row (pos 0)) ∷ (id 1 0, row (pos 5)) ∷ []) ∷ [] ∷ [])

one_bird_hatches : after_tick (hatch ∷ []) eggs
    ≡ record eggs { tick = 1; slots = live 0 ∷ live 0 ∷ live 0 ∷ []; pools = [] ∷ ((id 2 0, row (pos 7)) ∷ []) ∷ [] }
one_bird_hatches = refl

-- ---- the made world of two entities

-- its components by number: position 0, velocity 1, health 2, team 3, target 4, damage 5, timer 6, frozen 7, marked 8
abbrev move : System
move = of_lists (1 ∷ []) (0 ∷ []) [] (7 ∷ []) ((Word key.Set ∷ field 0 0 ∷ Word key.Plus ∷ own 0 0 ∷ own 1 0 ∷ []) ∷ (Word key.Set ∷ field 0 1 ∷ Word key.Plus ∷ own 0 1 ∷ own 1 1 ∷ []) ∷ [])

abbrev wrap : System
wrap = of_lists [] (0 ∷ []) [] [] ((Word key.Set ∷ field 0 0 ∷ Word key.Remainder ∷ own 0 0 ∷ number 1000 ∷ []) ∷ (Word key.Set ∷ field 0 1 ∷ Word key.Remainder ∷ own 0 1 ∷ number 1000 ∷ []) ∷ [])

abbrev turn : System
turn = of_lists [] (1 ∷ []) [] [] ((Word key.When ∷ Word key.Equal ∷ Word key.Remainder ∷ Word key.Tick ∷ number 10 ∷ number 9 ∷ Word key.Set ∷ field 1 0 ∷ Word key.Minus ∷ number 0 ∷ own 1 0 ∷ []) ∷ [])

abbrev attack : System
attack = of_lists (4 ∷ 5 ∷ []) [] (2 ∷ []) [] ((Word key.When ∷ Word key.Has ∷ own 4 0 ∷ Pool 2 ∷ Word key.Add ∷ own 4 0 ∷ field 2 0 ∷ Word key.Minus ∷ number 0 ∷ own 5 0 ∷ []) ∷ [])

abbrev regen : System
regen = of_lists [] (2 ∷ []) [] [] ((Word key.Set ∷ field 2 0 ∷ Word key.Least ∷ number 100 ∷ Word key.Plus ∷ own 2 0 ∷ number 1 ∷ []) ∷ [])

abbrev death : System
death = of_lists (2 ∷ []) [] [] [] ((Word key.When ∷ Word key.Less ∷ own 2 0 ∷ number 1 ∷ Word key.Kill ∷ Word key.Oneself ∷ []) ∷ [])

abbrev age : System
age = of_lists [] (6 ∷ []) [] [] ((Word key.Set ∷ field 6 0 ∷ Word key.Plus ∷ own 6 0 ∷ number 1 ∷ []) ∷ [])

abbrev breed : System
breed = of_lists (0 ∷ 6 ∷ []) [] [] []
    ((Word key.When ∷ Word key.Equal ∷ Word key.Remainder ∷ own 6 0 ∷ number 50 ∷ number 0 ∷ Word key.Spawn ∷ [])
    ∷ (Word key.Bear ∷ Pool 0 ∷ own 0 0 ∷ own 0 1 ∷ [])
    ∷ (Word key.Bear ∷ Pool 1 ∷ number 1 ∷ number 1 ∷ [])
    ∷ (Word key.Bear ∷ Pool 2 ∷ number 50 ∷ [])
    ∷ (Word key.Bear ∷ Pool 6 ∷ number 1 ∷ []) ∷ [])

abbrev thaw : System
thaw = of_lists (6 ∷ 7 ∷ []) [] [] [] ((Word key.When ∷ Word key.Equal ∷ Word key.Remainder ∷ own 6 0 ∷ number 7 ∷ number 0 ∷ Word key.Take ∷ Word key.Oneself ∷ Pool 7 ∷ []) ∷ [])

abbrev mark : System
mark = of_lists (2 ∷ []) (8 ∷ []) [] [] ((Word key.Set ∷ field 8 0 ∷ Word key.Minus ∷ number 100 ∷ own 2 0 ∷ []) ∷ [])

abbrev scout : System
scout = of_lists (4 ∷ []) (8 ∷ []) (0 ∷ []) [] ((Word key.Set ∷ field 8 0 ∷ Word key.Plus ∷ own 8 0 ∷ Word key.At ∷ own 4 0 ∷ field 0 0 ∷ number 0 ∷ []) ∷ [])

abbrev freeze : System
freeze = of_lists (6 ∷ []) [] [] [] ((Word key.When ∷ Word key.Equal ∷ Word key.Remainder ∷ own 6 0 ∷ number 13 ∷ number 0 ∷ Word key.Give ∷ Word key.Oneself ∷ Pool 7 ∷ []) ∷ [])

abbrev its_systems : List System
its_systems = move ∷ wrap ∷ turn ∷ attack ∷ regen ∷ death ∷ age ∷ breed ∷ thaw ∷ mark ∷ scout ∷ freeze ∷ []

abbrev both : Row → Row → List (Entity × Row)
both first second = (id 0 0, first) ∷ (id 1 0, second) ∷ []

abbrev made : World
made = world_of (ints 2 ∷ ints 2 ∷ ints 1 ∷ ints 1 ∷ reference ∷ ints 1 ∷ ints 1 ∷ ints 0 ∷ ints 1 ∷ [])
    (both (row2 (pos 149) (pos 249)) (row2 (pos 742) (pos 836)) ∷ both (row2 (pos 1) (pos 1)) (row2 (negsuc 3) (pos 4)) ∷ both (row (pos 84)) (row (pos 79))
    ∷ both (row (pos 3)) (row (pos 0)) ∷ both (row (pos 1)) (row (pos 0)) ∷ both (row (pos 4)) (row (pos 2)) ∷ both (row (pos 22)) (row (pos 34)) ∷ [] ∷ both (row (pos 0)) (row (pos 0)) ∷ [])

one_tick : after_tick its_systems made
    ≡ record made {
      tick = 1;
      pools = both (row2 (pos 150) (pos 250)) (row2 (pos 738) (pos 840)) ∷ both (row2 (pos 1) (pos 1)) (row2 (negsuc 3) (pos 4)) ∷ both (row (pos 83)) (row (pos 76))
          ∷ both (row (pos 3)) (row (pos 0)) ∷ both (row (pos 1)) (row (pos 0)) ∷ both (row (pos 4)) (row (pos 2)) ∷ both (row (pos 23)) (row (pos 35)) ∷ [] ∷ both (row (pos 753)) (row (pos 170)) ∷ [];
    }
one_tick = refl

-- another tick of it, number 9, in which 0:0 is frozen and dies, and 1:0 turns and breeds; what it bears has the index of the one that died
abbrev later : World
later = record made {
  tick = 9;
  pools = both (row2 (pos 149) (pos 249)) (row2 (pos 742) (pos 836)) ∷ both (row2 (pos 1) (pos 1)) (row2 (negsuc 3) (pos 4)) ∷ both (row (negsuc 0)) (row (pos 79))
      ∷ both (row (pos 3)) (row (pos 0)) ∷ both (row (pos 1)) (row (pos 0)) ∷ both (row (pos 4)) (row (pos 2)) ∷ both (row (pos 90)) (row (pos 49)) ∷ ((id 0 0, bare) ∷ []) ∷ both (row (pos 0)) (row (pos 0)) ∷ [];
}

abbrev one_of_each : Row → Row → List (Entity × Row)
one_of_each born parent = (id 0 1, born) ∷ (id 1 0, parent) ∷ []

a_later_tick : after_tick its_systems later
    ≡ record made {
      tick = 10;
      slots = live 1 ∷ live 0 ∷ [];
      pools = one_of_each (row2 (pos 738) (pos 840)) (row2 (pos 738) (pos 840)) ∷ one_of_each (row2 (pos 1) (pos 1)) (row2 (pos 4) (pos 4)) ∷ one_of_each (row (pos 50)) (row (pos 76))
          ∷ ((id 1 0, row (pos 0)) ∷ []) ∷ ((id 1 0, row (pos 0)) ∷ []) ∷ ((id 1 0, row (pos 2)) ∷ []) ∷ one_of_each (row (pos 1)) (row (pos 50)) ∷ [] ∷ ((id 1 0, row (pos 169)) ∷ []) ∷ [];
    }
a_later_tick = refl

-- the orders of its systems at that tick
orders_of_a_later_tick : orders_of (map effect_of its_systems) 9 later.pools
    ≡ [] ∷ [] ∷ [] ∷ (order.Add (id 1 0) 2 0 (negsuc 3) ∷ order.Add (id 0 0) 2 0 (negsuc 1) ∷ []) ∷ [] ∷ (order.Kill (id 0 0) ∷ []) ∷ []
    ∷ (order.Spawn ∷ order.Bear 0 (row2 (pos 738) (pos 840)) ∷ order.Bear 1 (row2 (pos 1) (pos 1)) ∷ order.Bear 2 (row (pos 50)) ∷ order.Bear 6 (row (pos 1)) ∷ [])
    ∷ (order.Take (id 0 0) 7 ∷ []) ∷ [] ∷ [] ∷ (order.Give (id 0 0) 7 bare ∷ []) ∷ []
orders_of_a_later_tick = refl
