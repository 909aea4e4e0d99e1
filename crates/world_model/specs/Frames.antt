-- Systems, by the lists of components that they name: whose rows they change, what they depend on, and which ones a world may have.
-- The language of bodies isn't said here.
use Rattle.std.specs.Prelude.{◌≡◌, ℕ, ◌*◌, ◌<◌, ◌≤◌, ◌^◌, Bool, List, [], ◌++◌, map, length, slice_get, slice_index_or, IsTrue, IsFalse}
use Rattle.std.specs.List.{AllByRecursion, AllZip}
use Rattle.entity_id.specs.declared.entity.Entity.{Entity}
use Rattle.entity_id.specs.declared.entity.Profile.{Profile}
use Rattle.entity_id.specs.FiniteMap as entries
use Rattle.entity_id.specs.Matching.{is_match, matches}
use Rattle.world_model.specs.declared.access.Access.{Access}
use Rattle.world_model.specs.declared.component.Decl.{Decl}
use Rattle.world_model.specs.declared.component.Row.{Row}
use Rattle.world_model.specs.declared.world.World.{World}
use Rattle.world_model.specs.Components.{IsRow, fits}
use Rattle.world_model.specs.Groups.{has_pool, are_declared, are_distinct}
use Rattle.world_model.specs.Orders.{IsFitting}
use Rattle.world_model.specs.Ticks.{Maps, System}
use Rattle.world_model.specs.Worlds.{IsLawful}

-- ---- lists of components

-- how many components a system names at most, in all its lists
abbrev pub pool_limit : ℕ
pool_limit = 16

-- the components of which a system has rows of its own entities
abbrev pub own_pools : Access → List ℕ
own_pools access = access.read ++ access.write

-- all components that a system names, in its four lists
abbrev pub system_pools : Access → List ℕ
system_pools access = own_pools access ++ access.look ++ access.without

-- lawful lists over this many components: each is declared, they are not more than the limit, and one is read or written. No list names
-- a component twice, none stands in two of read, write and without, and none in both write and look
pub record IsLawfulAccess (count : ℕ) (access : Access) : Type 0 where
  pub declared : IsTrue (are_declared count (system_pools access))
  pub few : length (system_pools access) ≤ pool_limit
  pub some : 0 < length (own_pools access)
  pub apart : IsTrue (are_distinct (own_pools access ++ access.without))
  pub looked_at : IsTrue (are_distinct (access.write ++ access.look))

-- ---- a system's entities

-- the rows of a component; one that isn't there has none
abbrev pub map_at : Maps → ℕ → List (Entity × Row)
map_at maps pool = slice_index_or maps pool []

-- whether an identifier is one of a system's entities: it has a row in every component that is read or written, and in none that is
-- excluded
abbrev pub is_member : Access → Maps → Entity → Bool
is_member access maps entity = is_match (map entries.keys maps) (own_pools access) access.without entity

-- a system's entities, in ascending index, as each component's rows are
abbrev pub members : Access → Maps → List Entity
members access maps = matches (map entries.keys maps) (own_pools access) access.without

-- ---- what a system leaves alone, and what it depends on

-- a system changes no identifier of a component, no component that it doesn't write, and no row of an identifier that isn't one of
-- its entities
pub record ChangesOnlyItsRows (access : Access) (system : System) : Type 0 where
  pub identifiers : (tick : ℕ) (maps : Maps) → map entries.keys (system tick maps).maps ≡ map entries.keys maps
  pub unwritten : (tick : ℕ) (maps : Maps) (pool : ℕ) → IsFalse (has_pool access.write pool) →
      slice_get (system tick maps).maps pool ≡ slice_get maps pool
  pub others : (tick : ℕ) (maps : Maps) (pool : ℕ) (entity : Entity) → IsFalse (is_member access maps entity) →
      entries.get (map_at (system tick maps).maps pool) entity ≡ entries.get (map_at maps pool) entity

-- maps that are the same in these components
abbrev pub AreSameIn : List ℕ → Maps → Maps → Type 0
AreSameIn pools a b = (pool : ℕ) → IsTrue (has_pool pools pool) → slice_get a pool ≡ slice_get b pool

-- a system depends on no component that it doesn't name: where those are the same, it leaves the same in what it writes, and gives the
-- same orders
pub record DependsOnItsLists (access : Access) (system : System) : Type 0 where
  pub rows : (tick : ℕ) (a b : Maps) → AreSameIn (system_pools access) a b →
      AreSameIn access.write (system tick a).maps (system tick b).maps
  pub orders : (tick : ℕ) (a b : Maps) → AreSameIn (system_pools access) a b → (system tick a).orders ≡ (system tick b).orders

-- a system gives at most so many orders for each row of the first component that it reads or writes
abbrev pub GivesAtMost : ℕ → Access → System → Type 0
GivesAtMost count access system = (tick : ℕ) (maps : Maps) → length (system tick maps).orders ≤ count * length (map_at maps (slice_index_or (own_pools access) 0 0))

-- maps whose rows stand in ascending index, as those of every lawful world do
abbrev pub AreAscendingMaps : Maps → Type 0
AreAscendingMaps maps = AllByRecursion entries.IsAscending maps

-- where the maps ascend, a system gives at most so many orders for each row of any one component that it reads or writes: of the
-- smallest too
abbrev pub GivesAtMostOfEach : ℕ → Access → System → Type 0
GivesAtMostOfEach count access system = (tick : ℕ) (maps : Maps) (pool : ℕ) → AreAscendingMaps maps → IsTrue (has_pool (own_pools access) pool) →
    length (system tick maps).orders ≤ count * length (map_at maps pool)

-- ---- which systems a world may have

-- maps whose rows have 4 fields of 64 bits each, and fit
abbrev pub AreFittingMaps : Profile → List Decl → Maps → Type 0
AreFittingMaps profile decls maps = AllZip (λ decl rows. AllByRecursion (λ entry. IsRow entry.1 × IsTrue (fits profile decl entry.1)) rows) decls maps

-- a lawful world of this profile and these components, at a tick number below 2 ^ 63
pub record IsWorldOf (profile : Profile) (decls : List Decl) (world : World) : Type 0 where
  pub limit : ℕ
  pub lawful : IsLawful limit world
  pub profile_is : world.profile ≡ profile
  pub decls_are : world.decls ≡ decls
  pub tick : world.tick < 2 ^ 63

-- a system is fit for a profile and components: its lists are lawful, and in every lawful world of these it leaves fitting rows and
-- gives fitting orders
pub record IsFitSystem (profile : Profile) (decls : List Decl) (access : Access) (system : System) : Type 0 where
  pub lists : IsLawfulAccess (length decls) access
  pub rows : (world : World) → IsWorldOf profile decls world → AreFittingMaps profile decls (system world.tick world.pools).maps
  pub orders : (world : World) → IsWorldOf profile decls world → AllByRecursion (IsFitting profile decls) (system world.tick world.pools).orders
