-- What contracts say of groups in packed lists, place by place: in each pool that a group owns, an identifier stands below the group's
-- length exactly where it matches.
use Rattle.std.specs.Prelude.{◌≡◌, ◌∷◌, [], set, drop, IfSome, ℕ, ◌<◌, ◌≤◌, Bool, not, ◌&&◌, nat_lt, if◌then◌else◌, List, ◌++◌, map, length, Some}
use Rattle.std.specs.Prelude.{slice_get, IsTrue, false}
use Rattle.std.specs.List.{list_any, list_all, sum_by}
use Rattle.entity_id.specs.declared.entity.Entity.{Entity}
use Rattle.entity_id.specs.Matching.{is_in}
use Rattle.entity_id.specs.PackedLists.{place_of, swap_popped}
use Rattle.sparse_set.specs.PackedSets.{contains}
use Rattle.storage.specs.Stored.{Stored}
use Rattle.world_model.specs.declared.group.GroupDecl.{GroupDecl}
use Rattle.world_model.specs.Groups.{has_pool, packed_at, group_pools}
use Rattle.entity_id.specs.FiniteMap as entries

-- the identifiers of each pool, in packed order
abbrev pub packed_of : {T : Type 0} → List (Stored T) → List (List Entity)
packed_of pools = map (λ stored. entries.keys stored.pairs) pools

-- whether a test passes in every owned and observed pool of a group and in no excluded one
abbrev pub passes : GroupDecl → (ℕ → Bool) → Bool
passes decl test = list_all test (decl.own ++ decl.get) && not (list_any test decl.without)

-- whether an identifier is in a group by the packed lists
abbrev pub matches : List (List Entity) → GroupDecl → Entity → Bool
matches packed decl entity = passes decl (is_in packed entity)

-- the first so many places of all these pools are equal, and have the identifiers that are inside, and no others
pub record IsPartitioned (packed : List (List Entity)) (own : List ℕ) (count : ℕ) (inside : Entity → Bool) : Type 0 where
  pub within : (pool : ℕ) → IsTrue (has_pool own pool) → count ≤ length (packed_at packed pool)
  pub common : (pool other place : ℕ) → IsTrue (has_pool own pool) → IsTrue (has_pool own other) → place < count
      → slice_get (packed_at packed pool) place ≡ slice_get (packed_at packed other) place
  pub split : (pool place : ℕ) (entity : Entity) → IsTrue (has_pool own pool) → slice_get (packed_at packed pool) place ≡ Some entity
      → nat_lt place count ≡ inside entity

-- a group of this length
abbrev pub IsGrouped : List (List Entity) → GroupDecl → ℕ → Type 0
IsGrouped packed decl count = IsPartitioned packed decl.own count (matches packed decl)

-- each group, with its length
pub record AreGrouped (decls : List GroupDecl) (lens : List ℕ) (packed : List (List Entity)) : Type 0 where
  pub each : (group : ℕ) (decl : GroupDecl) (count : ℕ) → slice_get decls group ≡ Some decl → slice_get lens group ≡ Some count → IsGrouped packed decl count

-- the groups of packed lists, of which one got this identifier behind all others
pub record WereGrouped (decls : List GroupDecl) (lens : List ℕ) (packed : List (List Entity)) (entity : Entity) (pool : ℕ) : Type 0 where
  pub before : List Entity
  pub appended : packed_at packed pool ≡ before ++ entity ∷ []
  pub fresh : contains before entity ≡ false
  pub grouped : AreGrouped decls lens (set packed pool before)

-- the groups of packed lists, once the identifier is taken out of one by swap-and-pop
pub record AreGroupedWithout (decls : List GroupDecl) (lens : List ℕ) (packed : List (List Entity)) (entity : Entity) (pool : ℕ) : Type 0 where
  pub here : IsTrue (is_in packed entity pool)
  pub gone : IfSome (place_of (packed_at packed pool) entity) (λ place. AreGrouped decls lens (set packed pool (swap_popped (packed_at packed pool) place)))

-- each pool but those that pass a test keeps its packed list
pub record AreStill (moved : ℕ → Bool) (old new : List (List Entity)) : Type 0 where
  pub still : (pool : ℕ) → moved pool ≡ false → packed_at new pool ≡ packed_at old pool

-- whether a change of one pool may move identifiers of another: a group that names the one owns the other
abbrev pub moves : List GroupDecl → ℕ → ℕ → Bool
moves decls changed pool = list_any (λ decl. has_pool (group_pools decl) changed && has_pool decl.own pool) decls

-- the first places of each of these pools hold this order, what stands behind them stays, and no other pool changes
pub record AreArranged (own : List ℕ) (order : List Entity) (old new : List (List Entity)) : Type 0 where
  pub arranged : (pool : ℕ) → IsTrue (has_pool own pool) → packed_at new pool ≡ order ++ drop (length order) (packed_at old pool)
  pub others : (pool : ℕ) → has_pool own pool ≡ false → packed_at new pool ≡ packed_at old pool

-- what a change of packed order leaves of a storage
pub record Core (T : Type 0) : Type 0 where
  pub map : List (Entity × T)
  pub len : ℕ
  pub spare : ℕ
  pub bound : ℕ

-- what it leaves of one pool
abbrev pub core_of : {T : Type 0} → Stored T → Core T
core_of stored = record { map = entries.map_of stored.pairs; len = length stored.pairs; spare = stored.spare; bound = stored.index_bound }

-- and of each pool
abbrev pub cores_of : {T : Type 0} → List (Stored T) → List (Core T)
cores_of pools = map core_of pools

-- how many steps a group takes, where it takes any: one for each owned pool
abbrev pub cost_of : Bool → GroupDecl → ℕ
cost_of moves decl = if moves then length decl.own else 0

-- whether a group names a pool
abbrev pub is_named : List GroupDecl → ℕ → Bool
is_named decls pool = list_any (λ decl. has_pool (group_pools decl) pool) decls

-- how many steps a change of a pool may take: as many as the groups that name it own pools
abbrev pub naming_cost : List GroupDecl → ℕ → ℕ
naming_cost decls pool = sum_by (λ decl. cost_of (has_pool (group_pools decl) pool) decl) decls
