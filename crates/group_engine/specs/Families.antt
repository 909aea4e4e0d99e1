-- Groups that may stand beside each other, and the order in which they are entered and left. No public clause cites this file.
use Rattle.std.specs.Prelude.{◌≡◌, ◌≢◌, ◌==◌, take, ℕ, ◌<◌, Bool, not, ◌&&◌, List, length, Some, slice_get, IsTrue, false}
use Rattle.std.specs.List.{range_with_len}
use Rattle.std.specs.List.Sorted.{IsPermutation}
use Rattle.entity_id.specs.declared.entity.Entity.{Entity}
use Rattle.entity_id.specs.FiniteMap.{AreDistinctBy}
use Rattle.world_model.specs.declared.group.GroupDecl.{GroupDecl}
use Rattle.world_model.specs.Groups.{has_pool, is_inner}
use Rattle.group_engine.specs.Grouped.{IsGrouped}

-- how two groups stand to each other
pub data StandsTo (group other : GroupDecl) : Type 0 where
  apart_from : ((pool : ℕ) → IsTrue (has_pool group.own pool) → has_pool other.own pool ≡ false) → StandsTo group other
  inner_to : IsTrue (is_inner group other) → StandsTo group other
  outer_to : IsTrue (is_inner other group) → StandsTo group other

-- each group owns a pool, and none twice, and any two are apart or nested
pub record IsFamily (decls : List GroupDecl) : Type 0 where
  pub some : (group : ℕ) (decl : GroupDecl) → slice_get decls group ≡ Some decl → 0 < length decl.own
  pub distinct : (group : ℕ) (decl : GroupDecl) → slice_get decls group ≡ Some decl → AreDistinctBy (λ (pool : ℕ). pool) decl.own
  pub nested : (group other : ℕ) (a c : GroupDecl) → slice_get decls group ≡ Some a → slice_get decls other ≡ Some c → other ≢ group → StandsTo a c
  pub different : (group other : ℕ) (a c : GroupDecl) → slice_get decls group ≡ Some a → slice_get decls other ≡ Some c → other ≢ group
      → IsTrue (is_inner a c) → is_inner c a ≡ false

-- an order of all groups in which an outer one comes before those inner to it
pub record IsOutermostFirst (decls : List GroupDecl) (order : List ℕ) : Type 0 where
  pub within : (place group : ℕ) → slice_get order place ≡ Some group → group < length decls
  pub outer_before : (place group other : ℕ) (a c : GroupDecl) → slice_get order place ≡ Some group → slice_get decls group ≡ Some a
      → slice_get decls other ≡ Some c → IsTrue (is_inner a c) → other ≢ group → IsTrue (has_pool (take place order) other)
  pub inner_after : (place group other : ℕ) (a c : GroupDecl) → slice_get order place ≡ Some group → slice_get decls group ≡ Some a
      → slice_get decls other ≡ Some c → IsTrue (is_inner c a) → other ≢ group → has_pool (take place order) other ≡ false
  pub once : (place group : ℕ) → slice_get order place ≡ Some group → has_pool (take place order) group ≡ false
  pub complete : (group : ℕ) → group < length decls → IsTrue (has_pool order group)
  pub each : IsPermutation (range_with_len 0 (length decls)) order

-- the same, place by place
pub record IsOrdered (decls : List GroupDecl) (order : List ℕ) : Type 0 where
  pub within : (place group : ℕ) → slice_get order place ≡ Some group → group < length decls
  pub complete : (group : ℕ) → group < length decls → (place : ℕ) × (slice_get order place ≡ Some group)
  pub once : (place other group : ℕ) → slice_get order place ≡ Some group → slice_get order other ≡ Some group → place ≡ other
  pub sorted : (place outer_place group other : ℕ) (a c : GroupDecl) → slice_get order place ≡ Some group
      → slice_get order outer_place ≡ Some other → slice_get decls group ≡ Some a → slice_get decls other ≡ Some c → IsTrue (is_inner a c)
      → other ≢ group → outer_place < place
  pub each : IsPermutation (range_with_len 0 (length decls)) order

-- each group that may stand beside this one stays as it is
abbrev pub KeepsGroups : GroupDecl → List (List Entity) → List (List Entity) → Type 0
KeepsGroups decl old new = (other : GroupDecl) (count : ℕ) → StandsTo decl other → IsGrouped old other count → IsGrouped new other count

-- whether a group is inner to another of another number
abbrev pub is_inside : ℕ → GroupDecl → ℕ → GroupDecl → Bool
is_inside number decl other nested = not (other == number) && is_inner nested decl

-- no group is inner to this one
abbrev pub HasNoInner : List GroupDecl → ℕ → GroupDecl → Type 0
HasNoInner decls number decl = (other : ℕ) (nested : GroupDecl) → slice_get decls other ≡ Some nested → is_inside number decl other nested ≡ false
