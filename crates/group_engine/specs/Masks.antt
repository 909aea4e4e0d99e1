-- Which groups a change of a pool concerns, as a number with a bit for each place of the groups' order. No public clause cites this file.
use Rattle.std.specs.Prelude.{◌≡◌, ℕ, ◌≤◌, Bool, true, false, if◌then◌else◌, List, ◌++◌, length, Some, slice_get, slice_index_or}
use Rattle.std.specs.Int.{bit_at}
use Rattle.world_model.specs.declared.group.GroupDecl.{GroupDecl}
use Rattle.world_model.specs.Groups.{has_pool, group_limit}
use Rattle.group_engine.specs.declared.marking.Masks.{Masks}

-- whether a group may be entered by an identifier that comes into a pool, or by one that goes: it owns or observes the pool, or excludes it
abbrev pub may_enter : ℕ → Bool → GroupDecl → Bool
may_enter pool held decl = if held then has_pool (decl.own ++ decl.get) pool else has_pool decl.without pool

-- a mask in which a bit is set exactly where the group at its place passes a test
pub record IsMask (mask : ℕ) (decls : List GroupDecl) (order : List ℕ) (test : GroupDecl → Bool) : Type 0 where
  pub few : length order ≤ group_limit
  pub marked : (place group : ℕ) (decl : GroupDecl) → slice_get order place ≡ Some group → slice_get decls group ≡ Some decl
      → bit_at mask place ≡ (if test decl then 1 else 0)
  pub clear : (place : ℕ) → length order ≤ place → bit_at mask place ≡ 0

-- one for each of so many pools; a pool that has none concerns no group
pub record AreMasks (masks : List ℕ) (decls : List GroupDecl) (order : List ℕ) (pools : ℕ) (held : Bool) : Type 0 where
  pub few : length masks ≤ pools
  pub each : (pool : ℕ) → IsMask (slice_index_or masks pool 0) decls order (may_enter pool held)

-- for both changes
pub record AreMarked (masks : Masks) (decls : List GroupDecl) (order : List ℕ) (pools : ℕ) : Type 0 where
  pub wanting : AreMasks masks.wanting.items decls order pools true
  pub excluding : AreMasks masks.excluding.items decls order pools false
