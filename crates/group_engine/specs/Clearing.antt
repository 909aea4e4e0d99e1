-- Groups while a pool is emptied. No public clause cites this file.
use Rattle.std.specs.Prelude.{◌≡◌, ℕ, Bool, ◌&&◌, List, IsTrue, true, false}
use Rattle.entity_id.specs.declared.entity.Entity.{Entity}
use Rattle.world_model.specs.declared.group.GroupDecl.{GroupDecl}
use Rattle.world_model.specs.Groups.{has_pool, is_inner}
use Rattle.group_engine.specs.Grouped.{matches, IsPartitioned}
use Rattle.group_engine.specs.Moving.{matches_if}

-- whether an identifier is in a group once a pool is empty
abbrev pub matches_without : List (List Entity) → ℕ → GroupDecl → Entity → Bool
matches_without packed pool decl entity = matches_if packed entity pool false decl

-- how another group stands to one that is entered by those that match without a pool: no pool is owned by both, or it is outer and
-- has them all, or inner and has only such as match with the pool too
pub data StandsBy (packed : List (List Entity)) (pool : ℕ) (decl other : GroupDecl) (inside : Entity → Bool) : Type 0 where
  apart_from : ((shared : ℕ) → IsTrue (has_pool decl.own shared) → has_pool other.own shared ≡ false) → StandsBy packed pool decl other inside
  outer_to : IsTrue (is_inner decl other)
      → ((entity : Entity) → matches_without packed pool decl entity ≡ true → inside entity ≡ true) → StandsBy packed pool decl other inside
  inner_to : IsTrue (is_inner other decl)
      → ((entity : Entity) → inside entity ≡ true → matches packed decl entity ≡ true) → StandsBy packed pool decl other inside

-- each group that stands so keeps its members
abbrev pub KeepsBeside : ℕ → GroupDecl → List (List Entity) → List (List Entity) → Type 0
KeepsBeside pool decl old new = (other : GroupDecl) (count : ℕ) (inside : Entity → Bool) → StandsBy old pool decl other inside
    → IsPartitioned old other.own count inside → IsPartitioned new other.own count inside

-- whether a group that excludes the first pool owns the second
abbrev pub refills : GroupDecl → ℕ → ℕ → Bool
refills decl excluded pool = has_pool decl.without excluded && has_pool decl.own pool
