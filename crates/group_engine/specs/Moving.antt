-- Groups while one identifier comes into a pool or goes. No public clause cites this file.
use Rattle.std.specs.Prelude.{◌≡◌, ◌+◌, ◌==◌, ℕ, ◌<◌, Bool, not, ◌&&◌, if◌then◌else◌, List, length, Some, slice_get, IsTrue, true, false}
use Rattle.std.specs.List.{swap, sum_by}
use Rattle.std.specs.Option.{option_to_list}
use Rattle.entity_id.specs.declared.entity.Entity.{Entity}
use Rattle.entity_id.specs.Identifiers.{is_same}
use Rattle.entity_id.specs.Matching.{is_in}
use Rattle.sparse_set.specs.PackedSets.{AreDistinct, contains}
use Rattle.world_model.specs.declared.group.GroupDecl.{GroupDecl}
use Rattle.world_model.specs.Groups.{has_pool, is_inner, packed_at}
use Rattle.group_engine.specs.Grouped.{passes, matches, IsPartitioned, cost_of}

-- a list has an identifier, and is longer than a place
pub record IsReady (entity : Entity) (place : ℕ) (list : List Entity) : Type 0 where
  pub contained : IsTrue (contains list entity)
  pub within : place < length list

-- an identifier, which stands in the list once, exchanged with what stands at a place
pub record IsMoved (entity : Entity) (place : ℕ) (old new : List Entity) : Type 0 where
  pub from : ℕ
  pub here : slice_get old from ≡ Some entity
  pub within : place < length old
  pub swapped : new ≡ swap old from place
  pub distinct : AreDistinct old

-- so in each of these pools, and no other pool changes
pub record AreMoved (own : List ℕ) (entity : Entity) (place : ℕ) (old new : List (List Entity)) : Type 0 where
  pub moved : (pool : ℕ) → IsTrue (has_pool own pool) → IsMoved entity place (packed_at old pool) (packed_at new pool)
  pub others : (pool : ℕ) → has_pool own pool ≡ false → packed_at new pool ≡ packed_at old pool

-- a test with another answer for one identifier
abbrev pub but_for : Entity → Bool → (Entity → Bool) → Entity → Bool
but_for entity answer test other = if is_same other entity then answer else test other

-- each group has the identifiers that match in its pools, and beside them the one that comes or goes, where it is in already or still
abbrev pub AreMixed : List GroupDecl → List ℕ → List (List Entity) → List (List Entity) → Entity → (ℕ → GroupDecl → Bool) → Type 0
AreMixed decls lens base packed entity has = (group : ℕ) (decl : GroupDecl) (count : ℕ) → slice_get decls group ≡ Some decl
    → slice_get lens group ≡ Some count → IsPartitioned packed decl.own count (but_for entity (has group decl) (matches base decl))

-- how another group stands to one that the identifier enters or leaves: no pool is owned by both, or it is outer and has the
-- identifier, or inner and doesn't
pub data Beside (moving other : GroupDecl) (has : Bool) : Type 0 where
  apart : ((pool : ℕ) → IsTrue (has_pool moving.own pool) → has_pool other.own pool ≡ false) → Beside moving other has
  outer : IsTrue (is_inner moving other) → has ≡ true → Beside moving other has
  inner : IsTrue (is_inner other moving) → has ≡ false → Beside moving other has

-- whether an identifier is in a pool, were it in one of them or not
abbrev pub in_if : List (List Entity) → Entity → ℕ → Bool → ℕ → Bool
in_if packed entity pool held other = if other == pool then held else is_in packed entity other

-- whether it is in a group then
abbrev pub matches_if : List (List Entity) → Entity → ℕ → Bool → GroupDecl → Bool
matches_if packed entity pool held decl = passes decl (in_if packed entity pool held)

-- whether it is in a group before it comes and after, or before it goes and after
abbrev pub stays_in : List (List Entity) → Entity → ℕ → Bool → GroupDecl → Bool
stays_in packed entity pool held decl = matches_if packed entity pool (not held) decl && matches_if packed entity pool held decl

-- the same identifiers are in each pool
abbrev pub HaveSame : List (List Entity) → List (List Entity) → Type 0
HaveSame old new = (entity : Entity) (pool : ℕ) → is_in new entity pool ≡ is_in old entity pool

-- whether it is in a group after and not before
abbrev pub comes_in : List (List Entity) → Entity → ℕ → Bool → GroupDecl → Bool
comes_in packed entity pool held decl = not (matches_if packed entity pool (not held) decl) && matches_if packed entity pool held decl

-- whether it is in a group before and not after
abbrev pub goes_out : List (List Entity) → Entity → ℕ → Bool → GroupDecl → Bool
goes_out packed entity pool held decl = matches_if packed entity pool (not held) decl && not (matches_if packed entity pool held decl)

-- what becomes of a group's pools and its length where an identifier may come in
pub data Comes (comes : Bool) (own : List ℕ) (entity : Entity) (count result : ℕ) (old new : List (List Entity)) : Type 0 where
  came : comes ≡ true → AreMoved own entity count old new → result ≡ count + 1 → Comes comes own entity count result old new
  stayed_out : comes ≡ false → new ≡ old → result ≡ count → Comes comes own entity count result old new

-- and where one may go out
pub data Goes (goes : Bool) (own : List ℕ) (entity : Entity) (count result : ℕ) (old new : List (List Entity)) : Type 0 where
  went : goes ≡ true → AreMoved own entity result old new → result + 1 ≡ count → Goes goes own entity count result old new
  stayed_in : goes ≡ false → new ≡ old → result ≡ count → Goes goes own entity count result old new

-- the same of the group of this number, if there is one
abbrev pub cost_in : List GroupDecl → (GroupDecl → Bool) → ℕ → ℕ
cost_in decls moves group = sum_by (λ decl. cost_of (moves decl) decl) (option_to_list (slice_get decls group))
