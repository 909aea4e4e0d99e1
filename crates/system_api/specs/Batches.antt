-- Batches: 64 places of a packed list, one after another, each at a lane counted from 0.
use Rattle.std.specs.Prelude.{◌≡◌, ◌≢◌, ℕ, ◌<◌, ◌≤◌, ◌+◌, Bool, false, List, length, slice_index_or, if◌then◌else◌, IsTrue}
use Rattle.entity_id.specs.declared.entity.Entity.{Entity}
use Rattle.world_model.specs.declared.component.Row.{Row}
use Rattle.world_model.specs.Components.{zero_row}

-- how many lanes a batch has
abbrev pub lanes : ℕ
lanes = 64

-- the row at a place; past the end a row of zeros
abbrev pub row_at : List Row → ℕ → Row
row_at rows place = slice_index_or rows place zero_row

-- the identifier at a place; past the end that of index and version 0
abbrev pub entity_at : List Entity → ℕ → Entity
entity_at entities place = slice_index_or entities place (record { index = 0; version = 0 })

-- whether a lane is marked
abbrev pub is_marked : List Bool → ℕ → Bool
is_marked marks lane = slice_index_or marks lane false

-- rows of which those at the marked lanes of a batch are the column's, and all others as before
pub record AreScattered (from : ℕ) (marks : List Bool) (column old new : List Row) : Type 0 where
  pub long : length new ≡ length old
  pub here : (lane : ℕ) → lane < lanes → from + lane < length old →
      row_at new (from + lane) ≡ (if is_marked marks lane then row_at column lane else row_at old (from + lane))
  pub before : (place : ℕ) → place < from → row_at new place ≡ row_at old place
  pub behind : (place : ℕ) → from + lanes ≤ place → row_at new place ≡ row_at old place

-- ---- by places

-- the place beside a lane
abbrev pub place_at : List ℕ → ℕ → ℕ
place_at places lane = slice_index_or places lane 0

-- no two marked lanes have one place
abbrev pub AreApart : List Bool → List ℕ → Type 0
AreApart marks places = (a b : ℕ) → a < lanes → b < lanes → IsTrue (is_marked marks a) → IsTrue (is_marked marks b) → place_at places a ≡ place_at places b → a ≡ b

-- rows of which those at the places of the marked lanes are the column's, and all others as before
pub record AreSetAt (marks : List Bool) (places : List ℕ) (column old new : List Row) : Type 0 where
  pub long : length new ≡ length old
  pub here : (lane : ℕ) → lane < lanes → IsTrue (is_marked marks lane) → row_at new (place_at places lane) ≡ row_at column lane
  pub others : (place : ℕ) → ((lane : ℕ) → lane < lanes → IsTrue (is_marked marks lane) → place_at places lane ≢ place) → row_at new place ≡ row_at old place
