-- What a source and a sink in memory are, and what a call makes of them.
use Rattle.std.specs.Prelude.{◌≡◌, ℕ, ◌-◌, Bool, true, min, List, ◌++◌, drop, length, Contains, ◌⊎◌}
use Rattle.ecs_io.specs.Streams.{one_more}

-- a source in memory
pub record Supply : Type 0 where
  -- the bytes that reads will give
  pub left : List ℕ
  -- the most bytes that a read gives
  pub piece : ℕ
  -- the numbers, from 0, of the reads that fail
  pub fails : List ℕ
  -- how many reads there were, as 64 bits count them
  pub reads : ℕ
  -- how many of them failed, as 64 bits count them
  pub faults : ℕ

-- how many bytes a read gives into a buffer of this length, where it does not fail
abbrev pub given_count : Supply → ℕ → ℕ
given_count supply room = min (min supply.piece room) (length supply.left)

-- the source after a read that gave so many bytes
abbrev pub after_read : Supply → ℕ → Supply
after_read supply count =
    record supply { left = drop count supply.left; reads = one_more supply.reads }

-- the source after a read that failed
abbrev pub after_failed_read : Supply → Supply
after_failed_read supply =
    record supply { reads = one_more supply.reads; faults = one_more supply.faults }

-- a sink in memory
pub record Store : Type 0 where
  -- the bytes held
  pub bytes : List ℕ
  -- the most bytes that it holds
  pub room : ℕ
  -- the most bytes that a write takes
  pub piece : ℕ
  -- the numbers, from 0, of the writes that fail
  pub fails : List ℕ
  -- how many writes there were, as 64 bits count them
  pub writes : ℕ
  -- how many writes and flushes failed, as 64 bits count them
  pub faults : ℕ
  -- whether every flush fails
  pub fails_flush : Bool

-- these bytes are held
abbrev pub IsHeld : Store → List ℕ → Type 0
IsHeld store held = held ≡ store.bytes

-- the next write fails: its number is among those that fail, or the room is full
abbrev pub IsRefusing : Store → Type 0
IsRefusing store = Contains store.fails store.writes ⊎ (length store.bytes ≡ store.room)

-- how many bytes a write takes of so many, where it does not fail
abbrev pub taken_count : Store → ℕ → ℕ
taken_count store offered = min (min store.piece offered) (store.room - length store.bytes)

-- the sink after a write that took these bytes
abbrev pub after_write : Store → List ℕ → Store
after_write store taken =
    record store { bytes = store.bytes ++ taken; writes = one_more store.writes }

-- the sink after a write that failed
abbrev pub after_failed_write : Store → Store
after_failed_write store =
    record store { writes = one_more store.writes; faults = one_more store.faults }

-- the sink, every later flush of which fails
abbrev pub failing_flushes : Store → Store
failing_flushes store = record store { fails_flush = true }

-- the sink after a flush that failed
abbrev pub after_failed_flush : Store → Store
after_failed_flush store = record store { faults = one_more store.faults }
