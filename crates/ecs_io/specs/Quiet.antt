-- What a sink that keeps a front of what is written to it is, and what a write makes of it.
use Rattle.std.specs.Prelude.{◌≡◌, ℕ, ◌+◌, ◌-◌, ◌^◌, min, List, ◌++◌, take, length}

-- a sink that keeps a front of what is written to it
pub record Keep : Type 0 where
  -- the bytes kept: the first that were written, as many as there is room for
  pub kept : List ℕ
  -- the most bytes that it keeps
  pub room : ℕ
  -- how many bytes were written, as 64 bits count them
  pub written : ℕ

-- a count of 64 bits that stays at its last value, once it has counted so many
abbrev pub counted : ℕ → ℕ
counted count = min count (2 ^ 64 - 1)

-- these bytes may be what was written so far: their front is what is kept, and they are as many as were counted
pub record IsWritten (keep : Keep) (held : List ℕ) : Type 0 where
  pub front : take keep.room held ≡ keep.kept
  pub count : counted (length held) ≡ keep.written

-- the sink after a write of these bytes
abbrev pub after_keeping : Keep → List ℕ → Keep
after_keeping keep bytes =
    record keep { kept = take keep.room (keep.kept ++ bytes); written = counted (keep.written + length bytes) }
