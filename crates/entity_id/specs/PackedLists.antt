-- Packed lists: places in them, and what swap-and-pop makes of them.
use Rattle.std.specs.Prelude.{ℕ, ◌-◌, List, length, take, Option}
use Rattle.std.specs.List.{swap, position_from}
use Rattle.entity_id.specs.declared.entity.Entity.{Entity}
use Rattle.entity_id.specs.Identifiers.{is_same}

-- where an identifier stands, counted from 0
abbrev pub place_of : List Entity → Entity → Option ℕ
place_of packed entity = position_from (is_same entity) 0 packed

-- the list without the item at the place, which the last one takes
abbrev pub swap_popped : {X : Type 0} → List X → ℕ → List X
swap_popped xs place = take (length xs - 1) (swap xs place (length xs - 1))
