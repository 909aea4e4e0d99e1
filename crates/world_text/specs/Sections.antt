-- The parts of a document and their order.
use Rattle.std.specs.Prelude.{ℕ, Bool, ◌&&◌, nat_lt, nat_le, if◌then◌else◌}
use Rattle.world_text.specs.declared.section.Section.{Section}
use Rattle.world_text.specs.declared.section.Section.TheVariants.{Start, Version, Components, Groups, Systems, Tick, Slots, FreeList, Pools, End}

-- the place of a part in the order
abbrev pub order : Section → ℕ
order Start = 0
order Version = 1
order Components = 2
order Groups = 3
order Systems = 4
order Tick = 5
order Slots = 6
order FreeList = 7
order Pools = 8
order End = 9

-- whether a part is one of those from first to last
abbrev pub is_between : Section → Section → Section → Bool
is_between first last section = nat_le (order first) (order section) && nat_le (order section) (order last)

-- the later one of two parts
abbrev pub later : Section → Section → Section
later a b = if nat_lt (order b) (order a) then a else b
