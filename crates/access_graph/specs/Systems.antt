-- Sets of systems, by number.
use Rattle.std.specs.Prelude.{ℕ, ◌<◌, ◌≤◌, ◌==◌, filter, MatchOption, Option, IsTrue, IsFalse}
use Rattle.std.specs.Int.{bit_at}
use Rattle.std.specs.List.{range_with_len}
use Rattle.std.specs.Ordering.{nat_cmp}
use Rattle.std.specs.FinSet as set

-- a set of systems
abbrev pub SystemSet : Type 0
SystemSet = set.FinSet nat_cmp

-- a number below which every system is
abbrev pub system_limit : ℕ
system_limit = 64

-- the systems whose bit is set in a number
unfoldable pub systems_of : ℕ → SystemSet
systems_of bits = set.from_list (filter (λ number. bit_at bits number == 1) (range_with_len 0 system_limit))

-- the least system of a set from this number on, or none where there is none
abbrev pub IsNext : SystemSet → ℕ → Option ℕ → Type 0
IsNext systems from next =
    MatchOption next ((other : ℕ) → from ≤ other → IsFalse (set.contains systems other))
    (λ number. (from ≤ number) × IsTrue (set.contains systems number)
    × ((other : ℕ) → from ≤ other → other < number → IsFalse (set.contains systems other)))
