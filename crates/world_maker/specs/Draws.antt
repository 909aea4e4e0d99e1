-- The draws of a number: numbers below 65537, one behind another, from which a world is made.
use Rattle.std.specs.Prelude.{ℕ, zero, suc, ◌+◌, ◌*◌, ◌%◌}

-- the draw behind a draw
abbrev pub next_draw : ℕ → ℕ
next_draw last = (75 * last + 74) % 65537

-- the draw so many places behind another
abbrev pub draws_behind : ℕ → ℕ → ℕ
draws_behind first zero = first
draws_behind first (suc places) = next_draw (draws_behind first places)

-- the draw of a number at a place, the first at place 1: at place 0 stands what they begin with, the number's remainder, and that is no draw
abbrev pub draw : ℕ → ℕ → ℕ
draw number place = draws_behind (number % 65537) place

-- the draw of an entity at a place from 1 to 10: each entity in ascending index takes the next ten draws of the number
abbrev pub draw_of : ℕ → ℕ → ℕ → ℕ
draw_of number index place = draw number (10 * index + place)
