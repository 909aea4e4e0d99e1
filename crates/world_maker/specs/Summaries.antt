-- The summary of a world: five lines of numbers that tell two worlds apart at a glance.
use Rattle.std.specs.Prelude.{ℕ, ℤ, ◌%◌, ◌^◌, List, [], ◌∷◌, ◌++◌, map, length, sum_by, count_by, codes, if◌then◌else◌}
use Rattle.std.specs.List.{flat_map, zip}
use Rattle.std.specs.Fmt.{decimal, signed_decimal}
use Rattle.std.specs.Int.{w64, cast_signed, cast_unsigned}
use Rattle.entity_id.specs.declared.entity.Entity.{Entity}
use Rattle.world_model.specs.declared.component.Decl.{Decl}
use Rattle.world_model.specs.declared.component.Kind.{Kind}
use Rattle.world_model.specs.declared.component.Row.{Row}
use Rattle.world_model.specs.declared.world.World.{World}
use Rattle.world_model.specs.Components.{kinds_of, is_int}
use Rattle.world_model.specs.Contents.{keys_of}
use Rattle.world_model.specs.Groups.{members}

-- the numbers in those fields that are of the kind int
abbrev pub ints_among : List Kind → List ℤ → List ℤ
ints_among kinds fields = flat_map (λ pair. if is_int pair.0 then pair.1 ∷ [] else []) (zip kinds fields)

-- those of a component's row
abbrev pub ints_of : Decl → Row → List ℤ
ints_of decl row = ints_among (kinds_of decl) row.f

-- those of a component's rows
abbrev pub ints_of_pool : Decl → List (Entity × Row) → List ℤ
ints_of_pool decl rows = flat_map (λ entry. ints_of decl entry.1) rows

-- those of all rows of a world
abbrev pub ints_in : World → List ℤ
ints_in w = flat_map (λ pool. ints_of_pool pool.0 pool.1) (zip w.decls w.pools)

-- the sum of numbers of 64 bits, as additions leave it that keep 64 bits: first those bits, and then the number with a sign that they are
abbrev pub bits_sum : List ℤ → ℕ
bits_sum numbers = sum_by (cast_unsigned w64) numbers % 2 ^ 64

abbrev pub wrapped_sum : List ℤ → ℤ
wrapped_sum numbers = cast_signed w64 (bits_sum numbers)

-- a word and numbers in decimal, each behind a space (32), and a line feed (10)
abbrev pub counts_line : List ℕ → List ℕ → List ℕ
counts_line word numbers = word ++ (flat_map (λ number. 32 ∷ decimal number) numbers ++ 10 ∷ [])

-- the summary: how many entities are live, how many rows all components have, how many members each group has (without groups the line is
-- its word alone), the wrapped sum of all int fields of all rows, and the tick number
abbrev pub summary_text : World → List ℕ
summary_text w =
    counts_line (codes "entities") (count_by (λ slot. slot.live) w.slots ∷ [])
    ++ (counts_line (codes "rows") (sum_by length w.pools ∷ [])
    ++ (counts_line (codes "members") (map (λ group. length (members (keys_of w) group)) w.groups)
    ++ (codes "sum " ++ (signed_decimal (wrapped_sum (ints_in w)) ++ 10 ∷ [])
    ++ counts_line (codes "tick") (w.tick ∷ []))))
