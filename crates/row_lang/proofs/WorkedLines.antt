-- Worked lines of systems: their text, which are admissible behind which, each refusal beside a line that fits in its place, and what whole
-- systems stand for.
use Rattle.std.proofs.Common.{◌≡◌, ℕ, true, false, pos, List, [], ◌∷◌, ◌++◌, map, replicate, codes, refl}
use Rattle.std.specs.Fmt.{digits}
use Rattle.std.specs.List.{flat_map, range_with_len}
use Rattle.world_model.specs.declared.access.Access.{Access}
use Rattle.world_model.specs.declared.component.Decl.{Decl}
use Rattle.world_model.specs.declared.component.Kind.TheVariants.{Int, Ref}
use Rattle.world_model.specs.declared.tokens.FieldAt.{FieldAt}
use Rattle.row_lang.specs.declared.access_list.AccessList.TheVariants as list
use Rattle.row_lang.specs.declared.token.Keyword.TheVariants as key
use Rattle.row_lang.specs.declared.token.Place.TheVariants.{Value}
use Rattle.row_lang.specs.declared.token.Token.{Token}
use Rattle.row_lang.specs.declared.token.Token.TheVariants.{Word, Number, Own, Pool, Field}
use Rattle.row_lang.specs.BodyLines.{BodyLine, Lists, Do, Close}
use Rattle.row_lang.specs.Naming.{names_of}
use Rattle.row_lang.specs.Nesting.{nesting}
use Rattle.row_lang.specs.Places.{fills}
use Rattle.row_lang.specs.Spelling.{body_line_text}
use Rattle.row_lang.specs.Systems.{Draft, admits, after_lines, are_admitted, begun, is_closed, system_text}

-- ---- words for the lines below

-- numbers 0 to 4
abbrev decls : List Decl
decls =
    record { name = codes "position"; count = 2; kinds = Int ∷ Int ∷ Int ∷ Int ∷ [] }
    ∷ record { name = codes "health"; count = 1; kinds = Int ∷ Int ∷ Int ∷ Int ∷ [] }
    ∷ record { name = codes "target"; count = 1; kinds = Ref ∷ Int ∷ Int ∷ Int ∷ [] }
    ∷ record { name = codes "damage"; count = 1; kinds = Int ∷ Int ∷ Int ∷ Int ∷ [] }
    ∷ record { name = codes "frozen"; count = 0; kinds = Int ∷ Int ∷ Int ∷ Int ∷ [] }
    ∷ []

abbrev field : ℕ → ℕ → FieldAt
field pool number = record { pool = pool; field = number }

abbrev number : ℕ → Token
number n = Number (pos n)

-- the draft that lines lead to
abbrev behind : List BodyLine → Draft
behind lines = after_lines decls (begun (codes "attack")) lines

-- behind these lines the first line is refused and the second fits
abbrev Refused : List BodyLine → BodyLine → BodyLine → Type 0
Refused lines bad good = (are_admitted decls (begun (codes "attack")) lines ≡ true) × (admits decls (behind lines) bad ≡ false) × (admits decls (behind lines) good ≡ true)

-- ---- a system

abbrev attack_line : List Token
attack_line =
    Word key.When ∷ Word key.Has ∷ Own (field 2 0) ∷ Pool 1 ∷ Word key.Add ∷ Own (field 2 0) ∷ Field (field 1 0) ∷ Word key.Minus ∷ number 0 ∷ Own (field 3 0) ∷ []

abbrev attack : List BodyLine
attack = Lists list.Read (3 ∷ 2 ∷ []) ∷ Lists list.Look (1 ∷ []) ∷ Do attack_line ∷ Close ∷ []

pub a_line_is_spelled : body_line_text (names_of decls) (Do attack_line) ≡ codes "do when has target.0 health add target.0 health.0 - 0 damage.0"
unfolding digits
a_line_is_spelled = refl

pub a_system_is_admitted : (are_admitted decls (begun (codes "attack")) attack ≡ true) × (is_closed (behind attack) ≡ true)
a_system_is_admitted = (refl, refl)

pub lists_are_kept_ascending : (behind attack).system ≡ record {
  name = codes "attack";
  access = record { read = 2 ∷ 3 ∷ []; write = []; look = 1 ∷ []; without = [] };
  statements = attack_line ∷ [];
}
lists_are_kept_ascending = refl

pub it_is_printed : system_text (names_of decls) (behind attack).system ≡ codes "system attack\nread target damage\nlook health\ndo when has target.0 health add target.0 health.0 - 0 damage.0\nend\n"
unfolding digits
it_is_printed = refl

-- ---- the order of lines

pub nothing_behind_the_first_line_but_read_or_write : Refused [] (Lists list.Look (1 ∷ [])) (Lists list.Read (1 ∷ []))
nothing_behind_the_first_line_but_read_or_write = (refl, refl, refl)

pub no_not_first : Refused [] (Lists list.Without (1 ∷ [])) (Lists list.Write (1 ∷ []))
no_not_first = (refl, refl, refl)

pub no_end_first : Refused [] Close (Lists list.Write (1 ∷ []))
no_end_first = (refl, refl, refl)

pub no_statement_first : Refused [] (Do (Word key.Spawn ∷ [])) (Lists list.Write (1 ∷ []))
no_statement_first = (refl, refl, refl)

pub no_list_twice : Refused (Lists list.Read (1 ∷ []) ∷ []) (Lists list.Read (2 ∷ [])) (Lists list.Write (2 ∷ []))
no_list_twice = (refl, refl, refl)

pub no_read_behind_write : Refused (Lists list.Write (1 ∷ []) ∷ []) (Lists list.Read (2 ∷ [])) (Lists list.Look (2 ∷ []))
no_read_behind_write = (refl, refl, refl)

pub no_look_behind_not : Refused (Lists list.Write (1 ∷ []) ∷ Lists list.Without (4 ∷ []) ∷ []) (Lists list.Look (2 ∷ [])) Close
no_look_behind_not = (refl, refl, refl)

pub no_list_behind_a_statement : Refused (Lists list.Write (1 ∷ []) ∷ Do (Word key.Spawn ∷ []) ∷ []) (Lists list.Without (2 ∷ [])) Close
no_list_behind_a_statement = (refl, refl, refl)

pub nothing_behind_the_end : (admits decls (behind attack) Close ≡ false) × (admits decls (behind attack) (Do attack_line) ≡ false) × (admits decls (behind attack) (Lists list.Without (4 ∷ [])) ≡ false)
nothing_behind_the_end = (refl, refl, refl)

-- ---- which components a list may name

pub not_nothing : Refused [] (Lists list.Read []) (Lists list.Read (1 ∷ []))
not_nothing = (refl, refl, refl)

pub not_twice : Refused [] (Lists list.Read (1 ∷ 2 ∷ 1 ∷ [])) (Lists list.Read (1 ∷ 2 ∷ []))
not_twice = (refl, refl, refl)

pub not_undeclared : Refused [] (Lists list.Read (5 ∷ [])) (Lists list.Read (4 ∷ []))
not_undeclared = (refl, refl, refl)

pub not_read_and_written : Refused (Lists list.Read (1 ∷ []) ∷ []) (Lists list.Write (1 ∷ [])) (Lists list.Write (2 ∷ []))
not_read_and_written = (refl, refl, refl)

pub not_looked_at_and_written : Refused (Lists list.Write (1 ∷ []) ∷ []) (Lists list.Look (1 ∷ [])) (Lists list.Look (2 ∷ []))
not_looked_at_and_written = (refl, refl, refl)

pub not_read_and_excluded : Refused (Lists list.Read (1 ∷ []) ∷ []) (Lists list.Without (1 ∷ [])) (Lists list.Look (1 ∷ []))
not_read_and_excluded = (refl, refl, refl)

pub not_written_and_excluded : Refused (Lists list.Write (1 ∷ []) ∷ []) (Lists list.Without (1 ∷ [])) (Lists list.Without (2 ∷ []))
not_written_and_excluded = (refl, refl, refl)

pub looked_at_and_excluded : admits decls (behind (Lists list.Write (1 ∷ []) ∷ Lists list.Look (2 ∷ []) ∷ [])) (Lists list.Without (2 ∷ [])) ≡ true
looked_at_and_excluded = refl

-- components without fields, by number
abbrev many : List Decl
many = map (λ n. record { name = codes "c" ++ n ∷ []; count = 0; kinds = Int ∷ Int ∷ Int ∷ Int ∷ [] }) (range_with_len 97 20)

pub sixteen_in_all : admits many (after_lines many (begun (codes "s")) (Lists list.Read (range_with_len 0 10) ∷ [])) (Lists list.Write (range_with_len 10 6)) ≡ true
sixteen_in_all = refl

pub not_seventeen : admits many (after_lines many (begun (codes "s")) (Lists list.Read (range_with_len 0 10) ∷ [])) (Lists list.Write (range_with_len 10 7)) ≡ false
not_seventeen = refl

-- ---- how many statements

abbrev open_system : Draft
open_system = behind (Lists list.Write (1 ∷ []) ∷ [])

abbrev sets : List Token
sets = Word key.Set ∷ Field (field 1 0) ∷ number 1 ∷ []

pub sixty_four_statements : (are_admitted decls open_system (replicate 64 (Do sets)) ≡ true) × (are_admitted decls open_system (replicate 65 (Do sets)) ≡ false)
sixty_four_statements = (refl, refl)

pub eight_command_statements : (are_admitted decls open_system (replicate 8 (Do (Word key.Spawn ∷ [])) ++ Do sets ∷ []) ≡ true) × (are_admitted decls open_system (replicate 9 (Do (Word key.Spawn ∷ []))) ≡ false)
eight_command_statements = (refl, refl)

-- ---- which statements

abbrev access : Access
access = record { read = 2 ∷ []; write = 1 ∷ []; look = 0 ∷ []; without = [] }

abbrev in_line : List BodyLine
in_line = Lists list.Read (2 ∷ []) ∷ Lists list.Write (1 ∷ []) ∷ Lists list.Look (0 ∷ []) ∷ []

pub no_set_of_a_component_that_is_only_read : Refused in_line (Do (Word key.Set ∷ Field (field 2 0) ∷ Word key.Oneself ∷ [])) (Do sets)
no_set_of_a_component_that_is_only_read = (refl, refl, refl)

pub no_set_to_a_value_of_another_kind : Refused in_line (Do (Word key.Set ∷ Field (field 1 0) ∷ Word key.Oneself ∷ [])) (Do sets)
no_set_to_a_value_of_another_kind = (refl, refl, refl)

pub no_field_that_is_not_there : Refused in_line (Do (Word key.Set ∷ Field (field 1 1) ∷ number 1 ∷ [])) (Do sets)
no_field_that_is_not_there = (refl, refl, refl)

pub no_own_field_of_a_component_that_is_looked_at : Refused in_line (Do (Word key.Set ∷ Field (field 1 0) ∷ Own (field 0 0) ∷ [])) (Do (Word key.Set ∷ Field (field 1 0) ∷ Own (field 1 0) ∷ []))
no_own_field_of_a_component_that_is_looked_at = (refl, refl, refl)

pub no_look_at_a_component_that_is_read : Refused in_line (Do (Word key.When ∷ Word key.Has ∷ Word key.Oneself ∷ Pool 2 ∷ Word key.Spawn ∷ [])) (Do (Word key.When ∷ Word key.Has ∷ Word key.Oneself ∷ Pool 0 ∷ Word key.Spawn ∷ []))
no_look_at_a_component_that_is_read = (refl, refl, refl)

-- `at X FIELD X`: the last has the field's kind
pub no_default_of_another_kind : Refused in_line (Do (Word key.Set ∷ Field (field 1 0) ∷ Word key.At ∷ Word key.Oneself ∷ Field (field 0 0) ∷ Word key.Null ∷ [])) (Do (Word key.Set ∷ Field (field 1 0) ∷ Word key.At ∷ Word key.Oneself ∷ Field (field 0 0) ∷ number 0 ∷ []))
no_default_of_another_kind = (refl, refl, refl)

pub nothing_behind_a_statement : Refused in_line (Do (Word key.Kill ∷ Word key.Oneself ∷ Word key.Null ∷ [])) (Do (Word key.Kill ∷ Word key.Oneself ∷ []))
nothing_behind_a_statement = (refl, refl, refl)

pub a_statement_to_its_end : Refused in_line (Do (Word key.Kill ∷ [])) (Do (Word key.Kill ∷ Word key.Oneself ∷ []))
a_statement_to_its_end = (refl, refl, refl)

-- any component may be given, also one without fields
pub a_component_without_fields_is_given : admits decls (behind in_line) (Do (Word key.Give ∷ Word key.Oneself ∷ Pool 4 ∷ [])) ≡ true
a_component_without_fields_is_given = refl

pub a_value_for_each_field : Refused in_line (Do (Word key.Bear ∷ Pool 0 ∷ number 1 ∷ [])) (Do (Word key.Bear ∷ Pool 0 ∷ number 1 ∷ number 2 ∷ []))
a_value_for_each_field = (refl, refl, refl)

-- ---- nesting

-- sums in sums: so many levels
abbrev sums : ℕ → List Token
sums levels = flat_map (λ n. Word key.Plus ∷ number 1 ∷ []) (range_with_len 1 levels) ++ number 1 ∷ []

pub sixteen_levels : (fills decls access (Value Int 16 ∷ []) (sums 15) ≡ true) × (nesting (sums 15) ≡ 16)
sixteen_levels = (refl, refl)

pub not_seventeen_levels : (fills decls access (Value Int 16 ∷ []) (sums 16) ≡ false) × (nesting (sums 16) ≡ 17)
not_seventeen_levels = (refl, refl)

-- names and fields don't nest: `at at self position.0 .. ` has the depth of its expressions alone
pub names_do_not_nest : nesting (Word key.Has ∷ Word key.Oneself ∷ Pool 0 ∷ []) ≡ 2
names_do_not_nest = refl
