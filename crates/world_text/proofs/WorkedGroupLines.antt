-- Worked group lines of documents: what they stand for and how they are printed, those that are refused, each with one that fits in its
-- place, and the first bad line of a text.
use Rattle.std.proofs.Common.{◌≡◌, ℕ, true, false, List, [], ◌∷◌, ◌++◌, map, codes, refl, arith}
use Rattle.std.specs.Fmt.{digits, decimal}
use Rattle.std.specs.List.{range_with_len}
use Rattle.entity_id.specs.Identifiers.{p20_12}
use Rattle.world_model.specs.declared.component.Decl.{Decl}
use Rattle.world_model.specs.declared.component.Kind.TheVariants as kind
use Rattle.world_model.specs.declared.world.World.{World}
use Rattle.world_text.specs.LineKinds.{Line}
use Rattle.world_text.specs.LineKinds as line
use Rattle.world_text.specs.declared.section.Section.TheVariants as section
use Rattle.world_text.specs.Formats.{version_1}
use Rattle.row_lang.specs.Naming.{IsNamedDecl}
use Rattle.world_text.specs.Lines.{line_text, text_of}
use Rattle.world_text.specs.Meaning.{world_of}
use Rattle.world_text.specs.Fitting.{last_section, fits, fit_after}
use Rattle.world_text.specs.Documents.{lines_of, IsBadLine}
use Rattle.world_text.proofs.WorkedTexts.{first_bad}

-- ---- words for the lines below

-- a component without fields
abbrev tag : List ℕ → Decl
tag name = record { name = name; count = 0; kinds = kind.Int ∷ kind.Int ∷ kind.Int ∷ kind.Int ∷ [] }

-- the name of so many a component
abbrev name : ℕ → List ℕ
name number = codes "c" ++ decimal number

abbrev names : ℕ → ℕ → List (List ℕ)
names first count = map name (range_with_len first count)

-- the lines of so many components
abbrev components : ℕ → List Line
components count = line.Version ∷ map (λ number. line.Component (tag (name number))) (range_with_len 0 count)

abbrev own : List (List ℕ) → Line
own list = line.Group (record { own = list; get = []; without = [] })

abbrev group : List ℕ → List ℕ → List ℕ → Line
group of get without = line.Group (record { own = map name of; get = map name get; without = map name without })

-- in this place the first line is refused and the second fits
abbrev Refused : List Line → Line → Line → Type 0
Refused before bad good = (fits version_1 before bad ≡ false) × (fits version_1 before good ≡ true)

-- ---- what a group line stands for

abbrev small_lines : List Line
small_lines = components 4 ++ group (1 ∷ 0 ∷ []) [] (3 ∷ 2 ∷ []) ∷ group (0 ∷ 1 ∷ []) [] [] ∷ line.Tick 0 ∷ map (λ number. line.Pool (name number)) (range_with_len 0 4) ++ line.End ∷ []

abbrev small_world : World
small_world = record {
  profile = p20_12;
  decls = map (λ number. tag (name number)) (range_with_len 0 4);
  groups = record { own = 0 ∷ 1 ∷ []; get = []; without = 2 ∷ 3 ∷ [] } ∷ record { own = 0 ∷ 1 ∷ []; get = []; without = [] } ∷ [];
  tick = 0;
  slots = [];
  free = [];
  pools = [] ∷ [] ∷ [] ∷ [] ∷ [];
}

pub a_document_with_nested_groups_fits : (fit_after version_1 [] small_lines ≡ true) × (last_section small_lines ≡ section.End)
unfolding digits
a_document_with_nested_groups_fits = (refl, refl)

pub names_in_any_order_stand_for_ascending_lists : world_of version_1 small_lines ≡ small_world
unfolding digits
names_in_any_order_stand_for_ascending_lists = refl

pub a_group_line_is_spelled_with_its_words : line_text version_1 (group (1 ∷ []) (0 ∷ 2 ∷ []) (3 ∷ [])) ≡ codes "group own c1 get c0 c2 not c3"
unfolding digits
a_group_line_is_spelled_with_its_words = refl

pub groups_are_printed_behind_the_components : text_of version_1 (lines_of (record { world = small_world; systems = [] })) ≡
    codes "world 1\ncomponent c0\ncomponent c1\ncomponent c2\ncomponent c3\ngroup own c0 c1 not c2 c3\ngroup own c0 c1\ntick 0\npool c0\npool c1\npool c2\npool c3\nend\n"
unfolding digits
groups_are_printed_behind_the_components = refl

-- ---- which group lines are refused

pub a_name_of_no_component_is_refused : Refused (components 4) (group (0 ∷ []) (4 ∷ []) []) (group (0 ∷ []) (3 ∷ []) [])
unfolding digits
a_name_of_no_component_is_refused = (refl, refl)

pub a_name_twice_in_one_list_is_refused : Refused (components 4) (group (0 ∷ []) (2 ∷ 1 ∷ 2 ∷ []) []) (group (0 ∷ []) (2 ∷ 1 ∷ 3 ∷ []) [])
unfolding digits
a_name_twice_in_one_list_is_refused = (refl, refl)

pub a_name_in_two_lists_is_refused : Refused (components 4) (group (0 ∷ 1 ∷ []) [] (1 ∷ [])) (group (0 ∷ 1 ∷ []) [] (2 ∷ []))
unfolding digits
a_name_in_two_lists_is_refused = (refl, refl)

pub a_ninth_pool_is_refused : Refused (components 9) (own (names 0 9)) (own (names 1 8))
unfolding digits
a_ninth_pool_is_refused = (refl, refl)

pub the_same_group_is_refused : Refused (components 4 ++ group (0 ∷ 1 ∷ []) (2 ∷ []) [] ∷ []) (group (1 ∷ 0 ∷ []) (2 ∷ []) []) (group (1 ∷ 0 ∷ []) (2 ∷ 3 ∷ []) [])
unfolding digits
the_same_group_is_refused = (refl, refl)

pub a_group_in_conflict_is_refused : Refused (components 4 ++ group (0 ∷ 1 ∷ []) [] [] ∷ []) (group (1 ∷ 2 ∷ []) [] []) (group (2 ∷ 3 ∷ []) [] [])
unfolding digits
a_group_in_conflict_is_refused = (refl, refl)

-- 32 groups, each of which owns one component
abbrev many_groups : List Line
many_groups = components 34 ++ map (λ number. own (name number ∷ [])) (range_with_len 0 32)

pub a_33rd_group_is_refused : Refused many_groups (own (name 32 ∷ [])) (line.Tick 0)
unfolding digits
a_33rd_group_is_refused = (refl, refl)

pub a_component_behind_a_group_is_refused : Refused (components 1 ++ own (names 0 1) ∷ []) (line.Component (tag (name 1))) (line.Tick 0)
unfolding digits
a_component_behind_a_group_is_refused = (refl, refl)

pub a_group_behind_the_tick_is_refused : Refused (components 1 ++ line.Tick 0 ∷ []) (own (names 0 1)) (line.Pool (name 0))
unfolding digits
a_group_behind_the_tick_is_refused = (refl, refl)

pub a_group_before_the_components_is_refused : Refused (components 0) (own (names 0 1)) (line.Component (tag (name 0)))
unfolding digits
a_group_before_the_components_is_refused = (refl, refl)

-- ---- a text

tag_is_named : IsNamedDecl (tag (codes "a"))
tag_is_named = record { name = refl; fields = record { few = omega arith; long = refl; padded = refl } }

pub a_group_twice_is_line_4 : IsBadLine (codes "world 1\ncomponent a\ngroup own a\ngroup own a\ntick 0\n") 4
unfolding digits
a_group_twice_is_line_4 =
    first_bad (line.Version ∷ line.Component (tag (codes "a")) ∷ own (codes "a" ∷ []) ∷ []) (own (codes "a" ∷ [])) (codes "tick 0\n") (record { each = (tt, (tag_is_named, (record { own = (refl, tt); get = tt; without = tt; some = omega arith }, tt))); fit = refl })
    (record { own = (refl, tt); get = tt; without = tt; some = omega arith }) tt refl refl
