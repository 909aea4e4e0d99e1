-- Worked documents: lines that are refused, each with one that fits in its place, the world of lines, and the text of a world.
use Rattle.std.proofs.Common.{◌≡◌, ℕ, true, false, List, [], ◌∷◌, ◌++◌, codes, refl, pos, negsuc, ℤ}
use Rattle.std.specs.Fmt.{digits}
use Rattle.entity_id.specs.declared.entity.Entity.{Entity}
use Rattle.entity_id.specs.Identifiers.{p20_12, null}
use Rattle.world_model.specs.declared.component.Decl.{Decl}
use Rattle.world_model.specs.declared.component.Kind.{Kind}
use Rattle.world_model.specs.declared.component.Kind.TheVariants as kind
use Rattle.world_model.specs.declared.component.Row.{Row}
use Rattle.world_model.specs.declared.world.World.{World}
use Rattle.world_text.specs.FieldValues as value
use Rattle.world_text.specs.LineKinds.{Line}
use Rattle.world_text.specs.LineKinds as line
use Rattle.world_text.specs.declared.section.Section.TheVariants as section
use Rattle.world_text.specs.Formats.{version_1}
use Rattle.world_text.specs.Lines.{text_of}
use Rattle.world_text.specs.Meaning.{world_of}
use Rattle.world_text.specs.Fitting.{last_section, fits, fit_after}
use Rattle.world_text.specs.Documents.{lines_of}

-- ---- words for the lines below

abbrev id : ℕ → ℕ → Entity
id index version = record { index = index; version = version }

abbrev component : List ℕ → ℕ → Kind → Kind → Decl
component name count first second = record { name = name; count = count; kinds = first ∷ second ∷ kind.Int ∷ kind.Int ∷ [] }

-- a component without fields
abbrev tag : Decl
tag = component (codes "a") 0 kind.Int kind.Int

abbrev live : ℕ → Line
live version = line.Slot (record { version = version; live = true })

abbrev free : ℕ → Line
free version = line.Slot (record { version = version; live = false })

abbrev row : ℤ → ℤ → Row
row first second = record { f = first ∷ second ∷ pos 0 ∷ pos 0 ∷ [] }

-- in this place the first line is refused and the second fits
abbrev Refused : List Line → Line → Line → Type 0
Refused before bad good = (fits version_1 before bad ≡ false) × (fits version_1 before good ≡ true)

-- ---- the smallest document, and what may not follow it

abbrev header : List Line
header = line.Version ∷ line.Tick 0 ∷ []

abbrev empty_lines : List Line
empty_lines = header ++ line.End ∷ []

pub the_smallest_document_fits : (fit_after version_1 [] empty_lines ≡ true) × (last_section empty_lines ≡ section.End)
the_smallest_document_fits = (refl, refl)

-- without its last line it has not ended
pub a_document_without_an_end_is_not_ended : last_section header ≡ section.Tick
a_document_without_an_end_is_not_ended = refl

pub after_an_end_no_line_fits : (l : Line) → fits version_1 empty_lines l ≡ false
after_an_end_no_line_fits line.Version = refl
after_an_end_no_line_fits (line.Component decl) = refl
after_an_end_no_line_fits (line.Group named) = refl
after_an_end_no_line_fits (line.System name) = refl
after_an_end_no_line_fits (line.Body names body) = refl
after_an_end_no_line_fits (line.Tick tick) = refl
after_an_end_no_line_fits (line.Slot slot) = refl
after_an_end_no_line_fits (line.Next index) = refl
after_an_end_no_line_fits (line.Pool name) = refl
after_an_end_no_line_fits (line.Row entity values) = refl
after_an_end_no_line_fits line.End = refl

pub a_tick_does_not_come_first : Refused [] (line.Tick 0) line.Version
a_tick_does_not_come_first = (refl, refl)

pub a_second_format_line_is_refused : Refused (line.Version ∷ []) line.Version (line.Tick 0)
a_second_format_line_is_refused = (refl, refl)

pub a_second_tick_is_refused : Refused header (line.Tick 1) line.End
a_second_tick_is_refused = (refl, refl)

pub a_component_after_the_tick_is_refused : Refused header (line.Component tag) (live 0)
a_component_after_the_tick_is_refused = (refl, refl)

-- ---- slots and the free list

abbrev unnamed_slot : List Line
unnamed_slot = header ++ free 0 ∷ []

pub an_end_before_a_free_slot_is_named_is_refused : Refused unnamed_slot line.End (line.Next 0)
an_end_before_a_free_slot_is_named_is_refused = (refl, refl)

abbrev two_free_slots : List Line
two_free_slots = header ++ free 0 ∷ free 0 ∷ line.Next 1 ∷ []

pub a_second_next_of_one_slot_is_refused : Refused two_free_slots (line.Next 1) (line.Next 0)
a_second_next_of_one_slot_is_refused = (refl, refl)

pub a_next_of_no_slot_is_refused : Refused two_free_slots (line.Next 2) (line.Next 0)
a_next_of_no_slot_is_refused = (refl, refl)

pub a_slot_after_a_next_is_refused : Refused two_free_slots (live 0) (line.Next 0)
a_slot_after_a_next_is_refused = (refl, refl)

pub a_next_of_a_live_slot_is_refused : Refused (header ++ live 0 ∷ free 0 ∷ []) (line.Next 0) (line.Next 1)
a_next_of_a_live_slot_is_refused = (refl, refl)

-- ---- rows of free and live slots

abbrev one_free_slot : List Line
one_free_slot = line.Version ∷ line.Component tag ∷ line.Tick 0 ∷ free 0 ∷ line.Next 0 ∷ line.Pool (codes "a") ∷ []

abbrev one_live_slot : List Line
one_live_slot = line.Version ∷ line.Component tag ∷ line.Tick 0 ∷ live 0 ∷ line.Pool (codes "a") ∷ []

pub a_row_of_a_free_slot_is_refused : Refused one_free_slot (line.Row (id 0 0) []) line.End
a_row_of_a_free_slot_is_refused = (refl, refl)

pub a_row_of_another_version_is_refused : Refused one_live_slot (line.Row (id 0 1) []) (line.Row (id 0 0) [])
a_row_of_another_version_is_refused = (refl, refl)

pub a_row_of_null_is_refused : Refused one_live_slot (line.Row (null p20_12) []) (line.Row (id 0 0) [])
a_row_of_null_is_refused = (refl, refl)

pub a_row_of_the_index_limit_is_refused : Refused one_live_slot (line.Row (id 1048575 0) []) (line.Row (id 0 0) [])
a_row_of_the_index_limit_is_refused = (refl, refl)

-- ---- a document with lines of all kinds

abbrev position : Decl
position = component (codes "position") 2 kind.Int kind.Int

abbrev aim : Decl
aim = component (codes "aim") 2 kind.Ref kind.Int

abbrev slots_of_all_kinds : List Line
slots_of_all_kinds = live 0 ∷ free 4094 ∷ live 3 ∷ free 0 ∷ line.Next 3 ∷ line.Next 1 ∷ []

abbrev before_pools : List Line
before_pools = line.Version ∷ line.Component position ∷ line.Component aim ∷ line.Tick 7 ∷ slots_of_all_kinds

abbrev before_aim : List Line
before_aim = before_pools ++ line.Pool (codes "position") ∷ line.Row (id 0 0) (value.Int (negsuc 4) ∷ value.Int (pos 12) ∷ []) ∷ []

abbrev within_aim : List Line
within_aim = before_aim ++ line.Pool (codes "aim") ∷ line.Row (id 0 0) (value.Ref (null p20_12) ∷ value.Int (pos 1) ∷ []) ∷ []

abbrev last_row : Line
last_row = line.Row (id 2 3) (value.Ref (id 5 1) ∷ value.Int (negsuc 0) ∷ [])

abbrev full_lines : List Line
full_lines = within_aim ++ last_row ∷ line.End ∷ []

abbrev full_world : World
full_world = record {
  profile = p20_12;
  decls = position ∷ aim ∷ [];
  groups = [];
  tick = 7;
  slots = record { version = 0; live = true }
      ∷ record { version = 4094; live = false }
      ∷ record { version = 3; live = true }
      ∷ record { version = 0; live = false }
      ∷ [];
  free = 3 ∷ 1 ∷ [];
  pools = ((id 0 0, row (negsuc 4) (pos 12)) ∷ [])
      ∷ ((id 0 0, row (negsuc 0) (pos 1)) ∷ (id 2 3, row (pos 4294967301) (negsuc 0)) ∷ [])
      ∷ [];
}

pub the_full_document_fits : (fit_after version_1 [] full_lines ≡ true) × (last_section full_lines ≡ section.End)
the_full_document_fits = (refl, refl)

pub the_full_document_is_of_its_world : (world_of version_1 full_lines ≡ full_world) × (lines_of (record { world = full_world; systems = [] }) ≡ full_lines)
the_full_document_is_of_its_world = (refl, refl)

pub a_second_row_of_an_entity_is_refused : Refused within_aim (line.Row (id 0 0) (value.Ref (null p20_12) ∷ value.Int (pos 1) ∷ [])) last_row
a_second_row_of_an_entity_is_refused = (refl, refl)

pub a_row_of_another_order_of_kinds_is_refused : Refused within_aim (line.Row (id 2 3) (value.Int (pos 1) ∷ value.Ref (id 5 1) ∷ [])) last_row
a_row_of_another_order_of_kinds_is_refused = (refl, refl)

pub a_row_of_too_few_values_is_refused : Refused within_aim (line.Row (id 2 3) (value.Ref (id 5 1) ∷ [])) last_row
a_row_of_too_few_values_is_refused = (refl, refl)

pub a_row_of_too_many_values_is_refused : Refused within_aim (line.Row (id 2 3) (value.Ref (id 5 1) ∷ value.Int (pos 1) ∷ value.Int (pos 1) ∷ [])) last_row
a_row_of_too_many_values_is_refused = (refl, refl)

pub a_row_of_a_smaller_index_is_refused : Refused (within_aim ++ last_row ∷ []) (line.Row (id 0 0) (value.Ref (null p20_12) ∷ value.Int (pos 1) ∷ [])) line.End
a_row_of_a_smaller_index_is_refused = (refl, refl)

pub a_pool_out_of_its_place_is_refused : Refused before_pools (line.Pool (codes "aim")) (line.Pool (codes "position"))
a_pool_out_of_its_place_is_refused = (refl, refl)

pub a_second_pool_of_one_component_is_refused : Refused within_aim (line.Pool (codes "aim")) line.End
a_second_pool_of_one_component_is_refused = (refl, refl)

pub an_end_before_the_last_pool_is_refused : Refused before_aim line.End (line.Pool (codes "aim"))
an_end_before_the_last_pool_is_refused = (refl, refl)

pub a_second_component_of_one_name_is_refused : Refused (line.Version ∷ line.Component position ∷ []) (line.Component position) (line.Component aim)
a_second_component_of_one_name_is_refused = (refl, refl)

-- ---- the text of a small world

abbrev small_world : World
small_world = record {
  profile = p20_12;
  decls = component (codes "a") 2 kind.Int kind.Ref ∷ [];
  groups = [];
  tick = 10;
  slots = record { version = 0; live = true } ∷ record { version = 12; live = false } ∷ [];
  free = 1 ∷ [];
  pools = ((id 0 0, row (negsuc 1) (negsuc 0)) ∷ []) ∷ [];
}

pub the_text_of_a_small_world : text_of version_1 (lines_of (record { world = small_world; systems = [] })) ≡
    codes "world 1\ncomponent a int entity\ntick 10\nlive 0\nfree 12\nnext 1\npool a\nrow 0:0 -2 null\nend\n"
unfolding digits
the_text_of_a_small_world = refl
