-- Where a line is admissible: after which lines it may stand.
use Rattle.std.specs.Prelude.{ℕ, ◌-◌, Bool, true, false, ◌&&◌, ◌||◌, not, is_some, List, [], ◌∷◌, ◌++◌, length, slice_get, nat_lt, ◌==◌}
use Rattle.std.specs.List.{flat_map, list_any, list_all, zip}
use Rattle.std.specs.Option.{option_map_or}
use Rattle.std.specs.Str.{bytes_eq}
use Rattle.entity_id.specs.declared.entity.Entity.{Entity}
use Rattle.world_model.specs.declared.component.Decl.{Decl}
use Rattle.world_model.specs.declared.component.Kind.{Kind}
use Rattle.world_model.specs.declared.component.Kind.TheVariants as kind
use Rattle.world_model.specs.declared.component.Row.{Row}
use Rattle.world_model.specs.declared.group.GroupDecl.{GroupDecl}
use Rattle.world_model.specs.declared.slot.Slot.{Slot}
use Rattle.world_model.specs.Components.{kinds_of, has_name}
use Rattle.world_model.specs.Groups.{group_limit, is_well_formed, may_coexist}
use Rattle.world_model.specs.Slots.{is_live, is_free_at}
use Rattle.world_model.specs.Worlds.{component_limit}
use Rattle.row_lang.specs.BodyLines.{BodyLine, Do}
use Rattle.row_lang.specs.Systems.{admits, is_command}
use Rattle.world_text.specs.declared.format.Format.{Format}
use Rattle.world_text.specs.declared.section.Section.{Section}
use Rattle.world_text.specs.declared.section.Section.TheVariants as section
use Rattle.world_text.specs.FieldValues.{FieldValue}
use Rattle.world_text.specs.FieldValues as value
use Rattle.world_text.specs.LineKinds.{Line, NamedGroup}
use Rattle.world_text.specs.LineKinds as line
use Rattle.world_text.specs.Sections.{is_between, later}
use Rattle.world_text.specs.Meaning.{decl_in, groups_in, group_of, slot_in, next_in, pools_in, settled}
use Rattle.world_text.specs.SystemLines.{SystemsSoFar, systems_in, commands_so_far, system_limit, document_command_limit}

-- the part of the document that a line belongs to
abbrev pub section_of : Line → Section
section_of line.Version = section.Version
section_of (line.Component decl) = section.Components
section_of (line.Group named) = section.Groups
section_of (line.System name) = section.Systems
section_of (line.Body names body) = section.Systems
section_of (line.Tick tick) = section.Tick
section_of (line.Slot slot) = section.Slots
section_of (line.Next index) = section.FreeList
section_of (line.Pool name) = section.Pools
section_of (line.Row entity values) = section.Pools
section_of line.End = section.End

-- the latest part of the document that lines have reached
abbrev pub last_section : List Line → Section
last_section [] = section.Start
last_section (l ∷ lines) = later (section_of l) (last_section lines)

-- whether no name stands twice
abbrev pub are_different : List (List ℕ) → Bool
are_different [] = true
are_different (name ∷ names) = not (list_any (bytes_eq name) names) && are_different names

-- whether names are those of components, none twice
abbrev pub are_of_components : List Decl → List (List ℕ) → Bool
are_of_components decls names = list_all (λ name. list_any (has_name name) decls) names && are_different names

-- whether each list of a group line names components, none twice within the list
abbrev pub are_listed : List Decl → NamedGroup → Bool
are_listed decls named = are_of_components decls named.own && are_of_components decls named.get && are_of_components decls named.without

-- whether a group is well-formed and may be added to these: they are fewer than the limit, and it may stand beside each
abbrev pub may_join : List GroupDecl → GroupDecl → Bool
may_join groups decl = is_well_formed decl && (nat_lt (length groups) group_limit && list_all (may_coexist decl) groups)

-- whether a system stands unfinished
abbrev pub is_unfinished : SystemsSoFar → Bool
is_unfinished systems = is_some systems.unfinished

-- whether one more system of this name may begin: none stands unfinished, they are fewer than the limit, and none of them has the name
abbrev pub may_begin : SystemsSoFar → List ℕ → Bool
may_begin systems name =
    not (is_unfinished systems)
    && (nat_lt (length systems.closed) system_limit && not (list_any (λ system. bytes_eq system.name name) systems.closed))

-- whether these are the names of the components, by number
abbrev pub are_names_of : List Decl → List (List ℕ) → Bool
are_names_of [] [] = true
are_names_of (decl ∷ decls) (name ∷ names) = has_name name decl && are_names_of decls names
are_names_of _ _ = false

-- whether a line of a system is no command statement too many in the document
abbrev pub leaves_commands_few : SystemsSoFar → BodyLine → Bool
leaves_commands_few systems (Do tokens) = not (is_command tokens) || nat_lt (commands_so_far systems) document_command_limit
leaves_commands_few systems _ = true

-- whether a line goes on the unfinished system: there is one, and it admits the line, which is no command statement too many
abbrev pub goes_on_system : List Decl → SystemsSoFar → BodyLine → Bool
goes_on_system decls systems body =
    option_map_or (λ draft. admits decls draft body) systems.unfinished false && leaves_commands_few systems body

-- whether an index is to go on the free list: its slot is there and free, and it isn't on the list
abbrev pub is_unlisted : List Slot → List ℕ → ℕ → Bool
is_unlisted slots free index = is_free_at slots index && not (list_any (λ other. other == index) free)

-- whether every slot is live or on the free list
abbrev pub all_settled : List Line → Bool
all_settled lines = list_all (λ flag. flag) (settled lines)

-- whether a value is of the kind
abbrev pub is_of_kind : Kind → FieldValue → Bool
is_of_kind kind.Int (value.Int number) = true
is_of_kind kind.Ref (value.Ref entity) = true
is_of_kind _ _ = false

-- whether there is one value for each kind, of that kind
abbrev pub are_of_kinds : List Kind → List FieldValue → Bool
are_of_kinds kinds values = (length kinds == length values) && list_all (λ pair. is_of_kind pair.0 pair.1) (zip kinds values)

-- whether the last of the rows, if there is one, has a smaller index
abbrev pub is_above : List (Entity × Row) → Entity → Bool
is_above rows entity = option_map_or (λ entry. nat_lt entry.0.index entity.index) (slice_get rows (length rows - 1)) true

-- whether a row goes on the last of the pools: there is one, the identifier's index is above that of its last row, and the values
-- are of the kinds of that pool's component
abbrev pub goes_on_last : List Decl → List (List (Entity × Row)) → Entity → List FieldValue → Bool
goes_on_last decls pools entity values =
    option_map_or (λ rows. is_above rows entity) (slice_get pools (length pools - 1)) false
    && option_map_or (λ decl. are_of_kinds (kinds_of decl) values) (slice_get decls (length pools - 1)) false

-- whether a line is admissible after the lines before it
abbrev pub fits : Format → List Line → Line → Bool
fits format before line.Version = is_between section.Start section.Start (last_section before)
fits format before (line.Component decl) =
    is_between section.Version section.Components (last_section before)
    && (nat_lt (length (flat_map decl_in before)) component_limit && not (list_any (has_name decl.name) (flat_map decl_in before)))
fits format before (line.Group named) =
    is_between section.Version section.Groups (last_section before)
    && (are_listed (flat_map decl_in before) named && may_join (groups_in before) (group_of (flat_map decl_in before) named))
fits format before (line.System name) =
    is_between section.Version section.Systems (last_section before) && may_begin (systems_in before) name
fits format before (line.Body names body) =
    is_between section.Systems section.Systems (last_section before)
    && (are_names_of (flat_map decl_in before) names && goes_on_system (flat_map decl_in before) (systems_in before) body)
fits format before (line.Tick tick) =
    is_between section.Version section.Systems (last_section before) && not (is_unfinished (systems_in before))
fits format before (line.Slot slot) =
    is_between section.Tick section.Slots (last_section before) && nat_lt (length (flat_map slot_in before)) format.slot_limit
fits format before (line.Next index) =
    is_between section.Tick section.FreeList (last_section before) && is_unlisted (flat_map slot_in before) (flat_map next_in before) index
fits format before (line.Pool name) =
    is_between section.Tick section.Pools (last_section before)
    && (all_settled before && option_map_or (has_name name) (slice_get (flat_map decl_in before) (length (pools_in format.profile before))) false)
fits format before (line.Row entity values) =
    is_between section.Pools section.Pools (last_section before)
    && (is_live (flat_map slot_in before) entity && goes_on_last (flat_map decl_in before) (pools_in format.profile before) entity values)
fits format before line.End =
    is_between section.Tick section.Pools (last_section before)
    && (all_settled before && (length (pools_in format.profile before) == length (flat_map decl_in before)))

-- whether each line is admissible after those before it
abbrev pub fit_after : Format → List Line → List Line → Bool
fit_after format before [] = true
fit_after format before (l ∷ lines) = fits format before l && fit_after format (before ++ l ∷ []) lines
