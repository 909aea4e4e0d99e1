-- What a reader's draft stands for.
use Rattle.std.specs.Prelude.{◌≡◌, ℕ, ◌-◌, Bool, true, false, ◌&&◌, is_some, List, ◌∷◌, ◌++◌, [], length, slice_get, slice_index_or}
use Rattle.std.specs.Option.{option_map_or}
use Rattle.entity_id.specs.declared.entity.Entity.{Entity}
use Rattle.world_model.specs.declared.component.Row.{Row}
use Rattle.world_model.specs.declared.group.GroupDecl.{GroupDecl}
use Rattle.world_model.specs.Components.{kinds_of}
use Rattle.world_text.specs.FieldValues.{FieldValue}
use Rattle.world_text.specs.LineKinds as line
use Rattle.row_lang.specs.BodyLines.{BodyLine}
use Rattle.row_lang.specs.Naming.{names_of}
use Rattle.row_lang.specs.Spelling.{IsBodyLine, body_line_text}
use Rattle.world_text.specs.declared.document.Document.{Document}
use Rattle.world_text.specs.declared.section.Section.TheVariants as section
use Rattle.world_text.specs.Sections.{is_between}
use Rattle.world_text.specs.SystemLines.{SystemsSoFar, systems_in}
use Rattle.std.specs.List.{flat_map}
use Rattle.world_model.specs.declared.world.World.{World}
use Rattle.world_text.specs.LineKinds.{Line, NamedGroup}
use Rattle.world_text.specs.declared.draft.Draft.{Draft}
use Rattle.world_text.specs.Lines.{IsLine, line_text}
use Rattle.world_text.specs.Meaning.{decl_in, groups_in, group_of, tick_in, slot_in, next_in, row_of, pools_in, settled}
use Rattle.world_text.specs.Fitting.{are_listed, are_of_kinds, last_section, fits}

-- the systems of a draft
abbrev pub systems_so_far : Draft → SystemsSoFar
systems_so_far draft = record { closed = draft.systems.items; unfinished = draft.unfinished }

-- the draft after these lines
pub record Stands (draft : Draft) (lines : List Line) : Type 0 where
  pub section : draft.section ≡ last_section lines
  pub decls : draft.decls.items ≡ flat_map decl_in lines
  pub groups : draft.groups.items ≡ groups_in lines
  pub systems : systems_so_far draft ≡ systems_in lines
  pub tick : draft.tick ≡ slice_index_or (flat_map tick_in lines) 0 0
  pub slots : draft.slots.items ≡ flat_map slot_in lines
  pub free : draft.free.items ≡ flat_map next_in lines
  pub settled : draft.settled.items ≡ settled lines
  pub pools : draft.pools.items ≡ pools_in draft.format.profile lines

-- a line fits, whichever lines the draft stands for, and the new draft stands for it too, in the same format
pub record Takes (old : Draft) (line : Line) (new : Draft) : Type 0 where
  pub format : new.format ≡ old.format
  pub fit : (before : List Line) → Stands old before → fits old.format before line ≡ true
  pub stands : (before : List Line) → Stands old before → Stands new (before ++ line ∷ [])

-- a line doesn't fit, whichever lines the draft stands for
abbrev pub Refuses : Draft → Line → Type 0
Refuses draft line = (before : List Line) → Stands draft before → fits draft.format before line ≡ false

-- a group is added, whichever names it has in its line
abbrev pub TakesGroup : Draft → GroupDecl → Draft → Type 0
TakesGroup old decl new =
    (named : NamedGroup) → decl ≡ group_of old.decls.items named → are_listed old.decls.items named ≡ true → Takes old (line.Group named) new

-- no line of this group fits
abbrev pub RefusesGroup : Draft → GroupDecl → Type 0
RefusesGroup draft decl = (named : NamedGroup) → decl ≡ group_of draft.decls.items named → Refuses draft (line.Group named)

-- whether the next line is one of a system: one stands unfinished
abbrev pub goes_on : Draft → Bool
goes_on draft = is_between section.Systems section.Systems draft.section && is_some draft.unfinished

-- a text spells a line of a system, by the names of the components, and the line is added
pub record TakesBody (old : Draft) (text : List ℕ) (new : Draft) : Type 0 where
  pub body : BodyLine
  pub is : IsBodyLine (names_of old.decls.items) body
  pub spelled : text ≡ body_line_text (names_of old.decls.items) body
  pub taken : Takes old (line.Body (names_of old.decls.items) body) new

-- no line of a system that a text spells fits
abbrev pub RefusesBody : Draft → List ℕ → Type 0
RefusesBody draft text =
    (body : BodyLine) → IsBodyLine (names_of draft.decls.items) body → text ≡ body_line_text (names_of draft.decls.items) body
    → Refuses draft (line.Body (names_of draft.decls.items) body)

-- whether values are of the kinds of the last pool's component
abbrev pub are_of_last_kinds : Draft → List FieldValue → Bool
are_of_last_kinds draft values =
    option_map_or (λ decl. are_of_kinds (kinds_of decl) values) (slice_get draft.decls.items (length draft.pools.items - 1)) false

-- a row goes on the last pool, whichever values it holds that are of the kinds of that pool's component
abbrev pub TakesRow : Draft → Entity → Row → Draft → Type 0
TakesRow old entity row new =
    (values : List FieldValue) → row ≡ row_of old.format.profile values → are_of_last_kinds old values ≡ true → Takes old (line.Row entity values) new

-- no row of this identifier goes on the last pool
abbrev pub RefusesRow : Draft → Entity → Type 0
RefusesRow draft entity = (values : List FieldValue) → Refuses draft (line.Row entity values)

-- the front of a text is a line that fits, with its end, and after is what stands behind it
pub record TakesLine (old : Draft) (bytes after : List ℕ) (new : Draft) : Type 0 where
  pub line : Line
  pub is : IsLine old.format line
  pub spelled : bytes ≡ line_text old.format line ++ 10 ∷ after
  pub taken : Takes old line new

-- no line that fits begins a text
abbrev pub RefusesLine : Draft → List ℕ → Type 0
RefusesLine draft bytes = (l : Line) (more : List ℕ) → IsLine draft.format l → bytes ≡ line_text draft.format l ++ 10 ∷ more → Refuses draft l

-- a line that isn't one of a system, behind its first
abbrev pub IsNoBody : Line → Type 0
IsNoBody (line.Body names body) = ⊥
IsNoBody _ = Unit {0}

-- no line that fits begins a text, but perhaps a line of a system
abbrev pub RefusesOthers : Draft → List ℕ → Type 0
RefusesOthers draft bytes =
    (l : Line) (more : List ℕ) → IsNoBody l → IsLine draft.format l → bytes ≡ line_text draft.format l ++ 10 ∷ more → Refuses draft l

-- the world of a draft
abbrev pub world_in : Draft → World
world_in draft = record {
  profile = draft.format.profile;
  decls = draft.decls.items;
  groups = draft.groups.items;
  tick = draft.tick;
  slots = draft.slots.items;
  free = draft.free.items;
  pools = draft.pools.items;
}

-- the document of a draft
abbrev pub document_in : Draft → Document
document_in draft = record { world = world_in draft; systems = draft.systems.items }
