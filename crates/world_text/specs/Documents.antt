-- Documents: which bytes stand for which world and systems, where the first bad line of other bytes is, and the one canonical text.
use Rattle.std.specs.Prelude.{◌≡◌, ◌≢◌, ℕ, ℤ, ◌+◌, ◌≤◌, true, false, List, [], ◌∷◌, ◌++◌, map, length, take}
use Rattle.std.specs.List.{flat_map, AllByRecursion, zip}
use Rattle.std.specs.List.Sorted.{IsNonDecreasing}
use Rattle.entity_id.specs.declared.entity.Profile.{Profile}
use Rattle.entity_id.specs.declared.entity.Entity.{Entity}
use Rattle.entity_id.specs.Fields.{entity_in}
use Rattle.world_model.specs.declared.component.Decl.{Decl}
use Rattle.world_model.specs.declared.component.Kind.{Kind}
use Rattle.world_model.specs.declared.component.Kind.TheVariants as kind
use Rattle.world_model.specs.declared.component.Row.{Row}
use Rattle.world_model.specs.declared.group.GroupDecl.{GroupDecl}
use Rattle.world_model.specs.Components.{kinds_of}
use Rattle.world_model.specs.Worlds.{IsLawful}
use Rattle.row_lang.specs.Naming.{AreNamedDecls, names_of}
use Rattle.row_lang.specs.Systems.{System, IsSystem, body_lines}
use Rattle.world_text.specs.declared.format.Format.{Format}
use Rattle.world_text.specs.declared.section.Section.TheVariants as section
use Rattle.world_text.specs.declared.document.Document.{Document}
use Rattle.world_text.specs.FieldValues.{FieldValue}
use Rattle.world_text.specs.FieldValues as value
use Rattle.world_text.specs.LineKinds.{Line, NamedGroup}
use Rattle.world_text.specs.LineKinds as line
use Rattle.world_text.specs.Formats.{tick_limit, version_1}
use Rattle.world_text.specs.Lines.{IsLine, line_text, text_of}
use Rattle.row_lang.specs.NameLists.{name_at}
use Rattle.world_text.specs.Meaning.{world_of}
use Rattle.world_text.specs.Fitting.{last_section, fits, fit_after, are_different}
use Rattle.world_text.specs.SystemLines.{systems_in, commands_of, system_limit, document_command_limit}

-- admissible lines: each is a line of the format, and each is admissible after those before it
pub record AreAdmissible (format : Format) (lines : List Line) : Type 0 where
  pub each : AllByRecursion (IsLine format) lines
  pub fit : fit_after format [] lines ≡ true

-- these bytes are a document of this format: admissible lines, up to its end, that stand for this world and these systems
pub record IsDocumentOf (format : Format) (bytes : List ℕ) (document : Document) : Type 0 where
  pub lines : List Line
  pub admissible : AreAdmissible format lines
  pub ended : last_section lines ≡ section.End
  pub spelled : bytes ≡ text_of format lines
  pub world_is : document.world ≡ world_of format lines
  pub systems_are : document.systems ≡ (systems_in lines).closed

-- the line of this number is the first that is not admissible, or that is missing: the lines before it are admissible, what
-- stands behind them does not begin with an admissible line and its end, and where nothing stands there they have not reached
-- the end
pub record IsBadLineOf (format : Format) (bytes : List ℕ) (number : ℕ) : Type 0 where
  pub lines : List Line
  pub rest : List ℕ
  pub counted : number ≡ length lines + 1
  pub admissible : AreAdmissible format lines
  pub spelled : bytes ≡ text_of format lines ++ rest
  pub no_line : (l : Line) (more : List ℕ) → IsLine format l → rest ≡ line_text format l ++ 10 ∷ more → fits format lines l ≡ false
  pub no_end : rest ≡ [] → last_section lines ≢ section.End

-- a text begins with a document, which has so many lines; the rest is what stands behind its end
pub record IsFrontOf (format : Format) (bytes : List ℕ) (document : Document) (count : ℕ) (rest : List ℕ) : Type 0 where
  pub lines : List Line
  pub admissible : AreAdmissible format lines
  pub ended : last_section lines ≡ section.End
  pub counted : count ≡ length lines
  pub spelled : bytes ≡ text_of format lines ++ rest
  pub world_is : document.world ≡ world_of format lines
  pub systems_are : document.systems ≡ (systems_in lines).closed

-- the line of this number is the first that is not admissible in the document at the front of a text, or that is missing there:
-- the lines before it have not reached the document's end
pub record IsBadFrontOf (format : Format) (bytes : List ℕ) (number : ℕ) : Type 0 where
  pub bad : IsBadLineOf format bytes number
  pub unfinished : last_section bad.lines ≢ section.End

-- a document, whose format is version 1
abbrev pub IsDocument : List ℕ → Document → Type 0
IsDocument bytes document = IsDocumentOf version_1 bytes document

-- the first bad line of what is no document
abbrev pub IsBadLine : List ℕ → ℕ → Type 0
IsBadLine bytes number = IsBadLineOf version_1 bytes number

-- a document at the front of a text, up to the rest
abbrev pub IsFront : List ℕ → Document → ℕ → List ℕ → Type 0
IsFront bytes document count rest = IsFrontOf version_1 bytes document count rest

-- the first bad line of what has no document at its front
abbrev pub IsBadFront : List ℕ → ℕ → Type 0
IsBadFront bytes number = IsBadFrontOf version_1 bytes number

-- each list of a group is in ascending number
pub record HasAscendingLists (decl : GroupDecl) : Type 0 where
  pub own : IsNonDecreasing decl.own
  pub get : IsNonDecreasing decl.get
  pub without : IsNonDecreasing decl.without

-- lawful systems under these components: not too many, each one that admissible lines of a system stand for, no two of one name, and not
-- too many command statements in all
pub record AreLawfulSystems (decls : List Decl) (systems : List System) : Type 0 where
  pub few : length systems ≤ system_limit
  pub each : AllByRecursion (IsSystem decls) systems
  pub apart : are_different (map (λ system. system.name) systems) ≡ true
  pub commands : commands_of systems ≤ document_command_limit

-- a lawful document of this format: a lawful world of its profile, with a tick number within the limit, whose groups have ascending
-- lists, and whose components have names of the form of names, no two the same; and lawful systems under these components
pub record IsLawfulDocumentOf (format : Format) (document : Document) : Type 0 where
  pub world : IsLawful format.slot_limit document.world
  pub profile : document.world.profile ≡ format.profile
  pub tick : document.world.tick ≤ tick_limit
  pub ascending : AllByRecursion HasAscendingLists document.world.groups
  pub named : AreNamedDecls document.world.decls
  pub systems : AreLawfulSystems document.world.decls document.systems

-- a lawful document
abbrev pub IsLawfulDocument : Document → Type 0
IsLawfulDocument document = IsLawfulDocumentOf version_1 document

-- ---- the canonical text

-- the value in a field of this kind
abbrev pub value_in : Profile → Kind → ℤ → FieldValue
value_in profile kind.Int field = value.Int field
value_in profile kind.Ref field = value.Ref (entity_in profile field)

-- the values in the fields of a component's row
abbrev pub values_in : Profile → Decl → Row → List FieldValue
values_in profile decl row = map (λ pair. value_in profile pair.0 pair.1) (zip (kinds_of decl) (take decl.count row.f))

-- a group with the names of its components
abbrev pub named_of : List Decl → GroupDecl → NamedGroup
named_of decls decl = record {
  own = map (name_at decls) decl.own;
  get = map (name_at decls) decl.get;
  without = map (name_at decls) decl.without;
}

-- the line of a group
abbrev pub group_line : List Decl → GroupDecl → Line
group_line decls decl = line.Group (named_of decls decl)

-- the lines of a system
abbrev pub system_lines : List Decl → System → List Line
system_lines decls system = line.System system.name ∷ map (line.Body (names_of decls)) (body_lines system)

-- the line of a row
abbrev pub row_line : Profile → Decl → Entity × Row → Line
row_line profile decl entry = line.Row entry.0 (values_in profile decl entry.1)

-- the lines of a component's rows
abbrev pub pool_lines : Profile → Decl × List (Entity × Row) → List Line
pool_lines profile pool = line.Pool pool.0.name ∷ map (row_line profile pool.0) pool.1

-- the header lines of a document: those of its components, its groups and its systems, in their one order
abbrev pub header_of : Document → List Line
header_of document =
    let world = document.world in
    map line.Component world.decls
    ++ (map (group_line world.decls) world.groups
    ++ flat_map (system_lines world.decls) document.systems)

-- the lines of a document, in their one order
abbrev pub lines_of : Document → List Line
lines_of document =
    let world = document.world in
    line.Version
    ∷ (header_of document
    ++ (line.Tick world.tick
    ∷ (map line.Slot world.slots
    ++ (map line.Next world.free
    ++ (flat_map (pool_lines world.profile) (zip world.decls world.pools)
    ++ line.End ∷ [])))))

-- the one canonical text of a document
abbrev pub text : Document → List ℕ
text document = text_of version_1 (lines_of document)
