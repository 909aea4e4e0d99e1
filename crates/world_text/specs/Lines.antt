-- The lines of a document, and how each is spelled.
use Rattle.std.specs.Prelude.{◌≡◌, ℕ, ◌<◌, ◌≤◌, true, List, [], ◌∷◌, ◌++◌, length, codes, IsTrue, if◌then◌else◌}
use Rattle.std.specs.List.{flat_map, AllByRecursion}
use Rattle.std.specs.Fmt.{decimal, signed_decimal}
use Rattle.entity_id.specs.declared.entity.Profile.{Profile}
use Rattle.entity_id.specs.declared.entity.Entity.{Entity}
use Rattle.entity_id.specs.Identifiers.{IsOfProfile}
use Rattle.entity_id.specs.Texts.{entity_text}
use Rattle.world_model.specs.declared.component.Decl.{Decl}
use Rattle.world_model.specs.declared.component.Kind.{Kind}
use Rattle.world_model.specs.declared.component.Kind.TheVariants as kind
use Rattle.world_model.specs.Components.{kinds_of, is_target}
use Rattle.world_model.specs.Integers.{IsI64}
use Rattle.world_model.specs.Names.{is_name}
use Rattle.row_lang.specs.BodyLines.{BodyLine}
use Rattle.row_lang.specs.NameLists.{spaced_names, names_behind}
use Rattle.row_lang.specs.Naming.{IsNamedDecl}
use Rattle.row_lang.specs.Spelling.{IsBodyLine, first_line_text, body_line_text}
use Rattle.world_text.specs.declared.format.Format.{Format}
use Rattle.world_text.specs.Formats.{tick_limit}
use Rattle.world_text.specs.FieldValues.{FieldValue}
use Rattle.world_text.specs.FieldValues as value
use Rattle.world_text.specs.LineKinds.{Line, NamedGroup}
use Rattle.world_text.specs.LineKinds as line

-- ---- spelling

-- a kind behind a space
abbrev pub kind_text : Kind → List ℕ
kind_text kind.Int = codes " int"
kind_text kind.Ref = codes " entity"

-- a value
abbrev pub value_text : Profile → FieldValue → List ℕ
value_text profile (value.Int number) = signed_decimal number
value_text profile (value.Ref entity) = entity_text profile entity

-- values, each behind a space (32)
abbrev pub values_text : Profile → List FieldValue → List ℕ
values_text profile values = flat_map (λ v. 32 ∷ value_text profile v) values

-- what a component line says: its name, and its kinds, each behind a space
abbrev pub decl_text : Decl → List ℕ
decl_text decl = decl.name ++ flat_map kind_text (kinds_of decl)

-- what a group line says: the names that it owns, and behind their words those that it observes and those that it excludes
abbrev pub lists_text : NamedGroup → List ℕ
lists_text named =
    codes " own" ++ (spaced_names named.own ++ (names_behind (codes " get") named.get ++ names_behind (codes " not") named.without))

-- a line without its end
abbrev pub line_text : Format → Line → List ℕ
line_text format line.Version = codes "world " ++ decimal format.version
line_text format (line.Component decl) = codes "component " ++ decl_text decl
line_text format (line.Group named) = codes "group" ++ lists_text named
line_text format (line.System name) = first_line_text name
line_text format (line.Body names body) = body_line_text names body
line_text format (line.Tick tick) = codes "tick " ++ decimal tick
line_text format (line.Slot slot) = (if slot.live then codes "live " else codes "free ") ++ decimal slot.version
line_text format (line.Next index) = codes "next " ++ decimal index
line_text format (line.Pool name) = codes "pool " ++ name
line_text format (line.Row entity values) = codes "row " ++ (entity_text format.profile entity ++ values_text format.profile values)
line_text format line.End = codes "end"

-- the bytes of lines, each with its end, a line feed (10)
abbrev pub text_of : Format → List Line → List ℕ
text_of format lines = flat_map (λ l. line_text format l ++ 10 ∷ []) lines

-- ---- which lines there are

-- The limit of 4,096 bytes for a line refuses long `do` lines of systems: it is a part of `IsBodyLine`. Of the other lines here it refuses
-- none that fits: the longest in version 1 is the line of a list of a system, of 534 bytes, with 16 names of 32 bytes. Of the lines of a
-- script it refuses long group lines alone, which may name every component in each list (`GroupLines.antt`); of the others the longest is an
-- `all_of` or `any_of` line of 547 bytes, with 16 names of 32 bytes.

-- a number of 64 bits, or null, or an identifier both of whose parts are below the limits
abbrev pub IsValue : Profile → FieldValue → Type 0
IsValue profile (value.Int number) = IsI64 number
IsValue profile (value.Ref entity) = IsTrue (is_target profile entity)

-- names of the form of names, of which one or more are owned
pub record IsNamedGroup (named : NamedGroup) : Type 0 where
  pub own : AllByRecursion (λ name. is_name name ≡ true) named.own
  pub get : AllByRecursion (λ name. is_name name ≡ true) named.get
  pub without : AllByRecursion (λ name. is_name name ≡ true) named.without
  pub some : 0 < length named.own

-- a line of a system, which calls the components by names of the form of names
pub record IsSystemLine (names : List (List ℕ)) (body : BodyLine) : Type 0 where
  pub named : AllByRecursion (λ name. is_name name ≡ true) names
  pub is : IsBodyLine names body

-- the row of an identifier of the profile, with at most 4 values
pub record IsRowLine (format : Format) (entity : Entity) (values : List FieldValue) : Type 0 where
  pub of_profile : IsOfProfile format.profile entity
  pub few : length values ≤ 4
  pub each : AllByRecursion (IsValue format.profile) values

-- a line of the format: its numbers are within the limits, its names have the form of names
abbrev pub IsLine : Format → Line → Type 0
IsLine format line.Version = Unit {0}
IsLine format (line.Component decl) = IsNamedDecl decl
IsLine format (line.Group named) = IsNamedGroup named
IsLine format (line.System name) = is_name name ≡ true
IsLine format (line.Body names body) = IsSystemLine names body
IsLine format (line.Tick tick) = tick ≤ tick_limit
IsLine format (line.Slot slot) = slot.version < format.profile.version_limit
IsLine format (line.Next index) = index < format.slot_limit
IsLine format (line.Pool name) = is_name name ≡ true
IsLine format (line.Row entity values) = IsRowLine format entity values
IsLine format line.End = Unit {0}
