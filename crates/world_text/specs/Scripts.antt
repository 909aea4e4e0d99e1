-- Scripts: which lines they have, and which line of an input is the first bad one. What they do stands in `Playing.antt`.
use Rattle.std.specs.Prelude.{◌≡◌, ◌≢◌, ◌⊎◌, ℕ, ◌+◌, ◌≤◌, ℤ, List, [], ◌∷◌, ◌++◌, length, slice_get, codes, Some, IsPermutation}
use Rattle.std.specs.List.{flat_map, AllByRecursion, AllZip}
use Rattle.std.specs.Option.{option_map_or}
use Rattle.std.specs.Fmt.{decimal}
use Rattle.entity_id.specs.declared.entity.Entity.{Entity}
use Rattle.entity_id.specs.declared.entity.Profile.{Profile}
use Rattle.entity_id.specs.Identifiers.{IsOfProfile}
use Rattle.entity_id.specs.Texts.{entity_text}
use Rattle.world_model.specs.declared.command.Command.{Command}
use Rattle.world_model.specs.declared.command.Command.TheVariants as command
use Rattle.world_model.specs.declared.component.Decl.{Decl}
use Rattle.world_model.specs.declared.component.Kind.TheVariants.{Int}
use Rattle.world_model.specs.declared.component.Row.{Row}
use Rattle.world_model.specs.declared.event.EventKind.{EventKind}
use Rattle.world_model.specs.declared.event.EventKind.TheVariants as event
use Rattle.world_model.specs.declared.group.GroupDecl.{GroupDecl}
use Rattle.world_model.specs.Conditions.{MaySet, MaySetField, MayView}
use Rattle.world_text.specs.declared.document.Document.{Document}
use Rattle.world_text.specs.declared.script.ScriptLine.{ScriptLine}
use Rattle.world_text.specs.declared.script.ScriptLine.TheVariants.{Run, Watch, Unwatch}
use Rattle.world_text.specs.Documents.{IsFrontOf, IsBadFrontOf, value_in, values_in}
use Rattle.world_text.specs.Formats.{version_1}
use Rattle.world_text.specs.GroupLines.{group_text, IsGroupLine, IsGroupWrittenAs}
use Rattle.world_text.specs.Lines.{value_text, values_text}
use Rattle.row_lang.specs.FieldNames.{kind_at, field_text}
use Rattle.row_lang.specs.NameLists.{name_at, names_text, part_text, IsCalled, AreKept, AreNamedOnce}

-- ---- spelling

-- the values of a row of a component, each behind a space
abbrev pub row_text : Profile → List Decl → ℕ → Row → List ℕ
row_text profile decls pool row = values_text profile (option_map_or (λ decl. values_in profile decl row) (slice_get decls pool) [])

-- an identifier, and behind a space (32) the name of a component
abbrev pub entry_text : Profile → List Decl → Entity → ℕ → List ℕ
entry_text profile decls entity pool = entity_text profile entity ++ 32 ∷ name_at decls pool

-- a value of a field of a component
abbrev pub field_value_text : Profile → List Decl → ℕ → ℕ → ℤ → List ℕ
field_value_text profile decls pool field value = option_map_or (λ kind. value_text profile (value_in profile kind value)) (kind_at decls pool field) []

-- a command that names components in the order in which it lists them, without the end of its line
abbrev pub command_text : Profile → List Decl → Command → List ℕ
command_text profile decls command.Create = codes "create"
command_text profile decls (command.Hint entity) = codes "hint " ++ entity_text profile entity
command_text profile decls (command.Destroy entity) = codes "destroy " ++ entity_text profile entity
command_text profile decls (command.Valid entity) = codes "valid " ++ entity_text profile entity
command_text profile decls (command.Emplace entity pool row) = codes "emplace " ++ (entry_text profile decls entity pool ++ row_text profile decls pool row)
command_text profile decls (command.EmplaceOrReplace entity pool row) =
    codes "emplace_or_replace " ++ (entry_text profile decls entity pool ++ row_text profile decls pool row)
command_text profile decls (command.Replace entity pool row) = codes "replace " ++ (entry_text profile decls entity pool ++ row_text profile decls pool row)
command_text profile decls (command.Patch entity pool field value) =
    codes "patch " ++ (entity_text profile entity ++ 32 ∷ (field_text decls pool field ++ 32 ∷ field_value_text profile decls pool field value))
command_text profile decls (command.Remove entity pool) = codes "remove " ++ entry_text profile decls entity pool
command_text profile decls (command.Erase entity pool) = codes "erase " ++ entry_text profile decls entity pool
command_text profile decls (command.Clear pool) = codes "clear " ++ name_at decls pool
command_text profile decls (command.Get entity pool) = codes "get " ++ entry_text profile decls entity pool
command_text profile decls (command.AllOf entity pools) = codes "all_of " ++ (entity_text profile entity ++ names_text decls pools)
command_text profile decls (command.AnyOf entity pools) = codes "any_of " ++ (entity_text profile entity ++ names_text decls pools)
command_text profile decls (command.Orphan entity) = codes "orphan " ++ entity_text profile entity
command_text profile decls command.Alive = codes "alive"
command_text profile decls command.Size = codes "size"
command_text profile decls (command.View all without) = codes "view" ++ (names_text decls all ++ part_text (codes " not") decls without)
command_text profile decls (command.Group group) = codes "group" ++ group_text decls group
command_text profile decls (command.Members group) = codes "members " ++ decimal group
command_text profile decls (command.SortPool pool field) = codes "sort pool " ++ field_text decls pool field
command_text profile decls (command.SortGroup group pool field) = codes "sort group " ++ (decimal group ++ 32 ∷ field_text decls pool field)

-- the word for a kind of events
abbrev pub event_word : EventKind → List ℕ
event_word event.Construct = codes "construct"
event_word event.Update = codes "update"
event_word event.Destroy = codes "destroy"

-- a line of a script between its first and its last one, with its end, a line feed (10)
abbrev pub script_line_text : Profile → List Decl → ScriptLine → List ℕ
script_line_text profile decls (Run command) = command_text profile decls command ++ 10 ∷ []
script_line_text profile decls (Watch kind pool) = (codes "watch " ++ (event_word kind ++ 32 ∷ name_at decls pool)) ++ 10 ∷ []
script_line_text profile decls (Unwatch number) = (codes "unwatch " ++ decimal number) ++ 10 ∷ []

-- a command as a script may write it: the components that a command lists may be named in any order
abbrev pub IsWrittenAs : Command → Command → Type 0
IsWrittenAs (command.AllOf entity pools) written = (order : List ℕ) × IsPermutation order pools × (written ≡ command.AllOf entity order)
IsWrittenAs (command.AnyOf entity pools) written = (order : List ℕ) × IsPermutation order pools × (written ≡ command.AnyOf entity order)
IsWrittenAs (command.View all without) written =
    (order : List ℕ) × (excluded : List ℕ) × IsPermutation order all × IsPermutation excluded without × (written ≡ command.View order excluded)
IsWrittenAs (command.Group group) written = (order : GroupDecl) × IsGroupWrittenAs group order × (written ≡ command.Group order)
IsWrittenAs command written = written ≡ command

-- a line as a script may write it
abbrev pub IsLineWrittenAs : ScriptLine → ScriptLine → Type 0
IsLineWrittenAs (Run command) line = (written : Command) × IsWrittenAs command written × (line ≡ Run written)
IsLineWrittenAs (Watch kind pool) line = line ≡ Watch kind pool
IsLineWrittenAs (Unwatch number) line = line ≡ Unwatch number

-- the first line of a script
abbrev pub first_line : List ℕ
first_line = codes "script\n"

-- the last line of a script
abbrev pub last_line : List ℕ
last_line = codes "end\n"

-- the lines of a script without its last one, as they are written
abbrev pub begun_text : Profile → List Decl → List ScriptLine → List ℕ
begun_text profile decls lines = first_line ++ flat_map (script_line_text profile decls) lines

-- ---- which lines there are

-- the entity of a command is an identifier of the profile, and its component is one that its name tells
pub record IsEntry (profile : Profile) (decls : List Decl) (entity : Entity) (pool : ℕ) : Type 0 where
  pub of_profile : IsOfProfile profile entity
  pub called : IsCalled decls pool

-- the components that a query lists, and those that it lists behind `not`: one of the first or more, not more than 16 in all, none twice,
-- each list in ascending number
pub record AreLists (decls : List Decl) (all without : List ℕ) : Type 0 where
  pub bounds : MayView all without
  pub once : AreNamedOnce (all ++ without)
  pub kept : AreKept decls all
  pub kept_without : AreKept decls without

-- the greatest number of a watch or of a group in a line
abbrev pub number_limit : ℕ
number_limit = 4294967295

-- a field that a sort goes by: an `int` field of a component that its name tells
pub record IsSortField (decls : List Decl) (pool field : ℕ) : Type 0 where
  pub called : IsCalled decls pool
  pub of_kind : kind_at decls pool field ≡ Some Int

-- the commands that a script can have, with identifiers of the profile, components that their names tell, rows and values that fit them,
-- groups that a line can have, numbers within the limit, and `int` fields to sort by
abbrev pub IsCommandLine : Profile → List Decl → Command → Type 0
IsCommandLine profile decls command.Create = Unit {0}
IsCommandLine profile decls (command.Hint entity) = IsOfProfile profile entity
IsCommandLine profile decls (command.Destroy entity) = IsOfProfile profile entity
IsCommandLine profile decls (command.Valid entity) = IsOfProfile profile entity
IsCommandLine profile decls (command.Emplace entity pool row) = IsEntry profile decls entity pool × MaySet profile decls pool row
IsCommandLine profile decls (command.EmplaceOrReplace entity pool row) = IsEntry profile decls entity pool × MaySet profile decls pool row
IsCommandLine profile decls (command.Replace entity pool row) = IsEntry profile decls entity pool × MaySet profile decls pool row
IsCommandLine profile decls (command.Patch entity pool field value) = IsEntry profile decls entity pool × MaySetField profile decls pool field value
IsCommandLine profile decls (command.Remove entity pool) = IsEntry profile decls entity pool
IsCommandLine profile decls (command.Erase entity pool) = IsEntry profile decls entity pool
IsCommandLine profile decls (command.Clear pool) = IsCalled decls pool
IsCommandLine profile decls (command.Get entity pool) = IsEntry profile decls entity pool
IsCommandLine profile decls (command.AllOf entity pools) = IsOfProfile profile entity × AreLists decls pools []
IsCommandLine profile decls (command.AnyOf entity pools) = IsOfProfile profile entity × AreLists decls pools []
IsCommandLine profile decls (command.Orphan entity) = IsOfProfile profile entity
IsCommandLine profile decls command.Alive = Unit {0}
IsCommandLine profile decls command.Size = Unit {0}
IsCommandLine profile decls (command.View all without) = AreLists decls all without
IsCommandLine profile decls (command.Group group) = IsGroupLine decls group
IsCommandLine profile decls (command.Members group) = group ≤ number_limit
IsCommandLine profile decls (command.SortPool pool field) = IsSortField decls pool field
IsCommandLine profile decls (command.SortGroup group pool field) = (group ≤ number_limit) × IsSortField decls pool field

-- the lines that a script can have
abbrev pub IsScriptLine : Profile → List Decl → ScriptLine → Type 0
IsScriptLine profile decls (Run command) = IsCommandLine profile decls command
IsScriptLine profile decls (Watch kind pool) = IsCalled decls pool
IsScriptLine profile decls (Unwatch number) = number ≤ number_limit

-- a text begins with a line of a script, and this stands behind it
pub record IsLineFirst (profile : Profile) (decls : List Decl) (bytes : List ℕ) (line : ScriptLine) (rest : List ℕ) : Type 0 where
  pub is : IsScriptLine profile decls line
  pub written : ScriptLine
  pub same : IsLineWrittenAs line written
  pub spelled : bytes ≡ script_line_text profile decls written ++ rest

-- a text is the line of this command, without its end
abbrev pub IsCommandText : Profile → List Decl → List ℕ → Command → Type 0
IsCommandText profile decls text command = IsLineFirst profile decls (text ++ 10 ∷ []) (Run command) []

-- ---- scripts

-- a text is a script of these lines
pub record IsScript (profile : Profile) (decls : List Decl) (bytes : List ℕ) (lines : List ScriptLine) : Type 0 where
  pub each : AllByRecursion (IsScriptLine profile decls) lines
  pub written : List ScriptLine
  pub same : AllZip IsLineWrittenAs lines written
  pub spelled : bytes ≡ begun_text profile decls written ++ last_line

-- how far a script has come: lines of a script, and what stands behind them
pub record IsBegun (profile : Profile) (decls : List Decl) (bytes : List ℕ) (lines : List ScriptLine) (rest : List ℕ) : Type 0 where
  pub each : AllByRecursion (IsScriptLine profile decls) lines
  pub written : List ScriptLine
  pub same : AllZip IsLineWrittenAs lines written
  pub spelled : bytes ≡ begun_text profile decls written ++ rest

-- behind these lines stands no further one, and not the last one
pub record IsBadNext (profile : Profile) (decls : List Decl) (bytes : List ℕ) (lines : List ScriptLine) (rest : List ℕ) : Type 0 where
  pub begun : IsBegun profile decls bytes lines rest
  pub no_line : (line : ScriptLine) (more : List ℕ) → IsLineFirst profile decls rest line more → ⊥
  pub no_end : (more : List ℕ) → rest ≢ last_line ++ more

-- a script has ended, and something stands behind it
pub record IsBadEnd (profile : Profile) (decls : List Decl) (bytes : List ℕ) (lines : List ScriptLine) (rest : List ℕ) : Type 0 where
  pub begun : IsBegun profile decls bytes lines (last_line ++ rest)
  pub more : rest ≢ []

-- the line of this number is the first of a text that is not admissible in a script, or that is missing: the first, where it is not a
-- script's first line; one behind lines of a script that is none, and not the last; or one behind the last
abbrev pub IsBadScriptLine : Profile → List Decl → List ℕ → ℕ → Type 0
IsBadScriptLine profile decls bytes number =
    ((number ≡ 1) × ((more : List ℕ) → bytes ≢ first_line ++ more))
    ⊎ ((lines : List ScriptLine) × (rest : List ℕ) × (number ≡ length lines + 2) × IsBadNext profile decls bytes lines rest)
    ⊎ ((lines : List ScriptLine) × (rest : List ℕ) × (number ≡ length lines + 3) × IsBadEnd profile decls bytes lines rest)

-- ---- a document with a script behind it

-- a text is a document with a script behind it
pub record IsScripted (bytes : List ℕ) (document : Document) (script : List ScriptLine) : Type 0 where
  pub count : ℕ
  pub rest : List ℕ
  pub front : IsFrontOf version_1 bytes document count rest
  pub behind : IsScript version_1.profile document.world.decls rest script

-- a bad line in the script behind a document
pub record IsBadBehind (bytes : List ℕ) (number : ℕ) : Type 0 where
  pub document : Document
  pub count : ℕ
  pub rest : List ℕ
  pub front : IsFrontOf version_1 bytes document count rest
  pub number_there : ℕ
  pub bad : IsBadScriptLine version_1.profile document.world.decls rest number_there
  pub counted : number ≡ count + number_there

-- the line of this number is the first of a text that is not admissible in a document or in the script behind it, or that is missing
abbrev pub IsBadScriptedLine : List ℕ → ℕ → Type 0
IsBadScriptedLine bytes number = IsBadFrontOf version_1 bytes number ⊎ IsBadBehind bytes number
