-- What readers of parts of a script's line say, and those of a group's line in a document.
use Rattle.std.specs.Prelude.{◌≡◌, ◌⊎◌, ℕ, ℤ, ◌+◌, ◌<◌, ◌≤◌, List, [], ◌∷◌, ◌++◌, length, codes, Some}
use Rattle.std.specs.Fmt.{decimal}
use Rattle.entity_id.specs.declared.entity.Entity.{Entity}
use Rattle.entity_id.specs.declared.entity.Profile.{Profile}
use Rattle.entity_id.specs.Identifiers.{IsOfProfile}
use Rattle.entity_id.specs.Texts.{entity_text, EndsNumber}
use Rattle.world_model.specs.declared.command.Command.TheVariants as command
use Rattle.world_model.specs.declared.component.Decl.{Decl}
use Rattle.world_model.specs.declared.component.Kind.{Kind}
use Rattle.world_model.specs.declared.component.Kind.TheVariants.{Int}
use Rattle.world_model.specs.declared.component.Row.{Row}
use Rattle.world_model.specs.declared.event.EventKind.{EventKind}
use Rattle.world_model.specs.declared.group.GroupDecl.{GroupDecl}
use Rattle.world_model.specs.Conditions.{MaySet, MaySetField, view_limit}
use Rattle.world_text.specs.declared.script.ScriptLine.{ScriptLine}
use Rattle.world_text.specs.declared.script.ScriptLine.TheVariants.{Run, Watch, Unwatch}
use Rattle.world_text.specs.declared.verbs.Verb.{Verb}
use Rattle.world_text.specs.declared.verbs.Verb.TheVariants as verb
use Rattle.world_text.specs.GroupLines.{IsGroupFirst}
use Rattle.row_lang.specs.NameLists.{name_at, IsCalled}
use Rattle.row_lang.specs.FieldNames.{field_text, kind_at}
use Rattle.row_lang.specs.Reading.{EndsName, IsPoolNext, AreSomeNext, IsPartNext, IsKeptAs}
use Rattle.world_text.specs.Scripts.{entry_text, row_text, field_value_text, event_word, number_limit, IsEntry}
use Rattle.world_text.specs.Verbs.{plain_command, entity_command, entry_command, row_command, names_command}

-- ---- identifiers and components

-- a text begins with a space and an identifier of the profile, and this is the rest, which begins with no digit
pub record IsEntityNext (profile : Profile) (text : List ℕ) (entity : Entity) (rest : List ℕ) : Type 0 where
  pub of_profile : IsOfProfile profile entity
  pub whole : text ≡ 32 ∷ (entity_text profile entity ++ rest)
  pub ended : EndsNumber rest

-- a text begins with a space, an identifier of the profile and behind a space the name of a component, whole, and this is the rest
pub record IsEntryNext (profile : Profile) (decls : List Decl) (text : List ℕ) (entity : Entity) (pool : ℕ) (rest : List ℕ) : Type 0 where
  pub is : IsEntry profile decls entity pool
  pub whole : text ≡ 32 ∷ (entry_text profile decls entity pool ++ rest)
  pub ended : EndsName rest

-- a component has 4 fields at most
pub record HasFewFields (decls : List Decl) (pool : ℕ) : Type 0 where
  pub few : (field : ℕ) (kind : Kind) → kind_at decls pool field ≡ Some kind → field < 4

-- a text begins with a space and a field of a component, whole, which is of this kind, and this is the rest
pub record IsFieldNext (decls : List Decl) (text : List ℕ) (pool field : ℕ) (kind : Kind) (rest : List ℕ) : Type 0 where
  pub called : IsCalled decls pool
  pub of_kind : kind_at decls pool field ≡ Some kind
  pub whole : text ≡ 32 ∷ (field_text decls pool field ++ rest)
  pub ended : EndsName rest

-- a text begins with a space and the number of a watch or of a group, and this is the rest, which begins with no digit
pub record IsNumberNext (text : List ℕ) (number : ℕ) (rest : List ℕ) : Type 0 where
  pub within : number ≤ number_limit
  pub whole : text ≡ 32 ∷ (decimal number ++ rest)
  pub ended : EndsNumber rest

-- ---- names of components

-- the same without others, not more than the limit, up to the end of the line
pub record AreNamesLast (decls : List Decl) (text : List ℕ) (pools rest : List ℕ) : Type 0 where
  pub names : AreSomeNext decls [] text pools (10 ∷ rest)
  pub few : length pools ≤ view_limit

-- ---- what stands behind the word of a line, up to the line's end

-- an identifier, a component and a row of it
pub record IsRowLast (profile : Profile) (decls : List Decl) (text : List ℕ) (entity : Entity) (pool : ℕ) (row : Row) (rest : List ℕ) : Type 0 where
  pub entry : IsEntryNext profile decls text entity pool (row_text profile decls pool row ++ 10 ∷ rest)
  pub may_set : MaySet profile decls pool row

-- an identifier and names of components
pub record AreEntityNames (profile : Profile) (decls : List Decl) (text : List ℕ) (entity : Entity) (pools rest : List ℕ) : Type 0 where
  pub order : List ℕ
  pub behind : List ℕ
  pub first : IsEntityNext profile text entity behind
  pub names : AreNamesLast decls behind order rest
  pub kept : IsKeptAs order pools

-- an identifier, a field of a component and a value of it
pub record IsFieldLast (profile : Profile) (decls : List Decl) (text : List ℕ) (entity : Entity) (pool field : ℕ) (value : ℤ) (rest : List ℕ) : Type 0 where
  pub is : IsEntry profile decls entity pool
  pub may_set : MaySetField profile decls pool field value
  pub whole : text ≡ 32 ∷ (entity_text profile entity ++ 32 ∷ (field_text decls pool field ++ 32 ∷ (field_value_text profile decls pool field value ++ 10 ∷ rest)))

-- the names of a view
pub record IsViewLast (decls : List Decl) (text : List ℕ) (all without rest : List ℕ) : Type 0 where
  pub order : List ℕ
  pub excluded : List ℕ
  pub behind : List ℕ
  pub names : AreSomeNext decls [] text order behind
  pub out : IsPartNext decls order (codes " not") behind excluded (10 ∷ rest)
  pub few : length order + length excluded ≤ view_limit
  pub kept : IsKeptAs order all
  pub kept_out : IsKeptAs excluded without

-- the three lists of a group, in the order as written, as far as they go
pub record AreGroupLists (decls : List Decl) (text : List ℕ) (written : GroupDecl) (rest : List ℕ) : Type 0 where
  pub of_own : List ℕ
  pub behind_own : List ℕ
  pub behind_get : List ℕ
  pub begins : text ≡ codes " own" ++ of_own
  pub own : AreSomeNext decls [] of_own written.own behind_own
  pub get : IsPartNext decls [] (codes " get") behind_own written.get behind_get
  pub without : IsPartNext decls [] (codes " not") behind_get written.without rest

-- a group of such lists
pub record IsGroupNext (decls : List Decl) (text : List ℕ) (group : GroupDecl) (rest : List ℕ) : Type 0 where
  pub written : GroupDecl
  pub lists : AreGroupLists decls text written rest
  pub own : IsKeptAs written.own group.own
  pub get : IsKeptAs written.get group.get
  pub without : IsKeptAs written.without group.without

-- a kind of events and a component
pub record IsWatchLast (decls : List Decl) (text : List ℕ) (kind : EventKind) (pool : ℕ) (rest : List ℕ) : Type 0 where
  pub called : IsCalled decls pool
  pub whole : text ≡ 32 ∷ (event_word kind ++ 32 ∷ (name_at decls pool ++ 10 ∷ rest))

-- the word `pool` and an `int` field
pub record IsPoolSort (decls : List Decl) (text : List ℕ) (pool field : ℕ) (rest : List ℕ) : Type 0 where
  pub behind : List ℕ
  pub begins : text ≡ codes " pool" ++ behind
  pub key : IsFieldNext decls behind pool field Int (10 ∷ rest)

-- the word `group`, the number of a group and an `int` field
pub record IsGroupSort (decls : List Decl) (text : List ℕ) (group pool field : ℕ) (rest : List ℕ) : Type 0 where
  pub behind : List ℕ
  pub later : List ℕ
  pub begins : text ≡ codes " group" ++ behind
  pub number : IsNumberNext behind group later
  pub key : IsFieldNext decls later pool field Int (10 ∷ rest)

-- what stands behind a word is the rest of this line, and this stands behind it
abbrev pub IsLineBehind : Profile → List Decl → Verb → List ℕ → ScriptLine → List ℕ → Type 0
IsLineBehind profile decls (verb.Plain of) text line rest = (text ≡ 10 ∷ rest) × (line ≡ Run (plain_command of))
IsLineBehind profile decls (verb.OfEntity of) text line rest =
    (entity : Entity) × IsEntityNext profile text entity (10 ∷ rest) × (line ≡ Run (entity_command of entity))
IsLineBehind profile decls (verb.OfEntry of) text line rest =
    (entity : Entity) × (pool : ℕ) × IsEntryNext profile decls text entity pool (10 ∷ rest) × (line ≡ Run (entry_command of entity pool))
IsLineBehind profile decls (verb.OfRow of) text line rest =
    (entity : Entity) × (pool : ℕ) × (row : Row) × IsRowLast profile decls text entity pool row rest × (line ≡ Run (row_command of entity pool row))
IsLineBehind profile decls (verb.OfNames of) text line rest =
    (entity : Entity) × (pools : List ℕ) × AreEntityNames profile decls text entity pools rest × (line ≡ Run (names_command of entity pools))
IsLineBehind profile decls verb.Patch text line rest =
    (entity : Entity) × (pool : ℕ) × (field : ℕ) × (value : ℤ) × IsFieldLast profile decls text entity pool field value rest
    × (line ≡ Run (command.Patch entity pool field value))
IsLineBehind profile decls verb.Clear text line rest = (pool : ℕ) × IsPoolNext decls text pool (10 ∷ rest) × (line ≡ Run (command.Clear pool))
IsLineBehind profile decls verb.View text line rest =
    (all : List ℕ) × (without : List ℕ) × IsViewLast decls text all without rest × (line ≡ Run (command.View all without))
IsLineBehind profile decls verb.Group text line rest = (group : GroupDecl) × IsGroupFirst decls text group rest × (line ≡ Run (command.Group group))
IsLineBehind profile decls verb.Members text line rest = (group : ℕ) × IsNumberNext text group (10 ∷ rest) × (line ≡ Run (command.Members group))
IsLineBehind profile decls verb.Sort text line rest =
    ((pool : ℕ) × (field : ℕ) × IsPoolSort decls text pool field rest × (line ≡ Run (command.SortPool pool field)))
    ⊎ ((group : ℕ) × (pool : ℕ) × (field : ℕ) × IsGroupSort decls text group pool field rest × (line ≡ Run (command.SortGroup group pool field)))
IsLineBehind profile decls verb.Watch text line rest = (kind : EventKind) × (pool : ℕ) × IsWatchLast decls text kind pool rest × (line ≡ Watch kind pool)
IsLineBehind profile decls verb.Unwatch text line rest = (number : ℕ) × IsNumberNext text number (10 ∷ rest) × (line ≡ Unwatch number)
