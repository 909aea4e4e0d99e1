-- Systems: which lines one may have, one behind another, what they stand for, and what is printed of it.
--
-- Three rules of documents are not said here, since they speak of a document's other lines: that it has at most 64 systems, that no two of
-- them have one name, and that it has at most 64 command statements in all.
use Rattle.std.specs.Prelude.{◌≡◌, ℕ, ◌+◌, Bool, true, false, ◌&&◌, ◌||◌, not, List, [], ◌∷◌, ◌++◌, map, length, count_by, nat_lt, nat_le}
use Rattle.std.specs.List.{flat_map, list_any, filter, range_with_len, AllByRecursion}
use Rattle.world_model.specs.declared.access.Access.{Access}
use Rattle.world_model.specs.declared.component.Decl.{Decl}
use Rattle.world_model.specs.Frames.{pool_limit}
use Rattle.world_model.specs.Groups.{has_pool, are_distinct, are_declared}
use Rattle.world_model.specs.Names.{is_name}
use Rattle.row_lang.specs.declared.access_list.AccessList.{AccessList}
use Rattle.row_lang.specs.declared.access_list.AccessList.TheVariants as list
use Rattle.row_lang.specs.declared.part.Part.{Part}
use Rattle.row_lang.specs.declared.part.Part.TheVariants as part
use Rattle.row_lang.specs.declared.token.Keyword.TheVariants as key
use Rattle.row_lang.specs.declared.token.Token.{Token}
use Rattle.row_lang.specs.declared.token.Token.TheVariants.{Word}
use Rattle.row_lang.specs.BodyLines.{BodyLine, Lists, Do, Close}
use Rattle.row_lang.specs.Naming.{names_of}
use Rattle.row_lang.specs.Places.{is_statement}
use Rattle.row_lang.specs.Spelling.{IsBodyLine, first_line_text, body_line_text}

-- ---- what a system is

-- a system: its name, its four lists of components, each in ascending number, and the tokens of each `do` line behind that word
pub record System : Type 0 where
  pub name : List ℕ
  pub access : Access
  pub statements : List (List Token)

-- how many `do` lines a system has at most
abbrev pub statement_limit : ℕ
statement_limit = 64

-- and how many of them are command statements
abbrev pub command_limit : ℕ
command_limit = 8

-- whether a token is the word `set`
abbrev pub is_set : Token → Bool
is_set (Word key.Set) = true
is_set _ = false

-- whether a statement is a command statement: all but `set` are. The word `set` stands nowhere in a statement but as what it does
abbrev pub is_command : List Token → Bool
is_command tokens = not (list_any is_set tokens)

-- how many of these are command statements
abbrev pub command_count : List (List Token) → ℕ
command_count statements = count_by is_command statements

-- ---- the order of lines

-- the place of a part in the order
abbrev pub order : Part → ℕ
order part.Begun = 0
order part.Read = 1
order part.Write = 2
order part.Look = 3
order part.Without = 4
order part.Do = 5
order part.Closed = 6

-- whether a part is one of those from first to last
abbrev pub is_between : Part → Part → Part → Bool
is_between first last of = nat_le (order first) (order of) && nat_le (order of) (order last)

-- the part that is a list's line
abbrev pub part_of : AccessList → Part
part_of list.Read = part.Read
part_of list.Write = part.Write
part_of list.Look = part.Look
part_of list.Without = part.Without

-- whether a list's line may stand behind a part: the lists come in one order, each once at most, and `look` and `not` only behind `read` or
-- `write`
abbrev pub may_list_behind : Part → AccessList → Bool
may_list_behind behind list.Read = is_between part.Begun part.Begun behind
may_list_behind behind list.Write = is_between part.Begun part.Read behind
may_list_behind behind list.Look = is_between part.Read part.Write behind
may_list_behind behind list.Without = is_between part.Read part.Look behind

-- whether a `do` line or the last line may stand behind a part: behind `read` or `write`, and not behind the last line
abbrev pub may_do_behind : Part → Bool
may_do_behind behind = is_between part.Read part.Do behind

-- ---- lines one behind another

-- what lines of a system stand for so far, and the last part that they have reached
pub record Draft : Type 0 where
  pub part : Part
  pub system : System

-- a system of this name, of which only the first line stands
abbrev pub begun : List ℕ → Draft
begun name = record { part = part.Begun; system = record { name = name; access = record { read = []; write = []; look = []; without = [] }; statements = [] } }

-- the components that a list may not name: no component stands in two of `read`, `write` and `not`, and none in both `look` and `write`
abbrev pub barred : Access → AccessList → List ℕ
barred access list.Read = []
barred access list.Write = access.read
barred access list.Look = access.write
barred access list.Without = access.read ++ access.write

-- how many components the lists name
abbrev pub listed : Access → ℕ
listed access = length access.read + length access.write + length access.look + length access.without

-- whether a list may name these components beside those of the lists before it: none is barred, and they are not too many in all
abbrev pub has_room : Access → AccessList → List ℕ → Bool
has_room access of pools = not (list_any (has_pool (barred access of)) pools) && nat_le (listed access + length pools) pool_limit

-- whether one more list may stand beside those before it: it names one component or more, out of so many, and none twice
abbrev pub may_list : ℕ → Access → AccessList → List ℕ → Bool
may_list count access of pools = nat_lt 0 (length pools) && are_declared count pools && are_distinct pools && has_room access of pools

-- whether one more statement may stand behind these
abbrev pub may_do : List (List Token) → List Token → Bool
may_do statements tokens = nat_lt (length statements) statement_limit && (not (is_command tokens) || nat_lt (command_count statements) command_limit)

-- whether a line is admissible behind those that a draft stands for
abbrev pub admits : List Decl → Draft → BodyLine → Bool
admits decls draft (Lists of pools) = may_list_behind draft.part of && may_list (length decls) draft.system.access of pools
admits decls draft (Do tokens) = may_do_behind draft.part && may_do draft.system.statements tokens && is_statement decls draft.system.access tokens
admits decls draft Close = may_do_behind draft.part

-- these components out of so many, in ascending number
abbrev pub ascending : ℕ → List ℕ → List ℕ
ascending count pools = filter (has_pool pools) (range_with_len 0 count)

-- the lists with one of them set
abbrev pub with_list : Access → AccessList → List ℕ → Access
with_list access list.Read pools = record access { read = pools }
with_list access list.Write pools = record access { write = pools }
with_list access list.Look pools = record access { look = pools }
with_list access list.Without pools = record access { without = pools }

-- what a draft stands for with one more line
abbrev pub after_line : List Decl → Draft → BodyLine → Draft
after_line decls draft (Lists of pools) =
    record { part = part_of of; system = record draft.system { access = with_list draft.system.access of (ascending (length decls) pools) } }
after_line decls draft (Do tokens) = record { part = part.Do; system = record draft.system { statements = draft.system.statements ++ tokens ∷ [] } }
after_line decls draft Close = record draft { part = part.Closed }

-- with more lines
abbrev pub after_lines : List Decl → Draft → List BodyLine → Draft
after_lines decls draft [] = draft
after_lines decls draft (line ∷ lines) = after_lines decls (after_line decls draft line) lines

-- whether each line is admissible behind those before it
abbrev pub are_admitted : List Decl → Draft → List BodyLine → Bool
are_admitted decls draft [] = true
are_admitted decls draft (line ∷ lines) = admits decls draft line && are_admitted decls (after_line decls draft line) lines

-- whether the last line stands
abbrev pub is_closed : Draft → Bool
is_closed draft = is_between part.Closed part.Closed draft.part

-- ---- systems

-- a line `system NAME` and admissible lines behind it, under these components, and the draft that they lead to
pub record IsDraftOf (decls : List Decl) (name : List ℕ) (lines : List BodyLine) (draft : Draft) : Type 0 where
  pub named : is_name name ≡ true
  pub each : AllByRecursion (IsBodyLine (names_of decls)) lines
  pub admitted : are_admitted decls (begun name) lines ≡ true
  pub reached : draft ≡ after_lines decls (begun name) lines

-- a line `system NAME` and admissible lines behind it, up to the last, and the system that they stand for
pub record IsSystemOf (decls : List Decl) (name : List ℕ) (lines : List BodyLine) (system : System) : Type 0 where
  pub named : is_name name ≡ true
  pub each : AllByRecursion (IsBodyLine (names_of decls)) lines
  pub admitted : are_admitted decls (begun name) lines ≡ true
  pub closed : is_closed (after_lines decls (begun name) lines) ≡ true
  pub stands : system ≡ (after_lines decls (begun name) lines).system

-- a system under these components: one that such lines stand for
abbrev pub IsSystem : List Decl → System → Type 0
IsSystem decls system = (name : List ℕ) × (lines : List BodyLine) × IsSystemOf decls name lines system

-- ---- the canonical lines

-- the line of a list, which is left out where it names nothing
abbrev pub list_lines : AccessList → List ℕ → List BodyLine
list_lines of [] = []
list_lines of (pool ∷ pools) = Lists of (pool ∷ pools) ∷ []

-- the lines of the lists
abbrev pub access_lines : Access → List BodyLine
access_lines access =
    list_lines list.Read access.read
    ++ (list_lines list.Write access.write
    ++ (list_lines list.Look access.look ++ list_lines list.Without access.without))

-- the lines of a system behind its first, in their one order
abbrev pub body_lines : System → List BodyLine
body_lines system = access_lines system.access ++ (map Do system.statements ++ Close ∷ [])

-- the bytes of lines behind the first, each with its end, a line feed (10)
abbrev pub body_text : List (List ℕ) → List BodyLine → List ℕ
body_text names lines = flat_map (λ line. body_line_text names line ++ 10 ∷ []) lines

-- the one canonical text of a system
abbrev pub system_text : List (List ℕ) → System → List ℕ
system_text names system = first_line_text system.name ++ 10 ∷ body_text names (body_lines system)
