-- How the lines of a system are spelled. Components are spelled by a table of their names, by number, so that the text of a line rests on
-- nothing but the line and the names that it uses.
use Rattle.std.specs.Prelude.{ℕ, ◌<◌, ◌≤◌, List, [], ◌∷◌, ◌++◌, map, length, slice_index_or, codes}
use Rattle.std.specs.List.{flat_map, AllByRecursion}
use Rattle.std.specs.Fmt.{decimal, signed_decimal}
use Rattle.world_model.specs.declared.tokens.FieldAt.{FieldAt}
use Rattle.world_model.specs.Integers.{IsI64}
use Rattle.row_lang.specs.declared.access_list.AccessList.{AccessList}
use Rattle.row_lang.specs.declared.access_list.AccessList.TheVariants as list
use Rattle.row_lang.specs.declared.token.Keyword.{Keyword}
use Rattle.row_lang.specs.declared.token.Keyword.TheVariants as key
use Rattle.row_lang.specs.declared.token.Token.{Token}
use Rattle.row_lang.specs.declared.token.Token.TheVariants.{Word, Number, Own, Pool, Field}
use Rattle.row_lang.specs.BodyLines.{BodyLine, Lists, Do, Close}
use Rattle.row_lang.specs.NameLists.{spaced_names}

-- ---- tokens

-- a word of the language
abbrev pub keyword_text : Keyword → List ℕ
keyword_text key.Tick = codes "tick"
keyword_text key.Plus = codes "+"
keyword_text key.Minus = codes "-"
keyword_text key.Times = codes "*"
keyword_text key.Divide = codes "/"
keyword_text key.Remainder = codes "%"
keyword_text key.Least = codes "min"
keyword_text key.Greatest = codes "max"
keyword_text key.Less = codes "<"
keyword_text key.Equal = codes "="
keyword_text key.Choice = codes "?"
keyword_text key.Oneself = codes "self"
keyword_text key.Null = codes "null"
keyword_text key.Same = codes "same"
keyword_text key.Has = codes "has"
keyword_text key.At = codes "at"
keyword_text key.When = codes "when"
keyword_text key.Set = codes "set"
keyword_text key.Kill = codes "kill"
keyword_text key.Give = codes "give"
keyword_text key.Take = codes "take"
keyword_text key.Send = codes "send"
keyword_text key.Add = codes "add"
keyword_text key.Spawn = codes "spawn"
keyword_text key.Bear = codes "bear"

-- the name of a component in a table of names
abbrev pub name_in : List (List ℕ) → ℕ → List ℕ
name_in names pool = slice_index_or names pool []

-- a field of a component: its name, a dot (46) and the field's number
abbrev pub field_in : List (List ℕ) → FieldAt → List ℕ
field_in names at = name_in names at.pool ++ 46 ∷ decimal at.field

-- a token
abbrev pub token_text : List (List ℕ) → Token → List ℕ
token_text names (Word word) = keyword_text word
token_text names (Number z) = signed_decimal z
token_text names (Own at) = field_in names at
token_text names (Pool pool) = name_in names pool
token_text names (Field at) = field_in names at

-- tokens, each behind a space (32)
abbrev pub tokens_text : List (List ℕ) → List Token → List ℕ
tokens_text names tokens = flat_map (λ token. 32 ∷ token_text names token) tokens

-- ---- lines

-- the word of a list
abbrev pub list_word : AccessList → List ℕ
list_word list.Read = codes "read"
list_word list.Write = codes "write"
list_word list.Look = codes "look"
list_word list.Without = codes "not"

-- the first line of a system of this name, without its end
abbrev pub first_line_text : List ℕ → List ℕ
first_line_text name = codes "system " ++ name

-- a line behind the first, without its end
abbrev pub body_line_text : List (List ℕ) → BodyLine → List ℕ
body_line_text names (Lists list pools) = list_word list ++ spaced_names (map (name_in names) pools)
body_line_text names (Do tokens) = codes "do" ++ tokens_text names tokens
body_line_text names Close = codes "end"

-- ---- which lines there are

-- how many bytes a line has at most, its end not counted
abbrev pub line_limit : ℕ
line_limit = 4096

-- a token that a text can spell: its number is one of 64 bits, its component is one of the table
abbrev pub IsToken : List (List ℕ) → Token → Type 0
IsToken names (Word word) = Unit {0}
IsToken names (Number z) = IsI64 z
IsToken names (Own at) = at.pool < length names
IsToken names (Pool pool) = pool < length names
IsToken names (Field at) = at.pool < length names

-- a line whose tokens and components a text can spell
abbrev pub IsSpelled : List (List ℕ) → BodyLine → Type 0
IsSpelled names (Lists list pools) = AllByRecursion (λ pool. pool < length names) pools
IsSpelled names (Do tokens) = AllByRecursion (IsToken names) tokens
IsSpelled names Close = Unit {0}

-- and which is no longer than a line may be. Of the lines that a system may have this refuses long `do` lines alone
pub record IsBodyLine (names : List (List ℕ)) (line : BodyLine) : Type 0 where
  pub spelled : IsSpelled names line
  pub short : length (body_line_text names line) ≤ line_limit
