-- Which tokens are a statement. Tokens fill places one after another, from the first: a place wants a token of some form, and the token
-- opens the places of what has to stand behind it. So `set`, in the place of a statement, opens a place for a field that is written; that
-- field opens one for an expression of its kind; and `+` there opens two for whole numbers.
use Rattle.std.specs.Prelude.{ℕ, ◌-◌, Bool, true, false, cond, ◌&&◌, ◌||◌, ◌==◌, List, [], ◌∷◌, ◌++◌, length, map, slice_get, nat_lt, Option, Some, None}
use Rattle.std.specs.Option.{option_map_or}
use Rattle.world_model.specs.declared.access.Access.{Access}
use Rattle.world_model.specs.declared.component.Decl.{Decl}
use Rattle.world_model.specs.declared.component.Kind.{Kind}
use Rattle.world_model.specs.declared.component.Kind.TheVariants.{Int, Ref}
use Rattle.world_model.specs.declared.tokens.FieldAt.{FieldAt}
use Rattle.world_model.specs.Components.{kinds_of}
use Rattle.world_model.specs.Groups.{has_pool}
use Rattle.row_lang.specs.declared.token.Keyword.TheVariants as key
use Rattle.row_lang.specs.declared.token.Token.{Token}
use Rattle.row_lang.specs.declared.token.Token.TheVariants.{Word, Number, Own, Pool, Field}
use Rattle.row_lang.specs.declared.token.Place.{Place}
use Rattle.row_lang.specs.declared.token.Place.TheVariants.{Statement, Deed, Value, Looked, LookedField, Written, Sent, Raised, Named, Given}
use Rattle.row_lang.specs.FieldNames.{kind_at}

-- how deep expressions stand in each other at most
abbrev pub nesting_limit : ℕ
nesting_limit = 16

-- whether two kinds are one
abbrev pub is_kind : Kind → Kind → Bool
is_kind Int Int = true
is_kind Ref Ref = true
is_kind _ _ = false

-- whether a field is of this kind
abbrev pub has_kind : List Decl → FieldAt → Kind → Bool
has_kind decls at kind = option_map_or (λ other. is_kind other kind) (kind_at decls at.pool at.field) false

-- whether a system's own entities have rows of a component: it reads or writes it
abbrev pub is_own : Access → ℕ → Bool
is_own access pool = has_pool access.read pool || has_pool access.write pool

-- these places, where the test holds
abbrev pub only_if : Bool → List Place → Option (List Place)
only_if holds more = cond holds (Some more) None

-- two whole numbers, which give a whole number
abbrev pub two_numbers : Kind → ℕ → Option (List Place)
two_numbers kind levels = only_if (is_kind Int kind) (Value Int levels ∷ Value Int levels ∷ [])

-- the places that the first token of an expression of this kind opens: those of its operands, which have so many levels
abbrev pub value_opened : List Decl → Access → Kind → ℕ → Token → Option (List Place)
value_opened decls access kind levels (Number z) = only_if (is_kind Int kind) []
value_opened decls access kind levels (Own at) = only_if (is_own access at.pool && has_kind decls at kind) []
value_opened decls access kind levels (Word key.Tick) = only_if (is_kind Int kind) []
value_opened decls access kind levels (Word key.Plus) = two_numbers kind levels
value_opened decls access kind levels (Word key.Minus) = two_numbers kind levels
value_opened decls access kind levels (Word key.Times) = two_numbers kind levels
value_opened decls access kind levels (Word key.Divide) = two_numbers kind levels
value_opened decls access kind levels (Word key.Remainder) = two_numbers kind levels
value_opened decls access kind levels (Word key.Least) = two_numbers kind levels
value_opened decls access kind levels (Word key.Greatest) = two_numbers kind levels
value_opened decls access kind levels (Word key.Less) = two_numbers kind levels
value_opened decls access kind levels (Word key.Equal) = two_numbers kind levels
value_opened decls access kind levels (Word key.Choice) = Some (Value Int levels ∷ Value kind levels ∷ Value kind levels ∷ [])
value_opened decls access kind levels (Word key.Oneself) = only_if (is_kind Ref kind) []
value_opened decls access kind levels (Word key.Null) = only_if (is_kind Ref kind) []
value_opened decls access kind levels (Word key.Same) = only_if (is_kind Int kind) (Value Ref levels ∷ Value Ref levels ∷ [])
value_opened decls access kind levels (Word key.Has) = only_if (is_kind Int kind) (Value Ref levels ∷ Looked ∷ [])
value_opened decls access kind levels (Word key.At) = Some (Value Ref levels ∷ LookedField kind ∷ Value kind levels ∷ [])
value_opened decls access kind levels _ = None

-- an expression of a statement
abbrev pub whole_value : Kind → Place
whole_value kind = Value kind nesting_limit

-- the places behind the word of what a statement does
abbrev pub deed_opened : Token → Option (List Place)
deed_opened (Word key.Set) = Some (Written ∷ [])
deed_opened (Word key.Kill) = Some (whole_value Ref ∷ [])
deed_opened (Word key.Give) = Some (whole_value Ref ∷ Given ∷ [])
deed_opened (Word key.Take) = Some (whole_value Ref ∷ Named ∷ [])
deed_opened (Word key.Send) = Some (whole_value Ref ∷ Sent ∷ [])
deed_opened (Word key.Add) = Some (whole_value Ref ∷ Raised ∷ [])
deed_opened (Word key.Spawn) = Some []
deed_opened (Word key.Bear) = Some (Given ∷ [])
deed_opened _ = None

-- a statement is what it does, or a test and what it does
abbrev pub statement_opened : Token → Option (List Place)
statement_opened (Word key.When) = Some (whole_value Int ∷ Deed ∷ [])
statement_opened token = deed_opened token

-- a value of a field
abbrev pub value_of_field : List Decl → FieldAt → Option (List Place)
value_of_field decls at = option_map_or (λ kind. Some (whole_value kind ∷ [])) (kind_at decls at.pool at.field) None

-- a component that the system looks at
abbrev pub looked_opened : Access → Token → Option (List Place)
looked_opened access (Pool pool) = only_if (has_pool access.look pool) []
looked_opened access _ = None

-- a field of this kind of such a component
abbrev pub looked_field_opened : List Decl → Access → Kind → Token → Option (List Place)
looked_field_opened decls access kind (Field at) = only_if (has_pool access.look at.pool && has_kind decls at kind) []
looked_field_opened decls access kind _ = None

-- a field of a component that the system writes, and its new value
abbrev pub written_opened : List Decl → Access → Token → Option (List Place)
written_opened decls access (Field at) = cond (has_pool access.write at.pool) (value_of_field decls at) None
written_opened decls access _ = None

-- a field of any component, and its new value
abbrev pub sent_opened : List Decl → Token → Option (List Place)
sent_opened decls (Field at) = value_of_field decls at
sent_opened decls _ = None

-- a whole number's field of any component, and what is added to it
abbrev pub raised_opened : List Decl → Token → Option (List Place)
raised_opened decls (Field at) = only_if (has_kind decls at Int) (whole_value Int ∷ [])
raised_opened decls _ = None

-- any component
abbrev pub named_opened : List Decl → Token → Option (List Place)
named_opened decls (Pool pool) = only_if (nat_lt pool (length decls)) []
named_opened decls _ = None

-- any component, and a value for each of its fields
abbrev pub given_opened : List Decl → Token → Option (List Place)
given_opened decls (Pool pool) = option_map_or (λ decl. Some (map whole_value (kinds_of decl))) (slice_get decls pool) None
given_opened decls _ = None

-- the places that a token opens in a place that it fits; none where it doesn't fit
abbrev pub opened : List Decl → Access → Place → Token → Option (List Place)
opened decls access Statement token = statement_opened token
opened decls access Deed token = deed_opened token
opened decls access (Value kind levels) token = cond (levels == 0) None (value_opened decls access kind (levels - 1) token)
opened decls access Looked token = looked_opened access token
opened decls access (LookedField kind) token = looked_field_opened decls access kind token
opened decls access Written token = written_opened decls access token
opened decls access Sent token = sent_opened decls token
opened decls access Raised token = raised_opened decls token
opened decls access Named token = named_opened decls token
opened decls access Given token = given_opened decls token

-- whether tokens fill these places, one after another, and no more
abbrev pub fills : List Decl → Access → List Place → List Token → Bool
fills decls access [] [] = true
fills decls access (place ∷ places) (token ∷ tokens) =
    option_map_or (λ more. fills decls access (more ++ places) tokens) (opened decls access place token) false
fills decls access _ _ = false

-- whether tokens are a statement of a system with this access: what stands behind the word `do` in a line
abbrev pub is_statement : List Decl → Access → List Token → Bool
is_statement decls access tokens = fills decls access (Statement ∷ []) tokens
