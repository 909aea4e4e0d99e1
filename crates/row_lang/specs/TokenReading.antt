-- What the reader of a statement says of tokens at the front of a text. No public clause cites this module.
use Rattle.std.specs.Prelude.{◌≡◌, ℕ, ◌<◌, true, false, Bool, List, [], ◌∷◌, ◌++◌, ◌==◌, length, codes}
use Rattle.std.specs.List.{AllByRecursion}
use Rattle.std.specs.Option.{is_some}
use Rattle.world_model.specs.declared.access.Access.{Access}
use Rattle.world_model.specs.declared.component.Decl.{Decl}
use Rattle.world_model.specs.Integers.{IsI64}
use Rattle.world_model.specs.Tokens.{field_count}
use Rattle.row_lang.specs.declared.token.Place.{Place}
use Rattle.row_lang.specs.declared.token.Token.{Token}
use Rattle.row_lang.specs.declared.token.Token.TheVariants.{Word, Number, Own, Pool, Field}
use Rattle.row_lang.specs.Naming.{names_of}
use Rattle.row_lang.specs.Places.{opened, fills, is_statement}
use Rattle.row_lang.specs.Reading.{EndsName}
use Rattle.row_lang.specs.Spelling.{token_text, tokens_text}

-- whether a token fits a place
abbrev pub fits : List Decl → Access → Place → Token → Bool
fits decls access place token = is_some (opened decls access place token)

-- a number of 64 bits, a declared component, a field of one
abbrev pub IsDeclared : List Decl → Token → Type 0
IsDeclared decls (Word word) = Unit {0}
IsDeclared decls (Number z) = IsI64 z
IsDeclared decls (Own at) = (at.pool < length decls) × (at.field < field_count decls at.pool)
IsDeclared decls (Pool pool) = pool < length decls
IsDeclared decls (Field at) = (at.pool < length decls) × (at.field < field_count decls at.pool)

-- a text begins with a space and this token, whole, and this is the rest
pub record IsTokenNext (decls : List Decl) (text : List ℕ) (token : Token) (rest : List ℕ) : Type 0 where
  pub is : IsDeclared decls token
  pub whole : text ≡ 32 ∷ (token_text (names_of decls) token ++ rest)
  pub ended : EndsName rest

-- a text begins with these tokens, which fill these places, and this is the rest
pub record AreTokensNext (decls : List Decl) (access : Access) (places : List Place) (text : List ℕ) (tokens : List Token) (rest : List ℕ) : Type 0 where
  pub are : AllByRecursion (IsDeclared decls) tokens
  pub fill : fills decls access places tokens ≡ true
  pub whole : text ≡ tokens_text (names_of decls) tokens ++ rest
  pub ended : EndsName rest

-- and with no others
pub record AreOnlyTokens (decls : List Decl) (access : Access) (places : List Place) (text : List ℕ) (tokens : List Token) (rest : List ℕ) : Type 0 where
  pub next : AreTokensNext decls access places text tokens rest
  pub only : (others : List Token) (more : List ℕ) → AreTokensNext decls access places text others more → (others ≡ tokens) × (more ≡ rest)

-- a space (32) first
abbrev pub is_spaced : List ℕ → Bool
is_spaced [] = false
is_spaced (byte ∷ bytes) = byte == 32

-- a line `do` with the tokens of a statement
pub record IsDoLine (decls : List Decl) (access : Access) (line : List ℕ) (tokens : List Token) : Type 0 where
  pub are : AllByRecursion (IsDeclared decls) tokens
  pub fill : is_statement decls access tokens ≡ true
  pub whole : line ≡ codes "do" ++ tokens_text (names_of decls) tokens
