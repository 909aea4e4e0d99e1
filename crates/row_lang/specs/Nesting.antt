-- How deep expressions stand in each other. That `Places.antt` counts the same is a law.
use Rattle.std.specs.Prelude.{ℕ, ◌+◌, List, [], ◌∷◌, take, drop, nat_lt, if◌then◌else◌}
use Rattle.row_lang.specs.declared.token.Keyword.{Keyword}
use Rattle.row_lang.specs.declared.token.Keyword.TheVariants as key
use Rattle.row_lang.specs.declared.token.Token.{Token}
use Rattle.row_lang.specs.declared.token.Token.TheVariants.{Word, Number, Own, Pool, Field}

-- how many expressions a word of an expression takes as operands; a name or a field behind it is none
abbrev pub operands : Keyword → ℕ
operands key.Plus = 2
operands key.Minus = 2
operands key.Times = 2
operands key.Divide = 2
operands key.Remainder = 2
operands key.Least = 2
operands key.Greatest = 2
operands key.Less = 2
operands key.Equal = 2
operands key.Choice = 3
operands key.Same = 2
operands key.Has = 1
operands key.At = 2
operands _ = 0

-- the greatest of some numbers; 0 of none
abbrev pub greatest : List ℕ → ℕ
greatest [] = 0
greatest (n ∷ ns) = if nat_lt (greatest ns) n then n else greatest ns

-- an expression with so many operands, in front of others of these nestings, has 1 plus the greatest nesting of its operands, so 1 where it
-- has none
abbrev pub nested : ℕ → List ℕ → List ℕ
nested count behind = (1 + greatest (take count behind)) ∷ drop count behind

-- the nestings of expressions that stand one after another
abbrev pub nestings : List Token → List ℕ
nestings [] = []
nestings (Word word ∷ tokens) = nested (operands word) (nestings tokens)
nestings (Number z ∷ tokens) = nested 0 (nestings tokens)
nestings (Own at ∷ tokens) = nested 0 (nestings tokens)
nestings (Pool pool ∷ tokens) = nestings tokens
nestings (Field at ∷ tokens) = nestings tokens

-- the nesting of one expression
abbrev pub nesting : List Token → ℕ
nesting tokens = greatest (nestings tokens)
