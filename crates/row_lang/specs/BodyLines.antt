-- The kinds of lines that a system has behind its first.
use Rattle.std.specs.Prelude.{ℕ, List}
use Rattle.row_lang.specs.declared.access_list.AccessList.{AccessList}
use Rattle.row_lang.specs.declared.token.Token.{Token}

-- `read NAMES`, `write NAMES`, `look NAMES` or `not NAMES`, with the numbers of the components in the order in which they are written;
-- `do STATEMENT`; and `end`
pub data BodyLine : Type 0 where
  Lists : AccessList → List ℕ → BodyLine
  Do : List Token → BodyLine
  Close : BodyLine
