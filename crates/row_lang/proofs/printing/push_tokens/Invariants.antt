use Rattle.std.proofs.Common.{◌≡◌, ◌++◌, take}
use Rattle.row_lang.specs.Naming.{names_of}
use Rattle.row_lang.specs.Spelling.{tokens_text}
use Rattle.row_lang.proofs.printing.push_tokens.Given as goal

abbrev pub invariant-loop-token : goal.invariant-loop-token
invariant-loop-token l = l.out.items ≡ l.fn.out.items ++ tokens_text (names_of l.decls) (take l.token-index l.tokens)
