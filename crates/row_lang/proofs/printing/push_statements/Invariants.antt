use Rattle.std.proofs.Common.{◌≡◌, ◌++◌, map, take}
use Rattle.row_lang.specs.BodyLines.{Do}
use Rattle.row_lang.specs.Naming.{names_of}
use Rattle.row_lang.specs.Systems.{body_text}
use Rattle.row_lang.proofs.printing.push_statements.Given as goal

abbrev pub invariant-loop-statement : goal.invariant-loop-statement
invariant-loop-statement l = l.out.items ≡ l.fn.out.items ++ body_text (names_of l.decls) (map Do (take l.statement-index l.statements))
