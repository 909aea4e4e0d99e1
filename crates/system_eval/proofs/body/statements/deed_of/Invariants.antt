use Rattle.std.proofs.Common.{◌≡◌, drop}
use Rattle.row_lang.specs.Bodies.{deed_of}
use Rattle.system_eval.proofs.body.statements.deed_of.Given as goal

abbrev pub invariant-loop-token : goal.invariant-loop-token
invariant-loop-token l = deed_of l.tokens ≡ deed_of (drop l.token-index l.tokens)
