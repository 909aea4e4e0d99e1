use Rattle.row_lang.proofs.TokenLemmas.{field_of_token, field_token, one_at}
use Rattle.row_lang.proofs.token_reading.field_named.Goals as goal

pub returns-in_err-at-clause-none : goal.returns-in_err-at-clause-none
returns-in_err-at-clause-none c =
    rw c.from_residual.ensures (λ other is e. c.in_err-at.ensures.none other (field_token c.args.decls.now c.args.word.now other c.requires is e))

pub returns-clause-some : goal.returns-clause-some
returns-clause-some c = field_of_token c.args.decls.now c.args.word.now c.in_ok-at.at c.in_ok-at.ensures.some

pub returns-clause-once : goal.returns-clause-once
returns-clause-once c = λ other was e.
    let is = field_of_token c.args.decls.now c.args.word.now c.in_ok-at.at c.in_ok-at.ensures.some in
    one_at c.args.decls.now c.args.word.now c.in_ok-at.at other c.requires is.0 is.1 was e
