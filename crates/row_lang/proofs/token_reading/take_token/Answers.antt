use Rattle.std.proofs.Common.{sym}
use Rattle.row_lang.proofs.TokenLemmas.{first_word}
use Rattle.row_lang.proofs.token_reading.take_token.Goals as goal

pub returns-in_err-token-clause-none : goal.returns-in_err-token-clause-none
returns-in_err-token-clause-none c =
    rw c.from_residual-in_err-token.ensures (λ other more f h.
    let w = first_word c.args.decls.now c.args.text.now c.in_ok-text.text.now c.split_name.result.0.now c.split_name.result.1.now other more c.requires c.in_ok-text.ensures c.split_name.ensures h in
    c.in_err-token.ensures.none other h.is f w.0)

pub returns-clause-once : goal.returns-clause-once
returns-clause-once c = λ other more f h.
    let w = first_word c.args.decls.now c.args.text.now c.in_ok-text.text.now c.split_name.result.0.now c.split_name.result.1.now other more c.requires c.in_ok-text.ensures c.split_name.ensures h in
    (c.in_ok-token.ensures.once other h.is f w.0, sym w.1)
