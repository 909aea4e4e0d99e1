use Rattle.std.proofs.Common.{◌≡◌, suc, ◌+◌, drop, get_or, sym, ap, ◌∙◌, arith, drop-cons}
use Rattle.row_lang.specs.declared.token.Keyword.TheVariants as key
use Rattle.row_lang.specs.declared.token.Token.TheVariants.{Word}
use Rattle.row_lang.specs.Bodies.{deed_of}
use Rattle.system_eval.proofs.DoingLemmas.{deed_skipped, deed_found}
use Rattle.system_eval.proofs.body.statements.deed_of.Goals as goal

pub loop-token-preserved : goal.loop-token-preserved
loop-token-preserved c =
    let tokens = c.args.tokens.now in
    let n = c.loop-token.token-index in
    let next : suc n ≡ n + 1 = omega arith in
    c.loop-token.invariant ∙ ap deed_of (drop-cons tokens n (Word key.Tick) c.loop-token-test.true)
    ∙ deed_skipped (get_or tokens n (Word key.Tick)) (drop (suc n) tokens) (sym c.deed_word.ensures ∙ c.in_default.is) ∙ ap (λ k. deed_of (drop k tokens)) next

pub returns-in-Some : goal.returns-in-Some
returns-in-Some c =
    let tokens = c.args.tokens.now in
    let n = c.loop-token.token-index in
    sym (c.loop-token.invariant ∙ ap deed_of (drop-cons tokens n (Word key.Tick) c.loop-token-test.true) ∙ deed_found (get_or tokens n (Word key.Tick)) (drop (suc n) tokens) c.in-Some.word (sym c.in-Some.ensures))
