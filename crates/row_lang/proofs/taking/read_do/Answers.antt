use Rattle.std.proofs.Common.{◌≡◌, [], length, eqb, sym, ap, ◌∙◌}
use Rattle.std.proofs.lemmas.Bool.{both_ways, eq-eqb}
use Rattle.row_lang.proofs.StepLemmas.{do_next, do_ends, still_bad}
use Rattle.row_lang.proofs.taking.read_do.Goals as goal

pub returns-else-is_empty-clause-bad : goal.returns-else-is_empty-clause-bad
returns-else-is_empty-clause-bad c = λ _.
    do_ends c.args.decls.now c.args.access.now c.args.line.now c.in-Some.body.now c.in-Ok.tokens.items c.in-Ok.rest.now c.in-Some.ensures c.in-Ok.ensures.ok
    (λ (e : c.in-Ok.rest.now ≡ []). both_ways (eqb (length c.in-Ok.rest.now) 0) (sym c.is_empty.ensures ∙ c.if-is_empty.false) (eq-eqb (length c.in-Ok.rest.now) 0 (ap length e)))

pub returns-in-Err-clause-bad : goal.returns-in-Err-clause-bad
returns-in-Err-clause-bad c = λ bad tokens h.
    c.in-Err.ensures.bad (still_bad c.in-Err.fault bad) tokens [] (do_next c.args.decls.now c.args.access.now c.args.line.now c.in-Some.body.now tokens c.in-Some.ensures h)

pub returns-then-is_empty-clause-once : goal.returns-then-is_empty-clause-once
returns-then-is_empty-clause-once c = λ others h.
    (c.in-Ok.ensures.ok.only others [] (do_next c.args.decls.now c.args.access.now c.args.line.now c.in-Some.body.now others c.in-Some.ensures h)).0
