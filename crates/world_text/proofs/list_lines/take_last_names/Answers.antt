use Rattle.std.proofs.Common.{List, [], ℕ, subst, arith}
use Rattle.row_lang.specs.Reading.{AreSomeNext}
use Rattle.world_text.proofs.ListLineLemmas.{no_few_names, no_line_end}
use Rattle.world_text.proofs.list_lines.take_last_names.Goals as goal

pub returns-then-len-gt-LIST_LIMIT-clause-bad : goal.returns-then-len-gt-LIST_LIMIT-clause-bad
returns-then-len-gt-LIST_LIMIT-clause-bad c = λ _.
    no_few_names c.args.decls.now c.args.text.now c.in_ok-pools.pools.items c.in_ok-pools.rest.now c.in_ok-pools.ensures.ok (omega (arith, c.len.ensures, c.if-len-gt-LIST_LIMIT.true))

pub returns-in_default-clause-bad : goal.returns-in_default-clause-bad
returns-in_default-clause-bad c = λ _.
    no_line_end c.args.decls.now c.args.text.now c.in_ok-pools.pools.items c.in_ok-pools.rest.now c.in_ok-pools.ensures.ok c.in_default.ensures

pub returns-clause-ok : goal.returns-clause-ok
returns-clause-ok c = record {
  names = subst (λ (t : List ℕ). AreSomeNext c.args.decls.now [] c.args.text.now c.in_ok-pools.pools.items t) c.in-Some.ensures c.in_ok-pools.ensures.ok;
  few = omega (arith, c.len.ensures, c.if-len-gt-LIST_LIMIT.false);
}
