use Rattle.std.proofs.Common.{vec_len, sym, ◌∙◌, arith}
use Rattle.std.proofs.lemmas.Bool.{eqb-true}
use Rattle.row_lang.proofs.NameListLemmas.{no_first_name}
use Rattle.row_lang.proofs.name_lists.take_some_names.Goals as goal

pub returns-then-is_empty-clause-bad : goal.returns-then-is_empty-clause-bad
returns-then-is_empty-clause-bad c = λ _.
    no_first_name c.args.decls.now c.args.others.now c.args.text.now c.in_ok-pools.pools.items c.in_ok-pools.rest.now c.in_ok-pools.ensures.ok
    (let none = eqb-true (vec_len c.in_ok-pools.pools) 0 (sym c.is_empty.ensures ∙ c.if-is_empty.true) in omega arith)
