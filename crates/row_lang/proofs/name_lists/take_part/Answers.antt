use Rattle.row_lang.proofs.NameListLemmas.{no_part_named}
use Rattle.row_lang.proofs.name_lists.take_part.Goals as goal

pub returns-in-Some-clause-bad : goal.returns-in-Some-clause-bad
returns-in-Some-clause-bad c = λ bad.
    no_part_named c.args.decls.now c.args.others.now c.args.word.now c.args.text.now c.in-Some.behind.now c.in-Some.ensures (c.take_some_names.ensures.bad bad)
