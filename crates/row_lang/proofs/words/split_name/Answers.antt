use Rattle.std.proofs.Common.{sym}
use Rattle.row_lang.proofs.NameLemmas.{cut_at_end, cut_nowhere, end_within}
use Rattle.row_lang.proofs.words.split_name.Goals as goal

pub split_at-requires : goal.split_at-requires
split_at-requires c = end_within c.args.text.now c.in-Some.at (sym c.in-Some.ensures)

pub returns-in-Some : goal.returns-in-Some
returns-in-Some c = cut_at_end c.args.text.now _ _ c.in-Some.at (sym c.in-Some.ensures) c.split_at.ensures.front c.split_at.ensures.back

pub returns-in-None : goal.returns-in-None
returns-in-None c = cut_nowhere c.args.text.now _ _ (sym c.in-None.ensures) c.split_at-in-None.ensures.front c.split_at-in-None.ensures.back
