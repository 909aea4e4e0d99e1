use Rattle.row_lang.proofs.NestingLemmas.{nesting_counted}
use Rattle.row_lang.proofs.laws.nesting_is_counted.Goals as goal

pub returns : goal.returns
returns c = nesting_counted
