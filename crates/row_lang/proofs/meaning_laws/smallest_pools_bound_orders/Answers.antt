use Rattle.row_lang.proofs.SmallestLemmas.{gives_at_most_of_each, lawful_ascend}
use Rattle.row_lang.proofs.meaning_laws.smallest_pools_bound_orders.Goals as goal

pub returns-clause-maps : goal.returns-clause-maps
returns-clause-maps c = gives_at_most_of_each

pub returns-clause-worlds : goal.returns-clause-worlds
returns-clause-worlds c = lawful_ascend
