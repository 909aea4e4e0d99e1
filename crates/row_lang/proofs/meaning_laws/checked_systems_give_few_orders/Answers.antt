use Rattle.row_lang.proofs.FewLemmas.{gives_at_most}
use Rattle.row_lang.proofs.meaning_laws.checked_systems_give_few_orders.Goals as goal

pub returns : goal.returns
returns c = gives_at_most
