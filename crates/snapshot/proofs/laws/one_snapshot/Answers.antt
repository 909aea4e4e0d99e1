use Rattle.snapshot.proofs.UniqueLemmas.{one_document}
use Rattle.snapshot.proofs.laws.one_snapshot.Goals as goal

pub returns : goal.returns
returns c = one_document
