use Rattle.snapshot.proofs.PackedLemmas.{packed_is_snapshot}
use Rattle.snapshot.proofs.laws.packed_snapshot.Goals as goal

pub returns : goal.returns
returns c = packed_is_snapshot
