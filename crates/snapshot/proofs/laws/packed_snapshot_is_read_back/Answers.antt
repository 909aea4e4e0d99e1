use Rattle.snapshot.specs.Packing.{snapshot}
use Rattle.snapshot.proofs.PackedLemmas.{packed_is_snapshot}
use Rattle.snapshot.proofs.UniqueLemmas.{one_document, no_bad_field}
use Rattle.snapshot.proofs.laws.packed_snapshot_is_read_back.Goals as goal

pub returns : goal.returns
returns c = record {
  same = λ document other lawful is. one_document (snapshot document) other document is (packed_is_snapshot document lawful);
  none = λ document offset lawful bad. no_bad_field (snapshot document) document offset (packed_is_snapshot document lawful) bad;
}
