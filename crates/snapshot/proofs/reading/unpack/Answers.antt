use Rattle.snapshot.proofs.EarlyLemmas.{no_pool_yet}
use Rattle.snapshot.proofs.reading.unpack.Goals as goal

pub read_pools-requires-clause-none : goal.read_pools-requires-clause-none
read_pools-requires-clause-none c = no_pool_yet c.args.bytes.now c.in_ok-free_end.free_end 0 0 c.read_free.new.draft c.in_ok-free_end.ensures.ok
