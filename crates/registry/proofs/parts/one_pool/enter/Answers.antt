use Rattle.std.proofs.Common.{◌+◌, length, arith}
use Rattle.registry.proofs.SpendLemmas.{spare_less}
use Rattle.registry.proofs.parts.one_pool.enter.Goals as goal

pub returns-then-is_err-clause-room : goal.returns-then-is_err-clause-room
returns-then-is_err-clause-room g c = c.room_for.ensures.room (length c.args.pool.now.pairs) c.requires.heard

pub returns-then-is_err-2-clause-construct_room : goal.returns-then-is_err-2-clause-construct_room
returns-then-is_err-2-clause-construct_room g c m h = c.room_for-2.ensures.room m (spare_less m (m + 1) c.args.construct.now (omega arith) h)

pub returns-then-is_err-3-clause-construct_room : goal.returns-then-is_err-3-clause-construct_room
returns-then-is_err-3-clause-construct_room g c m h = c.room_for-2.ensures.room m (spare_less m (m + 1) c.args.construct.now (omega arith) h)

pub returns-clause-construct_room : goal.returns-clause-construct_room
returns-clause-construct_room g c m h = c.publish.ensures.spare m (c.room_for-2.ensures.room (m + 1) h)
