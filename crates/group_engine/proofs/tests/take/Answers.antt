use Rattle.std.proofs.Common.{◌≡◌, ◌<◌, length, get_or, arith}
use Rattle.std.proofs.lemmas.Option.{slice_get-get_or}
use Rattle.group_engine.proofs.UseLemmas.{as_many}
use Rattle.group_engine.proofs.tests.take.Goals as goal

pub returns-clause-grouped : goal.returns-clause-grouped
returns-clause-grouped g c =
    let pools = c.before_remove.new.pools in
    let row = c.index-pools-pool.result in
    let many : length pools ≡ length c.args.pools.now = as_many c.args.pools.now pools c.before_remove.ensures.cores in
    let low : c.args.pool < length pools = omega (arith, many, c.told-pools, c.requires.pool) in
    c.groups_after_changes.ensures.erased c.before_remove.new.self.decls c.before_remove.new.self.lens pools c.args.pool (get_or pools c.args.pool row) c.erase.new.self c.args.entity (slice_get-get_or pools c.args.pool row low) c.before_remove.ensures.grouped c.erase.ensures.keys
