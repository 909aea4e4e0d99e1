use Rattle.std.proofs.Common.{arith}
use Rattle.world_text.specs.Formats.{version_1}
use Rattle.world_text.proofs.LinePartLemmas.{no_entry_pool}
use Rattle.world_text.proofs.line_parts.take_next_entry.Goals as goal

pub returns-in_err-pool-clause-none : goal.returns-in_err-pool-clause-none
returns-in_err-pool-clause-none c =
    rw c.from_residual-in_err-pool.ensures (no_entry_pool version_1.profile c.args.decls.now c.args.text.now c.in_ok-entity.rest.now c.in_ok-entity.entity (record { index = omega arith; version = omega arith }) c.in_ok-entity.ensures.some c.in_err-pool.ensures.none)
