use Rattle.std.proofs.Common.{arith}
use Rattle.world_text.specs.Formats.{version_1}
use Rattle.world_text.proofs.LinePartLemmas.{no_last_entry}
use Rattle.world_text.proofs.line_parts.take_last_entry.Goals as goal

pub returns-in_err-rest-clause-none : goal.returns-in_err-rest-clause-none
returns-in_err-rest-clause-none c =
    rw c.from_residual-in_err-rest.ensures (no_last_entry version_1.profile c.args.decls.now c.args.text.now c.in_ok-entity.rest.now c.in_ok-entity.entity c.in_ok-entity.pool (record { index = omega arith; version = omega arith }) c.in_ok-entity.ensures.some c.in_err-rest.ensures)
