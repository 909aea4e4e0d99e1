use Rattle.std.proofs.Common.{arith}
use Rattle.world_text.specs.Formats.{version_1}
use Rattle.world_text.proofs.LinePartLemmas.{no_last_entity}
use Rattle.world_text.proofs.line_parts.take_last_entity.Goals as goal

pub returns-in_err-rest-clause-none : goal.returns-in_err-rest-clause-none
returns-in_err-rest-clause-none c =
    rw c.from_residual-in_err-rest.ensures (no_last_entity version_1.profile c.args.text.now c.in_ok-entity.rest.now c.in_ok-entity.entity (record { index = omega arith; version = omega arith }) c.in_ok-entity.ensures.some c.in_err-rest.ensures)
