use Rattle.std.proofs.Common.{sym, arith}
use Rattle.world_text.proofs.TakingLemmas.{no_target}
use Rattle.world_text.proofs.row_lines.take_target.Goals as goal

pub returns-else-is_target-clause-none : goal.returns-else-is_target-clause-none
returns-else-is_target-clause-none c = λ entity rest first is.
    no_target c.args.profile c.args.text.now c.in_ok-entity.entity entity c.in_ok-entity.rest.now rest (record { index = omega arith; version = omega arith }) c.in_ok-entity.ensures.some (sym c.if-is_target.ensures) first is
