use Rattle.std.proofs.Common.{sym, arith}
use Rattle.world_model.proofs.TokenLemmas.{no_target}
use Rattle.world_model.proofs.tokens.read_target.Goals as goal

pub returns-else-is_target-clause-none : goal.returns-else-is_target-clause-none
returns-else-is_target-clause-none c = λ field is.
    no_target c.args.profile c.args.token.now c.in_ok-entity.entity is.entity (record { index = omega arith; version = omega arith }) c.in_ok-entity.ensures.some.0 c.in_ok-entity.ensures.some.1 (sym c.if-is_target.ensures) is.allowed is.whole
