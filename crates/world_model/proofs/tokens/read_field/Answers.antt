use Rattle.std.proofs.Common.{arith}
use Rattle.world_model.proofs.TokenLemmas.{dotless, no_such_name, no_number, past_the_fields, field_token, count_read}
use Rattle.world_model.proofs.tokens.read_field.Goals as goal

pub returns-in_err-name-clause-none : goal.returns-in_err-name-clause-none
returns-in_err-name-clause-none c = rw c.from_residual.ensures (λ at is.
    dotless c.args.decls.now c.args.token.now at c.in_err-name.ensures is)

pub returns-in_err-pool-clause-none : goal.returns-in_err-pool-clause-none
returns-in_err-pool-clause-none c = rw c.from_residual-in_err-pool.ensures (λ at is.
    no_such_name c.args.decls.now c.args.token.now c.in_ok-name.name.now c.in_ok-name.number.now at c.in_ok-name.ensures c.in_err-pool.ensures.none is)

pub returns-in_err-field-clause-none : goal.returns-in_err-field-clause-none
returns-in_err-field-clause-none c = rw c.from_residual-in_err-field.ensures (λ at is.
    let counted = count_read c.args.decls.now c.in_ok-pool.pool c.index-decls-pool.result c.in_ok-pool.ensures.declared in
    no_number c.args.decls.now c.args.token.now c.in_ok-name.name.now c.in_ok-name.number.now c.in_ok-pool.pool c.from.result at c.in_ok-name.ensures c.in_ok-pool.ensures.some (omega (arith, counted, c.from.ensures)) c.in_err-field.ensures.none is)

pub returns-then-field-from-clause-some : goal.returns-then-field-from-clause-some
returns-then-field-from-clause-some c =
    let counted = count_read c.args.decls.now c.in_ok-pool.pool c.index-decls-pool.result c.in_ok-pool.ensures.declared in
    field_token c.args.decls.now c.args.token.now c.in_ok-name.name.now c.in_ok-name.number.now c.in_ok-pool.pool c.from.result c.in_ok-field.field c.in_ok-name.ensures c.in_ok-pool.ensures.some (omega (arith, counted, c.from.ensures)) (omega arith) c.in_ok-field.ensures.some.1

pub returns-else-field-from-clause-none : goal.returns-else-field-from-clause-none
returns-else-field-from-clause-none c = λ at is.
    let counted = count_read c.args.decls.now c.in_ok-pool.pool c.index-decls-pool.result c.in_ok-pool.ensures.declared in
    past_the_fields c.args.decls.now c.args.token.now c.in_ok-name.name.now c.in_ok-name.number.now c.in_ok-pool.pool c.from.result c.in_ok-field.field at c.in_ok-name.ensures c.in_ok-pool.ensures.some (omega (arith, counted, c.from.ensures)) (omega (arith, c.in_ok-field.ensures.some)) (omega arith) c.in_ok-field.ensures.some.1 is
