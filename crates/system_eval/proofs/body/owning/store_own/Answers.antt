use Rattle.std.proofs.Common.{sym, arith}
use Rattle.row_lang.specs.Arithmetic.{is_zero}
use Rattle.world_model.specs.Frames.{own_pools}
use Rattle.system_eval.specs.Stacks.{int_at}
use Rattle.system_eval.proofs.OwnLemmas.{own_set, own_kept, own_kept_past}
use Rattle.system_eval.proofs.body.owning.store_own.Goals as goal

pub returns-in_default-clause-rows : goal.returns-in_default-clause-rows
returns-in_default-clause-rows c = λ lane h.
    own_kept (own_pools c.args.access.now) c.args.columns.now c.args.at lane (is_zero (int_at c.args.test.now lane)) (int_at c.args.values.now lane) (sym c.in_default.ensures)

pub returns-then-place-columns-clause-rows : goal.returns-then-place-columns-clause-rows
returns-then-place-columns-clause-rows c = λ lane h.
    own_kept_past (own_pools c.args.access.now) c.args.columns.now c.args.at lane c.in-Some.place (is_zero (int_at c.args.test.now lane)) (int_at c.args.values.now lane) c.requires (sym c.in-Some.ensures) c.if-place-columns.true

pub returns-clause-rows : goal.returns-clause-rows
returns-clause-rows c = λ lane h.
    own_set (own_pools c.args.access.now) c.args.columns.now c.args.at lane c.in-Some.place c.store_field.new.rows (is_zero (int_at c.args.test.now lane)) (int_at c.args.values.now lane) c.requires (sym c.in-Some.ensures) (omega (arith, c.if-place-columns.false)) (c.store_field.ensures lane h)
