use Rattle.std.proofs.Common.{inl, arith}
use Rattle.pool_view.proofs.view.View.count.Goals as goal

pub count-requires-clause-fits : goal.count-requires-clause-fits
count-requires-clause-fits c = inl (omega (arith, c.iter.ensures.few))

pub overflow_cast-result : goal.overflow_cast-result
overflow_cast-result c = omega (arith, c.count.ensures.bound, c.iter.ensures.few)
