use Rattle.std.proofs.Common.{slice_get, sym, ap, ◌∙◌}
use Rattle.std.proofs.lemmas.Option.{slice_get_within}
use Rattle.sparse_set.proofs.sparse_set.SparseSet.swap_pop.Goals as goal

pub take_out-requires-clause-within : goal.take_out-requires-clause-within
take_out-requires-clause-within g c = slice_get_within c.self.inside.packed.items c.in-Some.place c.args.entity (ap (λ l. slice_get l c.in-Some.place) (sym c.deref.ensures.value) ∙ c.in-Some.ensures.here)
