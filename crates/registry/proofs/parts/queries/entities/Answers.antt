use Rattle.std.proofs.Common.{◌≡◌, Some, length, slice_get, refl, sym, subst, ◌∙◌}
use Rattle.std.proofs.lemmas.Option.{slice_get_read}
use Rattle.registry.proofs.PackingLemmas.{packed_here}
use Rattle.registry.proofs.parts.queries.entities.Goals as goal

pub returns-in-Some-clause-ok : goal.returns-in-Some-clause-ok
returns-in-Some-clause-ok g c =
    let parts = c.args.parts.now in
    let stored = c.in-Some.stored.now in
    let found = c.in-Some.ensures.lookup in
    let here : slice_get parts.pools.items c.args.pool ≡ Some stored = subst (λ pools. slice_get pools c.args.pool ≡ Some stored) c.deref.ensures.value (slice_get_read c.deref.result.now (length c.deref.result.now) c.args.pool stored refl found.3.0 found.1) in
    c.packed.ensures.list ∙ c.index.ensures.list ∙ sym (packed_here parts.pools.items c.args.pool stored here)
