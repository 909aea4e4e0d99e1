use Rattle.std.proofs.Common.{◌≡◌, List, [], get_or, take, Some, slice_get, ap, ◌∙◌, subst}
use Rattle.std.proofs.lemmas.Option.{slice_get-get_or}
use Rattle.group_engine.specs.Engine.{len_at, prefix_at, values_at}
use Rattle.group_engine.specs.Grouped.{packed_of}
use Rattle.storage.specs.Stored.{Stored}
use Rattle.world_model.specs.declared.component.Row.{Row}
use Rattle.world_model.specs.Groups.{packed_at}
use Rattle.registry.proofs.GroupingLemmas.{rows_here}
use Rattle.registry.proofs.parts.walking.rows.Goals as goal

pub returns-clause-ok : goal.returns-clause-ok
returns-clause-ok g c =
    let parts = c.args.parts.now in
    let group = c.args.group in
    let pool = c.args.pool in
    let count = len_at parts.groups group in
    let none : Stored Row = record { pairs = []; spare = 0; index_bound = 0 } in
    let p = get_or parts.pools.items pool none in
    let here : slice_get parts.pools.items pool ≡ Some p = slice_get-get_or parts.pools.items pool none c.in_default.ensures.declared in
    let order = subst (λ (items : List (Stored Row)). take count (packed_at (packed_of items) pool) ≡ prefix_at parts.groups (packed_of items) group) c.deref.ensures.value c.rows.ensures.order in
    c.rows.ensures.values ∙ ap (λ (items : List (Stored Row)). take count (values_at items pool)) c.deref.ensures.value
    ∙ rows_here parts group pool p here (c.know_law.ensures.once pool p here) (c.know_law.ensures.counted group c.in_default.ensures.stands) order
