use Rattle.std.proofs.Common.{◌≡◌, ℕ, List, [], ◌∷◌, length, slice_index_or, sym, ap, ap₂, ◌∙◌, arith}
use Rattle.entity_id.specs.declared.entity.Entity.{Entity}
use Rattle.entity_id.specs.FiniteMap as entries
use Rattle.world_model.specs.declared.component.Row.{Row}
use Rattle.storage.specs.Stored.{Stored}
use Rattle.system_api.specs.Emissions.{Emission, emissions_along, orders_along}
use Rattle.system_api.specs.Settling.{of_number}
use Rattle.system_api.specs.Partings.{parting_order, rows_in}
use Rattle.system_api.proofs.OrderLemmas.{settles_in_order}
use Rattle.system_api.proofs.PartingLemmas.{shown-at, limit-sizes, map-emissions}
use Rattle.system_api.proofs.tests.PartingSystem.run.Goals as goal

pub part-requires-clause-room : goal.part-requires-clause-room
part-requires-clause-room c =
    let room = c.requires.room in
    let first = shown-at room.maps c.args.lent.now.reads 0 (omega arith) c.requires.pools.reads (ap (λ (ns : List ℕ). slice_index_or ns 0 0) c.requires.pools.reads) room.shown.reads in
    let rows : length (rows_in room.maps 0) ≡ length (entries.map_of c.read-whole.result.now.pairs) = ap length first ∙ ap (λ (s : Stored Row). length (entries.map_of s.pairs)) (sym c.read-whole.ensures) in
    omega (arith, room.enough, limit-sizes room.maps, rows, c.len-len.ensures.pairs, c.len-len.ensures.map)

pub returns-clause-orders : goal.returns-clause-orders
returns-clause-orders c = λ maps shown settled is.
    let reads = c.args.lent.now.reads in
    let whole = c.read-whole.result.now.pairs in
    let other = c.read-other.result.now.pairs in
    let give = λ (entity : Entity) (row : Row). parting_order (entries.map_of other) entity ∷ [] in
    let first : rows_in maps 0 ≡ entries.map_of whole = shown-at maps reads 0 (omega arith) c.requires.pools.reads (ap (λ (ns : List ℕ). slice_index_or ns 0 0) c.requires.pools.reads) shown.reads ∙ ap (λ (s : Stored Row). entries.map_of s.pairs) (sym c.read-whole.ensures) in
    let second : rows_in maps 1 ≡ entries.map_of other = shown-at maps reads 1 (omega arith) c.requires.pools.reads (ap (λ (ns : List ℕ). slice_index_or ns 1 0) c.requires.pools.reads) shown.reads ∙ ap (λ (s : Stored Row). entries.map_of s.pairs) (sym c.read-other.ensures) in
    let given : c.part.new.out.list ≡ emissions_along give whole = c.part.ensures.list ∙ map-emissions (entries.map_of other) whole in
    settles_in_order give whole c.part.new.out.list c.part.ensures.once (λ i. ap (of_number (λ (emission : Emission). emission.index) i) given) settled is
    ∙ sym (ap₂ (λ (a b : List (Entity × Row)). orders_along (λ entity (row : Row). parting_order b entity ∷ []) a) first second)
