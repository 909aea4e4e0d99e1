use Rattle.std.proofs.Common.{◌≡◌, ◌<◌, length, None, ap, sym, ◌∙◌, arith}
use Rattle.std.proofs.lemmas.List.{length-map}
use Rattle.entity_id.specs.FiniteMap as entries
use Rattle.storage.specs.Stored.{Stored}
use Rattle.world_model.specs.declared.command.Command.TheVariants.{SortPool}
use Rattle.world_model.specs.declared.component.Row.{Row}
use Rattle.registry.specs.Held.{refusal_to}
use Rattle.registry.specs.Layout.{world_of, held_of}
use Rattle.registry.proofs.DoneLemmas.{same}
use Rattle.registry.proofs.PoolLemmas.{read_at}
use Rattle.registry.proofs.SortedLemmas.{accepted_pool, pool_count}
use Rattle.registry.proofs.parts.listing.list_sorted_pool.Goals as goal

pub returns-in-Some-clause-err : goal.returns-in-Some-clause-err
returns-in-Some-clause-err g c = same (held_of c.args.parts.now)

pub returns-in_default-with_capacity-clause-err : goal.returns-in_default-with_capacity-clause-err
returns-in_default-with_capacity-clause-err g c = same (held_of c.args.parts.now)

pub walk_of-requires-clause-room : goal.walk_of-requires-clause-room
walk_of-requires-clause-room g c =
    let old = c.args.parts.now in
    let new = c.order_pool.new.parts in
    let pool = c.args.pool in
    let passes : refusal_to (held_of old) (SortPool pool c.args.field) ≡ None = sym c.in_default.ensures.cause in
    let low : pool < length old.decls = (accepted_pool old.slots.limit (world_of old) pool c.args.field passes).0 in
    let here = read_at old.pools.items (length old.decls) pool _ c.requires.pool_each low c.index.ensures in
    let keys = λ (p : Stored Row). entries.keys p.pairs in
    let each : length new.pools.items ≡ length old.decls = sym (length-map new.pools.items keys) ∙ c.in-Ok-order_pool.ensures.packed.each ∙ length-map old.pools.items keys ∙ c.requires.pool_each in
    let there = read_at new.pools.items (length old.decls) pool _ each low c.index-in-Ok-order_pool.ensures in
    let count = pool_count old new pool c.args.field c.index.result.now c.index-in-Ok-order_pool.result.now here there c.in-Ok-order_pool.ensures.order in
    omega (arith, ap length c.entities.ensures, count, c.len.ensures.map, c.in-Ok.ensures.exact)
