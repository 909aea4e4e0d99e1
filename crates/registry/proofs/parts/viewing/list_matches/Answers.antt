use Rattle.std.proofs.Common.{◌≡◌, ◌<◌, ltb, Some, length, get_or, slice_get, refl, sym, subst, ◌∙◌, arith, rules}
use Rattle.std.specs.List.Sorted.{IsPermutation}
use Rattle.std.proofs.lemmas.Bool.{ltb-true}
use Rattle.std.proofs.lemmas.Fn.{always_returns_same}
use Rattle.std.proofs.lemmas.Option.{slice_get_read}
use Rattle.entity_id.specs.declared.entity.Entity.{Entity}
use Rattle.entity_id.specs.FiniteMap as entries
use Rattle.world_model.proofs.KeyLemmas.{ascending_rows}
use Rattle.registry.specs.Layout.{world_of}
use Rattle.registry.proofs.OrderLemmas.{keys_permute}
use Rattle.registry.proofs.PoolLemmas.{at_pool}
use Rattle.registry.proofs.ViewLemmas.{all_pass, found_matches}
use Rattle.registry.proofs.parts.viewing.list_matches.Goals as goal

pub returns : goal.returns
returns g c =
    let parts = c.args.parts.now in
    let w = world_of parts in
    let pool = get_or c.args.all.now c.smallest.result 0 in
    let stored = c.index.result.now in
    let low : pool < length parts.decls = ltb-true pool (length parts.decls) (all_pass (λ p. ltb p (length parts.decls)) c.args.all.now c.smallest.result c.smallest.ensures c.requires.declared) in
    let here : slice_get parts.pools.items pool ≡ Some stored = slice_get_read parts.pools.items (length parts.pools.items) pool stored refl (omega (arith, c.requires.consistent.pool_each)) c.index.ensures in
    let permuted : IsPermutation (entries.keys (entries.map_of stored.pairs)) c.packed.result.now = subst (IsPermutation (entries.keys (entries.map_of stored.pairs))) (sym (c.packed.ensures.list ∙ c.index-set.ensures.list)) (keys_permute stored.pairs c.index-set.ensures.once) in
    found_matches w c.args.all.now c.args.without.now c.smallest.result c.packed.result.now c.sort_unstable_by_key.new.self.items c.smallest.ensures
    (λ p. ascending_rows parts.slots.limit w p c.requires.consistent.lawful)
    (subst (λ rows. IsPermutation (entries.keys rows) c.packed.result.now) (sym (at_pool parts pool stored stored here)) permuted)
    (subst (λ list. IsPermutation list c.sort_unstable_by_key.new.self.items) c.in_ok-found.ensures c.sort_unstable_by_key.ensures.permutation)
    (c.sort_unstable_by_key.ensures.sorted (λ (e : Entity). e.index) (always_returns_same _ (λ a r. r ≡ a.0.now.index) _ (λ a r q k. search rules)))
