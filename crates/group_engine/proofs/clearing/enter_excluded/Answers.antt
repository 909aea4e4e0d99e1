use Rattle.std.proofs.Common.{◌≡◌, ◌<◌, false, length, get_or, slice_get, Some, sym, refl, ap, subst, ◌∙◌, arith}
use Rattle.entity_id.proofs.MapChangeLemmas.{distinct_keys}
use Rattle.sparse_set.specs.PackedSets.{AreDistinct}
use Rattle.world_model.specs.Groups.{packed_at}
use Rattle.group_engine.specs.Grouped.{packed_of, cost_of}
use Rattle.group_engine.specs.Moving.{comes_in}
use Rattle.group_engine.proofs.OwnLemmas.{packed_here}
use Rattle.group_engine.proofs.UseLemmas.{as_many}
use Rattle.group_engine.proofs.ClearLemmas.{none_entered, entered_next, entered_ready, all_entered}
use Rattle.group_engine.proofs.StepLemmas.{at_most, more}
use Rattle.group_engine.proofs.clearing.enter_excluded.Goals as goal

pub loop-place-init : goal.loop-place-init
loop-place-init g c = record { entered = none_entered (packed_of c.args.pools.now) c.args.pool c.args.decl.now c.args.count c.requires.grouped; cores = refl; each = refl; steps = omega arith }

pub enter_if-count-requires-clause-ready : goal.enter_if-count-requires-clause-ready
enter_if-count-requires-clause-ready g c =
    let d = c.args.decl.now in
    let p = c.args.pool in
    let base = packed_of c.args.pools.now in
    let pools = c.loop-place.pools in
    let now = packed_of pools in
    let place = c.loop-place.place in
    let e = c.at-entity.result in
    let each : length pools ≡ length c.args.pools.now = c.loop-place.invariant.each in
    let low : p < length pools = omega (arith, c.requires.declared, each) in
    let h = c.loop-place.invariant.entered in
    let there : slice_get (packed_at now p) place ≡ Some e = ap (λ l. slice_get l place) (packed_here pools p c.index-pools-pool-in-loop-place.result low ∙ sym c.index-in-loop-place.ensures.list) ∙ c.at-entity.ensures in
    let here : slice_get (packed_at base p) place ≡ Some e = ap (λ l. slice_get l place) (sym (h.still.still p c.requires.free)) ∙ there in
    let distinct : AreDistinct (packed_at base p) = subst AreDistinct (sym (packed_here c.args.pools.now p c.index-pools-pool.result c.requires.declared)) (distinct_keys (get_or c.args.pools.now p c.index-pools-pool.result).pairs c.index.ensures.once) in
    entered_ready base p d c.requires.free c.requires.excluded distinct now now place c.loop-place.count c.loop-place.count e h here

pub loop-place-preserved : goal.loop-place-preserved
loop-place-preserved g c =
    let d = c.args.decl.now in
    let p = c.args.pool in
    let base = packed_of c.args.pools.now in
    let pools = c.loop-place.pools in
    let now = packed_of pools in
    let place = c.loop-place.place in
    let e = c.at-entity.result in
    let each : length pools ≡ length c.args.pools.now = c.loop-place.invariant.each in
    let low : p < length pools = omega (arith, c.requires.declared, each) in
    let h = c.loop-place.invariant.entered in
    let there : slice_get (packed_at now p) place ≡ Some e = ap (λ l. slice_get l place) (packed_here pools p c.index-pools-pool-in-loop-place.result low ∙ sym c.index-in-loop-place.ensures.list) ∙ c.at-entity.ensures in
    let here : slice_get (packed_at base p) place ≡ Some e = ap (λ l. slice_get l place) (sym (h.still.still p c.requires.free)) ∙ there in
    let distinct : AreDistinct (packed_at base p) = subst AreDistinct (sym (packed_here c.args.pools.now p c.index-pools-pool.result c.requires.declared)) (distinct_keys (get_or c.args.pools.now p c.index-pools-pool.result).pairs c.index.ensures.once) in
    let new = packed_of c.enter_if-count.new.pools in
    record {
      entered = entered_next base p d c.requires.free c.requires.excluded distinct now new place c.loop-place.count c.enter_if-count.result e h here c.enter_if-count.ensures.group;
      cores = c.enter_if-count.ensures.cores ∙ c.loop-place.invariant.cores;
      each = as_many pools c.enter_if-count.new.pools c.enter_if-count.ensures.cores ∙ each;
      steps = more c.loop-place.steps c.args.steps.now c.enter_if-count.new.steps place (length d.own) (cost_of (comes_in now e p false d) d) c.loop-place.invariant.steps c.enter_if-count.ensures.steps (at_most (comes_in now e p false d) d);
    }

pub returns-clause-grouped : goal.returns-clause-grouped
returns-clause-grouped g c =
    let p = c.args.pool in
    let base = packed_of c.args.pools.now in
    let is : packed_at base p ≡ c.index.result.now.list = packed_here c.args.pools.now p c.index-pools-pool.result c.requires.declared ∙ sym c.index.ensures.list in
    let long : length (packed_at base p) ≡ length c.index.result.now.list = ap length is in
    all_entered base p c.args.decl.now (packed_of c.loop-place.pools) c.loop-place.place c.loop-place.count (omega arith) c.loop-place.invariant.entered
