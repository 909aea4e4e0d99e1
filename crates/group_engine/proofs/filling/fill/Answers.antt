use Rattle.std.proofs.Common.{◌≡◌, ◌<◌, true, length, get_or, slice_get, Some, sym, refl, ap, subst, ◌∙◌, arith}
use Rattle.entity_id.proofs.MapChangeLemmas.{distinct_keys}
use Rattle.sparse_set.specs.PackedSets.{AreDistinct}
use Rattle.world_model.specs.Groups.{has_pool, packed_at}
use Rattle.group_engine.specs.Grouped.{packed_of, cost_of}
use Rattle.group_engine.specs.Moving.{comes_in}
use Rattle.group_engine.proofs.OwnLemmas.{packed_here}
use Rattle.group_engine.proofs.SortLemmas.{first_has}
use Rattle.group_engine.proofs.UseLemmas.{as_many}
use Rattle.group_engine.proofs.FillLemmas.{none_filled, filled_next, filled_ready, all_filled}
use Rattle.group_engine.proofs.StepLemmas.{at_most, more}
use Rattle.group_engine.proofs.filling.fill.Goals as goal

pub loop-place-init : goal.loop-place-init
loop-place-init g c =
    let d = c.args.decl.now in
    let first = get_or c.as_slice.result.now 0 0 in
    let owned : has_pool d.own first ≡ true = ap (λ l. has_pool d.own (get_or l 0 0)) c.as_slice.ensures ∙ first_has d.own c.requires.some in
    record { filled = none_filled (packed_of c.args.pools.now) d first owned; cores = refl; each = refl; steps = omega arith }

pub enter_if-count-requires-clause-ready : goal.enter_if-count-requires-clause-ready
enter_if-count-requires-clause-ready g c =
    let d = c.args.decl.now in
    let base = packed_of c.args.pools.now in
    let pools = c.loop-place.pools in
    let now = packed_of pools in
    let first = get_or c.as_slice.result.now 0 0 in
    let place = c.loop-place.place in
    let e = c.at-entity.result in
    let owned : has_pool d.own first ≡ true = ap (λ l. has_pool d.own (get_or l 0 0)) c.as_slice.ensures ∙ first_has d.own c.requires.some in
    let start : first < length c.args.pools.now = subst (λ l. get_or l 0 0 < length c.args.pools.now) (sym c.as_slice.ensures) c.requires.declared in
    let each : length pools ≡ length c.args.pools.now = c.loop-place.invariant.each in
    let low : first < length pools = omega (arith, start, each) in
    let h = c.loop-place.invariant.filled in
    let there : slice_get (packed_at now first) place ≡ Some e = ap (λ l. slice_get l place) (packed_here pools first c.index-pools-first-in-loop-place.result low ∙ sym c.index-in-loop-place.ensures.list) ∙ c.at-entity.ensures in
    let here : slice_get (packed_at base first) place ≡ Some e = sym (h.rest place (omega arith)) ∙ there in
    let distinct : AreDistinct (packed_at base first) = subst AreDistinct (sym (packed_here c.args.pools.now first c.index-pools-first.result start)) (distinct_keys (get_or c.args.pools.now first c.index-pools-first.result).pairs c.index.ensures.once) in
    filled_ready base d first owned distinct now now place c.loop-place.count c.loop-place.count e h here

pub loop-place-preserved : goal.loop-place-preserved
loop-place-preserved g c =
    let d = c.args.decl.now in
    let base = packed_of c.args.pools.now in
    let pools = c.loop-place.pools in
    let now = packed_of pools in
    let first = get_or c.as_slice.result.now 0 0 in
    let place = c.loop-place.place in
    let e = c.at-entity.result in
    let owned : has_pool d.own first ≡ true = ap (λ l. has_pool d.own (get_or l 0 0)) c.as_slice.ensures ∙ first_has d.own c.requires.some in
    let start : first < length c.args.pools.now = subst (λ l. get_or l 0 0 < length c.args.pools.now) (sym c.as_slice.ensures) c.requires.declared in
    let each : length pools ≡ length c.args.pools.now = c.loop-place.invariant.each in
    let low : first < length pools = omega (arith, start, each) in
    let h = c.loop-place.invariant.filled in
    let there : slice_get (packed_at now first) place ≡ Some e = ap (λ l. slice_get l place) (packed_here pools first c.index-pools-first-in-loop-place.result low ∙ sym c.index-in-loop-place.ensures.list) ∙ c.at-entity.ensures in
    let here : slice_get (packed_at base first) place ≡ Some e = sym (h.rest place (omega arith)) ∙ there in
    let distinct : AreDistinct (packed_at base first) = subst AreDistinct (sym (packed_here c.args.pools.now first c.index-pools-first.result start)) (distinct_keys (get_or c.args.pools.now first c.index-pools-first.result).pairs c.index.ensures.once) in
    let new = packed_of c.enter_if-count.new.pools in
    record {
      filled = filled_next base d first owned distinct now new place c.loop-place.count c.enter_if-count.result e h here c.enter_if-count.ensures.group;
      cores = c.enter_if-count.ensures.cores ∙ c.loop-place.invariant.cores;
      each = as_many pools c.enter_if-count.new.pools c.enter_if-count.ensures.cores ∙ each;
      steps = more c.loop-place.steps c.args.steps.now c.enter_if-count.new.steps place (length d.own) (cost_of (comes_in now e first true d) d) c.loop-place.invariant.steps c.enter_if-count.ensures.steps (at_most (comes_in now e first true d) d);
    }

pub returns-clause-grouped : goal.returns-clause-grouped
returns-clause-grouped g c =
    let d = c.args.decl.now in
    let base = packed_of c.args.pools.now in
    let first = get_or c.as_slice.result.now 0 0 in
    let owned : has_pool d.own first ≡ true = ap (λ l. has_pool d.own (get_or l 0 0)) c.as_slice.ensures ∙ first_has d.own c.requires.some in
    let start : first < length c.args.pools.now = subst (λ l. get_or l 0 0 < length c.args.pools.now) (sym c.as_slice.ensures) c.requires.declared in
    let is : packed_at base first ≡ c.index.result.now.list = packed_here c.args.pools.now first c.index-pools-first.result start ∙ sym c.index.ensures.list in
    let long : length (packed_at base first) ≡ length c.index.result.now.list = ap length is in
    all_filled base d first owned (packed_of c.loop-place.pools) c.loop-place.place c.loop-place.count (omega arith) c.loop-place.invariant.filled
