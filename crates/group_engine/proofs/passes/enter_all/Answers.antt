use Rattle.std.proofs.Common.{◌+◌, ◌<◌, ◌≤◌, length, take, get_or, set, refl, ◌∙◌, arith, length-set}
use Rattle.std.specs.List.{sum_by}
use Rattle.std.proofs.lemmas.List.Sums.{sum_by-take-le}
use Rattle.group_engine.specs.Grouped.{packed_of}
use Rattle.group_engine.specs.Masks.{may_enter}
use Rattle.group_engine.specs.Moving.{comes_in, cost_in}
use Rattle.group_engine.proofs.MaskLemmas.{set_passes}
use Rattle.group_engine.proofs.PassLemmas.{AtPlace, at_place, entered_next, entering_ready, all_entered, comes_same, steps_next, comes_alike}
use Rattle.group_engine.proofs.SkipLemmas.{enters_none_between, sum_to}
use Rattle.group_engine.proofs.StillLemmas.{came_still}
use Rattle.group_engine.proofs.passes.enter_all.Goals as goal

pub loop-place-init : goal.loop-place-init
loop-place-init g c =
    let base = packed_of c.args.pools.now in
    let few : length c.args.order.now ≤ 32 = c.requires.mask.few in
    record {
      set = λ low. c.next_place-place.ensures.set (omega arith);
      mixed = enters_none_between base base c.args.entity c.args.pool c.args.held c.args.order.now c.args.lens.now c.args.decls.now c.requires.family c.requires.order c.args.mask c.requires.mask
          0 c.next_place-place.result (omega arith) c.next_place-place.ensures.clear c.requires.mixed;
      same = λ e pool. refl;
      still = record { still = λ pool free. refl };
      cores = refl;
      each = refl;
      steps = omega arith;
    }

pub enter_if-requires-clause-concerned : goal.enter_if-requires-clause-concerned
enter_if-requires-clause-concerned g c =
    let i = c.loop-place.place in
    let a = c.index-decls-group.result in
    let here : AtPlace c.args.decls.now c.args.order.now c.loop-place.lens i a = at_place c.args.decls.now c.args.order.now c.loop-place.lens i a c.requires.order (omega arith) (omega arith) c.index-decls-group.is in
    set_passes c.args.decls.now c.args.order.now (may_enter c.args.pool c.args.held) c.args.mask c.requires.mask i (get_or c.args.order.now i 0) a here.at here.here (c.loop-place.invariant.set (omega arith))

pub enter_if-requires-clause-ready : goal.enter_if-requires-clause-ready
enter_if-requires-clause-ready g c =
    let base = packed_of c.args.pools.now in
    let now = packed_of c.loop-place.pools in
    let i = c.loop-place.place in
    let group = get_or c.args.order.now i 0 in
    let a = c.index-decls-group.result in
    let here : AtPlace c.args.decls.now c.args.order.now c.loop-place.lens i a = at_place c.args.decls.now c.args.order.now c.loop-place.lens i a c.requires.order (omega arith) (omega arith) c.index-decls-group.is in
    entering_ready base c.args.entity c.args.pool c.args.held c.args.order.now c.args.decls.now c.requires.family c.requires.order i group a here.at here.here c.loop-place.lens now now (get_or c.loop-place.lens group 0) here.long c.loop-place.invariant.same c.loop-place.invariant.mixed c.requires.here

pub bounds-lens-group-in-loop-place : goal.bounds-lens-group-in-loop-place
bounds-lens-group-in-loop-place g c =
    let here : AtPlace c.args.decls.now c.args.order.now c.loop-place.lens c.loop-place.place c.index-decls-group.result = at_place c.args.decls.now c.args.order.now c.loop-place.lens c.loop-place.place c.index-decls-group.result c.requires.order (omega arith) (omega arith) c.index-decls-group.is in
    let low : get_or c.args.order.now c.loop-place.place 0 < length c.args.decls.now = here.low in
    omega arith

pub loop-place-preserved : goal.loop-place-preserved
loop-place-preserved g c =
    let base = packed_of c.args.pools.now in
    let now = packed_of c.loop-place.pools in
    let new = packed_of c.enter_if.new.pools in
    let i = c.loop-place.place in
    let j = c.next_place-place-in-loop-place.result in
    let group = get_or c.args.order.now i 0 in
    let a = c.index-decls-group.result in
    let n = get_or c.loop-place.lens group 0 in
    let e = c.args.entity in
    let cost = cost_in c.args.decls.now (comes_in base e c.args.pool c.args.held) in
    let up = c.next_place-place-in-loop-place.ensures in
    let few : length c.args.order.now ≤ 32 = c.requires.mask.few in
    let here : AtPlace c.args.decls.now c.args.order.now c.loop-place.lens i a = at_place c.args.decls.now c.args.order.now c.loop-place.lens i a c.requires.order (omega arith) (omega arith) c.index-decls-group.is in
    let far : sum_by cost (take (i + 1) c.args.order.now) ≤ sum_by cost (take j c.args.order.now) = sum_to cost c.args.order.now (i + 1) j up.rises in
    let so_far = steps_next c.args.decls.now (comes_in base e c.args.pool c.args.held) c.args.order.now c.loop-place.lens i a (comes_in now e c.args.pool c.args.held a) c.loop-place.steps c.enter_if.new.steps c.args.steps.now here
    (comes_alike base now e c.args.pool c.args.held a c.loop-place.invariant.same) (omega arith) c.loop-place.invariant.steps c.enter_if.ensures.steps in
    record {
      set = λ low. up.set (omega arith);
      mixed = enters_none_between base new e c.args.pool c.args.held c.args.order.now (set c.loop-place.lens group c.enter_if.result) c.args.decls.now c.requires.family c.requires.order c.args.mask c.requires.mask (i + 1) j up.rises up.clear
          (entered_next base e c.args.pool c.args.held c.args.order.now c.args.decls.now c.requires.family c.requires.order i group a here.at here.here c.loop-place.lens now new n here.long c.loop-place.invariant.same c.enter_if.result c.loop-place.invariant.mixed c.enter_if.ensures.group);
      same = comes_same base now new e (comes_in now e c.args.pool c.args.held a) a.own n c.enter_if.result c.loop-place.invariant.same c.enter_if.ensures.group;
      still = came_still c.args.decls.now base now new e c.args.pool c.args.held group a n c.enter_if.result here.here c.loop-place.invariant.still c.enter_if.ensures.group;
      cores = c.enter_if.ensures.cores ∙ c.loop-place.invariant.cores;
      each = length-set c.loop-place.lens group c.enter_if.result ∙ c.loop-place.invariant.each;
      steps = omega (arith, so_far, far);
    }

pub returns-clause-mixed : goal.returns-clause-mixed
returns-clause-mixed g c =
    all_entered (packed_of c.args.pools.now) (packed_of c.loop-place.pools) c.args.entity c.args.pool c.args.held c.args.order.now c.loop-place.lens c.args.decls.now c.requires.order c.loop-place.place (omega arith) c.loop-place.invariant.mixed

pub returns-clause-steps : goal.returns-clause-steps
returns-clause-steps g c =
    let base = packed_of c.args.pools.now in
    let cost = cost_in c.args.decls.now (comes_in base c.args.entity c.args.pool c.args.held) in
    let far : sum_by cost (take c.loop-place.place c.args.order.now) ≤ sum_by cost c.args.order.now = sum_by-take-le cost c.args.order.now c.loop-place.place in
    omega (arith, c.loop-place.invariant.steps, far)
