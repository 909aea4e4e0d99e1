use Rattle.std.proofs.Common.{◌≡◌, ◌+◌, ◌-◌, ◌<◌, ◌≤◌, not, drop, length, get_or, set, refl, subst, ◌∙◌, arith, length-set}
use Rattle.std.specs.List.{sum_by}
use Rattle.group_engine.specs.Grouped.{packed_of}
use Rattle.group_engine.specs.Masks.{may_enter}
use Rattle.group_engine.specs.Moving.{AreMixed, goes_out, cost_in}
use Rattle.group_engine.proofs.MaskLemmas.{set_passes}
use Rattle.group_engine.proofs.PassLemmas.{AtPlace, at_place, leaving, left_next, leaving_ready, none_left, goes_same, steps_before, goes_alike}
use Rattle.group_engine.proofs.SkipLemmas.{leaves_none_between, sum_from}
use Rattle.group_engine.proofs.StillLemmas.{went_still}
use Rattle.group_engine.proofs.passes.leave_all.Goals as goal

pub loop-left-init : goal.loop-left-init
loop-left-init g c =
    let base = packed_of c.args.pools.now in
    let order = c.args.order.now in
    record {
      low = c.past_last-left.ensures.falls;
      set = c.past_last-left.ensures.set;
      mixed = leaves_none_between base base c.args.entity c.args.pool c.args.held order c.args.lens.now c.args.decls.now c.requires.family c.requires.order c.args.mask c.requires.mask
          c.past_last-left.result (length order) c.past_last-left.ensures.falls c.past_last-left.ensures.clear
          (none_left base base c.args.entity c.args.pool c.args.held order c.args.lens.now c.args.decls.now c.requires.order (length order) (omega arith) c.requires.mixed);
      same = λ e pool. refl;
      still = record { still = λ pool free. refl };
      cores = refl;
      each = refl;
      steps = omega arith;
    }

pub leave_if-requires-clause-concerned : goal.leave_if-requires-clause-concerned
leave_if-requires-clause-concerned g c =
    let i = c.loop-left.left - 1 in
    let a = c.index-decls-group.result in
    let here : AtPlace c.args.decls.now c.args.order.now c.loop-left.lens i a = at_place c.args.decls.now c.args.order.now c.loop-left.lens i a c.requires.order (let w : c.loop-left.left ≤ length c.args.order.now = c.loop-left.invariant.low in omega arith) (omega arith) c.index-decls-group.is in
    set_passes c.args.decls.now c.args.order.now (may_enter c.args.pool (not c.args.held)) c.args.mask c.requires.mask i (get_or c.args.order.now i 0) a here.at here.here (c.loop-left.invariant.set (omega arith))

pub leave_if-requires-clause-some : goal.leave_if-requires-clause-some
leave_if-requires-clause-some g c goes =
    let base = packed_of c.args.pools.now in
    let now = packed_of c.loop-left.pools in
    let i = c.loop-left.left - 1 in
    let group = get_or c.args.order.now i 0 in
    let a = c.index-decls-group.result in
    let here : AtPlace c.args.decls.now c.args.order.now c.loop-left.lens i a = at_place c.args.decls.now c.args.order.now c.loop-left.lens i a c.requires.order (let w : c.loop-left.left ≤ length c.args.order.now = c.loop-left.invariant.low in omega arith) (omega arith) c.index-decls-group.is in
    let next : c.loop-left.left ≡ i + 1 = omega arith in
    let own : 0 < length a.own = c.requires.family.some group a here.here in
    let first = get_or a.own 0 0 in
    (leaving_ready base c.args.entity c.args.pool c.args.held c.args.order.now c.args.decls.now c.requires.family c.requires.order i group a here.at here.here c.loop-left.lens now now (get_or c.loop-left.lens group 0) here.long c.loop-left.invariant.same
    (subst (λ k. AreMixed c.args.decls.now c.loop-left.lens base now c.args.entity (leaving base c.args.entity c.args.pool c.args.held c.args.order.now k)) next c.loop-left.invariant.mixed) c.requires.here goes first
    (Rattle.group_engine.proofs.OwnLemmas.has_at a.own 0 first (Rattle.std.proofs.lemmas.Option.slice_get-get_or a.own 0 0 own))).0

pub leave_if-requires-clause-ready : goal.leave_if-requires-clause-ready
leave_if-requires-clause-ready g c goes other has =
    let base = packed_of c.args.pools.now in
    let now = packed_of c.loop-left.pools in
    let i = c.loop-left.left - 1 in
    let group = get_or c.args.order.now i 0 in
    let a = c.index-decls-group.result in
    let here : AtPlace c.args.decls.now c.args.order.now c.loop-left.lens i a = at_place c.args.decls.now c.args.order.now c.loop-left.lens i a c.requires.order (let w : c.loop-left.left ≤ length c.args.order.now = c.loop-left.invariant.low in omega arith) (omega arith) c.index-decls-group.is in
    let next : c.loop-left.left ≡ i + 1 = omega arith in
    (leaving_ready base c.args.entity c.args.pool c.args.held c.args.order.now c.args.decls.now c.requires.family c.requires.order i group a here.at here.here c.loop-left.lens now now (get_or c.loop-left.lens group 0) here.long c.loop-left.invariant.same
    (subst (λ k. AreMixed c.args.decls.now c.loop-left.lens base now c.args.entity (leaving base c.args.entity c.args.pool c.args.held c.args.order.now k)) next c.loop-left.invariant.mixed) c.requires.here goes other has).1

pub bounds-lens-group-in-loop-left : goal.bounds-lens-group-in-loop-left
bounds-lens-group-in-loop-left g c =
    let i = c.loop-left.left - 1 in
    let here : AtPlace c.args.decls.now c.args.order.now c.loop-left.lens i c.index-decls-group.result = at_place c.args.decls.now c.args.order.now c.loop-left.lens i c.index-decls-group.result c.requires.order (let w : c.loop-left.left ≤ length c.args.order.now = c.loop-left.invariant.low in omega arith) (omega arith) c.index-decls-group.is in
    let low : get_or c.args.order.now i 0 < length c.args.decls.now = here.low in
    omega arith

pub loop-left-preserved : goal.loop-left-preserved
loop-left-preserved g c =
    let base = packed_of c.args.pools.now in
    let now = packed_of c.loop-left.pools in
    let new = packed_of c.leave_if.new.pools in
    let i = c.loop-left.left - 1 in
    let group = get_or c.args.order.now i 0 in
    let a = c.index-decls-group.result in
    let n = get_or c.loop-left.lens group 0 in
    let e = c.args.entity in
    let below : i < length c.args.order.now = (let w : c.loop-left.left ≤ length c.args.order.now = c.loop-left.invariant.low in omega arith) in
    let here : AtPlace c.args.decls.now c.args.order.now c.loop-left.lens i a = at_place c.args.decls.now c.args.order.now c.loop-left.lens i a c.requires.order below (omega arith) c.index-decls-group.is in
    let next : c.loop-left.left ≡ i + 1 = omega arith in
    let down = c.past_last-left-in-loop-left.ensures in
    let far : sum_by (cost_in c.args.decls.now (goes_out base e c.args.pool c.args.held)) (drop i c.args.order.now) ≤ sum_by (cost_in c.args.decls.now (goes_out base e c.args.pool c.args.held)) (drop c.past_last-left-in-loop-left.result c.args.order.now) =
    sum_from (cost_in c.args.decls.now (goes_out base e c.args.pool c.args.held)) c.args.order.now c.past_last-left-in-loop-left.result i down.falls in
    let so_far = steps_before c.args.decls.now (goes_out base e c.args.pool c.args.held) c.args.order.now c.loop-left.lens i a (goes_out now e c.args.pool c.args.held a) c.loop-left.steps c.leave_if.new.steps c.args.steps.now here
    (goes_alike base now e c.args.pool c.args.held a c.loop-left.invariant.same) below
    (subst (λ k. c.loop-left.steps ≤ c.args.steps.now + sum_by (cost_in c.args.decls.now (goes_out base e c.args.pool c.args.held)) (drop k c.args.order.now)) next c.loop-left.invariant.steps) c.leave_if.ensures.steps in
    record {
      low = (let falls : c.past_last-left-in-loop-left.result ≤ i = down.falls in omega arith);
      set = down.set;
      mixed = leaves_none_between base new e c.args.pool c.args.held c.args.order.now (set c.loop-left.lens group c.leave_if.result) c.args.decls.now c.requires.family c.requires.order c.args.mask c.requires.mask
          c.past_last-left-in-loop-left.result i down.falls down.clear
          (left_next base e c.args.pool c.args.held c.args.order.now c.args.decls.now c.requires.family c.requires.order i group a here.at here.here c.loop-left.lens now new n here.long c.loop-left.invariant.same c.leave_if.result
          (subst (λ k. AreMixed c.args.decls.now c.loop-left.lens base now e (leaving base e c.args.pool c.args.held c.args.order.now k)) next c.loop-left.invariant.mixed) c.leave_if.ensures.group);
      same = goes_same base now new e (goes_out now e c.args.pool c.args.held a) a.own n c.leave_if.result c.loop-left.invariant.same c.leave_if.ensures.group;
      still = went_still c.args.decls.now base now new e c.args.pool c.args.held group a n c.leave_if.result here.here c.loop-left.invariant.still c.leave_if.ensures.group;
      cores = c.leave_if.ensures.cores ∙ c.loop-left.invariant.cores;
      each = length-set c.loop-left.lens group c.leave_if.result ∙ c.loop-left.invariant.each;
      steps = omega (arith, so_far, far);
    }

pub returns-clause-mixed : goal.returns-clause-mixed
returns-clause-mixed g c =
    let base = packed_of c.args.pools.now in
    let none : c.loop-left.left ≡ 0 = omega arith in
    subst (λ k. AreMixed c.args.decls.now c.loop-left.lens base (packed_of c.loop-left.pools) c.args.entity (leaving base c.args.entity c.args.pool c.args.held c.args.order.now k)) none c.loop-left.invariant.mixed

pub returns-clause-steps : goal.returns-clause-steps
returns-clause-steps g c =
    let base = packed_of c.args.pools.now in
    let cost = cost_in c.args.decls.now (goes_out base c.args.entity c.args.pool c.args.held) in
    let far : sum_by cost (drop c.loop-left.left c.args.order.now) ≤ sum_by cost (drop 0 c.args.order.now) = sum_from cost c.args.order.now 0 c.loop-left.left (omega arith) in
    omega (arith, c.loop-left.invariant.steps, far)
