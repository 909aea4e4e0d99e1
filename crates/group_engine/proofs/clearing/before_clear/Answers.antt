use Rattle.std.proofs.Common.{◌≡◌, ◌<◌, ◌≤◌, ◌+◌, ◌*◌, take, length, get_or, sym, ap, subst, ◌∙◌, arith, length-set}
use Rattle.std.specs.List.{sum_by}
use Rattle.std.proofs.lemmas.List.{length-map, take_all}
use Rattle.world_model.specs.declared.group.GroupDecl.{GroupDecl}
use Rattle.world_model.specs.Groups.{has_pool, group_pools, packed_at}
use Rattle.group_engine.specs.Grouped.{packed_of, cost_of, naming_cost}
use Rattle.group_engine.specs.Moving.{cost_in}
use Rattle.group_engine.proofs.PassLemmas.{AtPlace, at_place}
use Rattle.group_engine.proofs.StepLemmas.{all_costs}
use Rattle.group_engine.proofs.UseLemmas.{as_many}
use Rattle.group_engine.proofs.ClearLemmas.{not_yet, cleared_next, still_next, all_cleared, as_long, times_next}
use Rattle.group_engine.proofs.clearing.before_clear.Goals as goal

pub clear_one-requires-clause-grouped : goal.clear_one-requires-clause-grouped
clear_one-requires-clause-grouped g c =
    let base = packed_of c.args.pools.now in
    let now = packed_of c.loop-i.pools in
    let i = c.loop-i.i in
    let a = c.index-decls-group.result in
    let here : AtPlace c.args.decls.now c.args.order.now c.loop-i.lens i a = at_place c.args.decls.now c.args.order.now c.loop-i.lens i a c.requires.order (omega arith) (omega arith) c.index-decls-group.is in
    not_yet base c.args.pool c.args.decls.now c.args.order.now c.requires.family c.requires.order c.loop-i.lens now now i a here c.loop-i.invariant.cleared c.loop-i.invariant.same

pub bounds-lens-group-in-loop-i : goal.bounds-lens-group-in-loop-i
bounds-lens-group-in-loop-i g c =
    let here : AtPlace c.args.decls.now c.args.order.now c.loop-i.lens c.loop-i.i c.index-decls-group.result = at_place c.args.decls.now c.args.order.now c.loop-i.lens c.loop-i.i c.index-decls-group.result c.requires.order (omega arith) (omega arith) c.index-decls-group.is in
    let low : get_or c.args.order.now c.loop-i.i 0 < length c.args.decls.now = here.low in
    omega arith

pub loop-i-preserved : goal.loop-i-preserved
loop-i-preserved g c =
    let p = c.args.pool in
    let base = packed_of c.args.pools.now in
    let now = packed_of c.loop-i.pools in
    let new = packed_of c.clear_one.new.pools in
    let i = c.loop-i.i in
    let a = c.index-decls-group.result in
    let h = c.loop-i.invariant in
    let here : AtPlace c.args.decls.now c.args.order.now c.loop-i.lens i a = at_place c.args.decls.now c.args.order.now c.loop-i.lens i a c.requires.order (omega arith) (omega arith) c.index-decls-group.is in
    let named : GroupDecl → Rattle.std.proofs.Common.Bool = (λ d. has_pool (group_pools d) p) in
    record {
      cleared = cleared_next base p c.args.decls.now c.args.order.now c.requires.family c.requires.order c.loop-i.lens now new i a here h.cleared h.same c.clear_one.result c.clear_one.ensures.grouped c.clear_one.ensures.keeps;
      still = still_next base p c.args.decls.now c.args.order.now c.requires.family c.requires.order c.loop-i.lens now new i a here h.cleared h.same h.still c.clear_one.ensures.still;
      same = λ x q. c.clear_one.ensures.same x q ∙ h.same x q;
      cores = c.clear_one.ensures.cores ∙ h.cores;
      each = length-set c.loop-i.lens (get_or c.args.order.now i 0) c.clear_one.result ∙ h.each;
      steps = times_next c.args.decls.now named c.args.order.now c.loop-i.lens i a (length (packed_at base p)) c.loop-i.steps c.clear_one.new.steps c.args.steps.now here (omega arith) h.steps
          (subst (λ n. c.clear_one.new.steps ≤ c.loop-i.steps + n * cost_of (named a) a) (as_long c.args.pools.now c.loop-i.pools p h.cores) c.clear_one.ensures.steps);
    }

pub returns-clause-grouped : goal.returns-clause-grouped
returns-clause-grouped g c =
    let p = c.args.pool in
    let pools = c.loop-i.pools in
    let many : length (packed_of pools) ≡ length c.args.pools.now = length-map pools _ ∙ as_many c.args.pools.now pools c.loop-i.invariant.cores in
    all_cleared (packed_of c.args.pools.now) p c.args.decls.now c.args.order.now c.requires.order c.loop-i.lens (packed_of pools) c.loop-i.i (omega arith) (omega (arith, many, c.requires.declared)) c.loop-i.invariant.cleared c.loop-i.invariant.same

pub returns-clause-steps : goal.returns-clause-steps
returns-clause-steps g c =
    let p = c.args.pool in
    let named : GroupDecl → Rattle.std.proofs.Common.Bool = (λ d. has_pool (group_pools d) p) in
    let cost : sum_by (cost_in c.args.decls.now named) (take c.loop-i.i c.args.order.now) ≡ naming_cost c.args.decls.now p =
    ap (sum_by (cost_in c.args.decls.now named)) (take_all c.loop-i.i c.args.order.now (omega arith)) ∙ all_costs c.args.decls.now c.args.order.now named c.requires.order in
    subst (λ n. c.loop-i.steps ≤ c.args.steps.now + length (packed_at (packed_of c.args.pools.now) p) * n) cost c.loop-i.invariant.steps
