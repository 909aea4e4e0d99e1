use Rattle.std.proofs.Common.{◌≡◌, ◌+◌, ◌≤◌, ◌&&◌, not, sym, ap, ap₂, ◌∙◌, arith}
use Rattle.std.specs.List.{sum_by}
use Rattle.world_model.specs.declared.group.GroupDecl.{GroupDecl}
use Rattle.group_engine.specs.Grouped.{packed_of, moves, naming_cost}
use Rattle.group_engine.specs.Moving.{matches_if, stays_in, comes_in, goes_out, cost_in}
use Rattle.group_engine.proofs.StepLemmas.{few_steps}
use Rattle.group_engine.proofs.PassLemmas.{mixed_alike, same_tests, comes_alike}
use Rattle.group_engine.proofs.EndLemmas.{rebase}
use Rattle.group_engine.proofs.StillLemmas.{still_then}
use Rattle.group_engine.proofs.changes.update.Goals as goal

pub enter_all-requires-clause-mixed : goal.enter_all-requires-clause-mixed
enter_all-requires-clause-mixed g c =
    let base = packed_of c.args.pools.now in
    let now = packed_of c.leave_all.new.pools in
    let e = c.args.entity in
    let p = c.args.pool in
    let held = c.args.held in
    mixed_alike c.args.decls.now c.leave_all.new.lens now now e (λ group decl. stays_in base e p held decl) (λ group decl. stays_in now e p held decl)
    (rebase c.args.decls.now c.leave_all.new.lens base now now e (λ group decl. stays_in base e p held decl) c.leave_all.ensures.same c.leave_all.ensures.mixed)
    (λ h d there. ap₂ (λ x y. x && y) (same_tests base now e p (not held) d c.leave_all.ensures.same) (same_tests base now e p held d c.leave_all.ensures.same))

pub returns-clause-mixed : goal.returns-clause-mixed
returns-clause-mixed g c =
    let base = packed_of c.args.pools.now in
    let now = packed_of c.leave_all.new.pools in
    let new = packed_of c.enter_all.new.pools in
    let e = c.args.entity in
    let p = c.args.pool in
    let held = c.args.held in
    mixed_alike c.args.decls.now c.enter_all.new.lens base new e (λ group decl. matches_if now e p held decl) (λ group decl. matches_if base e p held decl)
    (rebase c.args.decls.now c.enter_all.new.lens now base new e (λ group decl. matches_if now e p held decl) (λ x q. sym (c.leave_all.ensures.same x q)) c.enter_all.ensures.mixed)
    (λ h d there. sym (same_tests base now e p held d c.leave_all.ensures.same))

pub returns-clause-same : goal.returns-clause-same
returns-clause-same g c = λ x q. c.enter_all.ensures.same x q ∙ c.leave_all.ensures.same x q

pub returns-clause-steps : goal.returns-clause-steps
returns-clause-steps g c =
    let base = packed_of c.args.pools.now in
    let now = packed_of c.leave_all.new.pools in
    let e = c.args.entity in
    let p = c.args.pool in
    let held = c.args.held in
    let alike : (λ (d : GroupDecl). comes_in now e p held d) ≡ (λ (d : GroupDecl). comes_in base e p held d) = (λ i d. comes_alike base now e p held d c.leave_all.ensures.same i) in
    let cost : sum_by (cost_in c.args.decls.now (comes_in now e p held)) c.args.order.now ≡ sum_by (cost_in c.args.decls.now (comes_in base e p held)) c.args.order.now = ap (λ f. sum_by (cost_in c.args.decls.now f) c.args.order.now) alike in
    let first = c.leave_all.ensures.steps in
    let second = c.enter_all.ensures.steps in
    let few : sum_by (cost_in c.args.decls.now (goes_out base e p held)) c.args.order.now + sum_by (cost_in c.args.decls.now (comes_in base e p held)) c.args.order.now ≤ naming_cost c.args.decls.now p = few_steps c.args.decls.now c.args.order.now base e p held c.requires.order in
    omega (arith, first, second, few, cost)

pub returns-clause-still : goal.returns-clause-still
returns-clause-still g c =
    still_then (moves c.args.decls.now c.args.pool) (packed_of c.args.pools.now) (packed_of c.leave_all.new.pools) (packed_of c.enter_all.new.pools)
    c.leave_all.ensures.still c.enter_all.ensures.still
