use Rattle.std.proofs.Common.{◌≡◌, true, false, not, eqb, refl, subst}
use Rattle.group_engine.specs.Engine.{Groups}
use Rattle.group_engine.specs.Grouped.{is_named}
use Rattle.group_engine.proofs.MaskLemmas.{mask_seen, read_named, read_last}
use Rattle.group_engine.proofs.engine.GroupEngine.names.Goals as goal

pub returns-then-wanting_at-ne0 : goal.returns-then-wanting_at-ne0
returns-then-wanting_at-ne0 c =
    let decls = c.self.inside.family in
    let order = c.self.inside.order.items in
    let pool = c.args.pool in
    let w = c.wanting_at.result in
    subst (λ (v : Groups). not (eqb w 0) ≡ is_named v.decls pool) c.self.view_is
    (read_named decls order pool w true c.self.invariant.ordered (mask_seen decls decls order order _ c.self.inside.pools pool w true c.self.invariant.marked.wanting refl refl c.wanting_at.ensures) c.if-wanting_at-ne0.true)

pub returns-else-wanting_at-ne0 : goal.returns-else-wanting_at-ne0
returns-else-wanting_at-ne0 c =
    let decls = c.self.inside.family in
    let order = c.self.inside.order.items in
    let pool = c.args.pool in
    let w = c.wanting_at.result in
    let e = c.excluding_at.result in
    subst (λ (v : Groups). not (eqb e 0) ≡ is_named v.decls pool) c.self.view_is
    (read_last decls order pool w e c.self.invariant.ordered (mask_seen decls decls order order _ c.self.inside.pools pool w true c.self.invariant.marked.wanting refl refl c.wanting_at.ensures)
    (mask_seen decls decls order order _ c.self.inside.pools pool e false c.self.invariant.marked.excluding refl refl c.excluding_at.ensures) c.if-wanting_at-ne0.false)
