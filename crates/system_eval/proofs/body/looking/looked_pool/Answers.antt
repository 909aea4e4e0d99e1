use Rattle.std.proofs.Common.{◌≡◌, ◌+◌, [], length, sym, ap, ◌∙◌, subst, arith}
use Rattle.entity_id.specs.FiniteMap as entries
use Rattle.row_lang.specs.Values.{known_for}
use Rattle.system_api.specs.Registers.{pool_at}
use Rattle.system_eval.specs.Lanes.{Scenery, looked_at}
use Rattle.system_eval.proofs.LookingLemmas.{looked_missed, looked_past, looked_there}
use Rattle.system_eval.proofs.body.looking.looked_pool.Goals as goal

pub returns-in_default-clause-none : goal.returns-in_default-clause-none
returns-in_default-clause-none c =
    let s = c.scene.inside in
    subst (λ (it : Scenery). known_for c.args.pool (looked_at it.access it.reads) [] ≡ []) c.scene.view_is
    (looked_missed s.access.now s.lent.now.reads c.args.pool c.as_slice.result.now c.as_slice.ensures (sym c.in_default.ensures))

pub returns-then-count-skip-clause-none : goal.returns-then-count-skip-clause-none
returns-then-count-skip-clause-none c =
    let s = c.scene.inside in
    let read = ap length c.as_slice-skip.ensures in
    subst (λ (it : Scenery). known_for c.args.pool (looked_at it.access it.reads) [] ≡ []) c.scene.view_is
    (looked_past s.access.now s.lent.now.reads c.args.pool c.in-Some.at c.as_slice.result.now c.as_slice.ensures (sym c.in-Some.ensures) (omega (arith, read, c.reads-count.ensures, c.if-count-skip.true)))

pub returns-then-at-count-clause-none : goal.returns-then-at-count-clause-none
returns-then-at-count-clause-none c =
    let s = c.scene.inside in
    let read = ap length c.as_slice-skip.ensures in
    subst (λ (it : Scenery). known_for c.args.pool (looked_at it.access it.reads) [] ≡ []) c.scene.view_is
    (looked_past s.access.now s.lent.now.reads c.args.pool c.in-Some.at c.as_slice.result.now c.as_slice.ensures (sym c.in-Some.ensures) (omega (arith, read, c.reads-count.ensures, c.if-count-skip.false, c.if-at-count.true)))

pub returns-clause-some : goal.returns-clause-some
returns-clause-some c =
    let s = c.scene.inside in
    let read = ap length c.as_slice-skip.ensures in
    ap (λ st. entries.map_of st.pairs) (c.read.ensures ∙ ap (λ n. (pool_at s.lent.now.reads (n + c.in-Some.at)).storage) read)
    ∙ sym (subst (λ (it : Scenery). known_for c.args.pool (looked_at it.access it.reads) [] ≡ entries.map_of (pool_at s.lent.now.reads (length s.access.now.read + c.in-Some.at)).storage.pairs) c.scene.view_is
    (looked_there s.access.now s.lent.now.reads c.args.pool c.in-Some.at c.as_slice.result.now c.as_slice.ensures (sym c.in-Some.ensures) (omega (arith, read, c.reads-count.ensures, c.if-count-skip.false, c.if-at-count.false))))
