use Rattle.std.proofs.Common.{◌≡◌, ◌+◌, ◌<◌, ◌≤◌, Some, slice_get, get_or, length, refl, sym, subst, ◌∙◌, arith}
use Rattle.std.proofs.lemmas.Option.{slice_get-get_or, slice_get_read}
use Rattle.group_engine.specs.Masks.{may_enter}
use Rattle.group_engine.proofs.MaskLemmas.{IsMaskUpTo, none_marked, marked_more, unmarked_more, all_marked}
use Rattle.group_engine.proofs.marking.mask_of.Goals as goal
use Rattle.group_engine.proofs.marking.mask_of.Goals.{then-may_enter, else-may_enter}

pub loop-place-init : goal.loop-place-init
loop-place-init c = record { marked = none_marked c.args.decls.now c.args.order.now (may_enter c.args.pool c.args.held) }

pub loop-place-preserved : goal.loop-place-preserved
loop-place-preserved c =
    let decls = c.args.decls.now in
    let order = c.args.order.now in
    let i = c.loop-place.place in
    let g = get_or order i 0 in
    let a = c.index-decls-order.result in
    let at : slice_get order i ≡ Some g = slice_get-get_or order i 0 (omega arith) in
    let here : slice_get decls g ≡ Some a = slice_get_read decls (length decls) g a refl (c.requires.order.within i g at) c.index-decls-order.is in
    let test = may_enter c.args.pool c.args.held in
    let few : i < 32 = (let n : length order ≤ 32 = c.requires.few in omega arith) in
    let before = c.loop-place.invariant.marked in
    elim c.if-may_enter.branch [
      | then-may_enter w ↦ record { marked = subst (λ m. IsMaskUpTo decls order test m (i + 1)) (sym w.mask-is) (marked_more decls order test c.loop-place.mask i g a at here before few (sym c.may_enter.ensures ∙ w.if-may_enter.true)) }
      | else-may_enter w ↦ record { marked = subst (λ m. IsMaskUpTo decls order test m (i + 1)) (sym w.mask-is) (unmarked_more decls order test c.loop-place.mask i g a at here before (sym c.may_enter.ensures ∙ w.if-may_enter.false)) }
    ]

pub returns : goal.returns
returns c = all_marked c.args.decls.now c.args.order.now (may_enter c.args.pool c.args.held) c.loop-place.mask c.loop-place.place (omega arith) c.loop-place.auto.place-end c.requires.few c.loop-place.invariant.marked
