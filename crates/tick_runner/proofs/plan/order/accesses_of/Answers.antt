use Rattle.std.proofs.Common.{◌++◌, ◌∷◌, [], map, take, sym, ap, ◌∙◌}
use Rattle.std.proofs.lemmas.List.{map-append, take_more}
use Rattle.tick_runner.proofs.plan.order.accesses_of.Goals as goal

pub loop-system-preserved : goal.loop-system-preserved
loop-system-preserved g c =
    let k = c.loop-system.system-index in
    let lists = g.S.System.lists in
    let systems = c.args.systems.now in
    let s = c.system-item.result in
    c.in_ok-push_copy.ensures.ok ∙ ap (λ accesses. accesses ++ c.access.result.now ∷ []) c.loop-system.invariant ∙ ap (λ a. map lists (take k systems) ++ a ∷ []) c.access.ensures
    ∙ sym (ap (map lists) (take_more systems k s c.loop-system-test.true ∙ ap (λ x. take k systems ++ x ∷ []) (sym c.system-item.is)) ∙ map-append lists (take k systems) (s ∷ []))
