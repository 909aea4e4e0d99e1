use Rattle.std.proofs.Common.{◌≡◌, ◌+◌, ◌++◌, ◌∷◌, [], List, take, sym, ap, ◌∙◌, subst}
use Rattle.std.proofs.lemmas.List.{take_more}
use Rattle.system_api.specs.Emissions.{Emissions}
use Rattle.tick_runner.specs.Running.{IsReady, AreReady}
use Rattle.tick_runner.proofs.ListLemmas.{all_zip_more}
use Rattle.tick_runner.proofs.preparing.buffers_for.Goals as goal

pub loop-system-preserved : goal.loop-system-preserved
loop-system-preserved g c =
    let k = c.loop-system.system-index in
    let systems = c.args.systems.now in
    let s = c.system-item.result in
    let limit = g.S.System.limit in
    let more : take (k + 1) systems ≡ take k systems ++ s ∷ [] = take_more systems k s c.loop-system-test.true ∙ ap (λ x. take k systems ++ x ∷ []) (sym c.system-item.is) in
    subst (λ (buffers : List Emissions). AreReady limit (take (k + 1) systems) c.args.sizes.now buffers) (sym c.in_ok-push.ensures.items)
    (subst (λ xs. AreReady limit xs c.args.sizes.now (c.loop-system.buffers.items ++ c.in_ok-buffer.buffer ∷ [])) (sym more)
    (all_zip_more (λ system buffer. IsReady (limit system c.args.sizes.now) buffer) (take k systems) c.loop-system.buffers.items s c.in_ok-buffer.buffer c.loop-system.invariant c.in_ok-buffer.ensures))
