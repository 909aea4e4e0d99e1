use Rattle.std.proofs.Common.{◌≡◌, ℕ, ◌+◌, ◌++◌, [], ◌∷◌, List, take, sym, ap, ◌∙◌, get_or}
use Rattle.std.proofs.lemmas.List.{take_more}
use Rattle.system_eval.specs.Runs.{smaller, least_of, sizes_at}
use Rattle.system_eval.proofs.SizeLemmas.{least-both, sizes-both}
use Rattle.system_eval.proofs.sizes.least_in.Goals as goal

pub loop-pool-preserved : goal.loop-pool-preserved
loop-pool-preserved c =
    let sizes = c.args.sizes.now in
    let pools = c.args.pools.now in
    let k = c.loop-pool.pool-index in
    let more : take (k + 1) pools ≡ take k pools ++ get_or pools k 0 ∷ [] = take_more pools k 0 c.loop-pool-test.true in
    c.smaller-least.ensures
    ∙ ap (λ (n : ℕ). smaller n (get_or sizes (get_or pools k 0) 0)) c.loop-pool.invariant
    ∙ sym (ap (λ (ps : List ℕ). least_of c.args.first (sizes_at sizes ps)) more
    ∙ ap (least_of c.args.first) (sizes-both sizes (take k pools) (get_or pools k 0 ∷ []))
    ∙ least-both c.args.first (sizes_at sizes (take k pools)) (sizes_at sizes (get_or pools k 0 ∷ [])))
