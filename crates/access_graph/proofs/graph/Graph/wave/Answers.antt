use Rattle.std.proofs.Common.{◌≡◌, ◌<◌, ℕ, List, length, get_or, sym, ap, subst, ◌∙◌, arith}
use Rattle.std.proofs.lemmas.List.{get_or_read}
use Rattle.access_graph.specs.Conflicts.{IsWave}
use Rattle.access_graph.specs.Graphs.{SystemGraph}
use Rattle.access_graph.specs.Systems.{SystemSet}
use Rattle.access_graph.proofs.graph.Graph.wave.Goals as goal

pub returns-clause-longest : goal.returns-clause-longest
returns-clause-longest c = λ systems is.
    let preds_is = ap (λ (g : SystemGraph). g.preds) c.self.view_is in
    let waves_is = ap (λ (g : SystemGraph). g.waves) c.self.view_is in
    let in_range : c.args.system < length c.self.inside.waves.items =
    let counted = c.self.invariant.1 in let same = ap (λ (sets : List SystemSet). length sets) preds_is in omega arith
    in
    let here : c.index.result.now ≡ get_or c.args.self.now.waves c.args.system 0 =
    get_or_read c.self.inside.waves.items c.args.system c.index.result.now in_range c.index.ensures 0 ∙ ap (λ waves. get_or waves c.args.system 0) waves_is
    in
    subst (λ (w : ℕ). IsWave systems c.args.system w) (sym here) (is.waves c.args.system (let counted = is.counted in omega arith))
