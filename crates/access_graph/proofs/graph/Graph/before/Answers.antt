use Rattle.std.proofs.Common.{◌≡◌, ◌↔◌, ◌<◌, true, List, length, sym, ap, subst, ◌∙◌}
use Rattle.std.specs.FinSet as set
use Rattle.std.proofs.lemmas.List.{get_or_read}
use Rattle.access_graph.specs.Conflicts.{ComesBefore}
use Rattle.access_graph.specs.Graphs.{SystemGraph, set_at}
use Rattle.access_graph.specs.Systems.{SystemSet}
use Rattle.access_graph.proofs.graph.Graph.before.Goals as goal

pub returns-clause-earlier : goal.returns-clause-earlier
returns-clause-earlier c = λ systems is i.
    let preds_is = ap (λ (g : SystemGraph). g.preds) c.self.view_is in
    let in_range = subst (λ (sets : List SystemSet). c.args.system < length sets) (sym preds_is) c.requires in
    let here : c.index.result.now ≡ set_at c.args.self.now.preds c.args.system =
    get_or_read c.self.inside.preds.items c.args.system c.index.result.now in_range c.index.ensures set.empty ∙ ap (λ sets. set_at sets c.args.system) preds_is
    in
    subst (λ (s : SystemSet). (set.contains s i ≡ true) ↔ ComesBefore systems i c.args.system) (sym here) (is.preds i c.args.system)
