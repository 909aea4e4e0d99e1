use Rattle.std.proofs.Common.{◌≡◌, ◌↔◌, Bool, true, not, eqb, List, sym, ap, subst, ◌∙◌}
use Rattle.std.specs.List.{list_any}
use Rattle.access_graph.specs.declared.edge.Edge.{Edge}
use Rattle.access_graph.specs.Conflicts.{IsTopLevel}
use Rattle.access_graph.specs.Graphs.{SystemGraph}
use Rattle.access_graph.proofs.GraphLemmas.{top_level}
use Rattle.access_graph.proofs.graph.Graph.top_level.Goals as goal

pub returns-clause-waits : goal.returns-clause-waits
returns-clause-waits c = λ systems is.
    let edges_is = c.deref.ensures.value ∙ ap (λ (g : SystemGraph). g.edges) c.self.view_is in
    let answer : c.lead_to.result ≡ list_any (λ edge. eqb edge.to c.args.system) c.args.self.now.edges =
    c.lead_to.ensures ∙ ap (λ (edges : List Edge). list_any (λ edge. eqb edge.to c.args.system) edges) edges_is
    in
    subst (λ (b : Bool). (not b ≡ true) ↔ IsTopLevel systems c.args.system) (sym answer) (top_level systems c.args.self.now c.args.system is)
