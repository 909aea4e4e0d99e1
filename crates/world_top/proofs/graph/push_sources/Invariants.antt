use Rattle.std.proofs.Common.{◌≡◌, ◌++◌, map, take}
use Rattle.std.specs.List.{flat_map}
use Rattle.world_top.specs.Graphed.{spaced}
use Rattle.world_top.proofs.graph.push_sources.Given as goal

abbrev pub invariant-loop-edge : goal.invariant-loop-edge
invariant-loop-edge l = l.out.items ≡ l.fn.out.items ++ flat_map spaced (map (λ edge. edge.from) (take l.edge-index l.edges))
