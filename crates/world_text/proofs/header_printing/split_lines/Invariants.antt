use Rattle.std.proofs.Common.{◌≡◌, ◌++◌, ◌∷◌, [], length}
use Rattle.std.specs.List.{AllByRecursion, flat_map}
use Rattle.entity_id.specs.Cuts.{Lacks}
use Rattle.world_text.proofs.header_printing.split_lines.Given as goal

abbrev pub invariant-loop-line : goal.invariant-loop-line
invariant-loop-line l = record {
  whole : l.text ≡ flat_map (λ x. x ++ 10 ∷ []) l.lines.items ++ l.rest;
  each : AllByRecursion (Lacks 10) l.lines.items;
}

abbrev pub decreases-loop-line : goal.decreases-loop-line
decreases-loop-line l = length l.rest
