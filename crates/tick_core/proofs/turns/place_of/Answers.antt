use Rattle.std.proofs.Common.{eqb, ◌∙◌, arith}
use Rattle.std.specs.List.{list_any}
use Rattle.std.proofs.lemmas.Bool.{both_ways, ne_eqb}
use Rattle.tick_core.specs.declared.turns.Turn.{Turn}
use Rattle.tick_core.proofs.PlaceLemmas.{any-map, none_passes}
use Rattle.tick_core.proofs.turns.place_of.Goals as goal

pub unreachable-requires : goal.unreachable-requires
unreachable-requires c =
    let turns = c.args.turns.now in
    both_ways (list_any (λ (turn : Turn). eqb turn.pool c.args.pool) turns)
    (none_passes (λ turn. eqb turn.pool c.args.pool) turns (λ k turn low. ne_eqb _ c.args.pool (c.loop-at.invariant k turn (omega arith))))
    (any-map (λ (turn : Turn). turn.pool) turns c.args.pool ∙ c.requires)
