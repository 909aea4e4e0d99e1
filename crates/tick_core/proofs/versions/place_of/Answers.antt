use Rattle.std.proofs.Common.{eqb, ◌∙◌, arith}
use Rattle.std.specs.List.{list_any}
use Rattle.std.proofs.lemmas.Bool.{both_ways, ne_eqb}
use Rattle.tick_core.specs.declared.versions.PoolVersion.{PoolVersion}
use Rattle.tick_core.proofs.PlaceLemmas.{any-map, none_passes}
use Rattle.tick_core.proofs.versions.place_of.Goals as goal

pub unreachable-requires : goal.unreachable-requires
unreachable-requires c =
    let versions = c.args.versions.now in
    both_ways (list_any (λ (at : PoolVersion). eqb at.pool c.args.pool) versions)
    (none_passes (λ at. eqb at.pool c.args.pool) versions (λ k at low. ne_eqb _ c.args.pool (c.loop-at.invariant k at (omega arith))))
    (any-map (λ (at : PoolVersion). at.pool) versions c.args.pool ∙ c.requires)
