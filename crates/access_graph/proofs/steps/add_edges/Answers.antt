use Rattle.std.proofs.Common.{◌<◌, ◌++◌, ◌∷◌, [], ◌+◌, sym, ap, ◌∙◌, subst, arith}
use Rattle.access_graph.specs.Building.{IsWaveAfter}
use Rattle.access_graph.proofs.ListingLemmas.{edges_some, edges_end, wave_some, wave_end}
use Rattle.access_graph.proofs.steps.add_edges.Goals as goal

pub loop-from-preserved : goal.loop-from-preserved
loop-from-preserved c =
    let sources = c.args.sources.now in
    let found = c.in-Some.ensures in
    let below : c.in-Some.from < c.args.to = c.requires.below c.in-Some.from found.1 in
    record {
      within = omega arith;
      listed =
          c.in_ok-push.ensures.items ∙ ap (λ edges. edges ++ record { from = c.in-Some.from; to = c.args.to } ∷ []) c.loop-from.invariant.listed
          ∙ edges_some sources c.args.edges.now.items c.args.to c.loop-from.next c.in-Some.from found.0 found.1 found.2;
      wave = subst (IsWaveAfter sources c.args.waves.now (c.in-Some.from + 1)) (sym c.max-wave.ensures)
          (wave_some sources c.args.waves.now c.loop-from.next c.in-Some.from c.loop-from.wave found.0 found.1 found.2 c.loop-from.invariant.wave);
      low = let at = c.requires.low c.in-Some.from below in let e = c.max-wave.ensures in omega (arith, found.0);
    }

pub returns-clause-edges : goal.returns-clause-edges
returns-clause-edges c =
    let none = c.in_default.ensures in
    c.loop-from.invariant.listed
    ∙ edges_end c.args.sources.now c.args.edges.now.items c.args.to c.loop-from.next c.loop-from.invariant.within (λ other above below. none other above)

pub returns-clause-wave : goal.returns-clause-wave
returns-clause-wave c =
    let none = c.in_default.ensures in
    wave_end c.args.sources.now c.args.waves.now c.loop-from.next c.args.to c.loop-from.wave c.loop-from.invariant.within (λ other above below. none other above)
    c.loop-from.invariant.wave
