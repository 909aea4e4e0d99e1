use Rattle.std.proofs.Common.{◌≡◌, ◌↔◌, ◌≤◌, ℕ, true, List, length, subst, arith}
use Rattle.std.specs.FinSet as set
use Rattle.access_graph.specs.Building.{IsImplied, IsWaveAfter}
use Rattle.access_graph.specs.Conflicts.{ComesBefore}
use Rattle.access_graph.specs.Systems.{SystemSet}
use Rattle.access_graph.proofs.BuildingLemmas.{built_more}
use Rattle.access_graph.proofs.StepLemmas.{left_of}
use Rattle.access_graph.proofs.building.Building.add.Goals as goal

pub add_edges-requires-clause-below : goal.add_edges-requires-clause-below
add_edges-requires-clause-below c = λ i has.
    let earlier = c.earlier_than-preds.result in
    let left = subst (λ (s : SystemSet). set.contains s i ≡ true) c.difference-sources.ensures has in
    ((c.earlier_than-preds.ensures.preds i).0 (left_of earlier.preds earlier.implied i left)).earlier

pub returns-clause-built : goal.returns-clause-built
returns-clause-built c =
    let systems = c.args.accesses.now in
    let self = c.args.self.now in
    let n = length self.preds.items in
    let now = c.earlier_than-preds.result.preds in
    let implied = c.earlier_than-preds.result.implied in
    let counted : c.len-system.result ≡ n = omega (arith, c.len-system.ensures, self.preds.ok.0) in
    let now_are : (i : ℕ) → (set.contains now i ≡ true) ↔ ComesBefore systems i n =
    subst (λ (k : ℕ). (i : ℕ) → (set.contains now i ≡ true) ↔ ComesBefore systems i k) counted c.earlier_than-preds.ensures.preds
    in
    let implied_are : (i : ℕ) → (set.contains implied i ≡ true) ↔ IsImplied systems self.reached.items n n i =
    subst (λ (k : ℕ). (i : ℕ) → (set.contains implied i ≡ true) ↔ IsImplied systems self.reached.items k k i) counted
    (subst (λ (sets : List SystemSet). (i : ℕ) → (set.contains implied i ≡ true) ↔ IsImplied systems sets c.len-system.result c.len-system.result i) c.deref.ensures.value c.earlier_than-preds.ensures.implied)
    in
    let after : IsWaveAfter (set.difference now implied) self.waves.items n c.in_ok-wave.wave =
    subst (λ (k : ℕ). IsWaveAfter (set.difference now implied) self.waves.items k c.in_ok-wave.wave) counted
    (subst (λ (sources : SystemSet). IsWaveAfter sources self.waves.items c.len-system.result c.in_ok-wave.wave) c.difference-sources.ensures
    (subst (λ (waves : List ℕ). IsWaveAfter c.difference-sources.result waves c.len-system.result c.in_ok-wave.wave) c.deref-2.ensures.value c.in_ok-wave.ensures.wave))
    in
    let low : c.in_ok-wave.wave ≤ n = omega (arith, c.in_ok-wave.ensures.low, counted) in
    rw (c.in_ok-push-3.ensures.items, c.in_ok-push-2.ensures.items, c.in_ok-push.ensures.items, c.in_ok-wave.ensures.edges, c.union.ensures, c.difference-sources.ensures, counted)
    (built_more systems n self.preds.items self.reached.items self.waves.items self.edges.items now implied c.in_ok-wave.wave c.requires.built c.requires.more now_are implied_are after low)
