use Rattle.std.proofs.Common.{◌≡◌, ℕ, ◌+◌, ◌∷◌, [], length, Some, slice_get, sym, ap, ◌∙◌}
use Rattle.std.proofs.lemmas.List.{length-append}
use Rattle.tick_runner.specs.declared.plan.Part.{Part}
use Rattle.tick_runner.specs.Plans.{IsPartFor}
use Rattle.tick_runner.proofs.ListLemmas.{pushed_at}
use Rattle.tick_runner.proofs.plan.parts_of.Goals as goal

pub loop-place-preserved : goal.loop-place-preserved
loop-place-preserved g c =
    let parts = c.loop-place.parts.items in
    let part : Part = c.in_ok-part_of.field-0 in
    let P = λ (place : ℕ) (part : Part). (system : _) → slice_get c.args.systems.now place ≡ Some system → IsPartFor g.S.System.lists g.S.System.limit c.args.systems.now c.args.pools.now place system part in
    record {
      count = ap length c.in_ok-push.ensures.items ∙ length-append parts (part ∷ []) ∙ ap (λ n. n + 1) c.loop-place.invariant.count;
      parts = λ place system part-there at here.
          pushed_at P parts part c.loop-place.place c.loop-place.invariant.count (λ i x is s found. c.loop-place.invariant.parts i s x found is) c.in_ok-part_of.ensures
          place part-there (ap (λ list. slice_get list place) (sym c.in_ok-push.ensures.items) ∙ here) system at;
    }
