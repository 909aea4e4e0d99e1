use Rattle.std.proofs.Common.{◌≡◌, sym, ◌∙◌, subst}
use Rattle.world_model.specs.declared.access.Access.{Access}
use Rattle.world_model.specs.Frames.{IsFitSystem}
use Rattle.tick_runner.specs.Giving.{three_components, reading_and_writing, gives}
use Rattle.tick_runner.proofs.GivingLemmas.{giver_fits}
use Rattle.tick_runner.proofs.tests.giving.Goals as goal

pub returns : goal.returns
returns c = λ profile.
    let named : Access = record { read = c.from_vec.result; write = c.from_vec-2.result; look = c.from_vec-3.result; without = c.from_vec-4.result } in
    let read = c.from_vec.ensures ∙ c.in_ok-from_slice.ensures.items in
    let write = c.from_vec-2.ensures ∙ c.in_ok-from_slice-2.ensures.items in
    let look = c.from_vec-3.ensures ∙ c.new.ensures.items in
    let without = c.from_vec-4.ensures ∙ c.new-2.ensures.items in
    let same : named ≡ reading_and_writing c.args.read.now c.args.write.now = λ i. record { read = read i; write = write i; look = look i; without = without i } in
    subst (λ (access : Access). IsFitSystem profile three_components access (gives c.args.order)) (sym same) (giver_fits profile (reading_and_writing c.args.read.now c.args.write.now) c.args.order c.requires.lists (c.requires.order profile))
