use Rattle.std.proofs.Common.{◌≡◌, ℕ, ◌<◌, length, Some, slice_get, refl, sym, ap, ◌∙◌, subst}
use Rattle.std.proofs.lemmas.List.{length-map}
use Rattle.std.proofs.lemmas.Option.{slice_get_read}
use Rattle.ready_board.specs.Seats.{view_of}
use Rattle.tick_runner.specs.declared.plan.Part.{Part}
use Rattle.tick_runner.specs.Plans.{IsPartFor}
use Rattle.tick_runner.specs.Versions.{IsRightAt}
use Rattle.tick_runner.proofs.WorkLemmas.{worked_more}
use Rattle.tick_runner.proofs.worker.take_one.Goals as goal

pub run_claimed-requires-clause-at : goal.run_claimed-requires-clause-at
run_claimed-requires-clause-at g c =
    let systems = c.args.systems.now in
    let shared = c.requires.shared in
    let place = c.in-Got.system in
    let low : place < length systems = subst (λ (n : ℕ). place < n) (shared.plan_is.board.counted ∙ length-map systems g.S.System.lists) c.in-Got.ensures.answer.is_system in
    let at : slice_get systems place ≡ Some c.index-systems-place.result = slice_get_read systems (length systems) place c.index-systems-place.result refl low c.index-systems-place.is in
    ap (λ ss. slice_get ss place) shared.systems_are ∙ at

pub run_claimed-requires-clause-lawful : goal.run_claimed-requires-clause-lawful
run_claimed-requires-clause-lawful g c =
    let systems = c.args.systems.now in
    let shared = c.requires.shared in
    let place = c.in-Got.system in
    let low : place < length systems = subst (λ (n : ℕ). place < n) (shared.plan_is.board.counted ∙ length-map systems g.S.System.lists) c.in-Got.ensures.answer.is_system in
    let at : slice_get systems place ≡ Some c.index-systems-place.result = slice_get_read systems (length systems) place c.index-systems-place.result refl low c.index-systems-place.is in
    shared.plan_is.lawful place c.index-systems-place.result at

pub run_claimed-requires-clause-part : goal.run_claimed-requires-clause-part
run_claimed-requires-clause-part g c =
    let systems = c.args.systems.now in
    let shared = c.requires.shared in
    let place = c.in-Got.system in
    let low : place < length systems = subst (λ (n : ℕ). place < n) (shared.plan_is.board.counted ∙ length-map systems g.S.System.lists) c.in-Got.ensures.answer.is_system in
    let at : slice_get systems place ≡ Some c.index-systems-place.result = slice_get_read systems (length systems) place c.index-systems-place.result refl low c.index-systems-place.is in
    let parts = c.args.plan.now.parts.items in
    let part : Part = c.index-part.result.now in
    let here : slice_get parts place ≡ Some part = slice_get_read parts (length parts) place part refl (subst (λ (n : ℕ). place < n) (sym shared.plan_is.counted) low) c.index-part.ensures in
    subst (λ ss. IsPartFor g.S.System.lists g.S.System.limit ss c.args.fact.now.pools.value.items place c.index-systems-place.result part) (sym shared.systems_are)
    (shared.plan_is.parts place c.index-systems-place.result part at here)

pub returns-in-Got-clause-after : goal.returns-in-Got-clause-after
returns-in-Got-clause-after g c =
    let systems = c.args.systems.now in
    let shared = c.requires.shared in
    let place = c.in-Got.system in
    let low : place < length systems = subst (λ (n : ℕ). place < n) (shared.plan_is.board.counted ∙ length-map systems g.S.System.lists) c.in-Got.ensures.answer.is_system in
    let before = c.requires.before in
    let got = c.in-Got.ensures in
    record {
      seat = c.done.ensures.seat;
      awake = ap (λ v. v.is_spent) c.done.ensures.view ∙ got.counted.is_spent ∙ before.awake;
      list = c.run_claimed.ensures.list;
      room = c.run_claimed.ensures.room;
      worked = worked_more (IsRightAt g.S.System.effect c.args.fact.now) (length systems) (view_of c.args.worker.now.seat) (view_of c.claim.new.seat) (view_of c.done.new.seat) place c.run_claimed.new.out
          c.args.worker.now.has_run.items c.args.worker.now.buffers.items before.worked got.answer.mine got.counted.finished c.done.ensures.view low c.run_claimed.ensures.orders;
    }
