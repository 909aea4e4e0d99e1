use Rattle.std.proofs.Common.{◌≡◌, ◌<◌, ◌≤◌, set, length, Some, slice_get, sym, ap, ◌∙◌, subst, inl, inr, arith, IfSome, length-set}
use Rattle.std.proofs.lemmas.Bool.{cases_eq}
use Rattle.std.proofs.lemmas.List.{length-map}
use Rattle.std.proofs.lemmas.Option.{same_Some, slice_get_within}
use Rattle.signal_sink.specs.Hearings.{Hearing, hearing_by, hearings_by}
use Rattle.signal_sink.proofs.HearingLemmas.{new_here, new_there, same_heard, same_kept, same_room}
use Rattle.signal_sink.proofs.telling.reserve_all.Goals as goal

pub returns-in_err-reserve_one-clause-heard : goal.returns-in_err-reserve_one-clause-heard
returns-in_err-reserve_one-clause-heard g c =
    let h = g.L.Listener.heard in
    let s = g.L.Listener.spare in
    let items = c.loop-i.listeners.items in
    let i = c.loop-i.i in
    let x = c.index_mut.result.now in
    let within : i < length items = omega arith in
    same_heard h s items i x c.reserve_one.new.place c.index_mut.ensures.value within c.reserve_one.ensures.heard ∙ c.loop-i.invariant.heard

pub returns-in_err-reserve_one-clause-spare : goal.returns-in_err-reserve_one-clause-spare
returns-in_err-reserve_one-clause-spare g c =
    let h = g.L.Listener.heard in
    let s = g.L.Listener.spare in
    let items = c.loop-i.listeners.items in
    let i = c.loop-i.i in
    let x = c.index_mut.result.now in
    let within : i < length items = omega arith in
    same_room h s items i x c.reserve_one.new.place c.index_mut.ensures.value within (hearings_by h s c.args.listeners.now.items) c.reserve_one.ensures.spare c.loop-i.invariant.spare

pub returns-in_err-reserve_one-clause-room : goal.returns-in_err-reserve_one-clause-room
returns-in_err-reserve_one-clause-room g c m before =
    let h = g.L.Listener.heard in
    let s = g.L.Listener.spare in
    let items = c.loop-i.listeners.items in
    let i = c.loop-i.i in
    let x = c.index_mut.result.now in
    let within : i < length items = omega arith in
    same_kept h s items i x c.reserve_one.new.place c.index_mut.ensures.value within c.reserve_one.ensures.room m (c.loop-i.invariant.room m before)

pub loop-i-preserved : goal.loop-i-preserved
loop-i-preserved g c =
    let h = g.L.Listener.heard in
    let s = g.L.Listener.spare in
    let items = c.loop-i.listeners.items in
    let i = c.loop-i.i in
    let x = c.index_mut.result.now in
    let within : i < length items = omega arith in
    let y = c.reserve_one.new.place in
    record {
      heard = same_heard h s items i x y c.index_mut.ensures.value within c.reserve_one.ensures.heard ∙ c.loop-i.invariant.heard;
      ok = λ k hearing less at. elim (cases_eq k i) [
        | inl same ↦
            let new : hearing_by h s y ≡ Some hearing = same_Some (hearing_by h s y) (Some hearing) (sym (new_here h s items i x y c.index_mut.ensures.value within) ∙ ap (slice_get (hearings_by h s (set items i y))) (sym same) ∙ at) in
            subst (λ o. IfSome o (λ (e : Hearing). c.args.n ≤ e.spare)) new c.in_ok-reserve_one.ensures.ok
        | inr apart ↦ c.loop-i.invariant.ok k hearing (omega arith) (sym (new_there h s items i x y c.index_mut.ensures.value within k apart) ∙ at)
      ];
      spare = same_room h s items i x y c.index_mut.ensures.value within (hearings_by h s c.args.listeners.now.items) c.reserve_one.ensures.spare c.loop-i.invariant.spare;
      room = λ m before. same_kept h s items i x y c.index_mut.ensures.value within c.reserve_one.ensures.room m (c.loop-i.invariant.room m before);
      len = let e : length (set items i y) ≡ length items = length-set items i y in omega arith;
    }

pub returns-clause-ok : goal.returns-clause-ok
returns-clause-ok g c k hearing at =
    let now = hearings_by g.L.Listener.heard g.L.Listener.spare c.loop-i.listeners.items in
    let within : k < length now = slice_get_within now k (Some hearing) at in
    let long : length now ≡ length c.loop-i.listeners.items = length-map c.loop-i.listeners.items (hearing_by g.L.Listener.heard g.L.Listener.spare) in
    c.loop-i.invariant.ok k hearing (omega arith) at
