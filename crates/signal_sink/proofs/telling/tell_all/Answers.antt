use Rattle.std.proofs.Common.{◌≡◌, ◌<◌, set, length, Option, Some, slice_get, sym, ap, ◌∙◌, inl, inr, arith, length-set}
use Rattle.std.specs.Option.{option_map}
use Rattle.std.proofs.lemmas.Bool.{cases_eq, cases_lt}
use Rattle.std.proofs.lemmas.List.{length-map}
use Rattle.std.proofs.lemmas.Option.{slice_get-map, slice_get_past}
use Rattle.signal_sink.specs.Hearings.{Hearing, hearing_by, hearings_by, told}
use Rattle.signal_sink.proofs.HearingLemmas.{same_by_get, hearing_here, new_here, new_there, spare_of}
use Rattle.signal_sink.proofs.telling.tell_all.Goals as goal

pub loop-i-preserved : goal.loop-i-preserved
loop-i-preserved g c =
    let h = g.L.Listener.heard in
    let s = g.L.Listener.spare in
    let items = c.loop-i.listeners.items in
    let i = c.loop-i.i in
    let x = c.index_mut.result.now in
    let within : i < length items = omega arith in
    let y = c.tell.new.place in
    let before = hearings_by h s c.args.listeners.now.items in
    let here = hearing_here h s items i x y c.index_mut.ensures.value within in
    record {
      told = λ k less. elim (cases_eq k i) [
        | inl at ↦ ap (slice_get (hearings_by h s (set items i y))) at ∙ new_here h s items i x y c.index_mut.ensures.value within ∙ ap (λ (v : Option Hearing). Some v) c.tell.ensures
            ∙ ap (option_map (option_map (told c.args.e))) (sym here ∙ c.loop-i.invariant.rest i (omega arith)) ∙ ap (λ n. option_map (option_map (told c.args.e)) (slice_get before n)) (sym at)
        | inr apart ↦ new_there h s items i x y c.index_mut.ensures.value within k apart ∙ c.loop-i.invariant.told k (omega arith)
      ];
      rest = λ k more. new_there h s items i x y c.index_mut.ensures.value within k (λ at. omega arith) ∙ c.loop-i.invariant.rest k (omega arith);
      len = let e : length (set items i y) ≡ length items = length-set items i y in omega arith;
    }

pub tell-requires : goal.tell-requires
tell-requires g c =
    let h = g.L.Listener.heard in
    let s = g.L.Listener.spare in
    let items = c.loop-i.listeners.items in
    let i = c.loop-i.i in
    let x = c.index_mut.result.now in
    let within : i < length items = omega arith in
    spare_of (hearing_by h s x) 1 (λ hearing is. c.requires i hearing (sym (c.loop-i.invariant.rest i (omega arith)) ∙ hearing_here h s items i x x c.index_mut.ensures.value within ∙ ap (λ (v : Option Hearing). Some v) is))

pub returns-clause-hearings : goal.returns-clause-hearings
returns-clause-hearings g c =
    let h = g.L.Listener.heard in
    let s = g.L.Listener.spare in
    let before = hearings_by h s c.args.listeners.now.items in
    let now = hearings_by h s c.loop-i.listeners.items in
    let long : length before ≡ length c.args.listeners.now.items = length-map c.args.listeners.now.items (hearing_by h s) in
    same_by_get _ _ (λ k. elim (cases_lt k c.loop-i.i) [
      | inl less ↦ c.loop-i.invariant.told k less ∙ sym (slice_get-map (option_map (told c.args.e)) before k)
      | inr more ↦ c.loop-i.invariant.rest k more ∙ slice_get_past before k (omega arith) ∙ sym (slice_get-map (option_map (told c.args.e)) before k ∙ ap (option_map (option_map (told c.args.e))) (slice_get_past before k (omega arith)))
    ])
