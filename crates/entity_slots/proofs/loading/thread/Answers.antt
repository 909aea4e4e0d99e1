use Rattle.std.proofs.Common.{◌≡◌, ℕ, ◌+◌, ◌-◌, ◌<◌, List, [], ◌∷◌, drop, get_or, length, refl, sym, ap, subst, ◌∙◌, arith}
use Rattle.std.proofs.lemmas.List.{drop_all}
use Rattle.std.proofs.lemmas.Option.{slice_get_within}
use Rattle.world_model.specs.declared.slot.Slot.{Slot}
use Rattle.entity_slots.specs.Threads.{Threaded, AreListed}
use Rattle.entity_slots.proofs.LoadLemmas.{AreFreed, IsFreeIndex, none_freed, live_if_not_freed, freed_listed, all_freed, few_freed, free_index, next_freed}
use Rattle.entity_slots.proofs.loading.thread.Goals as goal

pub loop-done-init : goal.loop-done-init
loop-done-init c =
    let slots : List Slot = c.args.slots.now in
    let free : List ℕ = c.args.free.now in
    let made : Threaded = c.in_ok-made.made in
    let none : drop (length free - 0) free ≡ [] = drop_all (length free - 0) free (omega arith) in
    record {
      freed = subst (AreFreed slots made.slots) (sym none) (none_freed slots made.slots c.in_ok-made.ensures.slots);
      free = c.in_ok-made.ensures.free ∙ sym none;
      null = c.in_ok-made.ensures.null;
      room = c.in_ok-made.ensures.room;
    }

pub bounds-slots-index : goal.bounds-slots-index
bounds-slots-index c =
    let slots : List Slot = c.args.slots.now in
    let free : List ℕ = c.args.free.now in
    let place : ℕ = length free - 1 - c.loop-done.done in
    let f : IsFreeIndex slots free place (get_or free place 0) = free_index slots free place (get_or free place 0) c.requires.listed (omega arith) refl in
    let within : get_or free place 0 < length slots = slice_get_within slots (get_or free place 0) f.slot f.found in
    omega arith

pub release-requires-clause-live : goal.release-requires-clause-live
release-requires-clause-live c =
    let slots : List Slot = c.args.slots.now in
    let free : List ℕ = c.args.free.now in
    let made : Threaded = c.loop-done.made in
    let place : ℕ = length free - 1 - c.loop-done.done in
    let index : ℕ = get_or free place 0 in
    let next : length free - c.loop-done.done ≡ place + 1 = omega arith in
    let f : IsFreeIndex slots free place index = free_index slots free place index c.requires.listed (omega arith) refl in
    let freed : AreFreed slots made.slots (drop (place + 1) free) = subst (λ (n : ℕ). AreFreed slots made.slots (drop n free)) next c.loop-done.invariant.freed in
    live_if_not_freed slots made.slots (drop (place + 1) free) freed index f.slot f.found f.none

pub release-requires-clause-listed : goal.release-requires-clause-listed
release-requires-clause-listed c =
    let slots : List Slot = c.args.slots.now in
    let free : List ℕ = c.args.free.now in
    let made : Threaded = c.loop-done.made in
    let n : ℕ = length free - c.loop-done.done in
    subst (AreListed made.slots) (sym c.loop-done.invariant.free)
    (freed_listed slots made.slots (drop n free) c.loop-done.invariant.freed (few_freed slots free n c.requires.listed))

pub loop-done-preserved : goal.loop-done-preserved
loop-done-preserved c =
    let slots : List Slot = c.args.slots.now in
    let free : List ℕ = c.args.free.now in
    let made : Threaded = c.loop-done.made in
    let new : Threaded = c.release.new.self in
    let place : ℕ = length free - 1 - c.loop-done.done in
    let index : ℕ = get_or free place 0 in
    let next : length free - c.loop-done.done ≡ place + 1 = omega arith in
    let here : place ≡ length free - (c.loop-done.done + 1) = omega arith in
    let f : IsFreeIndex slots free place index = free_index slots free place index c.requires.listed (omega arith) refl in
    let freed : AreFreed slots made.slots (drop (place + 1) free) = subst (λ (n : ℕ). AreFreed slots made.slots (drop n free)) next c.loop-done.invariant.freed in
    record {
      freed = subst (λ (n : ℕ). AreFreed slots new.slots (drop n free)) here (next_freed slots made.slots new.slots free place index _ freed f c.release.ensures.slots);
      free = c.release.ensures.free ∙ ap (λ xs. index ∷ xs) (c.loop-done.invariant.free ∙ ap (λ n. drop n free) next) ∙ sym f.parts ∙ ap (λ n. drop n free) here;
      null = c.release.ensures.null ∙ c.loop-done.invariant.null;
      room = omega (arith, c.release.ensures.room, c.loop-done.invariant.room);
    }

pub returns-clause-slots : goal.returns-clause-slots
returns-clause-slots c =
    let slots : List Slot = c.args.slots.now in
    let free : List ℕ = c.args.free.now in
    let all : length free - c.loop-done.done ≡ 0 = omega arith in
    all_freed slots c.loop-done.made.slots free (subst (λ (n : ℕ). AreFreed slots c.loop-done.made.slots (drop n free)) all c.loop-done.invariant.freed) c.requires.listed

pub returns-clause-free : goal.returns-clause-free
returns-clause-free c =
    let free : List ℕ = c.args.free.now in
    let all : length free - c.loop-done.done ≡ 0 = omega arith in
    c.loop-done.invariant.free ∙ ap (λ n. drop n free) all
