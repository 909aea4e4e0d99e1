use Rattle.std.proofs.Common.{◌≡◌, ℕ, ◌-◌, ◌<◌, ◌≤◌, true, false, List, [], ◌∷◌, ◌++◌, length, length-append, length-set, replicate, sym, ap, ◌∙◌, arith, rules}
use Rattle.std.proofs.lemmas.List.{length-replicate}
use Rattle.entity_id.specs.declared.entity.Entity.{Entity}
use Rattle.world_model.specs.declared.slot.Slot.{Slot}
use Rattle.world_model.specs.Slots.{Creation, is_free_at, live_slot, free_slot}
use Rattle.entity_slots.specs.SlotLists.{SlotLists, is_plain}
use Rattle.entity_slots.specs.Threads.{Threaded}
use Rattle.entity_slots.specs.Threading.{lists_of}
use Rattle.entity_slots.proofs.CountLemmas.{live_count, live_or_free, live_count-taken, live_count-past, fewer_live}
use Rattle.entity_slots.proofs.HintedLemmas.{at_free_index, past_end, low, free_before, still_lawful}
use Rattle.entity_slots.proofs.entity_slots.EntitySlots.create_hint.Goals as goal

-- ---- at a free index

pub overflow_add-self : goal.overflow_add-self
overflow_add-self c =
    let hint : Entity = c.args.hint in
    let lists : SlotLists = lists_of c.self.inside in
    let fresh : is_plain lists hint ≡ false = search rules in
    let within : hint.index < length lists.slots = omega arith in
    let few : length lists.slots ≤ lists.limit = c.self.invariant.lawful.slots.few in
    omega (arith, fewer_live lists.slots hint.index (free_before lists hint fresh within), c.self.invariant.counted)

pub invariant_of-self : goal.invariant_of-self
invariant_of-self c =
    let hint : Entity = c.args.hint in
    let lists : SlotLists = lists_of c.self.inside in
    let old : Threaded = c.self.inside.identifiers in
    let new : Threaded = c.take_out.new.self in
    let fresh : is_plain lists hint ≡ false = search rules in
    let within : hint.index < length lists.slots = omega arith in
    let free : is_free_at lists.slots hint.index ≡ true = free_before lists hint fresh within in
    let now = c.take_out.ensures in
    let kept = c.self.invariant in
    record {
      lawful = still_lawful lists hint fresh kept.lawful new.slots new.free _
          (now.slots ∙ ap (λ (made : Creation). made.slots) (sym (at_free_index lists hint fresh within)))
          (now.free ∙ ap (λ (made : Creation). made.free) (sym (at_free_index lists hint fresh within)));
      null = now.null ∙ kept.null;
      counted = omega (arith, ap live_count now.slots, live_count-taken old.slots hint.index hint.version free, kept.counted);
      room = omega (arith, ap length now.slots, length-set old.slots hint.index (live_slot hint.version), now.room, kept.room);
    }

pub returns-then-hint-len-clause-lawful : goal.returns-then-hint-len-clause-lawful
returns-then-hint-len-clause-lawful c = (invariant_of-self c).lawful

-- ---- past the end

pub overflow_add-self-2 : goal.overflow_add-self-2
overflow_add-self-2 c =
    let hint : Entity = c.args.hint in
    let lists : SlotLists = lists_of c.self.inside in
    let fresh : is_plain lists hint ≡ false = search rules in
    let below : hint.index < lists.limit = (low lists hint fresh).0 in
    let past : length lists.slots ≤ hint.index = omega arith in
    omega (arith, live_or_free lists.slots, c.self.invariant.counted)

pub invariant_of-self-2 : goal.invariant_of-self-2
invariant_of-self-2 c =
    let hint : Entity = c.args.hint in
    let lists : SlotLists = lists_of c.self.inside in
    let old : Threaded = c.self.inside.identifiers in
    let new : Threaded = c.append_past.new.identifiers in
    let fresh : is_plain lists hint ≡ false = search rules in
    let past : length lists.slots ≤ hint.index = omega arith in
    let made = past_end lists hint fresh past in
    let gap : ℕ = hint.index - length old.slots in
    let before : List Slot = old.slots ++ replicate gap (free_slot 0) in
    let now = c.in_ok-made.ensures in
    let kept = c.self.invariant in
    let long = ap length now.slots ∙ length-append before (live_slot hint.version ∷ []) in
    let before_long = length-append old.slots (replicate gap (free_slot 0)) in
    record {
      lawful = still_lawful lists hint fresh kept.lawful new.slots new.free _
          (now.slots ∙ ap (λ (creation : Creation). creation.slots) (sym made))
          (now.free ∙ ap (λ (creation : Creation). creation.free) (sym made));
      null = now.null ∙ kept.null;
      counted = omega (arith, ap live_count now.slots, live_count-past old.slots gap hint.version, kept.counted);
      room = omega (arith, long, before_long, length-replicate gap (free_slot 0), now.made, now.kept, now.fit, kept.room);
    }

pub returns-clause-lawful : goal.returns-clause-lawful
returns-clause-lawful c = (invariant_of-self-2 c).lawful
