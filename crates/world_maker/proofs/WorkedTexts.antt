-- Worked summaries, computed.
use Rattle.std.proofs.Common.{◌≡◌, ℕ, [], ◌∷◌, pos, negsuc, map, codes, refl}
use Rattle.std.specs.Fmt.{digits}
use Rattle.entity_id.specs.Identifiers.{p20_12}
use Rattle.world_model.specs.declared.world.World.{World}
use Rattle.world_model.specs.Slots.{free_slot, live_slot}
use Rattle.world_model.specs.Ticks.{world_after_ticks}
use Rattle.world_model.proofs.WorkedWorlds.{empty, ints, reference, row}
use Rattle.row_lang.specs.Effects.{system_effect}
use Rattle.row_lang.proofs.WorkedBodies.{greatest, least}
use Rattle.world_maker.specs.MadeWorlds.{made_pools}
use Rattle.world_maker.specs.Summaries.{ints_of, summary_text, wrapped_sum}
use Rattle.world_maker.proofs.FrameValue.{frame_systems, frame_world}

-- the made world of number 1 with 2 entities, and with none
abbrev two : World
two = record frame_world { slots = live_slot 0 ∷ live_slot 0 ∷ []; pools = made_pools 1 2 }

abbrev none : World
none = record frame_world { pools = made_pools 1 0 }

-- the same world so many ticks on
abbrev ticks_on : ℕ → World → World
ticks_on count w = world_after_ticks 1048575 (map (system_effect p20_12) frame_systems) count w

pub two_entities : summary_text two ≡ codes "entities 2\nrows 16\nmembers 2 2 2\nsum 2206\ntick 0\n"
unfolding digits
two_entities = refl

pub two_entities_after_a_tick : summary_text (ticks_on 1 two) ≡ codes "entities 2\nrows 16\nmembers 2 2 2\nsum 3129\ntick 1\n"
unfolding digits
two_entities_after_a_tick = refl

pub no_entities_after_three_ticks : summary_text (ticks_on 3 none) ≡ codes "entities 0\nrows 0\nmembers 0 0 0\nsum 0\ntick 3\n"
unfolding digits
no_entities_after_three_ticks = refl

-- a free slot is no entity, and without groups the line of members is its word alone
pub a_free_slot_is_no_entity : summary_text (record (empty (ints 1 ∷ []) [] (live_slot 0 ∷ free_slot 3 ∷ [])) { free = 1 ∷ [] }) ≡ codes "entities 1\nrows 0\nmembers\nsum 0\ntick 0\n"
unfolding digits
a_free_slot_is_no_entity = refl

-- a sum goes round at both ends of 64 bits, and the order of its numbers doesn't matter
pub sums_go_round : (wrapped_sum (greatest ∷ pos 1 ∷ []) ≡ least) × (wrapped_sum (least ∷ negsuc 0 ∷ []) ≡ greatest) × (wrapped_sum (greatest ∷ greatest ∷ pos 2 ∷ []) ≡ pos 0)
sums_go_round = (refl, refl, refl)

pub negative_numbers_are_taken_off : wrapped_sum (pos 5 ∷ negsuc 6 ∷ pos 1 ∷ []) ≡ negsuc 0
negative_numbers_are_taken_off = refl

-- a reference is no number of the sum
pub references_do_not_count : ints_of reference (row (pos 7)) ≡ []
references_do_not_count = refl
