-- Worked examples of identifiers, computed: slots used again, and hints.
use Rattle.std.proofs.Common.{◌≡◌, true, false, List, [], ◌∷◌, refl}
use Rattle.world_model.specs.declared.command.Command.{Command}
use Rattle.world_model.specs.declared.command.Command.TheVariants.{Create, Hint, Destroy, Valid, Alive, Size}
use Rattle.world_model.specs.declared.command.Reply.TheVariants.{Done, Made, Truth, Number, Refused}
use Rattle.world_model.specs.declared.refusal.Refusal.TheVariants as refusal
use Rattle.world_model.specs.declared.world.World.{World}
use Rattle.world_model.specs.Steps.{run}
use Rattle.world_model.proofs.WorkedWorlds.{id, live, free, empty, result, replies}

abbrev nothing : World
nothing = empty [] [] []

-- ---- used again

abbrev used_again : List Command
used_again = Create ∷ Destroy (id 0 0) ∷ Create ∷ Destroy (id 0 0) ∷ []

-- an index is used again with the next version, and the old identifier is dead
old_version_is_dead : replies nothing used_again ≡ Made (id 0 0) ∷ Done ∷ Made (id 0 1) ∷ Refused refusal.Dead ∷ []
old_version_is_dead = refl

one_slot_is_left : (result nothing used_again).world ≡ empty [] [] (live 1 ∷ [])
one_slot_is_left = refl

-- the version after the greatest is 0
versions_begin_again : replies (record (empty [] [] (free 4094 ∷ [])) { free = 0 ∷ [] }) (Create ∷ Destroy (id 0 4094) ∷ Create ∷ Valid (id 0 0) ∷ Valid (id 0 4094) ∷ [])
    ≡ Made (id 0 4094) ∷ Done ∷ Made (id 0 0) ∷ Truth true ∷ Truth false ∷ []
versions_begin_again = refl

abbrev three_released : List Command
three_released = Create ∷ Create ∷ Create ∷ Create ∷ Destroy (id 1 0) ∷ Destroy (id 3 0) ∷ Destroy (id 2 0) ∷ Create ∷ Create ∷ Create ∷ []

-- the index released last is used first
last_released_is_first : replies nothing three_released
    ≡ Made (id 0 0) ∷ Made (id 1 0) ∷ Made (id 2 0) ∷ Made (id 3 0) ∷ Done ∷ Done ∷ Done ∷ Made (id 2 1) ∷ Made (id 3 1) ∷ Made (id 1 1) ∷ []
last_released_is_first = refl

slots_after_three_released : (result nothing three_released).world ≡ empty [] [] (live 0 ∷ live 1 ∷ live 1 ∷ live 1 ∷ [])
slots_after_three_released = refl

-- a free slot is no entity, but a slot
free_slots_are_not_alive : replies nothing (Create ∷ Create ∷ Destroy (id 0 0) ∷ Alive ∷ Size ∷ []) ≡ Made (id 0 0) ∷ Made (id 1 0) ∷ Done ∷ Number 1 ∷ Number 2 ∷ []
free_slots_are_not_alive = refl

-- with room for one slot nothing is made while it is live, and its hint is taken once it is free
room_for_one_slot : (run 1 nothing (Create ∷ Create ∷ Hint (id 0 5) ∷ Hint (id 7 0) ∷ Destroy (id 0 0) ∷ Hint (id 0 5) ∷ [])).replies
    ≡ Made (id 0 0) ∷ Refused refusal.Full ∷ Refused refusal.Full ∷ Refused refusal.Full ∷ Done ∷ Made (id 0 5) ∷ []
room_for_one_slot = refl

-- ---- hints

-- past the end, at a live index, at a free one, and out of range in both parts and in one
abbrev hints : List Command
hints = Hint (id 4 7) ∷ Hint (id 4 0) ∷ Hint (id 1 5) ∷ Hint (id 1048575 4095) ∷ Hint (id 9 4095) ∷ Create ∷ []

hints_are_taken_or_plain : replies nothing hints ≡ Made (id 4 7) ∷ Made (id 3 0) ∷ Made (id 1 5) ∷ Made (id 2 0) ∷ Made (id 0 0) ∷ Made (id 5 0) ∷ []
hints_are_taken_or_plain = refl

slots_after_hints : (result nothing hints).world ≡ empty [] [] (live 0 ∷ live 5 ∷ live 0 ∷ live 0 ∷ live 7 ∷ live 0 ∷ [])
slots_after_hints = refl
