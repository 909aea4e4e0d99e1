-- What the fields of the slots stand for. No public clause cites this file.
use Rattle.std.specs.Prelude.{◌≡◌, ◌+◌, ◌≤◌, length, count_by}
use Rattle.entity_slots.specs.declared.entity_slots.EntitySlots.TheInside.{Inside}
use Rattle.entity_slots.specs.SlotLists.{SlotLists, lists_with_spare, AreLawful}

-- what a contract sees of the fields
abbrev pub lists_of : Inside → SlotLists
lists_of a = lists_with_spare a.profile a.limit a.identifiers.slots a.identifiers.free a.spare

-- the lists are lawful, the free ones end in the profile's null index, the live ones are counted, and there is room for the spare ones
pub record IsKept (a : Inside) : Type 0 where
  pub lawful : AreLawful (lists_of a)
  pub null : a.identifiers.null ≡ a.profile.index_limit
  pub counted : a.live ≡ count_by (λ slot. slot.live) a.identifiers.slots
  pub room : length a.identifiers.slots + a.spare ≤ a.identifiers.room
