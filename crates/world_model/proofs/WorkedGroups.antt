-- Worked examples of owning groups, computed: who is in them, nested ones, and packed lists.
use Rattle.std.proofs.Common.{negsuc, pos, replicate, map, ◌≡◌, List, [], ◌∷◌, refl}
use Rattle.std.specs.List.{range_with_len}
use Rattle.world_model.specs.declared.command.Command.{Command}
use Rattle.world_model.specs.declared.command.Command.TheVariants.{Emplace, Remove, Erase, Group, Members, SortPool, SortGroup}
use Rattle.world_model.specs.declared.command.Reply.TheVariants.{Done, Number, Listed, GroupNumber, Refused}
use Rattle.world_model.specs.declared.refusal.Refusal.TheVariants as refusal
use Rattle.world_model.specs.declared.world.World.{World}
use Rattle.world_model.proofs.WorkedWorlds.{id, live, ints, row, bare, owns, empty, result, replies, moving_and_frozen}
use Rattle.world_model.specs.Groups.{IsPacked}

-- ---- one group

-- members enter with their last row that is asked for, or as the one that is excluded goes, and leave with the first
members_come_and_go : replies moving_and_frozen
    (Emplace (id 0 0) 0 (row (pos 1)) ∷ Emplace (id 0 0) 1 (row (pos 1)) ∷ Members 0 ∷ Emplace (id 0 0) 2 (row (pos 9)) ∷ Members 0
    ∷ Emplace (id 1 0) 2 (row (pos 8)) ∷ Emplace (id 1 0) 1 (row (pos 2)) ∷ Emplace (id 1 0) 0 (row (pos 2))
    ∷ Emplace (id 2 0) 3 bare ∷ Emplace (id 2 0) 1 (row (pos 3)) ∷ Emplace (id 2 0) 2 (row (pos 7)) ∷ Emplace (id 2 0) 0 (row (pos 3)) ∷ Members 0
    ∷ Remove (id 2 0) 3 ∷ Members 0 ∷ Erase (id 0 0) 2 ∷ Members 0 ∷ [])
    ≡ Done ∷ Done ∷ Listed [] ∷ Done ∷ Listed (id 0 0 ∷ [])
    ∷ Done ∷ Done ∷ Done
    ∷ Done ∷ Done ∷ Done ∷ Done ∷ Listed (id 0 0 ∷ id 1 0 ∷ [])
    ∷ Number 1 ∷ Listed (id 0 0 ∷ id 1 0 ∷ id 2 0 ∷ []) ∷ Done ∷ Listed (id 1 0 ∷ id 2 0 ∷ []) ∷ []
members_come_and_go = refl

-- a sort of a group lists its members alone, by a field of one of its components
sorted_members : replies
    (record (empty (ints 1 ∷ ints 0 ∷ ints 1 ∷ []) [] (live 0 ∷ live 0 ∷ live 0 ∷ live 0 ∷ [])) {
      pools = ((id 0 0, row (pos 3)) ∷ (id 1 0, row (pos 1)) ∷ (id 2 0, row (pos 1)) ∷ (id 3 0, row (negsuc 1)) ∷ []) ∷ ((id 0 0, bare) ∷ (id 2 0, bare) ∷ (id 3 0, bare) ∷ []) ∷ [] ∷ [];
    })
    (Group (owns (0 ∷ 1 ∷ []) []) ∷ SortGroup 0 0 0 ∷ SortGroup 0 1 0 ∷ SortGroup 0 2 0 ∷ SortGroup 0 3 0 ∷ SortGroup 1 3 0 ∷ [])
    ≡ GroupNumber 0 ∷ Listed (id 3 0 ∷ id 2 0 ∷ id 0 0 ∷ []) ∷ Refused refusal.BadKey ∷ Refused refusal.BadKey ∷ Refused refusal.NoPool ∷ Refused refusal.NoGroup ∷ []
sorted_members = refl

-- ---- which groups may be added

-- the causes in their order; a group that observes more is inner, and the same one is found in any order of its lists
added_or_refused : replies (empty (ints 0 ∷ ints 0 ∷ ints 0 ∷ ints 0 ∷ []) (owns (0 ∷ []) (2 ∷ []) ∷ []) [])
    (Group (owns (9 ∷ 9 ∷ []) []) ∷ Group (owns [] (1 ∷ [])) ∷ Group (owns (1 ∷ []) (1 ∷ [])) ∷ Group (owns (0 ∷ []) (3 ∷ [])) ∷ Group (record { own = 0 ∷ []; get = []; without = 1 ∷ [] })
    ∷ Group (owns (0 ∷ []) (3 ∷ 2 ∷ [])) ∷ Group (owns (0 ∷ []) (2 ∷ 3 ∷ [])) ∷ Group (owns (1 ∷ []) []) ∷ Group (record { own = 1 ∷ []; get = []; without = 2 ∷ [] }) ∷ [])
    ≡ Refused refusal.NoPool ∷ Refused refusal.BadDecl ∷ Refused refusal.BadDecl ∷ Refused (refusal.Conflict 0) ∷ Refused (refusal.Conflict 0)
    ∷ GroupNumber 1 ∷ GroupNumber 1 ∷ GroupNumber 2 ∷ GroupNumber 3 ∷ []
added_or_refused = refl

-- a group names 8 components at most
eight_components : replies (empty (replicate 9 (ints 0)) [] []) (Group (owns (0 ∷ 1 ∷ 2 ∷ 3 ∷ []) (4 ∷ 5 ∷ 6 ∷ 7 ∷ 8 ∷ [])) ∷ Group (owns (0 ∷ 1 ∷ 2 ∷ 3 ∷ []) (4 ∷ 5 ∷ 6 ∷ 7 ∷ [])) ∷ [])
    ≡ Refused refusal.BadDecl ∷ GroupNumber 0 ∷ []
eight_components = refl

-- and there are 32 at most; one that is there is found all the same
thirty_two_groups : replies (empty (replicate 33 (ints 0)) (map (λ pool. owns (pool ∷ []) []) (range_with_len 0 32)) []) (Group (owns (32 ∷ []) []) ∷ Group (owns (31 ∷ []) []) ∷ [])
    ≡ Refused refusal.TooMany ∷ GroupNumber 31 ∷ []
thirty_two_groups = refl

-- ---- nested groups

abbrev nested : World
nested = empty (ints 1 ∷ ints 0 ∷ ints 0 ∷ ints 0 ∷ []) (owns (0 ∷ []) [] ∷ owns (0 ∷ 1 ∷ []) [] ∷ owns (0 ∷ 1 ∷ 2 ∷ []) [] ∷ []) (live 0 ∷ [])

abbrev in_nested : List Command
in_nested =
    Emplace (id 0 0) 0 (row (pos 5)) ∷ Emplace (id 0 0) 2 bare ∷ Emplace (id 0 0) 1 bare ∷ Members 0 ∷ Members 1 ∷ Members 2 ∷ Remove (id 0 0) 0 ∷ Members 0 ∷ Members 2
    ∷ Group (owns (0 ∷ 3 ∷ []) []) ∷ SortGroup 0 0 0 ∷ SortPool 0 0 ∷ Members 7 ∷ Group (owns (1 ∷ 0 ∷ []) []) ∷ []

-- a row enters three groups at once; a conflict and sorts are refused; the same group asked for again is found
nested_groups_answer : replies nested in_nested
    ≡ Done ∷ Done ∷ Done ∷ Listed (id 0 0 ∷ []) ∷ Listed (id 0 0 ∷ []) ∷ Listed (id 0 0 ∷ []) ∷ Number 1 ∷ Listed [] ∷ Listed []
    ∷ Refused (refusal.Conflict 1) ∷ Refused (refusal.HasInner 1) ∷ Refused (refusal.Owned 0) ∷ Refused refusal.NoGroup ∷ GroupNumber 1 ∷ []
nested_groups_answer = refl

two_rows_are_left : (result nested in_nested).world ≡ record nested { pools = [] ∷ ((id 0 0, bare) ∷ []) ∷ ((id 0 0, bare) ∷ []) ∷ [] ∷ [] }
two_rows_are_left = refl

-- a group that is inner to two groups which are apart
abbrev between : World
between = empty (ints 0 ∷ ints 0 ∷ ints 0 ∷ ints 0 ∷ []) (owns (0 ∷ []) (2 ∷ []) ∷ owns (1 ∷ []) (3 ∷ []) ∷ owns (0 ∷ 1 ∷ []) (2 ∷ 3 ∷ []) ∷ []) (live 0 ∷ live 0 ∷ [])

inner_to_two_groups : replies between
    (Emplace (id 0 0) 0 bare ∷ Emplace (id 0 0) 2 bare ∷ Members 0 ∷ Emplace (id 0 0) 1 bare ∷ Members 2 ∷ Emplace (id 0 0) 3 bare ∷ Members 1 ∷ Members 2
    ∷ Emplace (id 1 0) 1 bare ∷ Emplace (id 1 0) 3 bare ∷ Members 1 ∷ Erase (id 0 0) 2 ∷ Members 0 ∷ Members 1 ∷ Members 2 ∷ [])
    ≡ Done ∷ Done ∷ Listed (id 0 0 ∷ []) ∷ Done ∷ Listed [] ∷ Done ∷ Listed (id 0 0 ∷ []) ∷ Listed (id 0 0 ∷ [])
    ∷ Done ∷ Done ∷ Listed (id 0 0 ∷ id 1 0 ∷ []) ∷ Done ∷ Listed [] ∷ Listed (id 0 0 ∷ id 1 0 ∷ []) ∷ Listed [] ∷ []
inner_to_two_groups = refl

-- ---- packed lists

-- of a list that a sort left as 0, 3, 2, 1 the one member, 2, came to the front in place of 0
member_is_in_front : IsPacked ((id 2 0 ∷ id 3 0 ∷ id 0 0 ∷ id 1 0 ∷ []) ∷ (id 2 0 ∷ []) ∷ []) (owns (0 ∷ 1 ∷ []) []) 1
member_is_in_front = record { counted = refl; begins = (refl, (refl, tt)) }
