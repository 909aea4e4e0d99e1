-- Commands carried out, with their replies.
use Rattle.std.specs.Prelude.{◌≡◌, ◌⊎◌, ℕ, ◌<◌, Bool, true, false, not, nat_lt, if◌then◌else◌, List, [], ◌∷◌, length, IsTrue, is_some, None, Result, Ok, Err}
use Rattle.entity_id.specs.declared.entity.Entity.{Entity}
use Rattle.world_model.specs.declared.command.Command.{Command}
use Rattle.world_model.specs.declared.command.Command.TheVariants.{Create, Hint, Emplace, EmplaceOrReplace, Replace, Patch, Valid, Get, AllOf, AnyOf, Orphan, Alive, Size, View, Group, Members, SortPool, SortGroup}
use Rattle.world_model.specs.declared.command.Reply.{Reply}
use Rattle.world_model.specs.declared.command.Reply.TheVariants.{Refused}
use Rattle.world_model.specs.declared.refusal.Refusal.{Refusal}
use Rattle.world_model.specs.declared.refusal.Refusal.TheVariants.{OutOfMemory}
use Rattle.world_model.specs.declared.world.World.{World}
use Rattle.world_model.specs.Components.{fits_kind, has_field}
use Rattle.world_model.specs.Conditions.{fits_pool}
use Rattle.world_model.specs.Contents.{group_where}
use Rattle.world_model.specs.Groups.{is_same_group}
use Rattle.world_model.specs.Slots.{is_plain_hint}
use Rattle.registry.specs.Held.{Held, Does, AsBefore, reply_to, refusal_to}
use Rattle.registry.specs.Packing.{RepacksUnless}

-- what the call asks that a command stands for: a row that fits its component, a field that may hold the value, where the
-- component is declared; one component or more that a view's identifiers are in
abbrev pub Asks : World → Command → Type 0
Asks w (Emplace entity pool row) = IsTrue (fits_pool w.profile w.decls pool row)
Asks w (EmplaceOrReplace entity pool row) = IsTrue (fits_pool w.profile w.decls pool row)
Asks w (Replace entity pool row) = IsTrue (fits_pool w.profile w.decls pool row)
Asks w (Patch entity pool field value) = pool < length w.decls → IsTrue (has_field (λ kind. fits_kind w.profile kind value) w.decls pool field)
Asks w (View all without) = 0 < length all
Asks w _ = Unit {0}

-- whether the command changes nothing
abbrev pub is_question : Command → Bool
is_question (Valid entity) = true
is_question (Get entity pool) = true
is_question (AllOf entity pools) = true
is_question (AnyOf entity pools) = true
is_question (Orphan entity) = true
is_question Alive = true
is_question Size = true
is_question (View all without) = true
is_question (Members group) = true
is_question _ = false

-- whether a list has nothing in it
abbrev pub is_empty : List ℕ → Bool
is_empty [] = true
is_empty (x ∷ xs) = false

-- whether a creation by a hint needs a new slot: it is plain and no index is free, or the hint's index is past the end
abbrev pub hint_needs_slot : Held → Entity → Bool
hint_needs_slot held hint =
    if is_plain_hint held.world.profile held.limit held.world.slots hint then is_empty held.world.free
    else not (nat_lt hint.index (length held.world.slots))

-- whether the call of a command may want memory: a creation does only where it needs a new slot, a group only where it is new
abbrev pub may_want_memory : Held → Command → Bool
may_want_memory held Create = is_empty held.world.free
may_want_memory held (Hint hint) = hint_needs_slot held hint
may_want_memory held (Emplace entity pool row) = true
may_want_memory held (EmplaceOrReplace entity pool row) = true
may_want_memory held (Replace entity pool row) = true
may_want_memory held (Patch entity pool field value) = true
may_want_memory held (View all without) = true
may_want_memory held (Group decl) = not (is_some (group_where held.world (is_same_group decl)))
may_want_memory held (Members group) = true
may_want_memory held (SortPool pool field) = true
may_want_memory held (SortGroup group pool field) = true
may_want_memory held _ = false

-- what a call's answer is as a reply
abbrev pub reply_by : {A : Type 0} → (A → Reply) → Result A Refusal → Reply
reply_by reply (Ok answer) = reply answer
reply_by reply (Err refused) = Refused refused

-- the command did its step and was answered so; or it isn't refused, but memory ran out, where its call may want it, and all is as
-- before but for spare
abbrev pub IsRun : Held → Held → Command → Reply → Type 0
IsRun old new command reply =
    (Does old new command × RepacksUnless (refusal_to old command) old new command × (reply ≡ reply_to old command))
    ⊎ (IsTrue (may_want_memory old command) × (refusal_to old command ≡ None) × (reply ≡ Refused OutOfMemory) × AsBefore old new)
