-- Replies as lines of output.
use Rattle.std.specs.Prelude.{ℕ, List, [], ◌∷◌, ◌++◌, slice_get, codes, if◌then◌else◌}
use Rattle.std.specs.List.{flat_map}
use Rattle.std.specs.Fmt.{decimal}
use Rattle.std.specs.Option.{option_map_or}
use Rattle.entity_id.specs.declared.entity.Entity.{Entity}
use Rattle.entity_id.specs.declared.entity.Profile.{Profile}
use Rattle.entity_id.specs.Texts.{entity_text}
use Rattle.world_model.specs.declared.command.Command.{Command}
use Rattle.world_model.specs.declared.command.Command.TheVariants as command
use Rattle.world_model.specs.declared.command.Reply.{Reply}
use Rattle.world_model.specs.declared.command.Reply.TheVariants.{Done, Made, Truth, Number, Values, Listed, GroupNumber, Refused}
use Rattle.world_model.specs.declared.component.Decl.{Decl}
use Rattle.world_model.specs.declared.event.EventKind.{EventKind}
use Rattle.world_model.specs.declared.refusal.Refusal.{Refusal}
use Rattle.world_model.specs.declared.refusal.Refusal.TheVariants as refusal
use Rattle.world_text.specs.Documents.{values_in}
use Rattle.world_text.specs.Lines.{values_text}
use Rattle.row_lang.specs.NameLists.{name_at}
use Rattle.world_text.specs.Scripts.{event_word}

-- a refusal; want of memory and an undeclared component never come as a reply of a script
abbrev pub refusal_text : Refusal → List ℕ
refusal_text refusal.Dead = codes "dead"
refusal_text refusal.Present = codes "present"
refusal_text refusal.Absent = codes "absent"
refusal_text refusal.Full = codes "full"
refusal_text (refusal.Conflict group) = codes "conflict " ++ decimal group
refusal_text (refusal.Owned group) = codes "owned " ++ decimal group
refusal_text refusal.TooMany = codes "too many"
refusal_text refusal.NoPool = codes "no pool"
refusal_text refusal.BadDecl = codes "bad"
refusal_text refusal.OutOfMemory = codes "out of memory"
refusal_text refusal.NoGroup = codes "no group"
refusal_text (refusal.HasInner group) = codes "inner " ++ decimal group
refusal_text refusal.BadKey = codes "bad"
refusal_text refusal.Unknown = codes "unknown"

-- what a command's number or list is called
abbrev pub answer_word : Command → List ℕ
answer_word (command.Remove entity pool) = codes "removed"
answer_word (command.Clear pool) = codes "cleared"
answer_word command.Alive = codes "alive"
answer_word command.Size = codes "size"
answer_word (command.View all without) = codes "view"
answer_word (command.Members group) = codes "members"
answer_word (command.SortPool pool field) = codes "sorted"
answer_word (command.SortGroup group pool field) = codes "sorted"
answer_word _ = []

-- the component whose row a command tells
abbrev pub told_pool : Command → ℕ
told_pool (command.Get entity pool) = pool
told_pool _ = 0

-- the reply to a command, without the end of its line
abbrev pub reply_text : Profile → List Decl → Command → Reply → List ℕ
reply_text profile decls asked Done = codes "ok"
reply_text profile decls asked (Made entity) = codes "entity " ++ entity_text profile entity
reply_text profile decls asked (Truth holds) = if holds then codes "yes" else codes "no"
reply_text profile decls asked (Number n) = answer_word asked ++ 32 ∷ decimal n
reply_text profile decls asked (Values row) =
    codes "row" ++ values_text profile (option_map_or (λ decl. values_in profile decl row) (slice_get decls (told_pool asked)) [])
reply_text profile decls asked (Listed entities) = answer_word asked ++ flat_map (λ entity. 32 ∷ entity_text profile entity) entities
reply_text profile decls asked (GroupNumber group) = codes "group " ++ decimal group
reply_text profile decls asked (Refused cause) = refusal_text cause

-- ---- watches

-- the reply to a `watch` line, without its end: the number of the watch
abbrev pub watched_text : ℕ → List ℕ
watched_text number = codes "watch " ++ decimal number

-- the reply to an `unwatch` line, without its end: how many events were heard
abbrev pub unwatched_text : ℕ → List ℕ
unwatched_text count = codes "unwatched " ++ decimal count

-- an event that a watch heard: the number, the kind and the component's name of the watch, and the entity, with the end of the line
abbrev pub heard_line : Profile → ℕ → EventKind → List ℕ → Entity → List ℕ
heard_line profile number kind name entity =
    codes "heard " ++ (decimal number ++ 32 ∷ (event_word kind ++ 32 ∷ (name ++ 32 ∷ (entity_text profile entity ++ 10 ∷ []))))

-- the events that a watch heard, a line for each
abbrev pub heard_text : Profile → List Decl → ℕ → EventKind → ℕ → List Entity → List ℕ
heard_text profile decls number kind pool heard = flat_map (heard_line profile number kind (name_at decls pool)) heard
