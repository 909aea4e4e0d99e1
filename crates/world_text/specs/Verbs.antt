-- The words that lines of a script begin with, and the commands of those that are alike in what stands behind their word.
use Rattle.std.specs.Prelude.{ℕ, List, codes}
use Rattle.entity_id.specs.declared.entity.Entity.{Entity}
use Rattle.world_model.specs.declared.command.Command.{Command}
use Rattle.world_model.specs.declared.command.Command.TheVariants as command
use Rattle.world_model.specs.declared.component.Row.{Row}
use Rattle.world_text.specs.declared.verbs.EntityVerb.{EntityVerb}
use Rattle.world_text.specs.declared.verbs.EntityVerb.TheVariants as of_entity
use Rattle.world_text.specs.declared.verbs.EntryVerb.{EntryVerb}
use Rattle.world_text.specs.declared.verbs.EntryVerb.TheVariants as of_entry
use Rattle.world_text.specs.declared.verbs.NamesVerb.{NamesVerb}
use Rattle.world_text.specs.declared.verbs.NamesVerb.TheVariants as of_names
use Rattle.world_text.specs.declared.verbs.PlainVerb.{PlainVerb}
use Rattle.world_text.specs.declared.verbs.PlainVerb.TheVariants as plain
use Rattle.world_text.specs.declared.verbs.RowVerb.{RowVerb}
use Rattle.world_text.specs.declared.verbs.RowVerb.TheVariants as of_row
use Rattle.world_text.specs.declared.verbs.Verb.{Verb}
use Rattle.world_text.specs.declared.verbs.Verb.TheVariants as verb

-- a word that stands alone
abbrev pub plain_word : PlainVerb → List ℕ
plain_word plain.Create = codes "create"
plain_word plain.Alive = codes "alive"
plain_word plain.Size = codes "size"

-- a word with an identifier behind it
abbrev pub entity_word : EntityVerb → List ℕ
entity_word of_entity.Hint = codes "hint"
entity_word of_entity.Destroy = codes "destroy"
entity_word of_entity.Valid = codes "valid"
entity_word of_entity.Orphan = codes "orphan"

-- a word with an identifier and a component behind it
abbrev pub entry_word : EntryVerb → List ℕ
entry_word of_entry.Remove = codes "remove"
entry_word of_entry.Erase = codes "erase"
entry_word of_entry.Get = codes "get"

-- a word with an identifier, a component and a row of it behind it
abbrev pub row_word : RowVerb → List ℕ
row_word of_row.Emplace = codes "emplace"
row_word of_row.EmplaceOrReplace = codes "emplace_or_replace"
row_word of_row.Replace = codes "replace"

-- a word with an identifier and names of components behind it
abbrev pub names_word : NamesVerb → List ℕ
names_word of_names.AllOf = codes "all_of"
names_word of_names.AnyOf = codes "any_of"

-- the word that a line begins with
abbrev pub word_of : Verb → List ℕ
word_of (verb.Plain of) = plain_word of
word_of (verb.OfEntity of) = entity_word of
word_of (verb.OfEntry of) = entry_word of
word_of (verb.OfRow of) = row_word of
word_of (verb.OfNames of) = names_word of
word_of verb.Patch = codes "patch"
word_of verb.Clear = codes "clear"
word_of verb.View = codes "view"
word_of verb.Group = codes "group"
word_of verb.Members = codes "members"
word_of verb.Sort = codes "sort"
word_of verb.Watch = codes "watch"
word_of verb.Unwatch = codes "unwatch"

-- the command of a word alone
abbrev pub plain_command : PlainVerb → Command
plain_command plain.Create = command.Create
plain_command plain.Alive = command.Alive
plain_command plain.Size = command.Size

-- the command of a word and an identifier
abbrev pub entity_command : EntityVerb → Entity → Command
entity_command of_entity.Hint entity = command.Hint entity
entity_command of_entity.Destroy entity = command.Destroy entity
entity_command of_entity.Valid entity = command.Valid entity
entity_command of_entity.Orphan entity = command.Orphan entity

-- the command of a word, an identifier and a component
abbrev pub entry_command : EntryVerb → Entity → ℕ → Command
entry_command of_entry.Remove entity pool = command.Remove entity pool
entry_command of_entry.Erase entity pool = command.Erase entity pool
entry_command of_entry.Get entity pool = command.Get entity pool

-- the command of a word, an identifier, a component and a row of it
abbrev pub row_command : RowVerb → Entity → ℕ → Row → Command
row_command of_row.Emplace entity pool row = command.Emplace entity pool row
row_command of_row.EmplaceOrReplace entity pool row = command.EmplaceOrReplace entity pool row
row_command of_row.Replace entity pool row = command.Replace entity pool row

-- the command of a word, an identifier and components
abbrev pub names_command : NamesVerb → Entity → List ℕ → Command
names_command of_names.AllOf entity pools = command.AllOf entity pools
names_command of_names.AnyOf entity pools = command.AnyOf entity pools
