-- Worlds and values in short, for the worked examples. Identifiers are of 20 bits of index and 12 of version.
use Rattle.std.proofs.Common.{ℕ, true, false, List, [], ◌∷◌, ℤ, pos, replicate, length}
use Rattle.entity_id.specs.declared.entity.Entity.{Entity}
use Rattle.entity_id.specs.Identifiers.{p20_12}
use Rattle.world_model.specs.declared.command.Command.{Command}
use Rattle.world_model.specs.declared.command.Reply.{Reply}
use Rattle.world_model.specs.declared.component.Decl.{Decl}
use Rattle.world_model.specs.declared.component.Kind.TheVariants.{Int, Ref}
use Rattle.world_model.specs.declared.component.Row.{Row}
use Rattle.world_model.specs.declared.group.GroupDecl.{GroupDecl}
use Rattle.world_model.specs.declared.slot.Slot.{Slot}
use Rattle.world_model.specs.declared.world.World.{World}
use Rattle.world_model.specs.Steps.{Run, run}

abbrev pub id : ℕ → ℕ → Entity
id index version = record { index = index; version = version }

-- a slot that an entity has, and one that none has
abbrev pub live : ℕ → Slot
live version = record { version = version; live = true }

abbrev pub free : ℕ → Slot
free version = record { version = version; live = false }

-- a component of so many fields, each a whole number
abbrev pub ints : ℕ → Decl
ints count = record { name = []; count = count; kinds = Int ∷ Int ∷ Int ∷ Int ∷ [] }

-- a component of one field, an identifier
abbrev pub reference : Decl
reference = record { name = []; count = 1; kinds = Ref ∷ Int ∷ Int ∷ Int ∷ [] }

-- a row of one field, and one of none
abbrev pub row : ℤ → Row
row value = record { f = value ∷ pos 0 ∷ pos 0 ∷ pos 0 ∷ [] }

abbrev pub bare : Row
bare = row (pos 0)

abbrev pub owns : List ℕ → List ℕ → GroupDecl
owns own get = record { own = own; get = get; without = [] }

-- a world without rows and free slots
abbrev pub empty : List Decl → List GroupDecl → List Slot → World
empty decls groups slots = record { profile = p20_12; decls = decls; groups = groups; tick = 0; slots = slots; free = []; pools = replicate (length decls) [] }

-- what commands give, with as many slots as identifiers have indices
abbrev pub result : World → List Command → Run
result w commands = run 1048575 w commands

abbrev pub replies : World → List Command → List Reply
replies w commands = (result w commands).replies

-- four components of which a group owns the first two, observes the third and excludes the last, and three entities
abbrev pub moving_and_frozen : World
moving_and_frozen =
    empty (ints 1 ∷ ints 1 ∷ ints 1 ∷ ints 0 ∷ []) (record { own = 0 ∷ 1 ∷ []; get = 2 ∷ []; without = 3 ∷ [] } ∷ []) (live 0 ∷ live 0 ∷ live 0 ∷ [])
