-- The made world without entities, as a value.
use Rattle.std.proofs.Common.{ℕ, List, [], ◌∷◌, pos, codes, replicate}
use Rattle.entity_id.specs.Identifiers.{p20_12}
use Rattle.world_model.specs.declared.access.Access.{Access}
use Rattle.world_model.specs.declared.component.Decl.{Decl}
use Rattle.world_model.specs.declared.component.Kind.TheVariants.{Int, Ref}
use Rattle.world_model.specs.declared.group.GroupDecl.{GroupDecl}
use Rattle.world_model.specs.declared.world.World.{World}
use Rattle.row_lang.specs.declared.token.Keyword.TheVariants as key
use Rattle.row_lang.specs.declared.token.Token.{Token}
use Rattle.row_lang.specs.declared.token.Token.TheVariants.{Word, Number, Own, Pool, Field}
use Rattle.row_lang.specs.Systems.{System}
use Rattle.world_text.specs.declared.document.Document.{Document}

abbrev own : ℕ → Token
own pool = Own (record { pool = pool; field = 0 })

abbrev second : ℕ → Token
second pool = Own (record { pool = pool; field = 1 })

abbrev field : ℕ → Token
field pool = Field (record { pool = pool; field = 0 })

abbrev second_field : ℕ → Token
second_field pool = Field (record { pool = pool; field = 1 })

abbrev number : ℕ → Token
number n = Number (pos n)

abbrev ints : List ℕ → ℕ → Decl
ints name count = record { name = name; count = count; kinds = Int ∷ Int ∷ Int ∷ Int ∷ [] }

abbrev pub frame_decls : List Decl
frame_decls =
    ints (codes "position") 2 ∷ ints (codes "velocity") 2 ∷ ints (codes "health") 1 ∷ ints (codes "team") 1
    ∷ record { name = codes "target"; count = 1; kinds = Ref ∷ Int ∷ Int ∷ Int ∷ [] }
    ∷ ints (codes "damage") 1 ∷ ints (codes "timer") 1 ∷ ints (codes "frozen") 0 ∷ ints (codes "marked") 1 ∷ []

abbrev pub frame_groups : List GroupDecl
frame_groups =
    record { own = 0 ∷ 1 ∷ []; get = []; without = 7 ∷ [] }
    ∷ record { own = 0 ∷ 1 ∷ []; get = 2 ∷ []; without = 7 ∷ [] }
    ∷ record { own = 5 ∷ []; get = 4 ∷ []; without = [] } ∷ []

-- the lists read, write, look and not
abbrev lists : List ℕ → List ℕ → List ℕ → List ℕ → Access
lists read write look without = record { read = read; write = write; look = look; without = without }

abbrev system : List ℕ → Access → List (List Token) → System
system name access statements = record { name = name; access = access; statements = statements }

abbrev pub frame_systems : List System
frame_systems =
    system (codes "move") (lists (1 ∷ []) (0 ∷ []) [] (7 ∷ []))
    ((Word key.Set ∷ field 0 ∷ Word key.Plus ∷ own 0 ∷ own 1 ∷ [])
    ∷ (Word key.Set ∷ second_field 0 ∷ Word key.Plus ∷ second 0 ∷ second 1 ∷ []) ∷ [])
    ∷ system (codes "wrap") (lists [] (0 ∷ []) [] [])
    ((Word key.Set ∷ field 0 ∷ Word key.Remainder ∷ own 0 ∷ number 1000 ∷ [])
    ∷ (Word key.Set ∷ second_field 0 ∷ Word key.Remainder ∷ second 0 ∷ number 1000 ∷ []) ∷ [])
    ∷ system (codes "turn") (lists [] (1 ∷ []) [] [])
    ((Word key.When ∷ Word key.Equal ∷ Word key.Remainder ∷ Word key.Tick ∷ number 10 ∷ number 9
    ∷ Word key.Set ∷ field 1 ∷ Word key.Minus ∷ number 0 ∷ own 1 ∷ []) ∷ [])
    ∷ system (codes "attack") (lists (4 ∷ 5 ∷ []) [] (2 ∷ []) [])
    ((Word key.When ∷ Word key.Has ∷ own 4 ∷ Pool 2
    ∷ Word key.Add ∷ own 4 ∷ field 2 ∷ Word key.Minus ∷ number 0 ∷ own 5 ∷ []) ∷ [])
    ∷ system (codes "regen") (lists [] (2 ∷ []) [] [])
    ((Word key.Set ∷ field 2 ∷ Word key.Least ∷ number 100 ∷ Word key.Plus ∷ own 2 ∷ number 1 ∷ []) ∷ [])
    ∷ system (codes "death") (lists (2 ∷ []) [] [] [])
    ((Word key.When ∷ Word key.Less ∷ own 2 ∷ number 1 ∷ Word key.Kill ∷ Word key.Oneself ∷ []) ∷ [])
    ∷ system (codes "age") (lists [] (6 ∷ []) [] [])
    ((Word key.Set ∷ field 6 ∷ Word key.Plus ∷ own 6 ∷ number 1 ∷ []) ∷ [])
    ∷ system (codes "breed") (lists (0 ∷ 6 ∷ []) [] [] [])
    ((Word key.When ∷ Word key.Equal ∷ Word key.Remainder ∷ own 6 ∷ number 50 ∷ number 0 ∷ Word key.Spawn ∷ [])
    ∷ (Word key.Bear ∷ Pool 0 ∷ own 0 ∷ second 0 ∷ [])
    ∷ (Word key.Bear ∷ Pool 1 ∷ number 1 ∷ number 1 ∷ [])
    ∷ (Word key.Bear ∷ Pool 2 ∷ number 50 ∷ [])
    ∷ (Word key.Bear ∷ Pool 6 ∷ number 1 ∷ []) ∷ [])
    ∷ system (codes "thaw") (lists (6 ∷ 7 ∷ []) [] [] [])
    ((Word key.When ∷ Word key.Equal ∷ Word key.Remainder ∷ own 6 ∷ number 7 ∷ number 0
    ∷ Word key.Take ∷ Word key.Oneself ∷ Pool 7 ∷ []) ∷ [])
    ∷ system (codes "mark") (lists (2 ∷ []) (8 ∷ []) [] [])
    ((Word key.Set ∷ field 8 ∷ Word key.Minus ∷ number 100 ∷ own 2 ∷ []) ∷ [])
    ∷ system (codes "scout") (lists (4 ∷ []) (8 ∷ []) (0 ∷ []) [])
    ((Word key.Set ∷ field 8 ∷ Word key.Plus ∷ own 8 ∷ Word key.At ∷ own 4 ∷ field 0 ∷ number 0 ∷ []) ∷ [])
    ∷ system (codes "freeze") (lists (6 ∷ []) [] [] [])
    ((Word key.When ∷ Word key.Equal ∷ Word key.Remainder ∷ own 6 ∷ number 13 ∷ number 0
    ∷ Word key.Give ∷ Word key.Oneself ∷ Pool 7 ∷ []) ∷ [])
    ∷ []

abbrev pub frame_world : World
frame_world = record {
  profile = p20_12;
  decls = frame_decls;
  groups = frame_groups;
  tick = 0;
  slots = [];
  free = [];
  pools = replicate 9 [];
}

abbrev pub frame : Document
frame = record { world = frame_world; systems = frame_systems }
