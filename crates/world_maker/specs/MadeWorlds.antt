-- Made worlds: the document that a number and a count of entities stand for. Its header is always the same, and its rows are told by the
-- number's draws.
use Rattle.std.specs.Prelude.{◌≡◌, ℕ, ◌+◌, ◌%◌, ◌==◌, Bool, ℤ, pos, ◌-ℤ◌, List, [], ◌∷◌, map, replicate, codes}
use Rattle.std.specs.List.{filter, range_with_len}
use Rattle.entity_id.specs.declared.entity.Entity.{Entity}
use Rattle.entity_id.specs.Fields.{field_of}
use Rattle.entity_id.specs.Identifiers.{p20_12}
use Rattle.world_model.specs.declared.component.Row.{Row}
use Rattle.world_model.specs.Components.{zero_row}
use Rattle.world_model.specs.Slots.{live_slot}
use Rattle.world_text.specs.declared.document.Document.{Document}
use Rattle.world_text.specs.Documents.{IsLawfulDocument, header_of}
use Rattle.world_text.specs.Formats.{version_1}
use Rattle.world_text.specs.Lines.{line_text}
use Rattle.world_maker.specs.Draws.{draw_of}

-- the header lines of every made world, as they are spelled: its components, its groups and its systems
abbrev pub made_header : List (List ℕ)
made_header =
    codes "component position int int"
    ∷ codes "component velocity int int"
    ∷ codes "component health int"
    ∷ codes "component team int"
    ∷ codes "component target entity"
    ∷ codes "component damage int"
    ∷ codes "component timer int"
    ∷ codes "component frozen"
    ∷ codes "component marked int"
    ∷ codes "group own position velocity not frozen"
    ∷ codes "group own position velocity get health not frozen"
    ∷ codes "group own damage get target"
    ∷ codes "system move"
    ∷ codes "read velocity"
    ∷ codes "write position"
    ∷ codes "not frozen"
    ∷ codes "do set position.0 + position.0 velocity.0"
    ∷ codes "do set position.1 + position.1 velocity.1"
    ∷ codes "end"
    ∷ codes "system wrap"
    ∷ codes "write position"
    ∷ codes "do set position.0 % position.0 1000"
    ∷ codes "do set position.1 % position.1 1000"
    ∷ codes "end"
    ∷ codes "system turn"
    ∷ codes "write velocity"
    ∷ codes "do when = % tick 10 9 set velocity.0 - 0 velocity.0"
    ∷ codes "end"
    ∷ codes "system attack"
    ∷ codes "read target damage"
    ∷ codes "look health"
    ∷ codes "do when has target.0 health add target.0 health.0 - 0 damage.0"
    ∷ codes "end"
    ∷ codes "system regen"
    ∷ codes "write health"
    ∷ codes "do set health.0 min 100 + health.0 1"
    ∷ codes "end"
    ∷ codes "system death"
    ∷ codes "read health"
    ∷ codes "do when < health.0 1 kill self"
    ∷ codes "end"
    ∷ codes "system age"
    ∷ codes "write timer"
    ∷ codes "do set timer.0 + timer.0 1"
    ∷ codes "end"
    ∷ codes "system breed"
    ∷ codes "read position timer"
    ∷ codes "do when = % timer.0 50 0 spawn"
    ∷ codes "do bear position position.0 position.1"
    ∷ codes "do bear velocity 1 1"
    ∷ codes "do bear health 50"
    ∷ codes "do bear timer 1"
    ∷ codes "end"
    ∷ codes "system thaw"
    ∷ codes "read timer frozen"
    ∷ codes "do when = % timer.0 7 0 take self frozen"
    ∷ codes "end"
    ∷ codes "system mark"
    ∷ codes "read health"
    ∷ codes "write marked"
    ∷ codes "do set marked.0 - 100 health.0"
    ∷ codes "end"
    ∷ codes "system scout"
    ∷ codes "read target"
    ∷ codes "write marked"
    ∷ codes "look position"
    ∷ codes "do set marked.0 + marked.0 at target.0 position.0 0"
    ∷ codes "end"
    ∷ codes "system freeze"
    ∷ codes "read timer"
    ∷ codes "do when = % timer.0 13 0 give self frozen"
    ∷ codes "end"
    ∷ []

-- ---- the rows of one entity, from its ten draws by place

-- the identifier of an index: nothing has had the index before
abbrev pub first_owner : ℕ → Entity
first_owner index = record { index = index; version = 0 }

-- rows of one field and of two
abbrev pub one_field : ℤ → Row
one_field value = record { f = value ∷ pos 0 ∷ pos 0 ∷ pos 0 ∷ [] }

abbrev pub two_fields : ℤ → ℤ → Row
two_fields first second = record { f = first ∷ second ∷ pos 0 ∷ pos 0 ∷ [] }

-- a speed, from -5 to 5
abbrev pub speed : ℕ → ℤ
speed drawn = pos (drawn % 11) -ℤ pos 5

-- what its fields hold
abbrev pub position : (ℕ → ℕ) → Row
position d = two_fields (pos (d 1 % 1000)) (pos (d 2 % 1000))

abbrev pub velocity : (ℕ → ℕ) → Row
velocity d = two_fields (speed (d 3)) (speed (d 4))

abbrev pub health : (ℕ → ℕ) → Row
health d = one_field (pos (d 5 % 100 + 1))

abbrev pub team : (ℕ → ℕ) → Row
team d = one_field (pos (d 6 % 4))

-- one of so many entities
abbrev pub target : ℕ → (ℕ → ℕ) → Row
target count d = one_field (field_of p20_12 (first_owner (d 7 % count)))

abbrev pub damage : (ℕ → ℕ) → Row
damage d = one_field (pos (d 8 % 5))

abbrev pub timer : (ℕ → ℕ) → Row
timer d = one_field (pos (d 9 % 50))

-- whether it is frozen; the row of that component has no field
abbrev pub is_frozen : (ℕ → ℕ) → Bool
is_frozen d = d 10 % 8 == 0

-- ---- the rows of all

-- the first so many entities, in ascending index, each with the row that its draws tell
abbrev pub rows_of_all : ℕ → ℕ → ((ℕ → ℕ) → Row) → List (Entity × Row)
rows_of_all number count row_of = map (λ index. (first_owner index, row_of (draw_of number index))) (range_with_len 0 count)

-- those of them that are frozen
abbrev pub rows_of_frozen : ℕ → ℕ → List (Entity × Row)
rows_of_frozen number count =
    map (λ index. (first_owner index, zero_row)) (filter (λ index. is_frozen (draw_of number index)) (range_with_len 0 count))

-- the rows of each component, in the order of the header
abbrev pub made_pools : ℕ → ℕ → List (List (Entity × Row))
made_pools number count =
    rows_of_all number count position
    ∷ rows_of_all number count velocity
    ∷ rows_of_all number count health
    ∷ rows_of_all number count team
    ∷ rows_of_all number count (target count)
    ∷ rows_of_all number count damage
    ∷ rows_of_all number count timer
    ∷ rows_of_frozen number count
    ∷ rows_of_all number count (λ d. zero_row)
    ∷ []

-- the made world of a number with so many entities: the lawful document with that header, at tick 0, with so many live slots and those rows
pub record IsMade (number count : ℕ) (document : Document) : Type 0 where
  pub lawful : IsLawfulDocument document
  pub header : map (line_text version_1) (header_of document) ≡ made_header
  pub tick : document.world.tick ≡ 0
  pub slots : document.world.slots ≡ replicate count (live_slot 0)
  pub free : document.world.free ≡ []
  pub pools : document.world.pools ≡ made_pools number count
