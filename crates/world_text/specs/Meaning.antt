-- What lines stand for: the world of a document, part by part.
use Rattle.std.specs.Prelude.{ℕ, ◌-◌, ◌||◌, Bool, ℤ, pos, List, [], ◌∷◌, ◌++◌, map, length, replicate, slice_index_or, suc, ◌==◌}
use Rattle.std.specs.List.{flat_map, list_any, filter, range_with_len}
use Rattle.std.specs.Str.{bytes_eq}
use Rattle.entity_id.specs.declared.entity.Profile.{Profile}
use Rattle.entity_id.specs.declared.entity.Entity.{Entity}
use Rattle.entity_id.specs.Fields.{field_of}
use Rattle.world_model.specs.declared.component.Decl.{Decl}
use Rattle.world_model.specs.declared.component.Row.{Row}
use Rattle.world_model.specs.declared.group.GroupDecl.{GroupDecl}
use Rattle.world_model.specs.declared.slot.Slot.{Slot}
use Rattle.world_model.specs.declared.world.World.{World}
use Rattle.world_text.specs.declared.format.Format.{Format}
use Rattle.world_text.specs.FieldValues.{FieldValue}
use Rattle.world_text.specs.FieldValues as value
use Rattle.world_text.specs.LineKinds.{Line, NamedGroup}
use Rattle.world_text.specs.LineKinds as line
use Rattle.row_lang.specs.NameLists.{name_at}

-- the component that a line declares
abbrev pub decl_in : Line → List Decl
decl_in (line.Component decl) = decl ∷ []
decl_in _ = []

-- the names in a group line
abbrev pub group_in : Line → List NamedGroup
group_in (line.Group named) = named ∷ []
group_in _ = []

-- the components that have one of these names, in ascending number
abbrev pub pools_named : List Decl → List (List ℕ) → List ℕ
pools_named decls names = filter (λ pool. list_any (bytes_eq (name_at decls pool)) names) (range_with_len 0 (length decls))

-- the group of components that have these names
abbrev pub group_of : List Decl → NamedGroup → GroupDecl
group_of decls named = record {
  own = pools_named decls named.own;
  get = pools_named decls named.get;
  without = pools_named decls named.without;
}

-- the groups that lines declare
abbrev pub groups_in : List Line → List GroupDecl
groups_in lines = map (group_of (flat_map decl_in lines)) (flat_map group_in lines)

-- the tick number in a line
abbrev pub tick_in : Line → List ℕ
tick_in (line.Tick tick) = tick ∷ []
tick_in _ = []

-- the slot in a line
abbrev pub slot_in : Line → List Slot
slot_in (line.Slot slot) = slot ∷ []
slot_in _ = []

-- the index that a line puts on the free list
abbrev pub next_in : Line → List ℕ
next_in (line.Next index) = index ∷ []
next_in _ = []

-- the field that holds a value
abbrev pub field_of_value : Profile → FieldValue → ℤ
field_of_value profile (value.Int number) = number
field_of_value profile (value.Ref entity) = field_of profile entity

-- the row that holds values; the fields past them are 0
abbrev pub row_of : Profile → List FieldValue → Row
row_of profile values = record { f = map (field_of_value profile) values ++ replicate (4 - length values) (pos 0) }

-- the rows before the next pool line
abbrev pub rows_in : Profile → List Line → List (Entity × Row)
rows_in profile [] = []
rows_in profile (line.Pool name ∷ lines) = []
rows_in profile (line.Row entity values ∷ lines) = (entity, row_of profile values) ∷ rows_in profile lines
rows_in profile (_ ∷ lines) = rows_in profile lines

-- for each pool line the rows between it and the next one
abbrev pub pools_in : Profile → List Line → List (List (Entity × Row))
pools_in profile [] = []
pools_in profile (line.Pool name ∷ lines) = rows_in profile lines ∷ pools_in profile lines
pools_in profile (_ ∷ lines) = pools_in profile lines

-- the world of a document's lines
abbrev pub world_of : Format → List Line → World
world_of format lines = record {
  profile = format.profile;
  decls = flat_map decl_in lines;
  groups = groups_in lines;
  tick = slice_index_or (flat_map tick_in lines) 0 0;
  slots = flat_map slot_in lines;
  free = flat_map next_in lines;
  pools = pools_in format.profile lines;
}

-- for each slot, whether it is live or its index is on the free list; index is that of the first
abbrev pub settled_from : ℕ → List Slot → List ℕ → List Bool
settled_from index [] free = []
settled_from index (slot ∷ slots) free = (slot.live || list_any (λ other. other == index) free) ∷ settled_from (suc index) slots free

-- for each slot of these lines, whether it is live or named by a next line
abbrev pub settled : List Line → List Bool
settled lines = settled_from 0 (flat_map slot_in lines) (flat_map next_in lines)
