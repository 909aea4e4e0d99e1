-- The snapshot of a document.
use Rattle.std.specs.Prelude.{ℕ, List, ◌∷◌, ◌++◌, map, length}
use Rattle.std.specs.List.{flat_map, zip}
use Rattle.entity_id.specs.declared.entity.Entity.{Entity}
use Rattle.world_model.specs.declared.component.Decl.{Decl}
use Rattle.world_model.specs.declared.component.Row.{Row}
use Rattle.world_text.specs.declared.document.Document.{Document}
use Rattle.world_text.specs.Formats.{version_1}
use Rattle.world_text.specs.Documents.{header_of, values_in}
use Rattle.snapshot.specs.Fields.{Field, bytes_of}
use Rattle.snapshot.specs.Fields as field

-- the field of a row
abbrev pub row_field : Decl → Entity × Row → Field
row_field decl entry = field.Row entry.0 (values_in version_1.profile decl entry.1)

-- the fields of a component's rows: how many there are, and each
abbrev pub pool_fields : Decl × List (Entity × Row) → List Field
pool_fields pool = field.RowCount pool.0.name (length pool.1) ∷ map (row_field pool.0) pool.1

-- the fields of a document, in their one order
abbrev pub fields_of : Document → List Field
fields_of document =
    let world = document.world in
    field.Mark
    ∷ (field.Version
    ∷ (field.HeaderCount (length (header_of document))
    ∷ (map field.Header (header_of document)
    ++ (field.Tick world.tick
    ∷ (field.SlotCount (length world.slots)
    ∷ (map field.Slot world.slots
    ++ (map field.Next world.free
    ++ flat_map pool_fields (zip world.decls world.pools))))))))

-- the one snapshot of a document
abbrev pub snapshot : Document → List ℕ
snapshot document = bytes_of (fields_of document)
