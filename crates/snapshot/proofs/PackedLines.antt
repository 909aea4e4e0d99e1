-- The lines of a document's fields.
use Rattle.std.proofs.Common.{◌≡◌, ℕ, List, [], ◌∷◌, ◌++◌, map, length, refl, sym, ap, ◌∙◌, append_assoc}
use Rattle.std.specs.List.{flat_map, zip}
use Rattle.std.proofs.lemmas.Grind.{flat_map-append}
use Rattle.entity_id.specs.declared.entity.Entity.{Entity}
use Rattle.entity_id.specs.declared.entity.Profile.{Profile}
use Rattle.world_model.specs.declared.component.Decl.{Decl}
use Rattle.world_model.specs.declared.component.Row.{Row}
use Rattle.world_model.specs.declared.slot.Slot.{Slot}
use Rattle.world_text.specs.declared.document.Document.{Document}
use Rattle.world_text.specs.Formats.{version_1}
use Rattle.world_text.specs.LineKinds.{Line}
use Rattle.world_text.specs.LineKinds as line
use Rattle.world_text.specs.Documents.{header_of, lines_of, pool_lines, row_line}
use Rattle.snapshot.specs.Fields.{Field, line_in}
use Rattle.snapshot.specs.Fields as field
use Rattle.snapshot.specs.Packing.{fields_of, pool_fields, row_field}
use Rattle.snapshot.specs.Snapshots.{lines_of_fields}

pub header_lines_are : (lines : List Line) → lines_of_fields (map field.Header lines) ≡ lines
header_lines_are [] = refl
header_lines_are (l ∷ lines) = ap (λ (ls : List Line). l ∷ ls) (header_lines_are lines)

pub slot_lines_are : (slots : List Slot) → lines_of_fields (map field.Slot slots) ≡ map line.Slot slots
slot_lines_are [] = refl
slot_lines_are (slot ∷ slots) = ap (λ (ls : List Line). line.Slot slot ∷ ls) (slot_lines_are slots)

pub next_lines_are : (free : List ℕ) → lines_of_fields (map field.Next free) ≡ map line.Next free
next_lines_are [] = refl
next_lines_are (index ∷ free) = ap (λ (ls : List Line). line.Next index ∷ ls) (next_lines_are free)

pub row_lines_are : (decl : Decl) (rows : List (Entity × Row)) → lines_of_fields (map (row_field decl) rows) ≡ map (row_line version_1.profile decl) rows
row_lines_are decl [] = refl
row_lines_are decl (entry ∷ rows) = ap (λ (ls : List Line). row_line version_1.profile decl entry ∷ ls) (row_lines_are decl rows)

pub lines-append : (a b : List Field) → lines_of_fields (a ++ b) ≡ lines_of_fields a ++ lines_of_fields b
lines-append a b = flat_map-append line_in a b

pool_lines_are : (pools : List (Decl × List (Entity × Row))) → lines_of_fields (flat_map pool_fields pools) ≡ flat_map (pool_lines version_1.profile) pools
pool_lines_are [] = refl
pool_lines_are (pool ∷ pools) =
    lines-append (pool_fields pool) (flat_map pool_fields pools)
    ∙ (λ i. (line.Pool pool.0.name ∷ row_lines_are pool.0 pool.1 i) ++ pool_lines_are pools i)

-- the lines of a document are those of its fields, and its end
pub lines_are : (d : Document) → d.world.profile ≡ version_1.profile → lines_of d ≡ lines_of_fields (fields_of d) ++ line.End ∷ []
lines_are d profile =
    let w = d.world in
    let pools = zip w.decls w.pools in
    let header = header_of d in
    let slots = map field.Slot w.slots in
    let free = map field.Next w.free in
    let rows = flat_map pool_fields pools in
    sym (
    ap (λ (ls : List Line). (line.Version ∷ ls) ++ line.End ∷ [])
    (lines-append (map field.Header header) (field.Tick w.tick ∷ (field.SlotCount (length w.slots) ∷ (slots ++ (free ++ rows))))
    ∙ (λ i. header_lines_are header i ++ (line.Tick w.tick ∷ lines-append slots (free ++ rows) i))
    ∙ (λ i. header ++ (line.Tick w.tick ∷ (slot_lines_are w.slots i ++ lines-append free rows i)))
    ∙ (λ i. header ++ (line.Tick w.tick ∷ (map line.Slot w.slots ++ (next_lines_are w.free i ++ (pool_lines_are pools ∙ ap (λ (p : Profile). flat_map (pool_lines p) pools) (sym profile)) i)))))
    ∙ simp append_assoc)
