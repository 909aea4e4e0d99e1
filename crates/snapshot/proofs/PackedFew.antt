-- No component of a lawful document has more rows than there are live slots.
use Rattle.std.proofs.Common.{◌≡◌, ◌≤◌, Bool, true, ◌&&◌, nat_le, List, [], ◌∷◌, ◌++◌, map, length, refl, sym, ap, subst, ◌∙◌, arith, append_assoc}
use Rattle.std.specs.List.{flat_map, AllByRecursion, AllZip, count_by, zip}
use Rattle.std.proofs.lemmas.Bool.Decides.{nat_tests}
use Rattle.std.proofs.lemmas.List.{append-nil}
use Rattle.std.proofs.lemmas.Grind.{flat_map-append}
use Rattle.entity_id.specs.declared.entity.Entity.{Entity}
use Rattle.entity_id.specs.declared.entity.Profile.{Profile}
use Rattle.entity_id.proofs.ListLemmas.{all-append}
use Rattle.world_model.specs.declared.component.Decl.{Decl}
use Rattle.world_model.specs.declared.component.Row.{Row}
use Rattle.world_model.specs.declared.slot.Slot.{Slot}
use Rattle.world_model.specs.Worlds.{AreLawfulRows}
use Rattle.world_text.specs.declared.document.Document.{Document}
use Rattle.world_text.specs.Formats.{version_1}
use Rattle.world_text.specs.LineKinds.{Line}
use Rattle.world_text.specs.LineKinds as line
use Rattle.world_text.specs.Meaning.{slot_in}
use Rattle.world_text.specs.Documents.{IsLawfulDocument, header_of, row_line}
use Rattle.world_text.proofs.AddingLemmas.{and_true}
use Rattle.snapshot.specs.Fields.{Field, line_in}
use Rattle.snapshot.specs.Fields as field
use Rattle.snapshot.specs.Packing.{fields_of, pool_fields, row_field}
use Rattle.snapshot.specs.Snapshots.{lines_of_fields, live_count, has_few_rows}
use Rattle.snapshot.proofs.FewLemmas.{rows_few}
use Rattle.snapshot.proofs.ShortLemmas.{IsHeaderForm, header_formed}
use Rattle.snapshot.proofs.PackedLines.{header_lines_are, slot_lines_are, next_lines_are, row_lines_are, lines-append}

-- whether each component has few rows
unfoldable pub few_in : List Line → List Field → Bool
few_in before [] = true
few_in before (f ∷ fields) = has_few_rows before f && few_in (before ++ line_in f) fields

-- a field that counts no rows
abbrev IsNoCount : Field → Type 0
IsNoCount (field.RowCount name count) = ⊥
IsNoCount _ = Unit {0}

few_here : (before : List Line) (f : Field) → IsNoCount f → has_few_rows before f ≡ true
few_here before (field.RowCount name count) none = absurd none
few_here before _ none = refl

few_skip : (before : List Line) (fields rest : List Field) → AllByRecursion IsNoCount fields → few_in (before ++ lines_of_fields fields) rest ≡ true → few_in before (fields ++ rest) ≡ true
unfolding few_in
few_skip before [] rest none few = subst (λ (ls : List Line). few_in ls rest ≡ true) (append-nil before) few
few_skip before (f ∷ fields) rest none few =
    and_true _ _ (few_here before f none.0)
    (few_skip (before ++ line_in f) fields rest none.1 (subst (λ (ls : List Line). few_in ls rest ≡ true) (sym (append_assoc before (line_in f) (lines_of_fields fields))) few))

no_counts : {X : Type 0} (f : X → Field) → ((x : X) → IsNoCount (f x)) → (xs : List X) → AllByRecursion IsNoCount (map f xs)
no_counts f none [] = tt
no_counts f none (x ∷ xs) = (none x, no_counts f none xs)

no_slots : {X : Type 0} (f : X → Line) → ((x : X) → slot_in (f x) ≡ []) → (xs : List X) → flat_map slot_in (map f xs) ≡ []
no_slots f none [] = refl
no_slots f none (x ∷ xs) = (λ i. none x i ++ no_slots f none xs i)

slots_in_rows : (before : List Line) (slots : List Slot) (decl : Decl) (rows : List (Entity × Row)) → flat_map slot_in before ≡ slots → flat_map slot_in ((before ++ line.Pool decl.name ∷ []) ++ lines_of_fields (map (row_field decl) rows)) ≡ slots
slots_in_rows before slots decl rows e =
    flat_map-append slot_in (before ++ line.Pool decl.name ∷ []) (lines_of_fields (map (row_field decl) rows))
    ∙ (λ i. flat_map-append slot_in before (line.Pool decl.name ∷ []) i ++ flat_map slot_in (row_lines_are decl rows i))
    ∙ (λ i. (e i ++ []) ++ no_slots (row_line version_1.profile decl) (λ entry. refl) rows i)
    ∙ append-nil (slots ++ [])
    ∙ append-nil slots

few_pools : (profile : Profile) (slots : List Slot) (before : List Line) (decls : List Decl) (pools : List (List (Entity × Row))) → flat_map slot_in before ≡ slots → AllZip (AreLawfulRows profile slots) decls pools → few_in before (flat_map pool_fields (zip decls pools)) ≡ true
unfolding few_in
few_pools profile slots before [] pools e lawful = refl
few_pools profile slots before (decl ∷ decls) [] e lawful = refl
few_pools profile slots before (decl ∷ decls) (rows ∷ pools) e lawful =
    let count : length rows ≤ live_count before = subst (λ (ss : List Slot). length rows ≤ count_by (λ (s : Slot). s.live) ss) (sym e) (rows_few profile slots decl rows lawful.0) in
    let few : nat_le (length rows) (live_count before) ≡ true = grind (arith, nat_tests) in
    and_true _ _ few
    (few_skip (before ++ line.Pool decl.name ∷ []) (map (row_field decl) rows) (flat_map pool_fields (zip decls pools)) (no_counts (row_field decl) (λ entry. tt) rows)
    (few_pools profile slots ((before ++ line.Pool decl.name ∷ []) ++ lines_of_fields (map (row_field decl) rows)) decls pools (slots_in_rows before slots decl rows e) lawful.1))

no_header_slots : (decls : List Decl) (lines : List Line) → AllByRecursion (IsHeaderForm decls) lines → flat_map slot_in lines ≡ []
no_header_slots decls [] forms = refl
no_header_slots decls (line.Component decl ∷ lines) forms = no_header_slots decls lines forms.1
no_header_slots decls (line.Group named ∷ lines) forms = no_header_slots decls lines forms.1
no_header_slots decls (line.System name ∷ lines) forms = no_header_slots decls lines forms.1
no_header_slots decls (line.Body names body ∷ lines) forms = no_header_slots decls lines forms.1
no_header_slots decls (_ ∷ lines) forms = absurd forms.0

each_slot : (slots : List Slot) → flat_map slot_in (map line.Slot slots) ≡ slots
each_slot [] = refl
each_slot (slot ∷ slots) = ap (λ (ss : List Slot). slot ∷ ss) (each_slot slots)

-- the fields before the first row count
abbrev front_fields : Document → List Field
front_fields d =
    field.Mark ∷ (field.Version ∷ (field.HeaderCount (length (header_of d)) ∷ (map field.Header (header_of d)
    ++ (field.Tick d.world.tick ∷ (field.SlotCount (length d.world.slots) ∷ (map field.Slot d.world.slots ++ map field.Next d.world.free))))))

front_is : (d : Document) → front_fields d ++ flat_map pool_fields (zip d.world.decls d.world.pools) ≡ fields_of d
front_is d =
    let w = d.world in
    let pools = flat_map pool_fields (zip w.decls w.pools) in
    let header = map field.Header (header_of d) in
    let slots = map field.Slot w.slots in
    let free = map field.Next w.free in
    let front = λ (fs : List Field). field.Mark ∷ (field.Version ∷ (field.HeaderCount (length (header_of d)) ∷ fs)) in
    ap front (append_assoc header (field.Tick w.tick ∷ (field.SlotCount (length w.slots) ∷ (slots ++ free))) pools
    ∙ ap (λ (fs : List Field). header ++ (field.Tick w.tick ∷ (field.SlotCount (length w.slots) ∷ fs))) (append_assoc slots free pools))

front_slots : (d : Document) → IsLawfulDocument d → flat_map slot_in (lines_of_fields (front_fields d)) ≡ d.world.slots
front_slots d lawful =
    let w = d.world in
    let slots = map field.Slot w.slots in
    let free = map field.Next w.free in
    ap (flat_map slot_in)
    (lines-append (map field.Header (header_of d)) (field.Tick w.tick ∷ (field.SlotCount (length w.slots) ∷ (slots ++ free)))
    ∙ (λ i. header_lines_are (header_of d) i ++ (line.Tick w.tick ∷ (lines-append slots free ∙ (λ j. slot_lines_are w.slots j ++ next_lines_are w.free j)) i)))
    ∙ flat_map-append slot_in (header_of d) (line.Tick w.tick ∷ (map line.Slot w.slots ++ map line.Next w.free))
    ∙ (λ i. no_header_slots w.decls (header_of d) (header_formed d lawful) i ++ flat_map-append slot_in (map line.Slot w.slots) (map line.Next w.free) i)
    ∙ (λ i. each_slot w.slots i ++ no_slots line.Next (λ index. refl) w.free i)
    ∙ append-nil w.slots

front_counts : (d : Document) → AllByRecursion IsNoCount (front_fields d)
front_counts d = (
  tt,
  (
    tt,
    (
      tt,
      all-append IsNoCount (map field.Header (header_of d)) _ (no_counts field.Header (λ l. tt) (header_of d))
          (tt, (tt, all-append IsNoCount (map field.Slot d.world.slots) _ (no_counts field.Slot (λ slot. tt) d.world.slots) (no_counts field.Next (λ index. tt) d.world.free))),
    ),
  ),
)

pub document_few : (d : Document) → IsLawfulDocument d → few_in [] (fields_of d) ≡ true
document_few d lawful =
    let w = d.world in
    subst (λ (fs : List Field). few_in [] fs ≡ true) (front_is d)
    (few_skip [] (front_fields d) (flat_map pool_fields (zip w.decls w.pools)) (front_counts d)
    (few_pools w.profile w.slots (lines_of_fields (front_fields d)) w.decls w.pools (front_slots d lawful) lawful.world.pools))
