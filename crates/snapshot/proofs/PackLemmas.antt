-- The parts of a document's snapshot.
use Rattle.std.proofs.Common.{◌≡◌, ℕ, ℤ, List, [], ◌∷◌, ◌++◌, map, length, codes, refl, sym, ap, ap₂, ◌∙◌, append_assoc}
use Rattle.std.specs.List.{flat_map, zip}
use Rattle.std.proofs.lemmas.List.{length-map}
use Rattle.std.proofs.lemmas.Grind.{flat_map-append}
use Rattle.world_model.specs.declared.component.Decl.{Decl}
use Rattle.world_model.specs.declared.component.Kind.{Kind}
use Rattle.world_model.specs.declared.component.Row.{Row}
use Rattle.world_model.specs.Components.{kinds_of}
use Rattle.world_text.specs.declared.document.Document.{Document}
use Rattle.world_text.specs.LineKinds.{Line}
use Rattle.world_text.specs.Formats.{version_1}
use Rattle.world_text.specs.Lines.{line_text}
use Rattle.world_text.specs.Documents.{header_of, value_in, values_in}
use Rattle.world_text.proofs.PrintingLemmas.{zip-take}
use Rattle.snapshot.specs.Fields.{Field, bytes_of, field_bytes, value_bytes, line_bytes, u32_bytes, u64_bytes}
use Rattle.snapshot.specs.Fields as field
use Rattle.snapshot.specs.Packing.{pool_fields, snapshot}

pub bytes_of-append : (a b : List Field) → bytes_of (a ++ b) ≡ bytes_of a ++ bytes_of b
bytes_of-append a b = flat_map-append field_bytes a b

-- the bytes of header lines
pub header_bytes : (lines : List Line) → bytes_of (map field.Header lines) ≡ flat_map line_bytes (map (line_text version_1) lines)
header_bytes [] = refl
header_bytes (l ∷ lines) = ap (λ (x : List ℕ). line_bytes (line_text version_1 l) ++ x) (header_bytes lines)

-- the first three fields and the header lines, where these are the texts of the lines
pub header_part : (d : Document) (texts : List (List ℕ)) → texts ≡ map (line_text version_1) (header_of d) → codes "WORLDSNP" ++ (u32_bytes 1 ++ (u32_bytes (length texts) ++ flat_map line_bytes texts)) ≡ codes "WORLDSNP" ++ (u32_bytes 1 ++ (u32_bytes (length (header_of d)) ++ bytes_of (map field.Header (header_of d))))
header_part d texts are =
    ap (λ (ts : List (List ℕ)). codes "WORLDSNP" ++ (u32_bytes 1 ++ (u32_bytes (length ts) ++ flat_map line_bytes ts))) are
    ∙ ap₂ (λ (n : ℕ) (x : List ℕ). codes "WORLDSNP" ++ (u32_bytes 1 ++ (u32_bytes n ++ x))) (length-map (header_of d) (line_text version_1)) (sym (header_bytes (header_of d)))

-- a snapshot, part by part
pub snapshot_parts : (d : Document) → snapshot d ≡ codes "WORLDSNP" ++ (u32_bytes 1 ++ (u32_bytes (length (header_of d)) ++ (bytes_of (map field.Header (header_of d)) ++ (u64_bytes d.world.tick ++ (u32_bytes (length d.world.slots) ++ (bytes_of (map field.Slot d.world.slots) ++ (bytes_of (map field.Next d.world.free) ++ bytes_of (flat_map pool_fields (zip d.world.decls d.world.pools)))))))))
snapshot_parts d =
    let w = d.world in
    let pools = flat_map pool_fields (zip w.decls w.pools) in
    let free = map field.Next w.free in
    let slots = map field.Slot w.slots in
    let header = map field.Header (header_of d) in
    let front = λ (x : List ℕ). codes "WORLDSNP" ++ (u32_bytes 1 ++ (u32_bytes (length (header_of d)) ++ x)) in
    ap front (bytes_of-append header _)
    ∙ ap (λ (x : List ℕ). front (bytes_of header ++ (u64_bytes w.tick ++ (u32_bytes (length w.slots) ++ x)))) (bytes_of-append slots _ ∙ ap (λ (x : List ℕ). bytes_of slots ++ x) (bytes_of-append free pools))

-- the bytes of a row's values: what stands behind its declared fields says nothing
pub values_bytes : (decl : Decl) (row : Row) (kinds : List Kind) → kinds ≡ kinds_of decl → flat_map value_bytes (map (λ pair. value_in version_1.profile pair.0 pair.1) (zip kinds row.f)) ≡ flat_map value_bytes (values_in version_1.profile decl row)
values_bytes decl row kinds e =
    ap (λ (pairs : List (Kind × ℤ)). flat_map value_bytes (map (λ pair. value_in version_1.profile pair.0 pair.1) pairs))
    (ap (λ (ks : List Kind). zip ks row.f) e ∙ zip-take decl.count decl.kinds row.f)

-- parts appended one after another
pub two_parts : (old one two a b : List ℕ) → one ≡ old ++ a → two ≡ one ++ b → two ≡ old ++ (a ++ b)
two_parts old one two a b p q = q ∙ ap (λ (x : List ℕ). x ++ b) p ∙ append_assoc old a b

pub four_parts : (old one two three four a b c d : List ℕ) → one ≡ old ++ a → two ≡ one ++ b → three ≡ two ++ c → four ≡ three ++ d → four ≡ old ++ (a ++ (b ++ (c ++ d)))
four_parts old one two three four a b c d p q r s =
    s ∙ ap (λ (x : List ℕ). x ++ d) (r ∙ ap (λ (x : List ℕ). x ++ c) (q ∙ ap (λ (x : List ℕ). x ++ b) p)) ∙ simp append_assoc

pub five_parts : (one two three four five a b c d e f g h i : List ℕ) → one ≡ [] ++ (a ++ (b ++ (c ++ d))) → two ≡ one ++ e → three ≡ two ++ (f ++ g) → four ≡ three ++ h → five ≡ four ++ i → five ≡ a ++ (b ++ (c ++ (d ++ (e ++ (f ++ (g ++ (h ++ i)))))))
five_parts one two three four five a b c d e f g h i p q r s t =
    t ∙ ap (λ (x : List ℕ). x ++ i) (s ∙ ap (λ (x : List ℕ). x ++ h) (r ∙ ap (λ (x : List ℕ). x ++ (f ++ g)) (q ∙ ap (λ (x : List ℕ). x ++ e) p))) ∙ simp append_assoc
