-- Each field of a document is due behind those before it.
use Rattle.std.proofs.Common.{◌≡◌, inl, inr, cond, ℕ, suc, ◌+◌, Bool, true, not, ◌&&◌, List, [], ◌∷◌, ◌++◌, map, length, refl, sym, ap, subst, ◌∙◌, arith}
use Rattle.std.specs.List.{flat_map, zip}
use Rattle.std.proofs.lemmas.Bool.{and_parts, cases_Bool}
use Rattle.std.proofs.lemmas.List.Sums.{sum_by-cons}
use Rattle.entity_id.specs.declared.entity.Entity.{Entity}
use Rattle.entity_slots.proofs.CountLemmas.{free_count, length_free}
use Rattle.world_model.specs.declared.component.Decl.{Decl}
use Rattle.world_model.specs.declared.component.Row.{Row}
use Rattle.world_model.specs.declared.slot.Slot.{Slot}
use Rattle.world_text.specs.declared.document.Document.{Document}
use Rattle.world_text.specs.LineKinds.{Line}
use Rattle.world_text.specs.Documents.{IsLawfulDocument, header_of}
use Rattle.snapshot.specs.Fields.{Field}
use Rattle.snapshot.specs.Fields as field
use Rattle.snapshot.specs.Due.{Due, is_due, due_after, due_from, may_end}
use Rattle.snapshot.specs.Due as due
use Rattle.snapshot.specs.Packing.{fields_of, pool_fields, row_field}

-- whether each field is due, and nothing is missing behind them
unfoldable pub are_due : Due → List Field → Bool
are_due d [] = may_end d
are_due d (f ∷ fields) = is_due d f && are_due (due_after d f) fields

headers_due : (lines : List Line) (rest : List Field) → are_due (due.Headers 0) rest ≡ true → are_due (due.Headers (length lines)) (map field.Header lines ++ rest) ≡ true
unfolding are_due
headers_due [] rest h = h
headers_due (l ∷ lines) rest h = headers_due lines rest h

nexts_due : (free : List ℕ) (rest : List Field) → are_due (due.Slots 0 0) rest ≡ true → are_due (due.Slots 0 (length free)) (map field.Next free ++ rest) ≡ true
unfolding are_due
nexts_due [] rest h = h
nexts_due (index ∷ free) rest h = nexts_due free rest h

rows_due : (decl : Decl) (rows : List (Entity × Row)) (rest : List Field) → are_due (due.Rows 0) rest ≡ true → are_due (due.Rows (length rows)) (map (row_field decl) rows ++ rest) ≡ true
unfolding are_due
rows_due decl [] rest h = h
rows_due decl (entry ∷ rows) rest h = rows_due decl rows rest h

later_pools_due : (pools : List (Decl × List (Entity × Row))) → are_due (due.Rows 0) (flat_map pool_fields pools) ≡ true
unfolding are_due
later_pools_due [] = refl
later_pools_due (pool ∷ pools) = rows_due pool.0 pool.1 (flat_map pool_fields pools) (later_pools_due pools)

pools_due : (pools : List (Decl × List (Entity × Row))) → are_due (due.Slots 0 0) (flat_map pool_fields pools) ≡ true
unfolding are_due
pools_due [] = refl
pools_due (pool ∷ pools) = rows_due pool.0 pool.1 (flat_map pool_fields pools) (later_pools_due pools)

slots_due : (slots : List Slot) (free : ℕ) (rest : List Field) → are_due (due.Slots 0 (free + free_count slots)) rest ≡ true → are_due (due.Slots (length slots) free) (map field.Slot slots ++ rest) ≡ true
unfolding are_due
slots_due [] free rest h = let none : free + free_count [] ≡ free = omega arith in subst (λ n. are_due (due.Slots 0 n) rest ≡ true) none h
slots_due (slot ∷ slots) free rest h =
    let counted = sum_by-cons (λ (s : Slot). cond (not s.live) 1 0) slot slots in
    elim (cases_Bool slot.live) as (λ _. are_due (due.Slots (length slots) (cond slot.live free (suc free))) (map field.Slot slots ++ rest) ≡ true) [
      | inl live ↦
          let none : free_count (slot ∷ slots) ≡ 0 + free_count slots = counted ∙ ap (λ b. cond (not b) 1 0 + free_count slots) live in
          let same : free + free_count (slot ∷ slots) ≡ free + free_count slots = omega (arith, none) in
          subst (λ b. are_due (due.Slots (length slots) (cond b free (suc free))) (map field.Slot slots ++ rest) ≡ true) (sym live)
          (slots_due slots free rest (subst (λ n. are_due (due.Slots 0 n) rest ≡ true) same h))
      | inr dead ↦
          let one : free_count (slot ∷ slots) ≡ 1 + free_count slots = counted ∙ ap (λ b. cond (not b) 1 0 + free_count slots) dead in
          let same : free + free_count (slot ∷ slots) ≡ suc free + free_count slots = omega (arith, one) in
          subst (λ b. are_due (due.Slots (length slots) (cond b free (suc free))) (map field.Slot slots ++ rest) ≡ true) (sym dead)
          (slots_due slots (suc free) rest (subst (λ n. are_due (due.Slots 0 n) rest ≡ true) same h))
    ]

pub due_end : (d : Due) (fields : List Field) → are_due d fields ≡ true → may_end (due_from d fields) ≡ true
unfolding are_due
due_end d [] dues = dues
due_end d (f ∷ fields) dues = due_end (due_after d f) fields (and_parts (is_due d f) _ dues).1

pub document_due : (d : Document) → IsLawfulDocument d → are_due due.Mark (fields_of d) ≡ true
unfolding are_due
document_due d lawful =
    let w = d.world in
    let pools = flat_map pool_fields (zip w.decls w.pools) in
    let free : are_due (due.Slots 0 (length w.free)) (map field.Next w.free ++ flat_map pool_fields (zip w.decls w.pools)) ≡ true = nexts_due w.free (flat_map pool_fields (zip w.decls w.pools)) (pools_due (zip w.decls w.pools)) in
    let counted : length w.free ≡ 0 + free_count w.slots = length_free w.slots w.free lawful.world.slots.listed ∙ omega arith in
    headers_due (header_of d) (field.Tick w.tick ∷ (field.SlotCount (length w.slots) ∷ (map field.Slot w.slots ++ (map field.Next w.free ++ pools))))
    (slots_due w.slots 0 (map field.Next w.free ++ pools) (subst (λ n. are_due (due.Slots 0 n) (map field.Next w.free ++ flat_map pool_fields (zip w.decls w.pools)) ≡ true) counted free))
