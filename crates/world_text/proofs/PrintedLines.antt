-- Each printed line has a spelling.
use Rattle.std.proofs.Common.{◌≡◌, ℕ, zero, suc, ◌<◌, true, false, ◌&&◌, List, [], ◌∷◌, map, length, IsTrue, arith, slice_get}
use Rattle.std.specs.Prelude.{◌==◌}
use Rattle.std.specs.List.{flat_map, zip, AllByRecursion, AllZip}
use Rattle.std.specs.Option.{option_map_or}
use Rattle.std.proofs.lemmas.Bool.{and_parts, eqb-true}
use Rattle.entity_id.specs.declared.entity.Entity.{Entity}
use Rattle.entity_id.proofs.ListLemmas.{all-append}
use Rattle.world_model.specs.declared.component.Decl.{Decl}
use Rattle.world_model.specs.declared.component.Row.{Row}
use Rattle.world_model.specs.declared.slot.Slot.{Slot}
use Rattle.world_model.specs.Components.{IsDecl, IsRow}
use Rattle.world_model.specs.Components as components
use Rattle.world_model.specs.Slots.{is_live, AreLawfulSlots}
use Rattle.world_model.specs.Worlds.{AreLawfulRows}
use Rattle.world_text.specs.declared.format.Format.{Format}
use Rattle.row_lang.specs.Naming.{IsNamedDecl}
use Rattle.world_text.specs.Lines.{IsLine}
use Rattle.world_text.specs.Documents.{row_line, pool_lines}
use Rattle.world_text.proofs.PrintedValues.{row_short, row_spelled}

-- a live identifier's index is that of a slot, and its version is a slot's
live_below : (limit : ℕ) (slots : List Slot) (i v : ℕ) → AllByRecursion (λ slot. slot.version < limit) slots → option_map_or (λ slot. slot.live && (slot.version == v)) (slice_get slots i) false ≡ true → (i < length slots) × (v < limit)
live_below limit [] i v each live = absurd (cc)
live_below limit (s ∷ slots) zero v each live =
    let same = eqb-true s.version v (and_parts s.live (s.version == v) live).1 in
    (omega arith, omega (arith, each.0, same))
live_below limit (s ∷ slots) (suc i) v each live =
    let h = live_below limit slots i v each.1 live in
    (omega (arith, h.0), h.1)

rows_lined : (format : Format) (slots : List Slot) (free : List ℕ) (decl : Decl) (rows : List (Entity × Row)) → AreLawfulSlots format.profile format.slot_limit slots free → IsDecl decl → AllByRecursion (λ entry. IsTrue (is_live slots entry.0)) rows → AllByRecursion (λ entry. IsRow entry.1) rows → AllByRecursion (λ entry. IsTrue (components.fits format.profile decl entry.1)) rows → AllByRecursion (IsLine format) (map (row_line format.profile decl) rows)
rows_lined format slots free decl [] are is_decl live wide fitting = tt
rows_lined format slots free decl (entry ∷ rows) are is_decl live wide fitting =
    let h = live_below format.profile.version_limit slots entry.0.index entry.0.version are.versions live.0 in (
      record {
        of_profile = record { index = omega (arith, h.0, are.few, are.addressable); version = omega (arith, h.1) };
        few = row_short format.profile decl entry.1 is_decl wide.0;
        each = row_spelled format.profile decl entry.1 wide.0 fitting.0;
      },
      rows_lined format slots free decl rows are is_decl live.1 wide.1 fitting.1,
    )

-- the lines of pools
pub pools_lined : (format : Format) (slots : List Slot) (free : List ℕ) (decls : List Decl) (pools : List (List (Entity × Row))) → AreLawfulSlots format.profile format.slot_limit slots free → AllByRecursion IsNamedDecl decls → AllZip (AreLawfulRows format.profile slots) decls pools → AllByRecursion (IsLine format) (flat_map (pool_lines format.profile) (zip decls pools))
pools_lined format slots free [] [] are named lawful = tt
pools_lined format slots free [] (rows ∷ pools) are named lawful = absurd lawful
pools_lined format slots free (decl ∷ decls) [] are named lawful = absurd lawful
pools_lined format slots free (decl ∷ decls) (rows ∷ pools) are named lawful =
    all-append (IsLine format) (pool_lines format.profile (decl, rows)) _
    (named.0.name, rows_lined format slots free decl rows are named.0.fields lawful.0.live lawful.0.wide lawful.0.fitting)
    (pools_lined format slots free decls pools are named.1 lawful.1)
