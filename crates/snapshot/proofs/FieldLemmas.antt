-- Fields at the front of bytes: of the one kind that is due, the bytes tell the field.
use Rattle.std.proofs.Common.{◌≡◌, ℕ, ◌<◌, ◌≤◌, Bool, true, false, ◌&&◌, cond, eqb, List, [], ◌∷◌, ◌++◌, drop, length, Option, Some, None, slice_get, refl, sym, ap, ap₂, ◌∙◌, arith}
use Rattle.std.specs.List.{flat_map}
use Rattle.std.specs.Option.{option_map_or}
use Rattle.std.proofs.lemmas.Bool.{and_parts}
use Rattle.std.proofs.lemmas.Bool.Decides.{nat_tests}
use Rattle.std.proofs.lemmas.Option.{same_Some}
use Rattle.std.proofs.lemmas.Slice.Eq.{bytes_eq-Decides}
use Rattle.entity_id.specs.declared.entity.Entity.{Entity}
use Rattle.world_model.specs.declared.component.Decl.{Decl}
use Rattle.world_model.specs.declared.slot.Slot.{Slot}
use Rattle.world_model.specs.Components.{has_name}
use Rattle.world_model.specs.Slots.{is_live}
use Rattle.world_text.specs.LineKinds.{Line}
use Rattle.world_text.specs.LineKinds as line
use Rattle.world_text.specs.Formats.{version_1}
use Rattle.world_text.specs.Meaning.{decl_in, pools_in}
use Rattle.world_text.specs.Fitting.{fits}
use Rattle.snapshot.specs.Fields.{Field, IsField, line_in, line_bytes, value_bytes, state_of, field_bytes}
use Rattle.snapshot.specs.Fields as field
use Rattle.snapshot.proofs.ValueLemmas.{same_u16, same_u32}

-- a field has bytes
pub some_bytes : (f : Field) → 0 < length (field_bytes f)
some_bytes field.Mark = omega arith
some_bytes field.Version = omega arith
some_bytes (field.HeaderCount count) = omega arith
some_bytes (field.Header l) = omega arith
some_bytes (field.Tick tick) = omega arith
some_bytes (field.SlotCount count) = omega arith
some_bytes (field.Slot slot) = omega arith
some_bytes (field.Next index) = omega arith
some_bytes (field.RowCount name count) = omega arith
some_bytes (field.Row entity values) = omega arith

-- ---- parts of fields

same_front : (a b x y : List ℕ) → length a ≡ length b → a ++ x ≡ b ++ y → (a ≡ b) × (x ≡ y)
same_front [] [] x y long e = (refl, e)
same_front [] (c ∷ b) x y long e = absurd (omega (arith, long))
same_front (c ∷ a) [] x y long e = absurd (omega (arith, long))
same_front (c ∷ a) (d ∷ b) x y long e =
    let head : c ≡ d = cc (e) in
    let others = same_front a b x y (omega (arith, long)) (ap (drop 1) e) in
    (ap₂ (λ (u : ℕ) us. u ∷ us) head others.0, others.1)

-- a line behind its length
pub same_line_bytes : (a b x y : List ℕ) → length a ≤ 4096 → length b ≤ 4096 → line_bytes a ++ x ≡ line_bytes b ++ y → (a ≡ b) × (x ≡ y)
same_line_bytes a b x y p q e =
    let size = same_u16 (length a) (length b) (a ++ x) (b ++ y) (omega arith) (omega arith) e in
    same_front a b x y size.0 size.1

same_state : (a b : Slot) → state_of a ≡ state_of b → a.live ≡ b.live
same_state a b e = by_live a.live b.live e
  where
    by_live : (p q : Bool) → cond {A = ℕ} p 1 0 ≡ cond {A = ℕ} q 1 0 → p ≡ q
    by_live true true e = refl
    by_live false false e = refl
    by_live true false e = absurd (omega (arith, e))
    by_live false true e = absurd (omega (arith, e))

pub same_slot : (a b : Slot) (x y : List ℕ) → a.version < 4095 → b.version < 4095 → field_bytes (field.Slot a) ++ x ≡ field_bytes (field.Slot b) ++ y → (a ≡ b) × (x ≡ y)
same_slot a b x y p q e =
    let state : state_of a ≡ state_of b = cc (e) in
    let live = same_state a b state in
    let version = same_u32 a.version b.version x y (omega arith) (omega arith) (ap (drop 1) e) in
    ((λ i. record { version = version.0 i; live = live i }), version.1)

-- the version of a live identifier is that of its slot
live_version : (slots : List Slot) (entity : Entity) → is_live slots entity ≡ true → (slot : Slot) × (slice_get slots entity.index ≡ Some slot) × (entity.version ≡ slot.version)
live_version slots entity live =
    elim (slice_get slots entity.index) as (λ (found : Option Slot). slice_get slots entity.index ≡ found → option_map_or (λ (slot : Slot). slot.live && eqb slot.version entity.version) found false ≡ true → (slot : Slot) × (slice_get slots entity.index ≡ Some slot) × (entity.version ≡ slot.version)) [
      | None ↦ λ is e. absurd cc
      | Some slot ↦ λ is e. let version : eqb slot.version entity.version ≡ true = (and_parts slot.live _ e).1 in (slot, is, grind (arith, nat_tests))
    ] refl live

-- live identifiers of one index are the same
pub same_live : (slots : List Slot) (a b : Entity) → is_live slots a ≡ true → is_live slots b ≡ true → a.index ≡ b.index → a ≡ b
same_live slots a b p q e =
    let of_a = live_version slots a p in
    let of_b = live_version slots b q in
    let slot : of_a.0 ≡ of_b.0 = same_Some of_a.0 of_b.0 (sym of_a.1 ∙ ap (slice_get slots) e ∙ of_b.1) in
    let version = of_a.2 ∙ ap (λ (s : Slot). s.version) slot ∙ sym of_b.2 in
    λ i. record { index = e i; version = version i }

-- the next component has one name
pub same_next_name : (lines : List Line) (a b : List ℕ) → fits version_1 lines (line.Pool a) ≡ true → fits version_1 lines (line.Pool b) ≡ true → a ≡ b
same_next_name lines a b p q = by_decl (slice_get (flat_map decl_in lines) (length (pools_in version_1.profile lines))) (and_parts _ _ (and_parts _ _ p).1).1 (and_parts _ _ (and_parts _ _ q).1).1
  where
    by_decl : (found : Option Decl) → option_map_or (has_name a) found false ≡ true → option_map_or (has_name b) found false ≡ true → a ≡ b
    by_decl None e f = absurd cc
    by_decl (Some decl) e f =
        let of_a : decl.name ≡ a = grind (arith, bytes_eq-Decides) in
        let of_b : decl.name ≡ b = grind (arith, bytes_eq-Decides) in
        sym of_a ∙ of_b
