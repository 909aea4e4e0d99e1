-- Rows: one more is read, or the next one is the first bad one.
use Rattle.std.proofs.Common.{◌≡◌, ℕ, zero, suc, ◌+◌, ◌-◌, ◌<◌, ◌≤◌, ◌^◌, Bool, true, false, ◌&&◌, eqb, List, [], ◌∷◌, ◌++◌, drop, length, Option, Some, None, slice_get, refl, sym, ap, subst, ◌∙◌, arith, append_assoc, append-nil, length-append}
use Rattle.std.specs.List.{flat_map, AllByRecursion}
use Rattle.std.specs.Option.{option_map_or}
use Rattle.std.proofs.lemmas.Bool.{and_parts, eqb-true, true≢false}
use Rattle.std.proofs.lemmas.Option.{slice_get_within}
use Rattle.entity_id.specs.declared.entity.Entity.{Entity}
use Rattle.entity_id.specs.Identifiers.{IsOfProfile}
use Rattle.world_model.specs.declared.component.Decl.{Decl}
use Rattle.world_model.specs.declared.component.Kind.{Kind}
use Rattle.world_model.specs.declared.component.Row.{Row}
use Rattle.world_model.specs.declared.slot.Slot.{Slot}
use Rattle.world_model.specs.Components.{kinds_of}
use Rattle.world_model.specs.Slots.{is_live}
use Rattle.world_text.specs.declared.draft.Draft.{Draft}
use Rattle.world_text.specs.declared.format.Format.{Format}
use Rattle.world_text.specs.declared.section.Section.TheVariants as section
use Rattle.world_text.specs.FieldValues.{FieldValue}
use Rattle.world_text.specs.Formats.{version_1}
use Rattle.world_text.specs.LineKinds.{Line}
use Rattle.world_text.specs.LineKinds as line
use Rattle.world_text.specs.Lines.{IsLine}
use Rattle.world_text.specs.Meaning.{decl_in, slot_in, pools_in, row_of}
use Rattle.world_text.specs.Sections.{is_between}
use Rattle.world_text.specs.Fitting.{are_of_kinds, goes_on_last, last_section, is_above, fits, fit_after}
use Rattle.world_text.specs.Drafts.{are_of_last_kinds, RefusesRow, TakesRow}
use Rattle.world_text.proofs.LawfulLemmas.{version_1_is_format}
use Rattle.world_text.proofs.LawfulLines.{IsSoundAfter, line_after}
use Rattle.world_text.proofs.LawfulParts.{nothing_sound}
use Rattle.world_text.proofs.TakingLemmas.{of_kinds, same_length}
use Rattle.snapshot.specs.Fields.{Field, IsField, u32_bytes, value_bytes, field_bytes}
use Rattle.snapshot.specs.Fields as field
use Rattle.snapshot.specs.Due as due
use Rattle.snapshot.specs.Snapshots.{lines_of_fields, AreAdmissible, has_few_rows, admits, IsBadField}
use Rattle.snapshot.specs.Reading.{IsDraft, RowsDue, IsEntityAt, IsNoEntityAt, AreValuesAt, AreNoValuesAt}
use Rattle.snapshot.proofs.DueLemmas.{row_due}
use Rattle.snapshot.proofs.LawfulLemmas.{lines_admissible}
use Rattle.snapshot.proofs.ReachLemmas.{bad_next}
use Rattle.snapshot.proofs.StepLemmas.{draft_more}
use Rattle.snapshot.proofs.ValueLemmas.{same_u32}

pub not_true_is_false : (b : Bool) → (b ≡ true → ⊥) → b ≡ false
not_true_is_false true none = absurd (none refl)
not_true_is_false false none = refl

pub all_there : {X : Type 0} (P : X → Type 0) (xs : List X) (k : ℕ) (x : X) → AllByRecursion P xs → slice_get xs k ≡ Some x → P x
all_there P [] k x each here = absurd cc
all_there P (y ∷ ys) zero x each here = let same : y ≡ x = cc in subst P same each.0
all_there P (y ∷ ys) (suc k) x each here = all_there P ys k x each.1 here

-- ---- the slots behind admissible fields

sound_after : (before lines : List Line) → AllByRecursion (IsLine version_1) lines → fit_after version_1 before lines ≡ true → IsSoundAfter version_1 before → IsSoundAfter version_1 (before ++ lines)
sound_after before [] each fit sound = subst (IsSoundAfter version_1) (sym (append-nil before)) sound
sound_after before (l ∷ lines) each fit sound =
    let tests = and_parts (fits version_1 before l) (fit_after version_1 (before ++ l ∷ []) lines) fit in
    subst (IsSoundAfter version_1) (append_assoc before (l ∷ []) lines)
    (sound_after (before ++ l ∷ []) lines each.1 tests.1 (line_after version_1 before l version_1_is_format each.0 tests.0 sound))

-- slots within the limits of the format
pub record AreSmall (slots : List Slot) : Type 0 where
  pub few : length slots ≤ 1048575
  pub versions : AllByRecursion (λ slot. slot.version < 4095) slots

pub small_slots : (fields : List Field) → AreAdmissible fields → AreSmall (flat_map slot_in (lines_of_fields fields))
small_slots fields admissible =
    let lawful = lines_admissible fields admissible in
    let sound = sound_after [] (lines_of_fields fields) lawful.each lawful.fit (nothing_sound version_1) in
    record { few = sound.slots.few; versions = sound.slots.versions }

-- the slots of a draft that stands for them
pub draft_slots : (draft : Draft) (fields : List Field) → AreAdmissible fields → IsDraft draft (lines_of_fields fields) → AreSmall draft.slots.items
draft_slots draft fields admissible is = subst AreSmall (sym is.stands.slots) (small_slots fields admissible)

-- ---- what a row's line has to meet

row_fits : (lines : List Line) (entity : Entity) (values : List FieldValue) → admits lines (field.Row entity values) ≡ true → fits version_1 lines (line.Row entity values) ≡ true
row_fits lines entity values h =
    (and_parts (fits version_1 lines (line.Row entity values)) true (and_parts (has_few_rows lines (field.Row entity values)) (fit_after version_1 lines (line.Row entity values ∷ [])) h).1).0

-- its identifier is live, and its values are of the kinds of the last pool's component
row_tests : (draft : Draft) (lines : List Line) (entity : Entity) (values : List FieldValue) → IsDraft draft lines → fits version_1 lines (line.Row entity values) ≡ true → (is_live draft.slots.items entity ≡ true) × (are_of_last_kinds draft values ≡ true)
row_tests draft lines entity values is fit =
    let pools : draft.pools.items ≡ pools_in version_1.profile lines = is.stands.pools ∙ ap (λ (format : Format). pools_in format.profile lines) is.format in
    let placed = and_parts (is_between section.Pools section.Pools (last_section lines)) (is_live (flat_map slot_in lines) entity && goes_on_last (flat_map decl_in lines) (pools_in version_1.profile lines) entity values) fit in
    let tests = and_parts (is_live (flat_map slot_in lines) entity) (goes_on_last (flat_map decl_in lines) (pools_in version_1.profile lines) entity values) placed.1 in
    let last = and_parts (option_map_or (λ rows. is_above rows entity) (slice_get (pools_in version_1.profile lines) (length (pools_in version_1.profile lines) - 1)) false) (option_map_or (λ (decl : Decl). are_of_kinds (kinds_of decl) values) (slice_get (flat_map decl_in lines) (length (pools_in version_1.profile lines) - 1)) false) tests.1 in (
      ap (λ (slots : List Slot). is_live slots entity) is.stands.slots ∙ tests.0,
      (λ i. option_map_or (λ (decl : Decl). are_of_kinds (kinds_of decl) values) (slice_get (is.stands.decls i) (length (pools i) - 1)) false) ∙ last.1,
    )

-- the version of a live identifier is that of its slot
live_version : (slots : List Slot) (entity : Entity) (slot : Slot) → slice_get slots entity.index ≡ Some slot → is_live slots entity ≡ true → slot.version ≡ entity.version
live_version slots entity slot found live =
    let here : (slot.live && eqb slot.version entity.version) ≡ true = sym (ap (λ (o : Option Slot). option_map_or (λ (s : Slot). s.live && eqb s.version entity.version) o false) found) ∙ live in
    eqb-true slot.version entity.version (and_parts slot.live (eqb slot.version entity.version) here).1

last_kinds : (draft : Draft) (kinds : List Kind) (decl : Decl) (values : List FieldValue) → slice_get draft.decls.items (length draft.pools.items - 1) ≡ Some decl → kinds ≡ kinds_of decl → are_of_last_kinds draft values ≡ are_of_kinds kinds values
last_kinds draft kinds decl values found e =
    ap (λ (o : Option Decl). option_map_or (λ (d : Decl). are_of_kinds (kinds_of d) values) o false) found
    ∙ ap (λ (ks : List Kind). are_of_kinds ks values) (sym e)

-- ---- a row more

entity_of_profile : (slots : List Slot) (entity : Entity) (slot : Slot) → AreSmall slots → slice_get slots entity.index ≡ Some slot → entity.version ≡ slot.version → IsOfProfile version_1.profile entity
entity_of_profile slots entity slot small found version =
    let within = slice_get_within slots entity.index slot found in
    let low = all_there (λ (s : Slot). s.version < 4095) slots entity.index slot small.versions found in
    record { index = omega (arith, within, small.few); version = omega (arith, version, low) }

pub row_more : (bytes : List ℕ) (at to left : ℕ) (old new : Draft) (entity : Entity) (row : Row) (kinds : List Kind) (decl : Decl) → RowsDue bytes at old (suc left) → IsEntityAt old.slots.items bytes at entity → slice_get old.decls.items (length old.pools.items - 1) ≡ Some decl → kinds ≡ kinds_of decl → length kinds ≤ 4 → AreValuesAt kinds bytes (at + 4) row to → TakesRow old entity row new → RowsDue bytes to new left
row_more bytes at to left old new entity row kinds decl h here found is_kinds few v taken =
    let held : row ≡ row_of old.format.profile v.values = v.held ∙ ap (λ (format : Format). row_of format.profile v.values) (sym h.holds.format) in
    let takes = taken v.values held (last_kinds old kinds decl v.values found is_kinds ∙ v.of_kinds) in
    let count = same_length kinds v.values (of_kinds kinds v.values v.of_kinds) in
    let of_profile = entity_of_profile old.slots.items entity here.slot (draft_slots old h.fields h.admissible h.holds) here.found here.version in
    draft_more bytes at to (due.Rows (suc left)) old new (field.Row entity v.values) (line.Row entity v.values) refl h
    (record {
      is = record { line = (record { of_profile = of_profile; few = omega (arith, count, few); each = v.each }, tt); within = tt };
      spelled =
          here.spelled
          ∙ ap (λ (x : List ℕ). u32_bytes entity.index ++ x) v.spelled
          ∙ sym (append_assoc (u32_bytes entity.index) (flat_map value_bytes v.values) (drop to bytes));
      size = omega (arith, v.size, length-append (u32_bytes entity.index) (flat_map value_bytes v.values));
    }) refl takes (λ lines stands. refl)

-- ---- the first bad row

-- the next row is bad where none that the bytes begin with fits
rows_bad : (bytes : List ℕ) (at left : ℕ) (old : Draft) → RowsDue bytes at old (suc left) → ((entity : Entity) (values : List FieldValue) (more : List ℕ) → entity.index < 2 ^ 32 → IsField (field.Row entity values) → drop at bytes ≡ u32_bytes entity.index ++ (flat_map value_bytes values ++ more) → (lines : List Line) → IsDraft old lines → fits version_1 lines (line.Row entity values) ≡ true → ⊥) → IsBadField bytes at
rows_bad bytes at left old h none =
    bad_next bytes at (due.Rows (suc left)) (IsDraft old) h refl (λ f more is is_next e lines holds.
    let of = row_due left f is_next in
    let is_row = subst IsField of.2 is in
    let whole = e ∙ ap (λ (k : Field). field_bytes k ++ more) of.2 ∙ append_assoc (u32_bytes of.0.index) (flat_map value_bytes of.1) more in
    subst (λ (k : Field). admits lines k ≡ false) (sym of.2)
    (not_true_is_false (admits lines (field.Row of.0 of.1)) (λ yes.
    none of.0 of.1 more (omega (arith, is_row.line.0.of_profile.index)) is_row whole lines holds (row_fits lines of.0 of.1 yes))))

-- no live identifier stands there
pub entity_missing : (bytes : List ℕ) (at left : ℕ) (old : Draft) → RowsDue bytes at old (suc left) → IsNoEntityAt old.slots.items bytes at → IsBadField bytes at
entity_missing bytes at left old h none =
    rows_bad bytes at left old h (λ entity values more small is e lines holds fit.
    none entity (flat_map value_bytes values ++ more) (row_tests old lines entity values holds fit).0 small e)

-- there is no pool for the row
pub kinds_missing : (bytes : List ℕ) (at left : ℕ) (old : Draft) → RowsDue bytes at old (suc left) → slice_get old.decls.items (length old.pools.items - 1) ≡ None → IsBadField bytes at
kinds_missing bytes at left old h none =
    rows_bad bytes at left old h (λ entity values more small is e lines holds fit.
    let gone : are_of_last_kinds old values ≡ false = ap (λ (o : Option Decl). option_map_or (λ (d : Decl). are_of_kinds (kinds_of d) values) o false) none in
    true≢false (sym (row_tests old lines entity values holds fit).1 ∙ gone))

-- no values of the kinds of the pool's component stand behind the identifier
pub values_missing : (bytes : List ℕ) (at left : ℕ) (old : Draft) (entity : Entity) (kinds : List Kind) (decl : Decl) → RowsDue bytes at old (suc left) → entity.index < 2 ^ 32 → IsEntityAt old.slots.items bytes at entity → slice_get old.decls.items (length old.pools.items - 1) ≡ Some decl → kinds ≡ kinds_of decl → AreNoValuesAt kinds bytes (at + 4) → IsBadField bytes at
values_missing bytes at left old entity kinds decl h low here found is_kinds none =
    rows_bad bytes at left old h (λ other values more small is e lines holds fit.
    let same = same_u32 entity.index other.index (drop (at + 4) bytes) (flat_map value_bytes values ++ more) low small (sym here.spelled ∙ e) in
    none values more (sym (last_kinds old kinds decl values found is_kinds) ∙ (row_tests old lines other values holds fit).1) is.line.0.each same.1)

-- no row of the identifier goes on the pool
pub row_bad : (bytes : List ℕ) (at left : ℕ) (old : Draft) (entity : Entity) → RowsDue bytes at old (suc left) → entity.index < 2 ^ 32 → IsEntityAt old.slots.items bytes at entity → RefusesRow old entity → IsBadField bytes at
row_bad bytes at left old entity h low here refuses =
    rows_bad bytes at left old h (λ other values more small is e lines holds fit.
    let same = same_u32 entity.index other.index (drop (at + 4) bytes) (flat_map value_bytes values ++ more) low small (sym here.spelled ∙ e) in
    let version = live_version old.slots.items other here.slot (ap (slice_get old.slots.items) (sym same.0) ∙ here.found) (row_tests old lines other values holds fit).0 in
    let one : other ≡ entity = λ i. record { index = sym same.0 i; version = sym (here.version ∙ version) i } in
    let unfit : fits version_1 lines (line.Row entity values) ≡ false = subst (λ (format : Format). fits format lines (line.Row entity values) ≡ false) holds.format (refuses values lines holds.stands) in
    true≢false (sym (subst (λ (x : Entity). fits version_1 lines (line.Row x values) ≡ true) one fit) ∙ unfit))
