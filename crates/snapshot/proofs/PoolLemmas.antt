-- Row counts, rows and the end: one more is read, or the next one is the first bad one.
use Rattle.std.proofs.Common.{◌≡◌, inl, inr, ℕ, ◌+◌, ◌<◌, ◌≤◌, ◌^◌, true, false, ◌&&◌, eqb, List, [], ◌∷◌, ◌++◌, drop, length, Option, Some, None, slice_get, refl, sym, ap, subst, ◌∙◌, arith}
use Rattle.std.specs.List.{flat_map, count_by}
use Rattle.std.specs.Option.{option_map_or}
use Rattle.std.proofs.lemmas.Bool.{and_parts, true≢false}
use Rattle.std.proofs.lemmas.Bool.Decides.{nat_tests}
use Rattle.std.proofs.lemmas.Option.{slice_get_past}
use Rattle.std.proofs.lemmas.Slice.Eq.{bytes_eq-Decides}
use Rattle.world_model.specs.Names.{is_name}
use Rattle.world_model.specs.declared.component.Decl.{Decl}
use Rattle.world_model.specs.declared.slot.Slot.{Slot}
use Rattle.world_model.specs.Components.{has_name}
use Rattle.world_text.specs.declared.draft.Draft.{Draft}
use Rattle.world_text.specs.declared.format.Format.{Format}
use Rattle.world_text.specs.Formats.{version_1}
use Rattle.world_text.specs.LineKinds.{Line}
use Rattle.world_text.specs.LineKinds as line
use Rattle.world_text.specs.Meaning.{decl_in, pools_in}
use Rattle.world_text.specs.Drafts.{Stands, Takes, Refuses}
use Rattle.world_text.specs.declared.section.Section.TheVariants as section
use Rattle.world_text.specs.Sections.{is_between}
use Rattle.world_text.specs.Fitting.{last_section, all_settled, fits, fit_after}
use Rattle.world_text.proofs.AddingLemmas.{and_false_left, and_false_right}
use Rattle.snapshot.specs.Fields.{Field, IsField, line_in, u32_bytes, field_bytes}
use Rattle.snapshot.specs.Fields as field
use Rattle.snapshot.specs.Due.{Due, is_due, due_after}
use Rattle.snapshot.specs.Due as due
use Rattle.snapshot.specs.Snapshots.{has_few_rows, live_count, admits, IsBadField}
use Rattle.snapshot.specs.Reading.{IsDraft, IsAtRest, RowsDue, IsFieldAt, IsNumberAt}
use Rattle.snapshot.proofs.DueLemmas.{row_count_due, next_row_count_due}
use Rattle.snapshot.proofs.ReachLemmas.{bad_here}
use Rattle.snapshot.proofs.StepLemmas.{draft_more}
use Rattle.snapshot.proofs.PlaceLemmas.{too_short, the_u32}
use Rattle.snapshot.proofs.RowLemmas.{not_true_is_false, draft_slots}

-- ---- row counts

-- a count of no more rows than the draft has live slots
few_rows : (draft : Draft) (lines : List Line) (name : List ℕ) (count : ℕ) → Stands draft lines → count ≤ count_by (λ slot. slot.live) draft.slots.items → has_few_rows lines (field.RowCount name count) ≡ true
few_rows draft lines name count stands few =
    let below : count ≤ live_count lines = subst (λ (slots : List Slot). count ≤ count_by (λ (s : Slot). s.live) slots) stands.slots few in
    grind (arith, nat_tests)

-- where a row count is due, it is read
pub count_more : (bytes : List ℕ) (at to : ℕ) (old new : Draft) (name : List ℕ) (count : ℕ) → IsAtRest bytes at old → IsFieldAt bytes at (field.RowCount name count) to → count ≤ count_by (λ slot. slot.live) old.slots.items → Takes old (line.Pool name) new → RowsDue bytes to new count
count_more bytes at to old new name count (inl first) here few takes =
    draft_more bytes at to (due.Slots 0 0) old new (field.RowCount name count) (line.Pool name) refl first here refl takes (λ lines stands. few_rows old lines name count stands few)
count_more bytes at to old new name count (inr later) here few takes =
    draft_more bytes at to (due.Rows 0) old new (field.RowCount name count) (line.Pool name) refl later here refl takes (λ lines stands. few_rows old lines name count stands few)

-- where no row count that is due is admissible, and something is missing, the next field is the first bad one
pub at_rest_bad : (bytes : List ℕ) (at : ℕ) (draft : Draft) → IsAtRest bytes at draft → ((name : List ℕ) (count : ℕ) (more : List ℕ) → IsField (field.RowCount name count) → drop at bytes ≡ field_bytes (field.RowCount name count) ++ more → (lines : List Line) → IsDraft draft lines → admits lines (field.RowCount name count) ≡ false) → (drop at bytes ≡ [] → (lines : List Line) → IsDraft draft lines → fits version_1 lines line.End ≡ false) → IsBadField bytes at
at_rest_bad bytes at draft (inl first) none missing =
    bad_here bytes at (due.Slots 0 0) (IsDraft draft) first
    (λ f more is is_next e lines holds.
    let of = row_count_due f is_next in
    subst (λ (k : Field). admits lines k ≡ false) (sym of.2) (none of.0 of.1 more (subst IsField of.2 is) (e ∙ ap (λ (k : Field). field_bytes k ++ more) of.2) lines holds))
    (λ empty may. missing empty)
at_rest_bad bytes at draft (inr later) none missing =
    bad_here bytes at (due.Rows 0) (IsDraft draft) later
    (λ f more is is_next e lines holds.
    let of = next_row_count_due f is_next in
    subst (λ (k : Field). admits lines k ≡ false) (sym of.2) (none of.0 of.1 more (subst IsField of.2 is) (e ∙ ap (λ (k : Field). field_bytes k ++ more) of.2) lines holds))
    (λ empty may. missing empty)

-- before the last component's pool stands, no document ends
pub no_end_yet : (draft : Draft) (lines : List Line) → IsDraft draft lines → length draft.pools.items < length draft.decls.items → fits version_1 lines line.End ≡ false
no_end_yet draft lines is few =
    let pools : length draft.pools.items ≡ length (pools_in version_1.profile lines) = ap length is.stands.pools ∙ ap (λ (format : Format). length (pools_in format.profile lines)) is.format in
    let decls : length draft.decls.items ≡ length (flat_map decl_in lines) = ap length is.stands.decls in
    let unequal : eqb (length (pools_in version_1.profile lines)) (length (flat_map decl_in lines)) ≡ false = grind (arith, nat_tests) in
    and_false_right _ _ (and_false_right _ _ unequal)

-- behind the last component's pool no further one is admissible
pub no_further_pool : (draft : Draft) (lines : List Line) (name : List ℕ) (count : ℕ) → IsDraft draft lines → length draft.pools.items ≡ length draft.decls.items → admits lines (field.RowCount name count) ≡ false
no_further_pool draft lines name count is all =
    let pools : length draft.pools.items ≡ length (pools_in version_1.profile lines) = ap length is.stands.pools ∙ ap (λ (format : Format). length (pools_in format.profile lines)) is.format in
    let decls : length draft.decls.items ≡ length (flat_map decl_in lines) = ap length is.stands.decls in
    let past : slice_get (flat_map decl_in lines) (length (pools_in version_1.profile lines)) ≡ None = slice_get_past (flat_map decl_in lines) (length (pools_in version_1.profile lines)) (omega (arith, pools, decls, all)) in
    let unnamed : option_map_or (has_name name) (slice_get (flat_map decl_in lines) (length (pools_in version_1.profile lines))) false ≡ false = ap (λ (found : Option Decl). option_map_or (has_name name) found false) past in
    and_false_right _ _ (and_false_left _ _ (and_false_right _ _ (and_false_right _ _ unnamed)))

-- ---- the first bad row count

-- fewer bytes stand there than a count has
pub count_missing : (bytes : List ℕ) (at : ℕ) (draft : Draft) → IsAtRest bytes at draft → length draft.pools.items < length draft.decls.items → length bytes < at + 4 → IsBadField bytes at
count_missing bytes at draft rest few short =
    at_rest_bad bytes at draft rest
    (λ name count more is e lines holds. absurd (too_short 4 at bytes (u32_bytes count) more short (omega arith) (omega arith) e))
    (λ empty lines holds. no_end_yet draft lines holds few)

-- a count of more rows than there are live slots
pub count_over : (bytes : List ℕ) (at : ℕ) (draft : Draft) (count : ℕ) → IsAtRest bytes at draft → length draft.pools.items < length draft.decls.items → IsNumberAt 4 bytes at count (u32_bytes count) → count < 2 ^ 32 → count_by (λ slot. slot.live) draft.slots.items < count → IsBadField bytes at
count_over bytes at draft count rest few here small over =
    at_rest_bad bytes at draft rest
    (λ name other more is e lines holds.
    let same = the_u32 bytes at count other more here small is.within e in
    let live : live_count lines < count = subst (λ (slots : List Slot). count_by (λ (s : Slot). s.live) slots < count) holds.stands.slots over in
    let many : has_few_rows lines (field.RowCount name other) ≡ false = grind (arith, nat_tests, same.0) in
    and_false_left _ (fit_after version_1 lines (line.Pool name ∷ [])) many)
    (λ empty lines holds. no_end_yet draft lines holds few)

-- the next component's pool is refused
pub pool_bad : (bytes : List ℕ) (at : ℕ) (draft : Draft) (name : List ℕ) (decl : Decl) → IsAtRest bytes at draft → length draft.pools.items < length draft.decls.items → slice_get draft.decls.items (length draft.pools.items) ≡ Some decl → name ≡ decl.name → Refuses draft (line.Pool name) → IsBadField bytes at
pool_bad bytes at draft name decl rest few found named refuses =
    at_rest_bad bytes at draft rest
    (λ other count more is e lines holds. not_true_is_false (admits lines (field.RowCount other count)) (λ yes.
    let fit : fits version_1 lines (line.Pool other) ≡ true = (and_parts (fits version_1 lines (line.Pool other)) true (and_parts (has_few_rows lines (field.RowCount other count)) (fit_after version_1 lines (line.Pool other ∷ [])) yes).1).0 in
    let pools : draft.pools.items ≡ pools_in version_1.profile lines = holds.stands.pools ∙ ap (λ (format : Format). pools_in format.profile lines) holds.format in
    let placed = and_parts (is_between section.Tick section.Pools (last_section lines)) (all_settled lines && option_map_or (has_name other) (slice_get (flat_map decl_in lines) (length (pools_in version_1.profile lines))) false) fit in
    let test : option_map_or (has_name other) (slice_get (flat_map decl_in lines) (length (pools_in version_1.profile lines))) false ≡ true = (and_parts (all_settled lines) _ placed.1).1 in
    let here : has_name other decl ≡ true =
    sym (ap (λ (o : Option Decl). option_map_or (has_name other) o false) found) ∙ (λ i. option_map_or (has_name other) (slice_get (holds.stands.decls i) (length (pools i))) false) ∙ test in
    let same : decl.name ≡ other = grind (arith, bytes_eq-Decides) in
    let unfit : fits version_1 lines (line.Pool name) ≡ false = subst (λ (format : Format). fits format lines (line.Pool name) ≡ false) holds.format (refuses lines holds.stands) in
    true≢false (sym (subst (λ (n : List ℕ). fits version_1 lines (line.Pool n) ≡ true) (sym (named ∙ same)) fit) ∙ unfit)))
    (λ empty lines holds. no_end_yet draft lines holds few)

-- ---- row counts read

-- the count of the next component's rows
pub count_here : (bytes : List ℕ) (at count : ℕ) (name : List ℕ) → IsNumberAt 4 bytes at count (u32_bytes count) → count < 2 ^ 32 → is_name name ≡ true → IsFieldAt bytes at (field.RowCount name count) (at + 4)
count_here bytes at count name here small named = record { is = record { line = (named, tt); within = small }; spelled = here.spelled; size = refl }

-- the draft that a row count is due behind has few slots
pub few_slots : (bytes : List ℕ) (at : ℕ) (draft : Draft) → IsAtRest bytes at draft → length draft.slots.items ≤ 1048575
few_slots bytes at draft (inl first) = (draft_slots draft first.fields first.admissible first.holds).few
few_slots bytes at draft (inr later) = (draft_slots draft later.fields later.admissible later.holds).few
