-- A field more is read, or the next one is the first bad one.
use Rattle.std.proofs.Common.{◌≡◌, ℕ, suc, ◌+◌, ◌≤◌, true, false, List, [], ◌∷◌, ◌++◌, drop, length, cond, refl, sym, ap, subst, ◌∙◌, arith, length-append}
use Rattle.std.proofs.lemmas.List.{append-nil}
use Rattle.world_model.specs.declared.slot.Slot.{Slot}
use Rattle.row_lang.specs.declared.fault.LineFault.{LineFault}
use Rattle.row_lang.specs.declared.fault.LineFault.TheVariants as fault
use Rattle.world_text.specs.declared.draft.Draft.{Draft}
use Rattle.world_text.specs.declared.format.Format.{Format}
use Rattle.world_text.specs.Formats.{version_1}
use Rattle.world_text.specs.LineKinds.{Line}
use Rattle.world_text.specs.LineKinds as line
use Rattle.world_text.specs.Lines.{line_text}
use Rattle.world_text.specs.Drafts.{Stands, Takes, Refuses}
use Rattle.world_text.specs.Fitting.{fits, fit_after}
use Rattle.world_text.specs.Headers.{HeaderSoFar, TakesHeaderLine, RefusesHeaderLine}
use Rattle.world_text.proofs.AddingLemmas.{and_true, and_false_left, and_false_right}
use Rattle.snapshot.specs.declared.refusal.PackRefused.{PackRefused}
use Rattle.snapshot.specs.declared.refusal.PackRefused.TheVariants as refusal
use Rattle.snapshot.specs.Fields.{Field, IsField, line_in, u16_bytes, line_bytes, field_bytes}
use Rattle.snapshot.specs.Fields as field
use Rattle.snapshot.specs.Due.{Due, is_due, due_after, may_end}
use Rattle.snapshot.specs.Due as due
use Rattle.snapshot.specs.Snapshots.{has_few_rows, admits, IsBadField}
use Rattle.snapshot.specs.Reading.{IsCause, Reaches, IsDraft, IsHeader, HeadersDue, SlotsDue, IsFieldAt, IsNoFieldAt, IsLineAt, IsNoLineAt}
use Rattle.snapshot.proofs.DueLemmas.{header_due, tick_due, slot_count_due, slot_due, next_due}
use Rattle.snapshot.proofs.FieldLemmas.{same_slot, same_line_bytes}
use Rattle.snapshot.proofs.ReachLemmas.{reach_more, bad_next}
use Rattle.snapshot.proofs.ValueLemmas.{same_u32, same_u64}

-- what is said of a refusal: where a field is refused for what it says, it is the first bad one
pub refused_cause : (bytes : List ℕ) (at : ℕ) (cause : LineFault) (result : PackRefused) → (cause ≡ fault.Bad → result ≡ refusal.BadAt at) → (cause ≡ fault.OutOfMemory → result ≡ refusal.OutOfMemory) → (cause ≡ fault.Bad → IsBadField bytes at) → IsCause bytes result
refused_cause bytes at fault.Bad result bad memory is = subst (IsCause bytes) (sym (bad refl)) (is refl)
refused_cause bytes at fault.OutOfMemory result bad memory is = subst (IsCause bytes) (sym (memory refl)) tt

-- ---- any field

-- a field whose line a draft takes
pub draft_more : (bytes : List ℕ) (at to : ℕ) (d : Due) (old new : Draft) (f : Field) (l : Line) → line_in f ≡ l ∷ [] → Reaches bytes at d (IsDraft old) → IsFieldAt bytes at f to → is_due d f ≡ true → Takes old l new → ((lines : List Line) → Stands old lines → has_few_rows lines f ≡ true) → Reaches bytes to (due_after d f) (IsDraft new)
draft_more bytes at to d old new f l one h here is_next takes few =
    reach_more bytes at to d (IsDraft old) (IsDraft new) f h here.is is_next here.spelled here.size
    (λ lines is.
    let fit : fits version_1 lines l ≡ true = subst (λ (format : Format). fits format lines l ≡ true) is.format (takes.fit lines is.stands) in
    and_true _ _ (few lines is.stands) (subst (λ (ls : List Line). fit_after version_1 lines ls ≡ true) (sym one) (and_true _ _ fit refl)))
    (λ lines is. record {
      format = takes.format ∙ is.format;
      stands = subst (λ (ls : List Line). Stands new (lines ++ ls)) (sym one) (takes.stands lines is.stands);
    })

-- no field that is due stands there
pub missing : (bytes : List ℕ) (at : ℕ) (d : Due) (Holds : List Line → Type 0) → Reaches bytes at d Holds → may_end d ≡ false → ((f : Field) → is_due d f ≡ true → IsNoFieldAt bytes at f) → IsBadField bytes at
missing bytes at d Holds h more none = bad_next bytes at d Holds h more (λ f rest is is_next e lines holds. absurd (none f is_next rest is e))

-- a field whose line a draft refuses, where the bytes begin with no other that is due
pub draft_bad : (bytes : List ℕ) (at to : ℕ) (d : Due) (old : Draft) (f : Field) (l : Line) → line_in f ≡ l ∷ [] → Reaches bytes at d (IsDraft old) → may_end d ≡ false → IsFieldAt bytes at f to → Refuses old l → ((g : Field) (more : List ℕ) → IsField g → is_due d g ≡ true → field_bytes f ++ drop to bytes ≡ field_bytes g ++ more → g ≡ f) → IsBadField bytes at
draft_bad bytes at to d old f l one h more here refuses only =
    bad_next bytes at d (IsDraft old) h more (λ g rest is is_next e lines holds.
    let same = only g rest is is_next (sym here.spelled ∙ e) in
    let unfit : fits version_1 lines l ≡ false = subst (λ (format : Format). fits format lines l ≡ false) holds.format (refuses lines holds.stands) in
    subst (λ (k : Field). admits lines k ≡ false) (sym same)
    (and_false_right _ _ (subst (λ (ls : List Line). fit_after version_1 lines ls ≡ false) (sym one) (and_false_left _ _ unfit))))

-- ---- the tick number

pub tick_more : (bytes : List ℕ) (at to : ℕ) (old new : Draft) (tick : ℕ) → Reaches bytes at (due.Headers 0) (IsDraft old) → IsFieldAt bytes at (field.Tick tick) to → Takes old (line.Tick tick) new → Reaches bytes to due.SlotCount (IsDraft new)
tick_more bytes at to old new tick h here takes =
    draft_more bytes at to (due.Headers 0) old new (field.Tick tick) (line.Tick tick) refl h here refl takes (λ lines stands. refl)

pub tick_missing : (bytes : List ℕ) (at : ℕ) (old : Draft) → Reaches bytes at (due.Headers 0) (IsDraft old) → ((tick : ℕ) → IsNoFieldAt bytes at (field.Tick tick)) → IsBadField bytes at
tick_missing bytes at old h none =
    missing bytes at (due.Headers 0) (IsDraft old) h refl (λ f is_next. let of = tick_due f is_next in subst (IsNoFieldAt bytes at) (sym of.1) (none of.0))

pub tick_bad : (bytes : List ℕ) (at to : ℕ) (old : Draft) (tick : ℕ) → Reaches bytes at (due.Headers 0) (IsDraft old) → IsFieldAt bytes at (field.Tick tick) to → Refuses old (line.Tick tick) → IsBadField bytes at
tick_bad bytes at to old tick h here refuses =
    draft_bad bytes at to (due.Headers 0) old (field.Tick tick) (line.Tick tick) refl h refl here refuses (λ g more is is_next e.
    let of = tick_due g is_next in
    let is_tick = subst IsField of.1 is in
    let whole = e ∙ ap (λ (k : Field). field_bytes k ++ more) of.1 in
    let same = same_u64 tick of.0 (drop to bytes) more (omega (arith, here.is.line.0)) (omega (arith, is_tick.line.0)) whole in
    of.1 ∙ ap field.Tick (sym same.0))

-- ---- the slots

pub slot_count_more : (bytes : List ℕ) (at to : ℕ) (draft : Draft) (count : ℕ) → Reaches bytes at due.SlotCount (IsDraft draft) → IsFieldAt bytes at (field.SlotCount count) to → SlotsDue bytes to draft count 0
slot_count_more bytes at to draft count h here =
    reach_more bytes at to due.SlotCount (IsDraft draft) (IsDraft draft) (field.SlotCount count) h here.is refl here.spelled here.size (λ lines is. refl)
    (λ lines is. subst (IsDraft draft) (sym (append-nil lines)) is)

pub slot_count_missing : (bytes : List ℕ) (at : ℕ) (draft : Draft) → Reaches bytes at due.SlotCount (IsDraft draft) → ((count : ℕ) → IsNoFieldAt bytes at (field.SlotCount count)) → IsBadField bytes at
slot_count_missing bytes at draft h none =
    missing bytes at due.SlotCount (IsDraft draft) h refl (λ f is_next. let of = slot_count_due f is_next in subst (IsNoFieldAt bytes at) (sym of.1) (none of.0))

pub slot_more : (bytes : List ℕ) (at to left free : ℕ) (old new : Draft) (slot : Slot) → SlotsDue bytes at old (suc left) free → IsFieldAt bytes at (field.Slot slot) to → Takes old (line.Slot slot) new → SlotsDue bytes to new left (cond slot.live free (suc free))
slot_more bytes at to left free old new slot h here takes =
    draft_more bytes at to (due.Slots (suc left) free) old new (field.Slot slot) (line.Slot slot) refl h here refl takes (λ lines stands. refl)

pub slot_missing : (bytes : List ℕ) (at left free : ℕ) (old : Draft) → SlotsDue bytes at old (suc left) free → ((slot : Slot) → IsNoFieldAt bytes at (field.Slot slot)) → IsBadField bytes at
slot_missing bytes at left free old h none =
    missing bytes at (due.Slots (suc left) free) (IsDraft old) h refl (λ f is_next. let of = slot_due left free f is_next in subst (IsNoFieldAt bytes at) (sym of.1) (none of.0))

pub slot_bad : (bytes : List ℕ) (at to left free : ℕ) (old : Draft) (slot : Slot) → SlotsDue bytes at old (suc left) free → IsFieldAt bytes at (field.Slot slot) to → Refuses old (line.Slot slot) → IsBadField bytes at
slot_bad bytes at to left free old slot h here refuses =
    draft_bad bytes at to (due.Slots (suc left) free) old (field.Slot slot) (line.Slot slot) refl h refl here refuses (λ g more is is_next e.
    let of = slot_due left free g is_next in
    let is_slot = subst IsField of.1 is in
    let whole = e ∙ ap (λ (k : Field). field_bytes k ++ more) of.1 in
    of.1 ∙ ap field.Slot (sym (same_slot slot of.0 (drop to bytes) more here.is.line.0 is_slot.line.0 whole).0))

-- ---- the free list

pub next_more : (bytes : List ℕ) (at to free : ℕ) (old new : Draft) (index : ℕ) → SlotsDue bytes at old 0 (suc free) → IsFieldAt bytes at (field.Next index) to → Takes old (line.Next index) new → SlotsDue bytes to new 0 free
next_more bytes at to free old new index h here takes =
    draft_more bytes at to (due.Slots 0 (suc free)) old new (field.Next index) (line.Next index) refl h here refl takes (λ lines stands. refl)

pub next_missing : (bytes : List ℕ) (at free : ℕ) (old : Draft) → SlotsDue bytes at old 0 (suc free) → ((index : ℕ) → IsNoFieldAt bytes at (field.Next index)) → IsBadField bytes at
next_missing bytes at free old h none =
    missing bytes at (due.Slots 0 (suc free)) (IsDraft old) h refl (λ f is_next. let of = next_due free f is_next in subst (IsNoFieldAt bytes at) (sym of.1) (none of.0))

pub next_bad : (bytes : List ℕ) (at to free : ℕ) (old : Draft) (index : ℕ) → SlotsDue bytes at old 0 (suc free) → IsFieldAt bytes at (field.Next index) to → Refuses old (line.Next index) → IsBadField bytes at
next_bad bytes at to free old index h here refuses =
    draft_bad bytes at to (due.Slots 0 (suc free)) old (field.Next index) (line.Next index) refl h refl here refuses (λ g more is is_next e.
    let of = next_due free g is_next in
    let is_index = subst IsField of.1 is in
    let whole = e ∙ ap (λ (k : Field). field_bytes k ++ more) of.1 in
    of.1 ∙ ap field.Next (sym (same_u32 index of.0 (drop to bytes) more (omega (arith, here.is.line.0)) (omega (arith, is_index.line.0)) whole).0))

-- ---- header lines

pub header_more : (bytes : List ℕ) (at to left : ℕ) (old new : HeaderSoFar) (text : List ℕ) → HeadersDue bytes at old (suc left) → IsLineAt bytes at text → to ≡ at + 2 + length text → TakesHeaderLine old text new → HeadersDue bytes to new left
header_more bytes at to left old new text h here size takes =
    let l = takes.line in
    let header = takes.taken h.holds.headers h.holds.is in
    let short : length (line_text version_1 takes.line) ≤ 4096 = subst (λ (t : List ℕ). length t ≤ 4096) takes.spelled here.short in
    let spelled : drop at bytes ≡ line_bytes (line_text version_1 takes.line) ++ drop to bytes = here.spelled ∙ (λ i. line_bytes (takes.spelled i) ++ drop (sym size i) bytes) in
    reach_more bytes at to (due.Headers (suc left)) (IsHeader old) (IsHeader new) (field.Header takes.line) h (record { line = (takes.is, tt); within = (header.header, short) }) refl spelled
    (omega (arith, size, length-append (u16_bytes (length (line_text version_1 takes.line))) (line_text version_1 takes.line), ap length takes.spelled))
    (λ lines is.
    let fit : fits version_1 (line.Version ∷ is.headers) takes.line ≡ true = (takes.taken is.headers is.is).fit in
    subst (λ (ls : List Line). admits ls (field.Header takes.line) ≡ true) (sym is.behind) (and_true _ _ refl (and_true _ _ fit refl)))
    (λ lines is. record {
      headers = is.headers ++ l ∷ [];
      behind = ap (λ (ls : List Line). ls ++ l ∷ []) is.behind;
      is = (takes.taken is.headers is.is).stands;
    })

pub header_bad : (bytes : List ℕ) (at left : ℕ) (old : HeaderSoFar) (text : List ℕ) → HeadersDue bytes at old (suc left) → IsLineAt bytes at text → RefusesHeaderLine old text → IsBadField bytes at
header_bad bytes at left old text h here refuses =
    bad_next bytes at (due.Headers (suc left)) (IsHeader old) h refl (λ f more is is_next e lines holds.
    let of = header_due left f is_next in
    let is_line = subst IsField of.1 is in
    let whole = sym here.spelled ∙ e ∙ ap (λ (k : Field). field_bytes k ++ more) of.1 in
    let texts = same_line_bytes text (line_text version_1 of.0) (drop (at + 2 + length text) bytes) more here.short is_line.within.1 whole in
    let unfit : fits version_1 (line.Version ∷ holds.headers) of.0 ≡ false = refuses of.0 is_line.within.0 is_line.line.0 texts.0 holds.headers holds.is in
    subst (λ (k : Field). admits lines k ≡ false) (sym of.1)
    (subst (λ (ls : List Line). admits ls (field.Header of.0) ≡ false) (sym holds.behind) (and_false_right (has_few_rows (line.Version ∷ holds.headers) (field.Header of.0)) _ (and_false_left _ true unfit))))

pub header_missing : (bytes : List ℕ) (at left : ℕ) (old : HeaderSoFar) → HeadersDue bytes at old (suc left) → IsNoLineAt bytes at → IsBadField bytes at
header_missing bytes at left old h none =
    missing bytes at (due.Headers (suc left)) (IsHeader old) h refl (λ f is_next more is e.
    let of = header_due left f is_next in
    let is_line = subst IsField of.1 is in
    none (line_text version_1 of.0) more is_line.within.1 (e ∙ ap (λ (k : Field). field_bytes k ++ more) of.1))
