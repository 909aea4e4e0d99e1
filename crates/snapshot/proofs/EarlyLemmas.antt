-- Before the first row count no line begins a pool.
use Rattle.std.proofs.Common.{◌≡◌, ℕ, zero, suc, true, List, [], ◌∷◌, ◌++◌, length, refl, sym, ap, subst, ◌∙◌}
use Rattle.std.specs.List.{AllByRecursion}
use Rattle.std.proofs.lemmas.Bool.{and_parts}
use Rattle.entity_id.specs.declared.entity.Profile.{Profile}
use Rattle.world_text.specs.declared.draft.Draft.{Draft}
use Rattle.world_text.specs.Headers.{IsHeaderLine}
use Rattle.world_text.specs.LineKinds.{Line}
use Rattle.world_text.specs.LineKinds as line
use Rattle.world_text.specs.Meaning.{pools_in}
use Rattle.snapshot.specs.Fields.{Field, IsField}
use Rattle.snapshot.specs.Fields as field
use Rattle.snapshot.specs.Due.{Due, is_due, due_after, due_from, due_behind}
use Rattle.snapshot.specs.Due as due
use Rattle.snapshot.specs.Snapshots.{lines_of_fields, admits, is_fitting, are_fitting}
use Rattle.snapshot.specs.Reading.{SlotsDue}
use Rattle.snapshot.proofs.ReachLemmas.{due_push}

-- no rows are due, nor have they been
abbrev IsEarly : Due → Type 0
IsEarly (due.Rows left) = ⊥
IsEarly _ = Unit {0}

-- a field that stands before the first row count
abbrev IsEarlyField : Field → Type 0
IsEarlyField (field.RowCount name count) = ⊥
IsEarlyField (field.Row entity values) = ⊥
IsEarlyField _ = Unit {0}

early_before : (d : Due) (f : Field) → is_due d f ≡ true → IsEarly (due_after d f) → IsEarly d × IsEarlyField f
early_before due.Mark field.Mark e early = (tt, tt)
early_before due.Version field.Version e early = (tt, tt)
early_before due.HeaderCount (field.HeaderCount count) e early = (tt, tt)
early_before (due.Headers (suc left)) (field.Header l) e early = (tt, tt)
early_before (due.Headers zero) (field.Tick tick) e early = (tt, tt)
early_before due.SlotCount (field.SlotCount count) e early = (tt, tt)
early_before (due.Slots (suc left) free) (field.Slot slot) e early = (tt, tt)
early_before (due.Slots zero (suc free)) (field.Next index) e early = (tt, tt)
early_before (due.Slots zero zero) (field.RowCount name count) e early = absurd early
early_before (due.Rows (suc left)) (field.Row entity values) e early = absurd early
early_before (due.Rows zero) (field.RowCount name count) e early = absurd early
early_before _ _ e early = absurd (cc)

early_from : (before fields : List Field) → are_fitting before fields ≡ true → IsEarly (due_from (due_behind before) fields) → IsEarly (due_behind before) × AllByRecursion IsEarlyField fields
early_from before [] fit early = (early, tt)
early_from before (f ∷ fields) fit early =
    let tests = and_parts (is_fitting before f) (are_fitting (before ++ f ∷ []) fields) fit in
    let next = (and_parts (is_due (due_behind before) f) (admits (lines_of_fields before) f) tests.0).0 in
    let moved = due_push due.Mark before f in
    let others = early_from (before ++ f ∷ []) fields tests.1 (subst (λ (d : Due). IsEarly (due_from d fields)) (sym moved) early) in
    let here = early_before (due_behind before) f next (subst IsEarly moved others.0) in
    (here.0, (here.1, others.1))

no_pool_line : (profile : Profile) (l : Line) (lines : List Line) → IsHeaderLine l → pools_in profile (l ∷ lines) ≡ pools_in profile lines
no_pool_line profile (line.Component decl) lines is = refl
no_pool_line profile (line.Group named) lines is = refl
no_pool_line profile (line.System name) lines is = refl
no_pool_line profile (line.Body names body) lines is = refl
no_pool_line profile _ lines is = absurd is

no_pools : (profile : Profile) (fields : List Field) → AllByRecursion IsField fields → AllByRecursion IsEarlyField fields → pools_in profile (lines_of_fields fields) ≡ []
no_pools profile [] each early = refl
no_pools profile (field.Mark ∷ fields) each early = no_pools profile fields each.1 early.1
no_pools profile (field.Version ∷ fields) each early = no_pools profile fields each.1 early.1
no_pools profile (field.HeaderCount count ∷ fields) each early = no_pools profile fields each.1 early.1
no_pools profile (field.Header l ∷ fields) each early = no_pool_line profile l (lines_of_fields fields) each.0.within.0 ∙ no_pools profile fields each.1 early.1
no_pools profile (field.Tick tick ∷ fields) each early = no_pools profile fields each.1 early.1
no_pools profile (field.SlotCount count ∷ fields) each early = no_pools profile fields each.1 early.1
no_pools profile (field.Slot slot ∷ fields) each early = no_pools profile fields each.1 early.1
no_pools profile (field.Next index ∷ fields) each early = no_pools profile fields each.1 early.1
no_pools profile (field.RowCount name count ∷ fields) each early = absurd early.0
no_pools profile (field.Row entity values ∷ fields) each early = absurd early.0

-- while slots or indices of the free list are due, a draft has no pool
pub no_pool_yet : (bytes : List ℕ) (at left free : ℕ) (draft : Draft) → SlotsDue bytes at draft left free → length draft.pools.items ≡ 0
no_pool_yet bytes at left free draft h =
    let early = early_from [] h.fields h.admissible.fit (subst IsEarly (sym h.due_is) tt) in
    ap length (h.holds.stands.pools ∙ no_pools draft.format.profile h.fields h.admissible.each early.1)
