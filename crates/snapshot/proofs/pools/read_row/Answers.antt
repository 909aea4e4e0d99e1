use Rattle.std.proofs.Common.{◌≡◌, ◌-◌, List, length, slice_get, Some, None, Err, ap, subst, arith}
use Rattle.world_model.specs.declared.slot.Slot.{Slot}
use Rattle.snapshot.specs.Reading.{IsEntityAt, IsNoEntityAt}
use Rattle.snapshot.proofs.RowLemmas.{row_more, row_bad, entity_missing, kinds_missing, values_missing}
use Rattle.snapshot.proofs.StepLemmas.{refused_cause}
use Rattle.snapshot.proofs.pools.read_row.Goals as goal

pub returns-in_default-clause-cause : goal.returns-in_default-clause-cause
returns-in_default-clause-cause c = λ left h.
    entity_missing c.args.bytes.now c.args.at left c.args.draft.now h (subst (λ (slots : List Slot). IsNoEntityAt slots c.args.bytes.now c.args.at) c.deref.ensures.value c.in_default.ensures.none)

pub returns-in_default-kinds_at-clause-cause : goal.returns-in_default-kinds_at-clause-cause
returns-in_default-kinds_at-clause-cause c = λ left h.
    let none : slice_get c.args.draft.now.decls.items (length c.args.draft.now.pools.items - 1) ≡ None = cc (c.in_default-kinds_at.ensures.found) in
    kinds_missing c.args.bytes.now c.args.at left c.args.draft.now h none

pub returns-in_default-row_at-clause-cause : goal.returns-in_default-row_at-clause-cause
returns-in_default-row_at-clause-cause c = λ left h.
    let of = c.in-Some-kinds_at.ensures.found in
    let found : slice_get c.args.draft.now.decls.items (length c.args.draft.now.pools.items - 1) ≡ Some of.0 = cc (of.1) in
    let here = subst (λ (slots : List Slot). IsEntityAt slots c.args.bytes.now c.args.at c.in-Some.entity) c.deref.ensures.value c.in-Some.ensures.some in
    values_missing c.args.bytes.now c.args.at left c.args.draft.now c.in-Some.entity c.in-Some-kinds_at.kinds.now of.0 h (omega arith) here found of.2 c.in_default-row_at.ensures.none

pub returns-in-Ok-clause-ok : goal.returns-in-Ok-clause-ok
returns-in-Ok-clause-ok c = λ left h.
    let of = c.in-Some-kinds_at.ensures.found in
    let found : slice_get c.args.draft.now.decls.items (length c.args.draft.now.pools.items - 1) ≡ Some of.0 = cc (of.1) in
    let here = subst (λ (slots : List Slot). IsEntityAt slots c.args.bytes.now c.args.at c.in-Some.entity) c.deref.ensures.value c.in-Some.ensures.some in
    row_more c.args.bytes.now c.args.at c.in-Some-row_at.to left c.args.draft.now c.add_row.new.draft c.in-Some.entity c.in-Some-row_at.row c.in-Some-kinds_at.kinds.now of.0
    h here found of.2 c.in-Some-kinds_at.ensures.few c.in-Some-row_at.ensures.some c.in-Ok.ensures.ok

pub returns-in-Err-clause-cause : goal.returns-in-Err-clause-cause
returns-in-Err-clause-cause c = λ left h.
    let here = subst (λ (slots : List Slot). IsEntityAt slots c.args.bytes.now c.args.at c.in-Some.entity) c.deref.ensures.value c.in-Some.ensures.some in
    refused_cause c.args.bytes.now c.args.at c.in-Err.fault c.refused.result c.refused.ensures.bad c.refused.ensures.memory
    (λ e. row_bad c.args.bytes.now c.args.at left c.args.draft.now c.in-Some.entity h (omega arith) here (c.in-Err.ensures.bad (ap Err e)))
