use Rattle.std.proofs.Common.{◌≡◌, ap, ◌∙◌, w64, rules}
use Rattle.std.proofs.lemmas.Int.{to_z-of_z}
use Rattle.world_model.specs.Components.{with_field}
use Rattle.registry.specs.Layout.{world_of}
use Rattle.world_model.specs.declared.refusal.Refusal.TheVariants as refusal
use Rattle.registry.specs.Spending.{nowhere}
use Rattle.registry.proofs.PatchLemmas.{patched, only_want}
use Rattle.registry.proofs.ResultLemmas.{never_err}
use Rattle.registry.proofs.parts.fields.patch_found.Goals as goal

pub returns-clause-consistent : goal.returns-clause-consistent
returns-clause-consistent g c =
    let a = c.args in
    let put : c.with_field.result ≡ with_field a.row a.field a.value = c.with_field.ensures ∙ ap (λ z. with_field a.row a.field z) (to_z-of_z w64 a.value (search (rules, c.ranges.value))) in
    (patched a.parts.now c.change_row.new.parts a.entity a.pool a.field a.value a.row c.with_field.result c.change_row.result c.requires.consistent c.requires.allowed c.requires.passes c.requires.found put c.change_row.ensures.ok c.change_row.ensures.err).kept

pub returns-clause-ok : goal.returns-clause-ok
returns-clause-ok g c =
    let a = c.args in
    let put : c.with_field.result ≡ with_field a.row a.field a.value = c.with_field.ensures ∙ ap (λ z. with_field a.row a.field z) (to_z-of_z w64 a.value (search (rules, c.ranges.value))) in
    (patched a.parts.now c.change_row.new.parts a.entity a.pool a.field a.value a.row c.with_field.result c.change_row.result c.requires.consistent c.requires.allowed c.requires.passes c.requires.found put c.change_row.ensures.ok c.change_row.ensures.err).does

pub returns-clause-reply : goal.returns-clause-reply
returns-clause-reply g c =
    let a = c.args in
    let put : c.with_field.result ≡ with_field a.row a.field a.value = c.with_field.ensures ∙ ap (λ z. with_field a.row a.field z) (to_z-of_z w64 a.value (search (rules, c.ranges.value))) in
    (patched a.parts.now c.change_row.new.parts a.entity a.pool a.field a.value a.row c.with_field.result c.change_row.result c.requires.consistent c.requires.allowed c.requires.passes c.requires.found put c.change_row.ensures.ok c.change_row.ensures.err).reply

pub returns-clause-err : goal.returns-clause-err
returns-clause-err g c =
    let a = c.args in
    let put : c.with_field.result ≡ with_field a.row a.field a.value = c.with_field.ensures ∙ ap (λ z. with_field a.row a.field z) (to_z-of_z w64 a.value (search (rules, c.ranges.value))) in
    (patched a.parts.now c.change_row.new.parts a.entity a.pool a.field a.value a.row c.with_field.result c.change_row.result c.requires.consistent c.requires.allowed c.requires.passes c.requires.found put c.change_row.ensures.ok c.change_row.ensures.err).as_before

pub returns-clause-cause : goal.returns-clause-cause
returns-clause-cause g c = only_want (world_of c.args.parts.now) c.args.pool c.args.entity c.args.row c.change_row.result c.requires.found c.change_row.ensures.cause

pub returns-clause-never : goal.returns-clause-never
returns-clause-never g c stands =
    never_err refusal.OutOfMemory c.change_row.result (only_want (world_of c.args.parts.now) c.args.pool c.args.entity c.args.row c.change_row.result c.requires.found c.change_row.ensures.cause) (c.change_row.ensures.never stands)

pub returns-clause-spends : goal.returns-clause-spends
returns-clause-spends g c = c.change_row.ensures.spends nowhere
