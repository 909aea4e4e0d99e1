use Rattle.std.proofs.Common.{◌≢◌, Some, not, sym, ap, ◌∙◌}
use Rattle.std.specs.Prelude.{is_some}
use Rattle.world_model.specs.declared.refusal.Refusal.TheVariants as refusal
use Rattle.world_model.specs.Refusing.{refuse}
use Rattle.registry.specs.Layout.{held_of}
use Rattle.world_model.specs.declared.refusal.Refusal.{Refusal}
use Rattle.registry.specs.Spending.{nowhere, once_in}
use Rattle.registry.proofs.DoneLemmas.{same}
use Rattle.registry.proofs.ResultLemmas.{no_err}
use Rattle.registry.proofs.SpendLemmas.{spends_nothing}
use Rattle.registry.proofs.parts.fields.patch.Goals as goal

pub returns-in-Some-clause-err : goal.returns-in-Some-clause-err
returns-in-Some-clause-err g c = same (held_of c.args.parts.now)

pub returns-in-None-clause-err : goal.returns-in-None-clause-err
returns-in-None-clause-err g c = same (held_of c.args.parts.now)

pub patch_found-requires-clause-passes : goal.patch_found-requires-clause-passes
patch_found-requires-clause-passes g c = c.in_default.ensures.cause _ ∙ ap (λ o. refuse (not (is_some o)) refusal.Absent) (sym c.in-Some-row_of.ensures)

pub returns-in-Some-clause-spends : goal.returns-in-Some-clause-spends
returns-in-Some-clause-spends g c = spends_nothing nowhere (once_in c.args.pool) (held_of c.args.parts.now)

pub returns-in-None-clause-spends : goal.returns-in-None-clause-spends
returns-in-None-clause-spends g c = spends_nothing nowhere (once_in c.args.pool) (held_of c.args.parts.now)

pub returns-in-Some-clause-never : goal.returns-in-Some-clause-never
returns-in-Some-clause-never g c stands want = c.in-Some.ensures.never (ap (λ (r : Refusal). Some r) want)

pub returns-in-Some-row_of-clause-never : goal.returns-in-Some-row_of-clause-never
returns-in-Some-row_of-clause-never g c stands = no_err (λ (e : Refusal). e ≢ refusal.OutOfMemory) c.patch_found.result (c.patch_found.ensures.never stands)
