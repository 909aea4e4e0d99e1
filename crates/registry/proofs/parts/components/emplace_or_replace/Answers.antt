use Rattle.std.proofs.Common.{cond, Some, None, Err, OnOk, refl, sym, ap, ◌∙◌, subst}
use Rattle.std.proofs.lemmas.Option.{same_Some}
use Rattle.world_model.specs.declared.command.Command.TheVariants.{EmplaceOrReplace}
use Rattle.world_model.specs.declared.event.EventKind.TheVariants as event
use Rattle.world_model.specs.declared.refusal.Refusal.{Refusal}
use Rattle.world_model.specs.Outcomes.{sets}
use Rattle.registry.specs.Layout.{world_of, held_of, Gives}
use Rattle.registry.specs.Spending.{once_in}
use Rattle.registry.proofs.DoneLemmas.{same, entry_finished}
use Rattle.registry.proofs.SpendLemmas.{spends_nothing}
use Rattle.registry.proofs.ResultLemmas.{all_ok}
use Rattle.registry.proofs.parts.components.emplace_or_replace.Goals as goal

pub returns-in-Some-clause-err : goal.returns-in-Some-clause-err
returns-in-Some-clause-err g c = same (held_of c.args.parts.now)

pub returns-in-Some-clause-refused : goal.returns-in-Some-clause-refused
returns-in-Some-clause-refused g c cause is = ap (λ (r : Refusal). Err r) (same_Some c.in-Some.refused cause (sym (c.in-Some.ensures.cause None) ∙ is))

pub returns-in-None-clause-consistent : goal.returns-in-None-clause-consistent
returns-in-None-clause-consistent g c =
    let old = c.args.parts.now in
    let change = subst (λ b. OnOk c.change_row.result (Gives old c.change_row.new.parts (sets (cond b event.Update event.Construct) (world_of old) c.args.entity c.args.pool c.args.row))) c.if-has_row.ensures c.change_row.ensures.ok in
    (entry_finished old c.change_row.new.parts (EmplaceOrReplace c.args.entity c.args.pool c.args.row) c.change_row.result None c.requires.consistent c.requires.allowed (c.in-None.ensures.cause None) (all_ok c.change_row.result refl) change c.change_row.ensures.err).kept

pub returns-in-None-clause-ok : goal.returns-in-None-clause-ok
returns-in-None-clause-ok g c =
    let old = c.args.parts.now in
    let change = subst (λ b. OnOk c.change_row.result (Gives old c.change_row.new.parts (sets (cond b event.Update event.Construct) (world_of old) c.args.entity c.args.pool c.args.row))) c.if-has_row.ensures c.change_row.ensures.ok in
    (entry_finished old c.change_row.new.parts (EmplaceOrReplace c.args.entity c.args.pool c.args.row) c.change_row.result None c.requires.consistent c.requires.allowed (c.in-None.ensures.cause None) (all_ok c.change_row.result refl) change c.change_row.ensures.err).does

pub returns-in-None-clause-reply : goal.returns-in-None-clause-reply
returns-in-None-clause-reply g c =
    let old = c.args.parts.now in
    let change = subst (λ b. OnOk c.change_row.result (Gives old c.change_row.new.parts (sets (cond b event.Update event.Construct) (world_of old) c.args.entity c.args.pool c.args.row))) c.if-has_row.ensures c.change_row.ensures.ok in
    (entry_finished old c.change_row.new.parts (EmplaceOrReplace c.args.entity c.args.pool c.args.row) c.change_row.result None c.requires.consistent c.requires.allowed (c.in-None.ensures.cause None) (all_ok c.change_row.result refl) change c.change_row.ensures.err).reply

pub returns-in-None-clause-err : goal.returns-in-None-clause-err
returns-in-None-clause-err g c =
    let old = c.args.parts.now in
    let change = subst (λ b. OnOk c.change_row.result (Gives old c.change_row.new.parts (sets (cond b event.Update event.Construct) (world_of old) c.args.entity c.args.pool c.args.row))) c.if-has_row.ensures c.change_row.ensures.ok in
    (entry_finished old c.change_row.new.parts (EmplaceOrReplace c.args.entity c.args.pool c.args.row) c.change_row.result None c.requires.consistent c.requires.allowed (c.in-None.ensures.cause None) (all_ok c.change_row.result refl) change c.change_row.ensures.err).as_before

pub returns-in-None-2-clause-consistent : goal.returns-in-None-2-clause-consistent
returns-in-None-2-clause-consistent g c =
    let old = c.args.parts.now in
    let change = subst (λ b. OnOk c.put_row.result (Gives old c.put_row.new.parts (sets (cond b event.Update event.Construct) (world_of old) c.args.entity c.args.pool c.args.row))) c.if-has_row.ensures c.put_row.ensures.ok in
    (entry_finished old c.put_row.new.parts (EmplaceOrReplace c.args.entity c.args.pool c.args.row) c.put_row.result None c.requires.consistent c.requires.allowed (c.in-None.ensures.cause None) (all_ok c.put_row.result refl) change c.put_row.ensures.err).kept

pub returns-in-None-2-clause-ok : goal.returns-in-None-2-clause-ok
returns-in-None-2-clause-ok g c =
    let old = c.args.parts.now in
    let change = subst (λ b. OnOk c.put_row.result (Gives old c.put_row.new.parts (sets (cond b event.Update event.Construct) (world_of old) c.args.entity c.args.pool c.args.row))) c.if-has_row.ensures c.put_row.ensures.ok in
    (entry_finished old c.put_row.new.parts (EmplaceOrReplace c.args.entity c.args.pool c.args.row) c.put_row.result None c.requires.consistent c.requires.allowed (c.in-None.ensures.cause None) (all_ok c.put_row.result refl) change c.put_row.ensures.err).does

pub returns-in-None-2-clause-reply : goal.returns-in-None-2-clause-reply
returns-in-None-2-clause-reply g c =
    let old = c.args.parts.now in
    let change = subst (λ b. OnOk c.put_row.result (Gives old c.put_row.new.parts (sets (cond b event.Update event.Construct) (world_of old) c.args.entity c.args.pool c.args.row))) c.if-has_row.ensures c.put_row.ensures.ok in
    (entry_finished old c.put_row.new.parts (EmplaceOrReplace c.args.entity c.args.pool c.args.row) c.put_row.result None c.requires.consistent c.requires.allowed (c.in-None.ensures.cause None) (all_ok c.put_row.result refl) change c.put_row.ensures.err).reply

pub returns-in-None-2-clause-err : goal.returns-in-None-2-clause-err
returns-in-None-2-clause-err g c =
    let old = c.args.parts.now in
    let change = subst (λ b. OnOk c.put_row.result (Gives old c.put_row.new.parts (sets (cond b event.Update event.Construct) (world_of old) c.args.entity c.args.pool c.args.row))) c.if-has_row.ensures c.put_row.ensures.ok in
    (entry_finished old c.put_row.new.parts (EmplaceOrReplace c.args.entity c.args.pool c.args.row) c.put_row.result None c.requires.consistent c.requires.allowed (c.in-None.ensures.cause None) (all_ok c.put_row.result refl) change c.put_row.ensures.err).as_before

pub returns-in-Some-clause-spends : goal.returns-in-Some-clause-spends
returns-in-Some-clause-spends g c = spends_nothing (once_in c.args.pool) (once_in c.args.pool) (held_of c.args.parts.now)

pub returns-in-None-clause-spends : goal.returns-in-None-clause-spends
returns-in-None-clause-spends g c = c.change_row.ensures.spends (once_in c.args.pool)

pub returns-in-None-2-clause-spends : goal.returns-in-None-2-clause-spends
returns-in-None-2-clause-spends g c = c.put_row.ensures.spends (once_in c.args.pool)

pub returns-in-Some-clause-never : goal.returns-in-Some-clause-never
returns-in-Some-clause-never g c stands want = c.in-Some.ensures.never (ap (λ (r : Refusal). Some r) want)

pub change_row-requires-clause-heard : goal.change_row-requires-clause-heard
change_row-requires-clause-heard g c stands = (c.requires.room stands).update
