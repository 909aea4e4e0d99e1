use Rattle.std.proofs.Common.{◌≡◌, ℕ, ◌+◌, ◌-◌, ◌*◌, ◌≤◌, ◌++◌, List, length, sym, ap, ◌∙◌, subst, arith}
use Rattle.world_model.specs.declared.access.Access.{Access}
use Rattle.row_lang.specs.declared.token.Token.{Token}
use Rattle.row_lang.specs.Systems.{command_count}
use Rattle.system_api.specs.Batches.{entity_at}
use Rattle.system_api.specs.Emissions.{Emission}
use Rattle.system_eval.specs.Lanes.{marked_count, given_to}
use Rattle.system_eval.specs.Finding.{IsBatch, AreStored, AreLocatedIn}
use Rattle.system_eval.specs.Walks.{Task, walked_in, AreOnce}
use Rattle.system_eval.proofs.BatchLemmas.{same-scenery, rows-told, emissions-told, one-each, few-lanes, located, rewrites-batch, gives-batch}
use Rattle.system_eval.proofs.CoverLemmas.{walked-count}
use Rattle.system_eval.proofs.LaneLemmas.{marked-within, room-now, room-later}
use Rattle.system_eval.proofs.walk.batch.run_batch.Goals as goal

pub run_body-requires-clause-room : goal.run_body-requires-clause-room
run_body-requires-clause-room c =
    let task = c.args.task.now in
    let reads = length task.system.access.read in
    let access : c.access-access.result.now ≡ task.system.access = c.access-access.ensures ∙ ap (λ (t : Task). t.system.access) c.task.view_is in
    let statements : c.statements.result.now ≡ task.system.statements = c.statements.ensures ∙ ap (λ (t : Task). t.system.statements) c.task.view_is in
    let list = walked_in reads c.args.lent.now c.args.at c.args.end in
    let batch : IsBatch task.system.access list c.args.from c.args.lent.now c.find_batch.new.entities c.find_batch.new.marks c.find_batch.new.places c.find_batch.new.columns =
    subst (λ (a : Access). IsBatch a (walked_in (length a.read) c.args.lent.now c.args.at c.args.end) c.args.from c.args.lent.now c.find_batch.new.entities c.find_batch.new.marks c.find_batch.new.places c.find_batch.new.columns) access c.find_batch.ensures.batch in
    let few : marked_count c.find_batch.new.marks ≤ length list - c.args.from = few-lanes task c.args.lent.now c.requires.pools list c.args.from c.find_batch.new.entities c.find_batch.new.marks c.find_batch.new.places c.find_batch.new.columns batch (omega arith) in
    let long : length list ≡ c.args.end = walked-count reads c.args.lent.now c.args.at c.args.end c.requires.end in
    subst (λ (ss : List (List Token)). command_count ss * marked_count c.find_batch.new.marks ≤ c.args.out.now.spare) (sym statements)
    (room-now (command_count task.system.statements) (marked_count c.find_batch.new.marks) c.args.from c.args.end c.args.out.now.spare (omega (arith, few, long, c.requires.from)) c.requires.room)

pub store_all-requires-clause-one_each : goal.store_all-requires-clause-one_each
store_all-requires-clause-one_each c =
    let task = c.args.task.now in
    let access : c.access-access.result.now ≡ task.system.access = c.access-access.ensures ∙ ap (λ (t : Task). t.system.access) c.task.view_is in
    let list = walked_in (length task.system.access.read) c.args.lent.now c.args.at c.args.end in
    let batch : IsBatch task.system.access list c.args.from c.args.lent.now c.find_batch.new.entities c.find_batch.new.marks c.find_batch.new.places c.find_batch.new.columns =
    subst (λ (a : Access). IsBatch a (walked_in (length a.read) c.args.lent.now c.args.at c.args.end) c.args.from c.args.lent.now c.find_batch.new.entities c.find_batch.new.marks c.find_batch.new.places c.find_batch.new.columns) access c.find_batch.ensures.batch in
    let once : AreOnce list = subst (λ (a : Access). AreOnce (walked_in (length a.read) c.args.lent.now c.args.at c.args.end)) access c.find_batch.ensures.once in
    one-each task c.args.lent.now c.requires.pools list c.args.from c.find_batch.new.entities c.find_batch.new.marks c.find_batch.new.places c.find_batch.new.columns batch once

pub store_all-requires-clause-located : goal.store_all-requires-clause-located
store_all-requires-clause-located c =
    let task = c.args.task.now in
    let access : c.access-access.result.now ≡ task.system.access = c.access-access.ensures ∙ ap (λ (t : Task). t.system.access) c.task.view_is in
    let list = walked_in (length task.system.access.read) c.args.lent.now c.args.at c.args.end in
    let batch : IsBatch task.system.access list c.args.from c.args.lent.now c.find_batch.new.entities c.find_batch.new.marks c.find_batch.new.places c.find_batch.new.columns =
    subst (λ (a : Access). IsBatch a (walked_in (length a.read) c.args.lent.now c.args.at c.args.end) c.args.from c.args.lent.now c.find_batch.new.entities c.find_batch.new.marks c.find_batch.new.places c.find_batch.new.columns) access c.find_batch.ensures.batch in
    let reads : c.as_slice-reads.result.now ≡ task.system.access.read = c.as_slice-reads.ensures ∙ ap (λ (a : Access). a.read) access in
    subst (λ (ns : List ℕ). AreLocatedIn c.find_batch.new.entities c.find_batch.new.marks c.find_batch.new.places (length ns) c.args.lent.now) (sym reads)
    (located task c.args.lent.now c.requires.pools list c.args.from c.find_batch.new.entities c.find_batch.new.marks c.find_batch.new.places c.find_batch.new.columns batch)

pub returns-clause-once : goal.returns-clause-once
returns-clause-once c =
    let access : c.access-access.result.now ≡ c.args.task.now.system.access = c.access-access.ensures ∙ ap (λ (t : Task). t.system.access) c.task.view_is in
    subst (λ (a : Access). AreOnce (walked_in (length a.read) c.args.lent.now c.args.at c.args.end)) access c.find_batch.ensures.once

pub returns-clause-rows : goal.returns-clause-rows
returns-clause-rows c =
    let task = c.args.task.now in
    let access : c.access-access.result.now ≡ task.system.access = c.access-access.ensures ∙ ap (λ (t : Task). t.system.access) c.task.view_is in
    let statements : c.statements.result.now ≡ task.system.statements = c.statements.ensures ∙ ap (λ (t : Task). t.system.statements) c.task.view_is in
    let list = walked_in (length task.system.access.read) c.args.lent.now c.args.at c.args.end in
    let batch : IsBatch task.system.access list c.args.from c.args.lent.now c.find_batch.new.entities c.find_batch.new.marks c.find_batch.new.places c.find_batch.new.columns =
    subst (λ (a : Access). IsBatch a (walked_in (length a.read) c.args.lent.now c.args.at c.args.end) c.args.from c.args.lent.now c.find_batch.new.entities c.find_batch.new.marks c.find_batch.new.places c.find_batch.new.columns) access c.find_batch.ensures.batch in
    let reads : c.as_slice-reads.result.now ≡ task.system.access.read = c.as_slice-reads.ensures ∙ ap (λ (a : Access). a.read) access in
    let scenery = same-scenery task c.args.lent.now c.find_batch.new.entities c.find_batch.new.marks c.task.inside.profile c.task.inside.tick c.access-access.result.now (ap (λ (t : Task). t.profile) c.task.view_is) (ap (λ (t : Task). t.tick) c.task.view_is) access in
    rewrites-batch task c.args.lent.now c.requires.pools list c.args.from c.find_batch.new.entities c.find_batch.new.marks c.find_batch.new.places c.find_batch.new.columns batch
    c.requires.distinct (omega (arith, c.requires.columns, c.find_batch.ensures.columns)) c.run_body.new.columns c.run_body.ensures.columns
    (rows-told _ _ c.statements.result.now task.system.statements c.find_batch.new.columns c.run_body.new.columns scenery statements c.run_body.ensures.rows)
    c.store_all.new.lent
    (subst (λ (ns : List ℕ). AreStored c.find_batch.new.entities c.find_batch.new.marks c.run_body.new.columns (length ns) (length c.args.lent.now.writes) c.args.lent.now c.store_all.new.lent) reads c.store_all.ensures)

pub returns-clause-orders : goal.returns-clause-orders
returns-clause-orders c =
    let task = c.args.task.now in
    let access : c.access-access.result.now ≡ task.system.access = c.access-access.ensures ∙ ap (λ (t : Task). t.system.access) c.task.view_is in
    let statements : c.statements.result.now ≡ task.system.statements = c.statements.ensures ∙ ap (λ (t : Task). t.system.statements) c.task.view_is in
    let list = walked_in (length task.system.access.read) c.args.lent.now c.args.at c.args.end in
    let batch : IsBatch task.system.access list c.args.from c.args.lent.now c.find_batch.new.entities c.find_batch.new.marks c.find_batch.new.places c.find_batch.new.columns =
    subst (λ (a : Access). IsBatch a (walked_in (length a.read) c.args.lent.now c.args.at c.args.end) c.args.from c.args.lent.now c.find_batch.new.entities c.find_batch.new.marks c.find_batch.new.places c.find_batch.new.columns) access c.find_batch.ensures.batch in
    let scenery = same-scenery task c.args.lent.now c.find_batch.new.entities c.find_batch.new.marks c.task.inside.profile c.task.inside.tick c.access-access.result.now (ap (λ (t : Task). t.profile) c.task.view_is) (ap (λ (t : Task). t.tick) c.task.view_is) access in
    gives-batch task c.args.lent.now c.requires.pools list c.args.from c.find_batch.new.entities c.find_batch.new.marks c.find_batch.new.places c.find_batch.new.columns batch
    (omega (arith, c.requires.columns, c.find_batch.ensures.columns)) c.args.out.now.list c.run_body.new.out.list
    (λ lane low marked. c.run_body.ensures.orders lane low marked ∙ ap (λ (es : List Emission). given_to (entity_at c.find_batch.new.entities lane).index c.args.out.now.list ++ es) (emissions-told _ _ c.statements.result.now task.system.statements c.find_batch.new.columns lane scenery statements))
    c.run_body.ensures.others

pub returns-clause-room : goal.returns-clause-room
returns-clause-room c =
    let task = c.args.task.now in
    let statements : c.statements.result.now ≡ task.system.statements = c.statements.ensures ∙ ap (λ (t : Task). t.system.statements) c.task.view_is in
    let commands = command_count task.system.statements in
    let count = marked_count c.find_batch.new.marks in
    let few : count ≤ length c.find_batch.new.marks = marked-within c.find_batch.new.marks in
    let given : length c.run_body.new.out.list ≤ length c.args.out.now.list + commands * count =
    subst (λ (ss : List (List Token)). length c.run_body.new.out.list ≤ length c.args.out.now.list + command_count ss * count) statements c.run_body.ensures.few in
    room-later commands count c.args.from c.args.end c.args.out.now.spare c.run_body.new.out.spare (omega (arith, few)) c.requires.room (omega (arith, given, c.run_body.ensures.spare))
