use Rattle.std.proofs.Common.{List, ℕ, sym, ◌∙◌, ap}
use Rattle.row_lang.specs.Reading.{is_named}
use Rattle.row_lang.proofs.NameListLemmas.{names_push, no_names, none_taken}
use Rattle.row_lang.proofs.name_lists.take_names.Goals as goal

pub loop-pool-init : goal.loop-pool-init
loop-pool-init c = rw c.new-pools.ensures.items (none_taken c.args.decls.now c.args.others.now c.args.text.now c.requires.once)

pub returns-then-is_named-clause-bad : goal.returns-then-is_named-clause-bad
returns-then-is_named-clause-bad c = λ _.
    no_names c.args.decls.now c.args.others.now c.args.text.now c.loop-pool.pools.items c.loop-pool.rest.now c.in-Some.pool c.in-Some.behind.now c.loop-pool.invariant c.in-Some.ensures.some
    (ap (λ (ps : List ℕ). is_named c.args.others.now ps c.in-Some.pool) (sym c.deref.ensures.value) ∙ sym c.is_named.ensures ∙ c.if-is_named.true)

pub loop-pool-preserved : goal.loop-pool-preserved
loop-pool-preserved c =
    rw c.in_ok-push.ensures.items (names_push c.args.decls.now c.args.others.now c.args.text.now c.loop-pool.pools.items c.loop-pool.rest.now c.in-Some.pool c.in-Some.behind.now c.loop-pool.invariant
    (ap (λ (ps : List ℕ). is_named c.args.others.now ps c.in-Some.pool) (sym c.deref.ensures.value) ∙ sym c.is_named.ensures ∙ c.if-is_named.false) c.in-Some.ensures.some)
