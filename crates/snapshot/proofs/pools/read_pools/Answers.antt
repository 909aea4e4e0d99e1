use Rattle.std.proofs.Common.{◌≡◌, List, inr, ap, ◌∙◌, arith}
use Rattle.std.specs.Prelude.{count_by}
use Rattle.std.proofs.lemmas.Result.{err_from_is_err_and}
use Rattle.world_model.specs.declared.slot.Slot.{Slot}
use Rattle.snapshot.proofs.FewLemmas.{live_few}
use Rattle.snapshot.proofs.PoolLemmas.{few_slots}
use Rattle.snapshot.proofs.pools.read_pools.Goals as goal

pub overflow_cast-live : goal.overflow_cast-live
overflow_cast-live c =
    let few = few_slots c.args.bytes.now c.args.at c.args.draft.now c.requires.due in
    let counted : c.live_count-live.result ≡ count_by (λ slot. slot.live) c.args.draft.now.slots.items =
    c.live_count-live.ensures ∙ ap (λ (slots : List Slot). count_by (λ (slot : Slot). slot.live) slots) c.deref.ensures.value in
    omega (arith, counted, live_few c.args.draft.now.slots.items, few)

pub loop-number-preserved : goal.loop-number-preserved
loop-number-preserved c = record {
  rest = inr c.in_ok-to.ensures.ok;
  pools = omega (arith, c.in_ok-to.ensures.one);
  decls = c.in_ok-to.ensures.decls ∙ c.loop-number.invariant.decls;
  slots = c.in_ok-to.ensures.slots ∙ c.loop-number.invariant.slots;
}

pub returns-in_err-to-clause-cause : goal.returns-in_err-to-clause-cause
returns-in_err-to-clause-cause c =
    let p = err_from_is_err_and c.from_residual.result c.from_residual.ensures.1 in
    rw (p.1, p.2) c.in_err-to.ensures.cause
