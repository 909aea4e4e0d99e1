use Rattle.std.proofs.Common.{◌≡◌, ℕ, suc, ◌+◌, ◌-◌, length, slice_get, Err, refl, ap, subst, ◌∙◌, arith}
use Rattle.std.proofs.lemmas.Result.{err_from_is_err_and}
use Rattle.std.proofs.lemmas.Option.{slice_get_read}
use Rattle.world_model.specs.Names.{is_name}
use Rattle.row_lang.specs.Naming.{IsNamedDecl}
use Rattle.snapshot.specs.Due as due
use Rattle.snapshot.specs.Reading.{RowsDue}
use Rattle.snapshot.proofs.PoolLemmas.{count_missing, count_over, pool_bad, count_more, count_here}
use Rattle.snapshot.proofs.RoomLemmas.{reach_as, begun_empty}
use Rattle.snapshot.proofs.RowLemmas.{all_there}
use Rattle.snapshot.proofs.StepLemmas.{refused_cause}
use Rattle.snapshot.proofs.pools.read_pool.Goals as goal

pub returns-in_default-clause-cause : goal.returns-in_default-clause-cause
returns-in_default-clause-cause c =
    count_over c.args.bytes.now c.args.at c.args.draft.now c.in-Some.count c.requires.due (omega (arith, c.requires.next, c.requires.declared)) c.in-Some.ensures.some (omega arith) (omega (arith, c.requires.live, c.if-count-live.false))

pub returns-in_default-2-clause-cause : goal.returns-in_default-2-clause-cause
returns-in_default-2-clause-cause c =
    count_missing c.args.bytes.now c.args.at c.args.draft.now c.requires.due (omega (arith, c.requires.next, c.requires.declared)) c.in_default.ensures.none

pub returns-in-Err-clause-cause : goal.returns-in-Err-clause-cause
returns-in-Err-clause-cause c =
    let decls = c.args.draft.now.decls.items in
    let found = slice_get_read decls (length decls) c.args.number c.index.result.now refl c.requires.declared c.index.ensures in
    let named = c.from_vec-name.ensures ∙ c.in_ok-from_slice.ensures.items ∙ c.as_slice.ensures in
    refused_cause c.args.bytes.now c.args.at c.in-Err.fault c.refused.result c.refused.ensures.bad c.refused.ensures.memory
    (λ e. pool_bad c.args.bytes.now c.args.at c.args.draft.now c.from_vec-name.result c.index.result.now c.requires.due (omega (arith, c.requires.next, c.requires.declared))
    (ap (slice_get decls) c.requires.next ∙ found) named (c.in-Err.ensures.bad (ap Err e)))

pub reserve_rows-requires : goal.reserve_rows-requires
reserve_rows-requires c = begun_empty c.args.bytes.now c.args.at c.args.draft.now c.add_pool.new.draft c.from_vec-name.result c.requires.due c.in_default-add_pool.ensures.ok

pub loop-init : goal.loop-init
loop-init c =
    let decls = c.args.draft.now.decls.items in
    let found = slice_get_read decls (length decls) c.args.number c.index.result.now refl c.requires.declared c.index.ensures in
    let is = (all_there IsNamedDecl decls c.args.number c.index.result.now c.args.draft.now.named.each found).name in
    let named = c.from_vec-name.ensures ∙ c.in_ok-from_slice.ensures.items ∙ c.as_slice.ensures in
    let here = count_here c.args.bytes.now c.args.at c.in-Some.count c.from_vec-name.result c.in-Some.ensures.some (omega arith) (ap is_name named ∙ is) in
    let all : c.in-Some.count ≡ c.in-Some.count - 0 = omega arith in
    let counted = count_more c.args.bytes.now c.args.at (c.args.at + 4) c.args.draft.now c.add_pool.new.draft c.from_vec-name.result c.in-Some.count c.requires.due here
    (omega (arith, c.requires.live, c.if-count-live.true)) c.in_default-add_pool.ensures.ok in
    record {
      due = subst (λ (n : ℕ). RowsDue c.args.bytes.now (c.args.at + 4) c.reserve_rows.new.draft n) all
          (reach_as c.args.bytes.now (c.args.at + 4) (due.Rows c.in-Some.count) c.add_pool.new.draft c.reserve_rows.new.draft c.in_ok-reserve_rows.ensures.same counted);
      pools = omega (arith, c.in_ok-reserve_rows.ensures.pools, c.in_default-add_pool.ensures.pools, c.requires.next);
      decls = c.in_ok-reserve_rows.ensures.decls ∙ c.in_default-add_pool.ensures.decls;
      slots = c.in_ok-reserve_rows.ensures.slots ∙ c.in_default-add_pool.ensures.slots;
    }

pub returns-in_err-to-clause-cause : goal.returns-in_err-to-clause-cause
returns-in_err-to-clause-cause c =
    let p = err_from_is_err_and c.from_residual-in_err-to.result c.from_residual-in_err-to.ensures.1 in
    let one_more : c.in-Some.count - c.loop.counter ≡ suc (c.in-Some.count - (c.loop.counter + 1)) = omega arith in
    rw (p.1, p.2) (c.in_err-to.ensures.cause (c.in-Some.count - (c.loop.counter + 1)) (subst (λ (n : ℕ). RowsDue c.args.bytes.now c.loop.to c.loop.draft n) one_more c.loop.invariant.due))
