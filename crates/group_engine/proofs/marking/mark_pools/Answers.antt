use Rattle.std.proofs.Common.{◌≡◌, ◌<◌, length, sym, subst, inl, inr, arith}
use Rattle.std.proofs.lemmas.Bool.{cases_eq, cases_lt}
use Rattle.std.proofs.lemmas.Grind.{get_or-set_at}
use Rattle.std.proofs.lemmas.List.{get_or-set_other, get_or_past}
use Rattle.group_engine.specs.Masks.{may_enter, IsMask}
use Rattle.group_engine.proofs.MaskLemmas.{past_pools}
use Rattle.group_engine.proofs.marking.mark_pools.Goals as goal

pub loop-pool-preserved : goal.loop-pool-preserved
loop-pool-preserved c =
    let decls = c.args.decls.now in
    let order = c.args.order.now in
    let held = c.args.held in
    let k = c.loop-pool.pool in
    let masks = c.loop-pool.masks in
    let m = c.mask_of.result in
    let within : k < length masks = omega arith in
    record {
      each = λ pool low. elim (cases_eq pool k) [
        | inl is ↦ subst (λ v. IsMask v decls order (may_enter pool held)) (sym (get_or-set_at masks k pool m 0 is within)) (subst (λ p. IsMask m decls order (may_enter p held)) (sym is) c.mask_of.ensures)
        | inr apart ↦ subst (λ v. IsMask v decls order (may_enter pool held)) (sym (get_or-set_other masks k pool m 0 apart)) (c.loop-pool.invariant.each pool (omega arith))
      ];
    }

pub returns-clause-masks : goal.returns-clause-masks
returns-clause-masks c =
    let decls = c.args.decls.now in
    let order = c.args.order.now in
    let masks = c.loop-pool.masks in
    let long : length masks ≡ length c.args.masks.now = c.loop-pool.auto.masks in
    record {
      few = omega arith;
      each = λ pool. elim (cases_lt pool (length masks)) [
        | inl low ↦ c.loop-pool.invariant.each pool (omega arith)
        | inr past ↦ subst (λ v. IsMask v decls order (may_enter pool c.args.held)) (sym (get_or_past masks pool 0 past))
            (past_pools decls order (length c.args.masks.now) pool c.args.held c.requires.few c.requires.declared (omega arith))
      ];
    }
