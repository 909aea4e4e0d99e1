use Rattle.std.proofs.Common.{◌≡◌, Err, ap}
use Rattle.std.proofs.lemmas.Result.{err_from_is_err_and}
use Rattle.row_lang.specs.declared.fault.LineFault.TheVariants.{Bad}
use Rattle.world_text.proofs.GroupLineLemmas.{no_own_list, no_get_list, no_not_list}
use Rattle.world_text.proofs.group_lines.take_lists.Goals as goal

pub returns-in_err-own-clause-bad : goal.returns-in_err-own-clause-bad
returns-in_err-own-clause-bad c =
    let p = err_from_is_err_and c.from_residual.result c.from_residual.ensures.1 in
    λ bad.
    let fault : c.in_err-own.field-0.0 ≡ Bad = cc in
    no_own_list c.args.decls.now c.args.text.now c.in-Some.of_own.now c.in-Some.ensures (c.in_err-own.ensures.bad (ap Err fault))

pub returns-in_err-get-clause-bad : goal.returns-in_err-get-clause-bad
returns-in_err-get-clause-bad c =
    let p = err_from_is_err_and c.from_residual-in_err-get.result c.from_residual-in_err-get.ensures.1 in
    λ bad.
    let fault : c.in_err-get.field-0.0 ≡ Bad = cc in
    no_get_list c.args.decls.now c.args.text.now c.in-Some.of_own.now c.in_ok-own.own.items c.in_ok-own.behind_own.now c.in-Some.ensures c.in_ok-own.ensures.ok (c.in_err-get.ensures.bad (ap Err fault))

pub returns-in_err-without-clause-bad : goal.returns-in_err-without-clause-bad
returns-in_err-without-clause-bad c =
    let p = err_from_is_err_and c.from_residual-in_err-without.result c.from_residual-in_err-without.ensures.1 in
    λ bad.
    let fault : c.in_err-without.field-0.0 ≡ Bad = cc in
    no_not_list c.args.decls.now c.args.text.now c.in-Some.of_own.now c.in_ok-own.own.items c.in_ok-own.behind_own.now c.in_ok-get.get.items c.in_ok-get.behind_get.now c.in-Some.ensures c.in_ok-own.ensures.ok c.in_ok-get.ensures.ok (c.in_err-without.ensures.bad (ap Err fault))

pub returns-clause-ok : goal.returns-clause-ok
returns-clause-ok c = record {
  written = record { own = c.in_ok-own.own.items; get = c.in_ok-get.get.items; without = c.in_ok-without.without.items };
  lists = record {
    of_own = c.in-Some.of_own.now;
    behind_own = c.in_ok-own.behind_own.now;
    behind_get = c.in_ok-get.behind_get.now;
    begins = c.in-Some.ensures;
    own = c.in_ok-own.ensures.ok;
    get = c.in_ok-get.ensures.ok;
    without = c.in_ok-without.ensures.ok;
  };
  own = c.kept.ensures;
  get = c.kept-2.ensures;
  without = c.kept-3.ensures;
}
