use Rattle.std.proofs.Common.{◌≡◌, Err, refl, sym, ap, subst, List, ℕ, arith}
use Rattle.std.specs.Prelude.{codes}
use Rattle.std.proofs.lemmas.Result.{err_from_is_err_and}
use Rattle.row_lang.specs.declared.fault.LineFault.TheVariants.{Bad}
use Rattle.row_lang.specs.NameLists.{AreNamedOnce}
use Rattle.row_lang.specs.Reading.{IsPartNext}
use Rattle.world_text.proofs.ListLineLemmas.{no_view_names, no_view_without, no_few_in_view, no_view_end}
use Rattle.world_text.proofs.list_lines.take_view.Goals as goal

pub returns-in_err-all-clause-bad : goal.returns-in_err-all-clause-bad
returns-in_err-all-clause-bad c =
    let p = err_from_is_err_and c.from_residual.result c.from_residual.ensures.1 in
    λ bad line rest h.
    let fault : c.in_err-all.field-0.0 ≡ Bad = cc in
    no_view_names c.args.decls.now c.args.text.now (c.in_err-all.ensures.bad (ap Err fault)) h.0 h.1 rest h.2

pub take_part-requires-clause-once : goal.take_part-requires-clause-once
take_part-requires-clause-once c = subst AreNamedOnce (sym c.deref.ensures.value) c.in_ok-all.ensures.ok.names.once

pub returns-in_err-without-clause-bad : goal.returns-in_err-without-clause-bad
returns-in_err-without-clause-bad c =
    let p = err_from_is_err_and c.from_residual-in_err-without.result c.from_residual-in_err-without.ensures.1 in
    λ bad line rest h.
    let fault : c.in_err-without.field-0.0 ≡ Bad = cc in
    no_view_without c.args.decls.now c.args.text.now c.in_ok-all.behind.now c.in_ok-all.all.items c.in_ok-all.ensures.ok
    (subst (λ (others : List ℕ). (pools rest : List ℕ) → IsPartNext c.args.decls.now others (codes " not") c.in_ok-all.behind.now pools rest → ⊥) c.deref.ensures.value (c.in_err-without.ensures.bad (ap Err fault)))
    h.0 h.1 rest h.2

pub returns-then-len-gt-LIST_LIMIT-clause-bad : goal.returns-then-len-gt-LIST_LIMIT-clause-bad
returns-then-len-gt-LIST_LIMIT-clause-bad c = λ _ line rest h.
    no_few_in_view c.args.decls.now c.args.text.now c.in_ok-all.behind.now c.in_ok-all.all.items c.in_ok-without.without.items c.in_ok-without.rest.now c.in_ok-all.ensures.ok
    (subst (λ (others : List ℕ). IsPartNext c.args.decls.now others (codes " not") c.in_ok-all.behind.now c.in_ok-without.without.items c.in_ok-without.rest.now) c.deref.ensures.value c.in_ok-without.ensures.ok)
    (omega (arith, c.len.ensures, c.len-2.ensures, c.if-len-gt-LIST_LIMIT.true)) h.0 h.1 rest h.2

pub returns-in_default-clause-bad : goal.returns-in_default-clause-bad
returns-in_default-clause-bad c = λ _ line rest h.
    no_view_end c.args.decls.now c.args.text.now c.in_ok-all.behind.now c.in_ok-all.all.items c.in_ok-without.without.items c.in_ok-without.rest.now c.in_ok-all.ensures.ok
    (subst (λ (others : List ℕ). IsPartNext c.args.decls.now others (codes " not") c.in_ok-all.behind.now c.in_ok-without.without.items c.in_ok-without.rest.now) c.deref.ensures.value c.in_ok-without.ensures.ok)
    c.in_default.ensures h.0 h.1 rest h.2

pub returns-clause-ok : goal.returns-clause-ok
returns-clause-ok c = (
  c.kept.result,
  c.kept-2.result,
  record {
    order = c.in_ok-all.all.items;
    excluded = c.in_ok-without.without.items;
    behind = c.in_ok-all.behind.now;
    names = c.in_ok-all.ensures.ok;
    out = subst (λ (t : List ℕ). IsPartNext c.args.decls.now c.in_ok-all.all.items (codes " not") c.in_ok-all.behind.now c.in_ok-without.without.items t) c.in-Some.ensures
        (subst (λ (others : List ℕ). IsPartNext c.args.decls.now others (codes " not") c.in_ok-all.behind.now c.in_ok-without.without.items c.in_ok-without.rest.now) c.deref.ensures.value c.in_ok-without.ensures.ok);
    few = omega (arith, c.len.ensures, c.len-2.ensures, c.if-len-gt-LIST_LIMIT.false);
    kept = c.kept.ensures;
    kept_out = c.kept-2.ensures;
  },
  refl,
)
