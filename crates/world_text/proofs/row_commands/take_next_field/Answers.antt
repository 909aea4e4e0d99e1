use Rattle.std.proofs.Common.{◌≡◌, ◌≤◌, List, Some, slice_get, length, sym, ◌∙◌, subst, arith}
use Rattle.world_model.specs.declared.component.Kind.{Kind}
use Rattle.world_text.proofs.FieldLemmas.{field_first, no_field_first, no_kind_first, length_found, few_fields}
use Rattle.world_text.proofs.RowCommandLemmas.{found_at, kind_there}
use Rattle.world_text.proofs.row_commands.take_next_field.Goals as goal

pub returns-in_err-at-clause-none : goal.returns-in_err-at-clause-none
returns-in_err-at-clause-none c =
    rw c.from_residual-in_err-at.ensures (no_field_first c.args.decls.now c.args.text.now c.in_ok-text.text.now c.split_name.result.0.now c.split_name.result.1.now c.in_ok-text.ensures c.split_name.ensures c.in_err-at.ensures.none)

pub returns-in_err-kind-clause-none : goal.returns-in_err-kind-clause-none
returns-in_err-kind-clause-none c =
    let kinds = c.field_kinds-kinds.result.now in
    let at : slice_get c.args.decls.now c.in_ok-at.at.pool ≡ Some c.index-decls-at.result = found_at c.args.decls.now c.in_ok-at.at.pool c.index-decls-at.result c.in_ok-at.ensures.declared c.index-decls-at.is in
    let few = few_fields c.args.decls.now c.in_ok-at.at.pool c.index-decls-at.result at (subst (λ (ks : List Kind). length ks ≤ 4) c.field_kinds-kinds.ensures.value c.field_kinds-kinds.ensures.few) in
    rw c.from_residual-in_err-kind.ensures (no_kind_first c.args.decls.now c.args.text.now c.in_ok-text.text.now c.split_name.result.0.now c.split_name.result.1.now c.in_ok-at.at c.in_ok-text.ensures c.split_name.ensures c.in_ok-at.ensures.some (omega arith) few
    (λ kind there. omega (arith, length_found kinds c.in_ok-at.at.field kind (sym (kind_there c.args.decls.now c.in_ok-at.at.pool c.in_ok-at.at.field c.index-decls-at.result kinds at c.field_kinds-kinds.ensures.value) ∙ there), c.in_err-kind.ensures.lookup)))

pub returns-clause-some : goal.returns-clause-some
returns-clause-some c =
    let kinds = c.field_kinds-kinds.result.now in
    let look = c.in_ok-kind.ensures.lookup in
    let at : slice_get c.args.decls.now c.in_ok-at.at.pool ≡ Some c.index-decls-at.result = found_at c.args.decls.now c.in_ok-at.at.pool c.index-decls-at.result c.in_ok-at.ensures.declared c.index-decls-at.is in
    field_first c.args.decls.now c.args.text.now c.in_ok-text.text.now c.split_name.result.0.now c.split_name.result.1.now c.in_ok-at.at c.in_ok-kind.kind.now c.in_ok-text.ensures c.split_name.ensures c.in_ok-at.ensures.some
    (kind_there c.args.decls.now c.in_ok-at.at.pool c.in_ok-at.at.field c.index-decls-at.result kinds at c.field_kinds-kinds.ensures.value ∙ found_at kinds c.in_ok-at.at.field c.in_ok-kind.kind.now (omega (arith, look)) look.1)

pub returns-clause-few : goal.returns-clause-few
returns-clause-few c =
    let at : slice_get c.args.decls.now c.in_ok-at.at.pool ≡ Some c.index-decls-at.result = found_at c.args.decls.now c.in_ok-at.at.pool c.index-decls-at.result c.in_ok-at.ensures.declared c.index-decls-at.is in
    few_fields c.args.decls.now c.in_ok-at.at.pool c.index-decls-at.result at (subst (λ (ks : List Kind). length ks ≤ 4) c.field_kinds-kinds.ensures.value c.field_kinds-kinds.ensures.few)
