use Rattle.std.proofs.Common.{◌≡◌, Some, slice_get, ap, arith}
use Rattle.world_text.specs.Formats.{version_1}
use Rattle.world_text.specs.declared.script.ScriptLine.TheVariants.{Run}
use Rattle.world_text.proofs.RowCommandLemmas.{found_at, no_row, row_last}
use Rattle.world_text.proofs.row_commands.take_of_row.Goals as goal

pub returns-in_err-row-clause-none : goal.returns-in_err-row-clause-none
returns-in_err-row-clause-none c =
    let at : slice_get c.args.decls.now c.in_ok-entity.pool ≡ Some c.index-decls-pool.result = found_at c.args.decls.now c.in_ok-entity.pool c.index-decls-pool.result c.in_ok-entity.ensures.within c.index-decls-pool.is in
    rw c.from_residual-in_err-row.ensures (λ line rest h.
    no_row version_1.profile c.args.decls.now c.args.text.now c.in_ok-entity.rest.now c.in_ok-entity.entity c.in_ok-entity.pool c.index-decls-pool.result c.field_kinds-kinds.result.now
    (record { index = omega arith; version = omega arith }) c.in_ok-entity.ensures.some at c.field_kinds-kinds.ensures.value c.field_kinds-kinds.ensures.few c.in_err-row.ensures.none h.0 h.1 h.2 rest h.3)

pub returns-clause-some : goal.returns-clause-some
returns-clause-some c =
    let at : slice_get c.args.decls.now c.in_ok-entity.pool ≡ Some c.index-decls-pool.result = found_at c.args.decls.now c.in_ok-entity.pool c.index-decls-pool.result c.in_ok-entity.ensures.within c.index-decls-pool.is in (
      c.in_ok-entity.entity,
      c.in_ok-entity.pool,
      c.in_ok-row.row,
      row_last version_1.profile c.args.decls.now c.args.text.now c.in_ok-entity.rest.now c.in_ok-row.rest.now c.in_ok-entity.entity c.in_ok-entity.pool c.index-decls-pool.result c.field_kinds-kinds.result.now c.in_ok-row.row
          (record { index = omega arith; version = omega arith }) c.in_ok-entity.ensures.some at c.field_kinds-kinds.ensures.value c.field_kinds-kinds.ensures.few c.in_ok-row.ensures.some,
      ap Run c.row_command.ensures,
    )
