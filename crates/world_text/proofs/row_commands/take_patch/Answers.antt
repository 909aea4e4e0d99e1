use Rattle.std.proofs.Common.{◌≡◌, ℤ, ap, arith}
use Rattle.std.proofs.lemmas.Int.{to_z-of_z}
use mir.Val.{to_z, of_z}
use mir.Syntax.{w64}
use Rattle.world_model.specs.declared.command.Command.TheVariants.{Patch}
use Rattle.world_text.specs.declared.script.ScriptLine.TheVariants.{Run}
use Rattle.world_text.specs.Formats.{version_1}
use Rattle.world_text.proofs.RowCommandLemmas.{no_field, no_value, no_value_end, field_last}
use Rattle.world_text.proofs.row_commands.take_patch.Goals as goal

pub returns-in_err-at-clause-none : goal.returns-in_err-at-clause-none
returns-in_err-at-clause-none c =
    rw c.from_residual-in_err-at.ensures (λ line rest h.
    no_field version_1.profile c.args.decls.now c.args.text.now c.in_ok-entity.rest.now c.in_ok-entity.entity (record { index = omega arith; version = omega arith }) c.in_ok-entity.ensures.some c.in_err-at.ensures.none h.0 h.1 h.2 h.3 rest h.4)

pub returns-in_err-value-clause-none : goal.returns-in_err-value-clause-none
returns-in_err-value-clause-none c =
    rw c.from_residual-in_err-value.ensures (λ line rest h.
    no_value version_1.profile c.args.decls.now c.args.text.now c.in_ok-entity.rest.now c.in_ok-at.rest.now c.in_ok-entity.entity c.in_ok-at.at.pool c.in_ok-at.at.field c.in_ok-at.kind
    (record { index = omega arith; version = omega arith }) c.in_ok-entity.ensures.some c.in_ok-at.ensures.few c.in_ok-at.ensures.some c.in_err-value.ensures.none h.0 h.1 h.2 h.3 rest h.4)

pub returns-in_err-rest-clause-none : goal.returns-in_err-rest-clause-none
returns-in_err-rest-clause-none c =
    rw c.from_residual-in_err-rest.ensures (λ line rest h.
    no_value_end version_1.profile c.args.decls.now c.args.text.now c.in_ok-entity.rest.now c.in_ok-at.rest.now c.in_ok-value.rest.now c.in_ok-entity.entity c.in_ok-at.at.pool c.in_ok-at.at.field c.in_ok-at.kind c.in_ok-value.value
    (record { index = omega arith; version = omega arith }) c.in_ok-entity.ensures.some c.in_ok-at.ensures.few c.in_ok-at.ensures.some c.in_ok-value.ensures.some c.in_err-rest.ensures h.0 h.1 h.2 h.3 rest h.4)

pub returns-clause-some : goal.returns-clause-some
returns-clause-some c =
    let same : to_z w64 (of_z w64 c.in_ok-value.value) ≡ c.in_ok-value.value = grind (arith, to_z-of_z) in (
      c.in_ok-entity.entity,
      c.in_ok-at.at.pool,
      c.in_ok-at.at.field,
      c.in_ok-value.value,
      field_last version_1.profile c.args.decls.now c.args.text.now c.in_ok-entity.rest.now c.in_ok-at.rest.now c.in_ok-value.rest.now c.in_ok-rest.rest.now c.in_ok-entity.entity c.in_ok-at.at.pool c.in_ok-at.at.field c.in_ok-at.kind c.in_ok-value.value
          (record { index = omega arith; version = omega arith }) c.in_ok-entity.ensures.some c.in_ok-at.ensures.some c.in_ok-value.ensures.some c.in_ok-rest.ensures,
      ap (λ (v : ℤ). Run (Patch c.in_ok-entity.entity c.in_ok-at.at.pool c.in_ok-at.at.field v)) same,
    )
