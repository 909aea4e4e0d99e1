use Rattle.std.proofs.Common.{◌≡◌, not, [], ◌∷◌, ◌++◌, length, Err, sym, ap, subst, ◌∙◌, arith}
use Rattle.std.proofs.lemmas.Bool.{lt-ltb, or_right, or_left}
use Rattle.std.proofs.lemmas.Result.{err_from_is_err_and}
use Rattle.std.proofs.Math.Nat.{min-le_right}
use Rattle.world_model.specs.declared.access.Access.{Access}
use Rattle.row_lang.specs.declared.fault.LineFault.TheVariants.{Bad}
use Rattle.row_lang.specs.declared.part.Part.TheVariants as part
use Rattle.row_lang.specs.Systems.{Draft, command_count, is_command, may_do_behind}
use Rattle.row_lang.specs.TokenReading.{IsDoLine}
use Rattle.row_lang.proofs.DoLineLemmas.{refuses_do, refuses_command, takes_do}
use Rattle.row_lang.proofs.draft.SystemDraft.add_statement.Goals.{else-is_command-via-then-is_command+else-commands-min, else-is_command-via-else-is_command}
use Rattle.row_lang.proofs.draft.SystemDraft.add_statement.Goals as goal

pub returns-in_err-tokens-clause-bad : goal.returns-in_err-tokens-clause-bad
returns-in_err-tokens-clause-bad c =
    let p = err_from_is_err_and c.from_residual.result c.from_residual.ensures.1 in
    λ bad.
    let fault : c.in_err-tokens.field-0.0 ≡ Bad = cc in
    let here : c.access.result.now ≡ c.args.self.now.system.access = c.access.ensures ∙ ap (λ (d : Draft). d.system.access) c.self.view_is in
    refuses_do c.args.decls.now c.args.self.now c.args.line.now c.requires.no_list c.requires.no_end c.args.commands
    (λ tokens h line. absurd (c.in_err-tokens.ensures.bad (ap Err fault) tokens (subst (λ (a : Access). IsDoLine c.args.decls.now a c.args.line.now tokens) (sym here) line)))

pub returns-then-commands-min-clause-bad : goal.returns-then-commands-min-clause-bad
returns-then-commands-min-clause-bad c = λ _.
    let here : c.access.result.now ≡ c.args.self.now.system.access = c.access.ensures ∙ ap (λ (d : Draft). d.system.access) c.self.view_is in
    let count : command_count c.self.inside.def.statements ≡ command_count c.args.self.now.system.statements = ap (λ (d : Draft). command_count d.system.statements) c.self.view_is in
    refuses_command c.args.decls.now c.args.self.now c.args.line.now c.requires.no_list c.requires.no_end c.args.commands c.in_ok-tokens.tokens.items
    (λ others line. c.in_ok-tokens.ensures.once others (subst (λ (a : Access). IsDoLine c.args.decls.now a c.args.line.now others) (sym here) line))
    (sym (ap is_command c.from_vec-statement.ensures) ∙ sym c.is_command-is_command.ensures ∙ c.if-is_command.true)
    (omega (arith, count, c.if-commands-min.true, c.min.ensures, c.commands.ensures))

pub returns-clause-ok : goal.returns-clause-ok
returns-clause-ok c =
    let here : c.access.result.now ≡ c.args.self.now.system.access = c.access.ensures ∙ ap (λ (d : Draft). d.system.access) c.self.view_is in
    let count : command_count c.self.inside.def.statements ≡ command_count c.args.self.now.system.statements = ap (λ (d : Draft). command_count d.system.statements) c.self.view_is in
    let line = subst (λ (a : Access). IsDoLine c.args.decls.now a c.args.line.now c.in_ok-tokens.tokens.items) here c.in_ok-tokens.ensures.ok in
    takes_do c.args.decls.now c.args.self.now c.args.line.now c.in_ok-tokens.tokens.items c.requires.short line
    (record {
      behind = sym (ap (λ (d : Draft). may_do_behind d.part) c.self.view_is) ∙ sym c.may_do.ensures ∙ c.if-not-may_do.false;
      few = omega (arith, ap (λ (d : Draft). length d.system.statements) c.self.view_is, c.if-statements-ge-STATEMENT_LIMIT.false, ap length c.statements.ensures);
      commands = elim c.else-is_command.branch [
        | else-is_command-via-then-is_command+else-commands-min w ↦
            or_right (not (is_command c.in_ok-tokens.tokens.items)) _
            (lt-ltb (command_count c.args.self.now.system.statements) 8 (omega (arith, count, w.if-commands-min.false, w.min.ensures, w.commands.ensures, min-le_right c.args.commands 8)))
        | else-is_command-via-else-is_command w ↦
            or_left (not (is_command c.in_ok-tokens.tokens.items)) _
            (ap not (sym (ap is_command c.from_vec-statement.ensures) ∙ sym c.is_command-is_command.ensures ∙ w.if-is_command.false))
      ];
      statement = line.fill;
    }) _ (λ i. record {
      part = part.Do;
      system = (c.in_ok-push.ensures.ok ∙ (λ j. record (c.self.view_is j).system { statements = (c.self.view_is j).system.statements ++ c.from_vec-statement.ensures j ∷ [] })) i;
    })
