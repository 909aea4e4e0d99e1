use Rattle.std.proofs.Common.{◌≡◌, ◌+◌, ◌-◌, ◌≤◌, true, false, Err, List, ◌∷◌, [], ◌++◌, refl, sym, ap, subst, ◌∙◌, arith, rules}
use Rattle.std.specs.Prelude.{Option, Some, None}
use Rattle.world_model.specs.declared.component.Decl.{Decl}
use Rattle.row_lang.specs.declared.fault.LineFault.TheVariants.{Bad}
use Rattle.row_lang.specs.Drafts.{TakesLine, RefusesLineWithin}
use Rattle.row_lang.specs.Systems.{System, Draft, is_closed, command_count}
use Rattle.world_text.specs.SystemLines.{commands_of, unfinished_commands}
use Rattle.world_text.proofs.SystemAddingLemmas.{takes, refuses, more_open, closed_done}
use Rattle.world_text.proofs.SystemLineLemmas.{with_body_more, with_body_closed}
use Rattle.world_text.proofs.system_adding.add_body.Goals as goal

pub returns-in-Ok-More-clause-ok : goal.returns-in-Ok-More-clause-ok
returns-in-Ok-More-clause-ok c =
    let old = c.args.draft.now in
    let draft = c.in-Some.system in
    let after = c.add_within.new.self in
    let here : c.args.draft.now.unfinished ≡ Some c.in-Some.system = search rules in
    let taken : TakesLine c.args.draft.now.decls.items c.in-Some.system c.args.line.now c.add_within.new.self = subst (λ (decls : List Decl). TakesLine decls c.in-Some.system c.args.line.now c.add_within.new.self) c.deref.ensures.value c.in-Ok-More.ensures.ok in
    let own : c.commands.result ≡ command_count c.in-Some.system.system.statements = c.commands.ensures ∙ ap (λ (s : System). command_count s.statements) c.def.ensures in
    let counted : c.args.draft.now.commands ≡ commands_of c.args.draft.now.systems.items + command_count c.in-Some.system.system.statements = c.args.draft.now.commanded.counted ∙ ap (λ (u : Option Draft). commands_of c.args.draft.now.systems.items + unfinished_commands u) here in
    let few : commands_of c.args.draft.now.systems.items + command_count c.add_within.new.self.system.statements ≤ 64 = omega (arith, own, counted, c.in-Ok-More.ensures.commands, c.args.draft.now.commanded.few) in
    let going : is_closed c.add_within.new.self ≡ false = more_open (is_closed c.add_within.new.self) (sym c.in-Ok-More.field-0-is ∙ c.in-Ok-More.ensures.added) in
    takes old draft here c.args.line.now after _ c.requires taken few (record { format = refl; section = refl; decls = refl; groups = refl; tick = refl; slots = refl; free = refl; settled = refl; pools = refl })
    ((λ i. record { closed = c.in_ok-reserve.ensures.items i; unfinished = Some (taken.stands i) }) ∙ sym (with_body_more old.decls.items old.systems.items draft taken.line (ap is_closed (sym taken.stands) ∙ going)))

pub returns-in-Ok-Closed-clause-ok : goal.returns-in-Ok-Closed-clause-ok
returns-in-Ok-Closed-clause-ok c =
    let old = c.args.draft.now in
    let draft = c.in-Some.system in
    let after = c.add_within.new.self in
    let here : c.args.draft.now.unfinished ≡ Some c.in-Some.system = search rules in
    let taken : TakesLine c.args.draft.now.decls.items c.in-Some.system c.args.line.now c.add_within.new.self = subst (λ (decls : List Decl). TakesLine decls c.in-Some.system c.args.line.now c.add_within.new.self) c.deref.ensures.value c.in-Ok-Closed.ensures.ok in
    let own : c.commands.result ≡ command_count c.in-Some.system.system.statements = c.commands.ensures ∙ ap (λ (s : System). command_count s.statements) c.def.ensures in
    let counted : c.args.draft.now.commands ≡ commands_of c.args.draft.now.systems.items + command_count c.in-Some.system.system.statements = c.args.draft.now.commanded.counted ∙ ap (λ (u : Option Draft). commands_of c.args.draft.now.systems.items + unfinished_commands u) here in
    let few : commands_of c.args.draft.now.systems.items + command_count c.add_within.new.self.system.statements ≤ 64 = omega (arith, own, counted, c.in-Ok-Closed.ensures.commands, c.args.draft.now.commanded.few) in
    let done : is_closed c.add_within.new.self ≡ true = closed_done (is_closed c.add_within.new.self) (sym c.in-Ok-Closed.field-0-is ∙ c.in-Ok-Closed.ensures.added) in
    let pushed : c.push_reserved.new.self.items ≡ c.args.draft.now.systems.items ++ c.add_within.new.self.system ∷ [] = c.push_reserved.ensures.items ∙ (λ i. c.in_ok-reserve.ensures.items i ++ c.finish.ensures.system i ∷ []) in
    let none : c.take.new.self ≡ None = search rules in
    takes old draft here c.args.line.now after _ c.requires taken few (record { format = refl; section = refl; decls = refl; groups = refl; tick = refl; slots = refl; free = refl; settled = refl; pools = refl })
    ((λ i. record { closed = pushed i; unfinished = none i })
    ∙ (λ i. record { closed = old.systems.items ++ (taken.stands i).system ∷ []; unfinished = None })
    ∙ sym (with_body_closed old.decls.items old.systems.items draft taken.line (ap is_closed (sym taken.stands) ∙ done)))

pub returns-in-Err-clause-bad : goal.returns-in-Err-clause-bad
returns-in-Err-clause-bad c = λ bad.
    let here : c.args.draft.now.unfinished ≡ Some c.in-Some.system = search rules in
    let own : c.commands.result ≡ command_count c.in-Some.system.system.statements = c.commands.ensures ∙ ap (λ (s : System). command_count s.statements) c.def.ensures in
    let counted : c.args.draft.now.commands ≡ commands_of c.args.draft.now.systems.items + command_count c.in-Some.system.system.statements = c.args.draft.now.commanded.counted ∙ ap (λ (u : Option Draft). commands_of c.args.draft.now.systems.items + unfinished_commands u) here in
    let fault : c.in-Err.fault ≡ Bad = cc in
    refuses c.args.draft.now c.in-Some.system here c.args.line.now (64 - (c.args.draft.now.commands - c.commands.result)) (omega (arith, own, counted, c.args.draft.now.commanded.few)) (omega (arith, own, counted, c.args.draft.now.commanded.few))
    (subst (λ (decls : List Decl). RefusesLineWithin decls (64 - (c.args.draft.now.commands - c.commands.result)) c.in-Some.system c.args.line.now) c.deref.ensures.value (c.in-Err.ensures.bad (ap Err fault)))
