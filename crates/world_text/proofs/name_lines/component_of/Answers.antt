use Rattle.std.proofs.Common.{◌≡◌, true, false, length-take, arith, rules, ap, ◌∙◌}
use Rattle.world_model.specs.Names.{is_name}
use Rattle.world_text.proofs.PartLemmas.{component_parts}
use Rattle.world_text.proofs.name_lines.component_of.Goals as goal

pub returns-then-not-is_name-clause-bad : goal.returns-then-not-is_name-clause-bad
returns-then-not-is_name-clause-bad c = λ bad decl is e.
    let h = component_parts c.args.text.now _ _ decl c.split_word.ensures is e in
    let named : is_name c.split_word.result.0.now ≡ true = ap is_name h.0 ∙ is.name in
    let not_named : is_name c.split_word.result.0.now ≡ false = search rules in
    cc

pub returns-in_default-clause-bad : goal.returns-in_default-clause-bad
returns-in_default-clause-bad c = λ bad decl is e.
    let h = component_parts c.args.text.now _ _ decl c.split_word.ensures is e in
    c.in_default.ensures.none _ (omega (arith, length-take decl.count decl.kinds, is.fields.few)) h.1
