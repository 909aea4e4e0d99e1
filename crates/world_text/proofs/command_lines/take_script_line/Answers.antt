use Rattle.std.proofs.Common.{◌++◌, ap, ◌∙◌}
use Rattle.world_text.specs.Formats.{version_1}
use Rattle.world_text.proofs.Faults.{if_ok}
use Rattle.world_text.proofs.ScriptLineLemmas.{line_first}
use Rattle.world_text.proofs.SplitLineLemmas.{no_verb, line_behind}
use Rattle.world_text.proofs.command_lines.take_script_line.Goals as goal

pub returns-in_default-clause-bad : goal.returns-in_default-clause-bad
returns-in_default-clause-bad c = λ _.
    no_verb version_1.profile c.args.decls.now c.args.text.now c.split_name.result.0.now c.split_name.result.1.now c.split_name.ensures c.in_default.ensures.none

pub returns-clause-ok : goal.returns-clause-ok
returns-clause-ok c =
    if_ok c.take_behind.result c.take_behind.ensures.ok (λ x h.
    line_first version_1.profile c.args.decls.now c.args.text.now c.split_name.result.1.now x.1.now c.in-Some.verb x.0
    (c.split_name.ensures.whole ∙ ap (λ w. w ++ c.split_name.result.1.now) c.in-Some.ensures.some) h)

pub returns-clause-bad : goal.returns-clause-bad
returns-clause-bad c = λ bad line rest h.
    c.take_behind.ensures.bad bad line rest (line_behind version_1.profile c.args.decls.now c.args.text.now c.split_name.result.0.now c.split_name.result.1.now c.in-Some.verb c.split_name.ensures c.in-Some.ensures.some line rest h)
