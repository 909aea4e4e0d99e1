use Rattle.std.proofs.Common.{◌∷◌, [], length-append, arith}
use Rattle.world_text.specs.Formats.{version_1}
use Rattle.world_text.proofs.BegunLemmas.{begun-push, line_shortens}
use Rattle.world_text.proofs.scripts.read_lines.Goals as goal

pub loop-lines-preserved : goal.loop-lines-preserved
loop-lines-preserved c =
    let first = rw c.in-Some-2.is at c.in_ok-line.ensures in
    let shorter = line_shortens version_1.profile c.args.decls.now c.loop-lines.rest.now c.in-Some-2.line c.in-Some-2.after.now first in
    rw c.in_ok-push.ensures.items (record {
      begun = begun-push version_1.profile c.args.decls.now c.args.text.now c.loop-lines.lines.items c.loop-lines.rest.now c.in-Some-2.line c.in-Some-2.after.now c.loop-lines.invariant.begun first;
      few = omega (arith, length-append c.loop-lines.lines.items (c.in-Some-2.line ∷ []));
    })
