use Rattle.world_text.specs.Formats.{version_1}
use Rattle.world_text.proofs.SortLineLemmas.{no_sort}
use Rattle.world_text.proofs.sort_lines.take_sort.Goals as goal

pub returns-in_err-group-clause-none : goal.returns-in_err-group-clause-none
returns-in_err-group-clause-none c =
    rw c.from_residual.ensures (no_sort version_1.profile c.args.decls.now c.args.text.now c.in_default.ensures.none c.in_err-group.ensures.none)
