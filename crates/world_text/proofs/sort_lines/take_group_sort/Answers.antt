use Rattle.world_text.proofs.SortLineLemmas.{no_group_key}
use Rattle.world_text.proofs.sort_lines.take_group_sort.Goals as goal

pub returns-in_err-at-clause-none : goal.returns-in_err-at-clause-none
returns-in_err-at-clause-none c =
    rw c.from_residual-in_err-at.ensures (no_group_key c.args.decls.now c.args.text.now c.in_ok-behind.behind.now c.in_ok-group.later.now c.in_ok-group.group c.in_ok-behind.ensures c.in_ok-group.ensures.some c.in_err-at.ensures.none)
