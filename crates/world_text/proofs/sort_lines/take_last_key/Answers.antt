use Rattle.world_text.proofs.SortLineLemmas.{no_key_kind, no_key_end}
use Rattle.world_text.proofs.sort_lines.take_last_key.Goals as goal

pub returns-in_err-after-in-Int-clause-none : goal.returns-in_err-after-in-Int-clause-none
returns-in_err-after-in-Int-clause-none c =
    rw c.from_residual-in_err-after-in-Int.ensures (no_key_end c.args.decls.now c.args.text.now c.in_ok-at.rest.now c.in_ok-at.at.pool c.in_ok-at.at.field c.in_ok-at.kind c.in_ok-at.ensures.some c.in_err-after-in-Int.ensures)

pub returns-in-Ref-clause-none : goal.returns-in-Ref-clause-none
returns-in-Ref-clause-none c =
    no_key_kind c.args.decls.now c.args.text.now c.in_ok-at.rest.now c.in_ok-at.at.pool c.in_ok-at.at.field c.in_ok-at.kind c.in-Ref.is c.in_ok-at.ensures.few c.in_ok-at.ensures.some
