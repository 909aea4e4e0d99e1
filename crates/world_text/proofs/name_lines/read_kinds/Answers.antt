use Rattle.std.proofs.Common.{take, length-take, length-set, arith, rules, ◌∙◌}
use Rattle.world_text.proofs.WordLemmas.{no_kind_behind, no_fifth_kind, kinds_push, fill_more}
use Rattle.world_text.proofs.name_lines.read_kinds.Goals as goal

pub returns-in_err-kind-clause-none : goal.returns-in_err-kind-clause-none
returns-in_err-kind-clause-none c = rw c.from_residual.ensures (λ kinds few e.
    no_kind_behind _ kinds _ _ c.loop-count.invariant.whole (search rules) c.in_err-kind.ensures e)

pub returns-else-is_empty-2-clause-none : goal.returns-else-is_empty-2-clause-none
returns-else-is_empty-2-clause-none c = λ kinds few e.
    let four = c.loop-count.invariant.long in
    no_fifth_kind (take c.loop-count.count c.loop-count.kinds) kinds _ _ c.loop-count.invariant.whole (search rules) (length-take _ _ ∙ omega arith) few e

pub loop-count-preserved : goal.loop-count-preserved
loop-count-preserved c =
    let four = c.loop-count.invariant.long in
    record {
      long = length-set c.loop-count.kinds c.loop-count.count c.in_ok-kind.kind ∙ four;
      padded = fill_more c.loop-count.kinds c.loop-count.count c.in_ok-kind.kind (omega arith) c.loop-count.invariant.padded;
      whole = kinds_push c.loop-count.kinds c.loop-count.count c.in_ok-kind.kind _ _ _ (omega arith) c.loop-count.invariant.whole c.in_ok-kind.ensures;
    }
