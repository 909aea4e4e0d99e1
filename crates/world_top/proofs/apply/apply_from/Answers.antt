use Rattle.std.proofs.Common.{ℕ, List, drop, subst}
use Rattle.std.proofs.lemmas.List.{take_rest}
use Rattle.entity_id.specs.Identifiers.{p20_12}
use Rattle.world_text.specs.Refusals.{IsScriptCause}
use Rattle.world_top.proofs.PlayLemmas.{cause_behind}
use Rattle.world_top.proofs.apply.apply_from.Goals as goal

pub returns-clause-cause : goal.returns-clause-cause
returns-clause-cause g c =
    let input = c.args.input.now in
    let front = c.in_ok-front.front in
    let cause = subst (λ (script : List ℕ). IsScriptCause p20_12 front.document.world.decls script c.in-Err.refused) (take_rest input front.taken) c.in-Err.ensures.cause in
    rw c.behind.ensures (cause_behind input front.document front.lines (drop front.taken input) c.in-Err.refused c.in_ok-front.ensures.front cause)
