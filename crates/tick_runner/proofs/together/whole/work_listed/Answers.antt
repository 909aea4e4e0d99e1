use Rattle.std.proofs.Common.{◌≡◌, length, slice_get, sym, ap, ◌∙◌, rules}
use Rattle.tick_runner.proofs.SideLemmas.{written_whole}
use Rattle.tick_runner.proofs.together.whole.work_listed.Goals as goal

pub returns-clause-worked : goal.returns-clause-worked
returns-clause-worked g c = λ k before after old new.
    let n : c.args.workers.now.len ≡ length c.work_all.new.workers = search rules in
    c.work_all.ensures.worked k before after (ap (λ ws. slice_get ws k) c.as_mut_slice.ensures.value ∙ old)
    (sym (ap (λ ws. slice_get ws k) (written_whole c.args.workers.now.len c.work_all.new.workers c.args.workers.now.items n)) ∙ new)
