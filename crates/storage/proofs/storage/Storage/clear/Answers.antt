use Rattle.std.proofs.Common.{◌≡◌, ap, arith}
use Rattle.storage.proofs.ChangeLemmas.{are_pairs}
use Rattle.storage.proofs.storage.Storage.clear.Goals as goal

pub returns-clause-spare : goal.returns-clause-spare
returns-clause-spare g c =
    let p = (are_pairs c.self.inside.index.list c.self.inside.values.items c.args.self.now.pairs c.self.invariant.one_each c.self.invariant.distinct (ap (λ s. s.pairs) c.self.view_is)) in
    let spare : c.self.inside.index.spare ≡ c.args.self.now.spare = ap (λ s. s.spare) c.self.view_is in
    omega (arith, p.len, c.clear.ensures.spare)
