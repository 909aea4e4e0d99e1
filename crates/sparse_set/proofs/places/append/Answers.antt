use Rattle.std.proofs.Common.{◌≡◌, [], ◌∷◌, ◌++◌, length, subst, arith, rules}
use Rattle.sparse_set.specs.Pages.{Puts}
use Rattle.sparse_set.proofs.PlaceLemmas.{distinct, appended}
use Rattle.sparse_set.proofs.places.append.Goals as goal

pub returns-clause-placed : goal.returns-clause-placed
returns-clause-placed c =
    let list : c.push.new.self.items ≡ c.args.packed.now.items ++ c.args.entity ∷ [] = search rules in
    let at : c.len.result ≡ length c.args.packed.now.items = omega arith in
    let put = subst (Puts c.args.pages.now c.set.new.self c.args.entity.index) at c.set.ensures in
    rw list (appended c.args.packed.now.items c.args.pages.now c.requires.placed c.args.entity c.set.new.self c.requires.absent put)

pub returns-clause-distinct : goal.returns-clause-distinct
returns-clause-distinct c = distinct _ _ (returns-clause-placed c)
