use Rattle.std.proofs.Common.{◌≡◌, ◌+◌, [], ◌∷◌, ◌++◌, length, sym, ap, ◌∙◌, arith, rules}
use Rattle.std.specs.List.{zip}
use Rattle.std.proofs.lemmas.Grind.{common_steps}
use Rattle.storage.proofs.ChangeLemmas.{are_pairs, Emplaced, emplaced}
use Rattle.storage.proofs.storage.Storage.emplace_reserved.Given.{Over}
use Rattle.storage.proofs.storage.Storage.emplace_reserved.Goals as goal

pub push_reserved-requires-clause-absent : goal.push_reserved-requires-clause-absent
push_reserved-requires-clause-absent g c =
    let p = (are_pairs c.self.inside.index.list c.self.inside.values.items c.args.self.now.pairs c.self.invariant.one_each c.self.invariant.distinct (ap (λ s. s.pairs) c.self.view_is)) in
    sym (p.index c.args.entity.index) ∙ c.requires.absent

pub invariant_of-self : goal.invariant_of-self
invariant_of-self g c =
    let len : length c.push.new.self.items ≡ length c.self.inside.values.items + 1 = search (rules, common_steps) in
    let keys : length c.push_reserved.new.self.list ≡ length c.self.inside.index.list + 1 = search (rules, common_steps) in
    record { one_each = omega arith; room = omega arith; distinct = c.push_reserved.ensures.distinct }

-- the pair is at the end
all : (g : Over) (c : goal.After-push g) → Emplaced c.args.self.now.pairs (zip c.push_reserved.new.self.list c.push.new.self.items) c.args.entity c.args.value
all g c =
    let p = (are_pairs c.self.inside.index.list c.self.inside.values.items c.args.self.now.pairs c.self.invariant.one_each c.self.invariant.distinct (ap (λ s. s.pairs) c.self.view_is)) in
    let values : c.push.new.self.items ≡ c.self.inside.values.items ++ c.args.value ∷ [] = search rules in
    emplaced c.self.inside.index.list c.push_reserved.new.self.list c.self.inside.values.items c.push.new.self.items c.args.self.now.pairs c.args.entity c.args.value p (sym (p.index c.args.entity.index) ∙ c.requires.absent) c.push_reserved.ensures.list values

pub returns-clause-pairs : goal.returns-clause-pairs
returns-clause-pairs g c = (all g c).pairs

pub returns-clause-keys : goal.returns-clause-keys
returns-clause-keys g c = (all g c).keys_are

pub returns-clause-map : goal.returns-clause-map
returns-clause-map g c = (all g c).map
