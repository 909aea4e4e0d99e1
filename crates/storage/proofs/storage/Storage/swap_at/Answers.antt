use Rattle.std.proofs.Common.{ap, arith}
use Rattle.std.specs.List.{zip}
use Rattle.storage.proofs.ChangeLemmas.{are_pairs, Swapped, swapped}
use Rattle.storage.proofs.storage.Storage.swap_at.Given.{Over}
use Rattle.storage.proofs.storage.Storage.swap_at.Goals as goal

pub swap_at-requires-clause-a : goal.swap_at-requires-clause-a
swap_at-requires-clause-a g c = let p = (are_pairs c.self.inside.index.list c.self.inside.values.items c.args.self.now.pairs c.self.invariant.one_each c.self.invariant.distinct (ap (λ s. s.pairs) c.self.view_is)) in omega (arith, p.len)

pub swap_at-requires-clause-b : goal.swap_at-requires-clause-b
swap_at-requires-clause-b g c = let p = (are_pairs c.self.inside.index.list c.self.inside.values.items c.args.self.now.pairs c.self.invariant.one_each c.self.invariant.distinct (ap (λ s. s.pairs) c.self.view_is)) in omega (arith, p.len)

pub swap-requires-clause-i_in_bounds : goal.swap-requires-clause-i_in_bounds
swap-requires-clause-i_in_bounds g c = let p = (are_pairs c.self.inside.index.list c.self.inside.values.items c.args.self.now.pairs c.self.invariant.one_each c.self.invariant.distinct (ap (λ s. s.pairs) c.self.view_is)) in omega (arith, p.len, p.each)

pub swap-requires-clause-j_in_bounds : goal.swap-requires-clause-j_in_bounds
swap-requires-clause-j_in_bounds g c = let p = (are_pairs c.self.inside.index.list c.self.inside.values.items c.args.self.now.pairs c.self.invariant.one_each c.self.invariant.distinct (ap (λ s. s.pairs) c.self.view_is)) in omega (arith, p.len, p.each)

-- the pairs at the two places change
all : (g : Over) (c : goal.After-swap g) → Swapped c.args.self.now.pairs (zip c.swap_at.new.self.list c.swap.new.self.items) c.args.a c.args.b
all g c = swapped c.self.inside.index.list c.swap_at.new.self.list c.self.inside.values.items c.swap.new.self.items c.args.self.now.pairs c.args.a c.args.b (are_pairs c.self.inside.index.list c.self.inside.values.items c.args.self.now.pairs c.self.invariant.one_each c.self.invariant.distinct (ap (λ s. s.pairs) c.self.view_is)) c.requires.a c.requires.b c.swap_at.ensures.list c.swap.ensures.items

pub returns-clause-pairs : goal.returns-clause-pairs
returns-clause-pairs g c = (all g c).pairs

pub returns-clause-keys : goal.returns-clause-keys
returns-clause-keys g c = (all g c).keys_are

pub returns-clause-map : goal.returns-clause-map
returns-clause-map g c = (all g c).map
