use Rattle.std.proofs.Common.{◌≡◌, rules}
use Rattle.std.proofs.lemmas.Fn.{always_returns_same}
use Rattle.registry.proofs.MapListLemmas.{sorted_map, sorted_ascending}
use Rattle.registry.proofs.parts.saving.sort.Goals as goal

pub returns : goal.returns
returns c =
    sorted_map c.args.pairs.now.items c.sort_unstable_by_key.new.self.items c.requires c.sort_unstable_by_key.ensures.permutation
    (sorted_ascending (λ pair. pair.0.index) c.sort_unstable_by_key.new.self.items (c.sort_unstable_by_key.ensures.sorted (λ pair. pair.0.index) (always_returns_same _ (λ a r. r ≡ a.0.now.0.index) _ (λ a r q k. search rules))))
