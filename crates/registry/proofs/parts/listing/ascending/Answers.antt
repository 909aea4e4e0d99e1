use Rattle.std.proofs.Common.{◌≡◌, sym, subst, rules}
use Rattle.std.specs.List.Sorted.{IsPermutation}
use Rattle.std.proofs.lemmas.Fn.{always_returns_same}
use Rattle.entity_id.specs.declared.entity.Entity.{Entity}
use Rattle.entity_id.specs.FiniteMap.{AreAscending}
use Rattle.entity_id.proofs.PackedListLemmas.{distinct-permutation}
use Rattle.registry.proofs.MapListLemmas.{sorted_ascending}
use Rattle.registry.proofs.parts.listing.ascending.Goals as goal

pub returns-clause-ascending : goal.returns-clause-ascending
returns-clause-ascending c =
    let sorted = c.sort_unstable_by_key.new.self.items in
    let moved : IsPermutation c.args.list.now sorted = subst (λ list. IsPermutation list sorted) c.in_ok-sorted.ensures.items c.sort_unstable_by_key.ensures.permutation in
    subst AreAscending (sym c.from_vec.ensures)
    (sorted_ascending (λ (e : Entity). e.index) sorted
    (c.sort_unstable_by_key.ensures.sorted (λ (e : Entity). e.index) (always_returns_same _ (λ a r. r ≡ a.0.now.index) _ (λ a r q k. search rules)))
    (distinct-permutation (λ (e : Entity). e.index) c.args.list.now sorted moved c.requires))
