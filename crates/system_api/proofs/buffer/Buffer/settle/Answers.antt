use Rattle.std.proofs.Common.{◌≡◌, ℕ, ◌%◌, ◌^◌, ◌<◌, List, length, map, sym, ap, ◌∙◌, subst, arith, slice_index_or}
use Rattle.std.proofs.lemmas.List.Sorted.{All-permutation, IsNonDecreasingBy-from_sort}
use Rattle.system_api.specs.Emissions.{Emission}
use Rattle.system_api.specs.Settling.{IsSettled}
use Rattle.system_api.proofs.KeyLemmas.{all-places}
use Rattle.system_api.specs.KeyedOrders.{emission_of}
use Rattle.system_api.proofs.KeyLemmas.{falls-sorted, falls-filter, falls-entries, same-keys, of-entries, from-places}
use Rattle.system_api.proofs.buffer.Buffer.settle.Goals as goal

pub invariant_of-self : goal.invariant_of-self
invariant_of-self c =
    let old = c.self.inside.keys.items in
    let new = c.sort_unstable.new.self.items in
    let up = falls-sorted new (λ i j le within. IsNonDecreasingBy-from_sort (λ (x : ℕ). x) new c.sort_unstable.ensures.sorted i j 0 le within) in
    let low = All-permutation (λ key. key % 2 ^ 32 < length old) old new c.sort_unstable.ensures.permutation (λ k d w. all-places (λ key. key % 2 ^ 32 < length old) old k d c.self.invariant.below w) in
    let long : length new ≡ length old = omega (arith, c.sort_unstable.ensures.len) in
    record {
      even = c.self.invariant.even ∙ sym long;
      few = omega (arith, long, c.self.invariant.few);
      key_room = omega (arith, long, c.self.invariant.key_room, c.sort_unstable.ensures.capacity);
      order_room = c.self.invariant.order_room;
      below = from-places (λ key. key % 2 ^ 32 < length new) new (λ j w. subst (λ (n : ℕ). slice_index_or new j 0 % 2 ^ 32 < n) (sym long) (low j 0 w));
      rising = λ i. falls-filter _ new up;
    }

pub returns-clause-settled : goal.returns-clause-settled
returns-clause-settled c =
    let orders = c.self.inside.orders.items in
    let old = c.self.inside.keys.items in
    let new = c.sort_unstable.new.self.items in
    let up = falls-sorted new (λ i j le within. IsNonDecreasingBy-from_sort (λ (x : ℕ). x) new c.sort_unstable.ensures.sorted i j 0 le within) in
    let before : map (emission_of orders) old ≡ c.args.self.now.list = ap (λ e. e.list) c.self.view_is in
    subst (λ (xs : List (Emission)). IsSettled (λ (entry : Emission). entry.index) xs (map (emission_of orders) new)) before
    (record {
      ascending = falls-entries orders new up;
      parts = λ i. of-entries orders i new ∙ ap (map (emission_of orders)) (same-keys i old new c.sort_unstable.ensures.permutation up (c.self.invariant.rising i)) ∙ sym (of-entries orders i old);
    })
