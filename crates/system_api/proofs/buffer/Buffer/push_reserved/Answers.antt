use Rattle.std.proofs.Common.{◌≡◌, ℕ, ◌+◌, ◌*◌, ◌%◌, ◌^◌, ◌<◌, ◌++◌, ◌∷◌, [], List, length, map, sym, ap, ap₂, ◌∙◌, subst, arith}
use Rattle.std.specs.List.{AllByRecursion}
use Rattle.std.proofs.lemmas.List.{length-append}
use Rattle.world_model.specs.declared.deferred.Deferred.{Deferred}
use Rattle.system_api.specs.Settling.{of_number, NeverFalls}
use Rattle.system_api.specs.KeyedOrders.{index_of_key, emission_of}
use Rattle.system_api.proofs.KeyLemmas.{key-index, key-place, rising-push, below-push, pushed-entries}
use Rattle.system_api.proofs.buffer.Buffer.push_reserved.Goals as goal

pub invariant_of-self : goal.invariant_of-self
invariant_of-self c =
    let ks = c.self.inside.keys.items in
    let n = length ks in
    let inv = c.self.invariant in
    let key = c.args.index * 2 ^ 32 + n in
    let few : n < 2 ^ 32 = omega (arith, inv.few, c.requires, ap (λ e. e.spare) c.self.view_is) in
    let place : c.len-place.result ≡ n = omega (arith, c.len-place.ensures) in
    let from : c.from.result ≡ c.args.index = omega (arith, c.from.ensures) in
    let is : c.push.new.self.items ≡ ks ++ key ∷ [] = c.in-Ok.ensures.items ∙ ap₂ (λ (j p : ℕ). ks ++ (j * 2 ^ 32 + p) ∷ []) from place in
    let keys-long : length (c.push.new.self.items) ≡ n + 1 = ap length is ∙ length-append ks (key ∷ []) in
    let orders-long : length (c.push-2.new.self.items) ≡ length c.self.inside.orders.items + 1 = ap length c.in-Ok-push.ensures.items ∙ length-append c.self.inside.orders.items (c.args.order ∷ []) in
    record {
      even = omega (arith, inv.even, keys-long, orders-long);
      few = omega (arith, inv.few, keys-long, c.requires, ap (λ e. e.spare) c.self.view_is);
      key_room = omega (arith, inv.key_room, keys-long, c.in-Ok.ensures.capacity, c.requires, ap (λ e. e.spare) c.self.view_is);
      order_room = omega (arith, inv.order_room, orders-long, c.in-Ok-push.ensures.capacity, c.requires, ap (λ e. e.spare) c.self.view_is);
      below = subst (λ (m : ℕ). AllByRecursion (λ k. k % 2 ^ 32 < m) c.push.new.self.items) (sym keys-long) (subst (λ (xs : List ℕ). AllByRecursion (λ k. k % 2 ^ 32 < n + 1) xs) (sym is) (below-push n key ks (key-place c.args.index n few) inv.below));
      rising = λ i. subst (λ (xs : List ℕ). NeverFalls (λ (x : ℕ). x) (of_number index_of_key i xs)) (sym is) (rising-push i n key ks (key-place c.args.index n few) inv.below (inv.rising i));
    }

pub returns-clause-list : goal.returns-clause-list
returns-clause-list c =
    let ks = c.self.inside.keys.items in
    let n = length ks in
    let inv = c.self.invariant in
    let key = c.args.index * 2 ^ 32 + n in
    let few : n < 2 ^ 32 = omega (arith, inv.few, c.requires, ap (λ e. e.spare) c.self.view_is) in
    let place : c.len-place.result ≡ n = omega (arith, c.len-place.ensures) in
    let from : c.from.result ≡ c.args.index = omega (arith, c.from.ensures) in
    let is : c.push.new.self.items ≡ ks ++ key ∷ [] = c.in-Ok.ensures.items ∙ ap₂ (λ (j p : ℕ). ks ++ (j * 2 ^ 32 + p) ∷ []) from place in
    ap₂ (λ (os : List Deferred) (xs : List ℕ). map (emission_of os) xs) c.in-Ok-push.ensures.items is
    ∙ pushed-entries c.self.inside.orders.items c.args.order c.args.index n key ks (sym inv.even) (key-index c.args.index n few) (key-place c.args.index n few) inv.below
    ∙ ap (λ e. e.list ++ record { index = c.args.index; order = c.args.order } ∷ []) c.self.view_is
