use Rattle.std.proofs.Common.{◌≡◌, ℕ, ◌+◌, ◌++◌, ◌∷◌, [], List, Option, take, sym, ap, ◌∙◌, subst}
use Rattle.std.proofs.lemmas.List.{take_more}
use Rattle.world_model.specs.declared.access.Access.{Access}
use Rattle.tick_runner.specs.Walking.{IsPrefixFor, ArePrefixesFor}
use Rattle.tick_runner.proofs.ListLemmas.{all_zip_more}
use Rattle.tick_runner.proofs.preparing.prefixes_for.Goals as goal

pub loop-system-preserved : goal.loop-system-preserved
loop-system-preserved g c =
    let k = c.loop-system.system-index in
    let systems = c.args.systems.now in
    let s = c.system-item.result in
    let pools = c.args.pools.now in
    let lists = g.S.System.lists in
    let found : Option (ℕ × ℕ) = c.prefix_for.result in
    let more : take (k + 1) systems ≡ take k systems ++ s ∷ [] = take_more systems k s c.loop-system-test.true ∙ ap (λ x. take k systems ++ x ∷ []) (sym c.system-item.is) in
    let here : IsPrefixFor (lists s) pools found = subst (λ (access : Access). IsPrefixFor access pools found) c.access.ensures c.prefix_for.ensures.begins in
    subst (λ (prefixes : List (Option (ℕ × ℕ))). ArePrefixesFor lists pools (take (k + 1) systems) prefixes) (sym c.in_ok-push.ensures.items)
    (subst (λ xs. ArePrefixesFor lists pools xs (c.loop-system.prefixes.items ++ found ∷ [])) (sym more)
    (all_zip_more (λ system prefix. IsPrefixFor (lists system) pools prefix) (take k systems) c.loop-system.prefixes.items s found c.loop-system.invariant here))
