use Rattle.std.proofs.Common.{◌≡◌, ◌||◌, ◌++◌, ℕ, List, sym, ap, ap₂, ◌∙◌}
use Rattle.world_model.specs.declared.access.Access.{Access}
use Rattle.world_model.specs.Groups.{has_pool}
use Rattle.system_api.specs.Running.{read_pools}
use Rattle.tick_runner.proofs.ListLemmas.{named-append}
use Rattle.tick_runner.proofs.NamingLemmas.{declared-named, named-declared}
use Rattle.tick_runner.proofs.turns.naming.read_once.Goals as goal

both : (access : Access) (n : ℕ) → has_pool (read_pools access) n ≡ (has_pool access.read n || has_pool access.look n) || has_pool access.without n
both access n = named-append (access.read ++ access.look) access.without n ∙ ap (λ b. b || has_pool access.without n) (named-append access.read access.look n)

pub returns-clause-declared : goal.returns-clause-declared
returns-clause-declared c = λ count declared.
    let access = c.args.access.now in
    let in_list : (n : ℕ) (a b : List ℕ) → a ≡ b → has_pool a n ≡ has_pool b n = λ n a b is. ap (λ (list : List ℕ). has_pool list n) is in
    let read : (n : ℕ) → has_pool c.name_all.new.pools.items n ≡ has_pool access.read n
    = λ n. c.name_all.ensures.named n ∙ ap₂ (λ b d. b || d) (in_list n _ _ c.new-pools.ensures) (in_list n _ _ c.as_slice.ensures) in
    let looked : (n : ℕ) → has_pool c.name_all-2.new.pools.items n ≡ has_pool access.read n || has_pool access.look n
    = λ n. c.name_all-2.ensures.named n ∙ ap₂ (λ b d. b || d) (read n) (in_list n _ _ c.as_slice-2.ensures) in
    let all : (n : ℕ) → has_pool c.name_all-3.new.pools.items n ≡ has_pool (read_pools access) n
    = λ n. c.name_all-3.ensures.named n ∙ ap₂ (λ b d. b || d) (looked n) (in_list n _ _ c.as_slice-3.ensures) ∙ sym (both access n) in
    declared-named count c.name_all-3.new.pools.items (λ n named. named-declared count (read_pools access) n declared (sym (all n) ∙ named))
