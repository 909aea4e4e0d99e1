-- Pools that systems name, and how two systems conflict by one.
use Rattle.std.proofs.Common.{◌≡◌, ℕ, Bool, true, false, ◌||◌, eqb, List, [], ◌∷◌, ◌++◌, refl, sym, ap, ◌∙◌}
use Rattle.std.specs.List.{list_any}
use Rattle.std.proofs.lemmas.Bool.{eqb-true, false≢true, or_left, or_right}
use Rattle.world_model.specs.declared.access.Access.{Access}
use Rattle.world_model.specs.Frames.{system_pools}
use Rattle.world_model.specs.Groups.{has_pool}
use Rattle.access_graph.specs.Conflicts.{systems_conflict}

-- a pool of one list that another names too
any_named : (list others : List ℕ) (n : ℕ) → has_pool list n ≡ true → has_pool others n ≡ true → list_any (has_pool others) list ≡ true
any_named [] others n named there = absurd (false≢true named)
any_named (x ∷ list) others n named there = by (eqb x n) refl named (λ rest. any_named list others n rest there)
  where
    by : (b : Bool) → eqb x n ≡ b → (b || has_pool list n) ≡ true → (has_pool list n ≡ true → list_any (has_pool others) list ≡ true)
        → (has_pool others x || list_any (has_pool others) list) ≡ true
    by true e named rest = or_left (has_pool others x) _ (ap (has_pool others) (eqb-true x n e) ∙ there)
    by false e named rest = or_right (has_pool others x) _ (rest named)

-- one that writes a pool conflicts with one that names it, in either order
pub writer_conflicts : (a b : Access) (pool : ℕ) → has_pool a.write pool ≡ true → has_pool (system_pools b) pool ≡ true → systems_conflict a b ≡ true
writer_conflicts a b pool w there = or_left (list_any (has_pool (system_pools b)) a.write) _ (any_named a.write (system_pools b) pool w there)

pub written_conflicts : (a b : Access) (pool : ℕ) → has_pool b.write pool ≡ true → has_pool (system_pools a) pool ≡ true → systems_conflict a b ≡ true
written_conflicts a b pool w there = or_right (list_any (has_pool (system_pools b)) a.write) _ (any_named b.write (system_pools a) pool w there)

or-assoc : (a b c : Bool) → ((a || b) || c) ≡ (a || (b || c))
or-assoc true b c = refl
or-assoc false b c = refl

pub named-append : (a b : List ℕ) (n : ℕ) → has_pool (a ++ b) n ≡ (has_pool a n || has_pool b n)
named-append [] b n = refl
named-append (x ∷ a) b n = ap (λ rest. eqb x n || rest) (named-append a b n) ∙ sym (or-assoc (eqb x n) (has_pool a n) (has_pool b n))

-- a system names what it writes
pub written_named : (a : Access) (n : ℕ) → has_pool a.write n ≡ true → has_pool (system_pools a) n ≡ true
written_named a n w =
    named-append ((a.read ++ a.write) ++ a.look) a.without n
    ∙ or_left (has_pool ((a.read ++ a.write) ++ a.look) n) _
    (named-append (a.read ++ a.write) a.look n ∙ or_left (has_pool (a.read ++ a.write) n) _ (named-append a.read a.write n ∙ or_right (has_pool a.read n) _ w))
