-- The sets of pools that turns stand for.
use Rattle.std.proofs.Common.{◌≡◌, ℕ, ◌<◌, Bool, true, false, ◌&&◌, ◌||◌, cond, eqb, nat_eq, List, [], ◌∷◌, ◌++◌, set, map, filter, length, get_or, refl, sym, ap, ◌∙◌}
use Rattle.std.specs.FinSet as sets
use Rattle.std.specs.List.{list_any}
use Rattle.std.specs.Cmp.{nat_cmp_total, nat_eq_equiv}
use Rattle.std.proofs.Math.Bool.{and-true}
use Rattle.std.proofs.lemmas.List.{map-append}
use Rattle.std.proofs.Math.Seq.{map-set_same}
use Rattle.tick_core.specs.declared.turns.Turn.{Turn}
use Rattle.tick_core.specs.Layout.{fresh, pools_in, pools_where}
use Rattle.tick_core.proofs.KeepLemmas.{contains-insert}
use Rattle.tick_core.proofs.PlaceLemmas.{any-set, any-set_same}

-- whether a turn is at a pool and passes a test
abbrev pub at_and : (Turn → Bool) → ℕ → Turn → Bool
at_and test q turn = eqb turn.pool q && test turn

and-false : (b : Bool) → (b && false) ≡ false
and-false true = refl
and-false false = refl

kept : (q : ℕ) (turn : Turn) (pools : List ℕ) (b c : Bool) → list_any (λ y. nat_eq y q) pools ≡ c
    → list_any (λ y. nat_eq y q) (cond b (turn.pool ∷ pools) pools) ≡ ((eqb turn.pool q && b) || c)
kept q turn pools true c h = ap (λ b. eqb turn.pool q || b) h ∙ ap (λ b. b || c) (sym (and-true (eqb turn.pool q)))
kept q turn pools false c h = h ∙ ap (λ b. b || c) (sym (and-false (eqb turn.pool q)))

map-cond : (turn : Turn) (turns : List Turn) (b : Bool) → pools_in (cond b (turn ∷ turns) turns) ≡ cond b (turn.pool ∷ pools_in turns) (pools_in turns)
map-cond turn turns true = refl
map-cond turn turns false = refl

any_where : (test : Turn → Bool) (turns : List Turn) (q : ℕ) → list_any (λ y. nat_eq y q) (pools_in (filter test turns)) ≡ list_any (at_and test q) turns
any_where test [] q = refl
any_where test (turn ∷ turns) q =
    ap (list_any (λ y. nat_eq y q)) (map-cond turn (filter test turns) (test turn))
    ∙ kept q turn (pools_in (filter test turns)) (test turn) (list_any (at_and test q) turns) (any_where test turns q)

-- a pool is in the set of those that pass where the test passes at one of its turns
pub contains-where : (test : Turn → Bool) (turns : List Turn) (q : ℕ) → sets.contains (pools_where test turns) q ≡ list_any (at_and test q) turns
contains-where test turns q = sets.contains-from_list_nat (pools_in (filter test turns)) q ∙ any_where test turns q

-- ---- one turn goes on

module _ (test : Turn → Bool) (turns : List Turn) (i pool : ℕ) (next d : Turn) where
  -- it didn't pass, or did, and passes now
  pub where-set : i < length turns → (get_or turns i d).pool ≡ pool → next.pool ≡ pool → test next ≡ true → pools_where test (set turns i next) ≡ sets.insert (pools_where test turns) pool
  where-set low was is passes = sets.same_set nat_cmp_total sets.nat_cmp-IsAntisymmetric _ _ (λ q.
      contains-where test (set turns i next) q
      ∙ any-set (at_and test q) turns i next d low (λ h. here q (eqb next.pool q) (eqb (get_or turns i d).pool q) (ap (λ p. eqb p q) (was ∙ sym is)) (test (get_or turns i d)) h)
      ∙ ap (λ b. b || list_any (at_and test q) turns) (ap (λ b. eqb next.pool q && b) passes ∙ and-true (eqb next.pool q) ∙ ap (λ p. eqb p q) is ∙ nat_eq_equiv.symm pool q)
      ∙ ap (λ b. eqb q pool || b) (sym (contains-where test turns q))
      ∙ sym (contains-insert (pools_where test turns) pool q))
    where
      first : (a b : Bool) → (a && b) ≡ true → a ≡ true
      first true b h = refl
      first false b h = h

      here : (q : ℕ) (a b : Bool) → b ≡ a → (c : Bool) → (b && c) ≡ true → (a && test next) ≡ true
      here q a b same c h = ap (λ x. x && test next) (sym same ∙ first b c h) ∙ passes

  -- it passes as before
  pub where-set_same : (get_or turns i d).pool ≡ next.pool → test next ≡ test (get_or turns i d) → pools_where test (set turns i next) ≡ pools_where test turns
  where-set_same same as_before = sets.same_set nat_cmp_total sets.nat_cmp-IsAntisymmetric _ _ (λ q.
      contains-where test (set turns i next) q
      ∙ any-set_same (at_and test q) turns i next d (ap (λ p. eqb p q && test next) (sym same) ∙ ap (λ b. eqb (get_or turns i d).pool q && b) as_before)
      ∙ sym (contains-where test turns q))

  pub pools-set : (get_or turns i d).pool ≡ next.pool → pools_in (set turns i next) ≡ pools_in turns
  pools-set same = map-set_same (λ turn. turn.pool) turns i next d (sym same)

-- ---- turns that are fresh

pub pools-fresh : (pools : List ℕ) → pools_in (map fresh pools) ≡ pools
pools-fresh [] = refl
pools-fresh (pool ∷ pools) = ap (λ rest. pool ∷ rest) (pools-fresh pools)

pub where-fresh : (test : Turn → Bool) → ((pool : ℕ) → test (fresh pool) ≡ false) → (pools : List ℕ) → pools_where test (map fresh pools) ≡ sets.empty
where-fresh test not pools = ap (λ turns. sets.from_list (pools_in turns)) (none pools)
  where
    none : (pools : List ℕ) → filter test (map fresh pools) ≡ []
    none [] = refl
    none (pool ∷ pools) = ap (λ b. cond b (fresh pool ∷ filter test (map fresh pools)) (filter test (map fresh pools))) (not pool) ∙ none pools

pub fresh-append : (a b c d : List ℕ) → ((([] ++ map fresh a) ++ map fresh b) ++ map fresh c) ++ map fresh d ≡ map fresh (((a ++ b) ++ c) ++ d)
fresh-append a b c d =
    ap (λ turns. (turns ++ map fresh c) ++ map fresh d) (sym (map-append fresh a b))
    ∙ ap (λ turns. turns ++ map fresh d) (sym (map-append fresh (a ++ b) c)) ∙ sym (map-append fresh ((a ++ b) ++ c) d)
