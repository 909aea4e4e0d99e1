-- Each claimed system is just one seat's own.
use Rattle.std.proofs.Common.{◌≡◌, ℕ, zero, suc, ◌+◌, ◌<◌, ◌≤◌, ⊎_elim, List, [], ◌∷◌, refl, ◌∙◌, arith}
use Rattle.std.specs.Int.{bit_at}
use Rattle.std.proofs.lemmas.Nat.Bits.{bit_at-lt}
use Rattle.std.proofs.lemmas.List.Sums.{sum_by-cons}
use mathlib.Core.Option.{some}
use lib.ListN.{get_elem?}
use Rattle.ready_board.specs.Rules.{IsKept, owners}
use Rattle.ready_board.specs.Sets.{Has}
use Rattle.ready_board.specs.declared.view.View.{View}
use Rattle.ready_board.proofs.KeepLemmas.{mine_within}
use Rattle.ready_board.proofs.SetLemmas.{two_cases}

rest_is_one : (first rest total : ℕ) → total ≡ first + rest → total ≡ 1 → first ≡ 0 → rest ≡ 1
rest_is_one first rest total a b c = omega arith

has_at_least : (a b : ℕ) → a ≡ 1 → a ≤ b → b < 2 → b ≡ 1
has_at_least a b x y z = omega arith

-- where the owners of a system are one, there is one
pub some_owner : (system : ℕ) (views : List View) → owners system views ≡ 1 → (seat : ℕ) × (view : View) × (get_elem? views seat ≡ some view) × Has view.mine system
some_owner system [] one = absurd (omega (arith, one))
some_owner system (first ∷ rest) one = ⊎_elim
    (λ none. let later = some_owner system rest (rest_is_one (bit_at first.mine system) (owners system rest) (owners system (first ∷ rest)) (sum_by-cons (λ view. bit_at view.mine system) first rest) one none) in (suc later.0, later.1, later.2, later.3))
    (λ its. (zero, first, refl, its))
    (two_cases (bit_at first.mine system) (bit_at-lt first.mine system))

module _ (preds : List ℕ) (claimed done : ℕ) (views : List View) (kept : IsKept preds claimed done views) where
  -- what is a seat's own is claimed
  pub claimed_mine : (seat system : ℕ) (view : View) → get_elem? views seat ≡ some view → Has view.mine system → Has claimed system
  claimed_mine seat system view at has = has_at_least (bit_at view.mine system) (bit_at claimed system) has (mine_within preds claimed done views seat view kept at system) (bit_at-lt claimed system)

  -- what is claimed is some seat's own
  pub claimed_owner : (system : ℕ) → Has claimed system → (seat : ℕ) × (view : View) × (get_elem? views seat ≡ some view) × Has view.mine system
  claimed_owner system has = some_owner system views (kept.owned system ∙ has)
