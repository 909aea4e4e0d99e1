-- Cutting a seat off the first one keeps the rule.
use Rattle.std.proofs.Common.{◌≡◌, ℕ, ◌+◌, ◌<◌, ◌≤◌, ⊎_elim, List, [], ◌∷◌, ◌++◌, set, sym, refl, ap, ◌∙◌, subst, arith, true, cond}
use Rattle.std.specs.List.{sum_by}
use Rattle.std.specs.Int.{bit_at}
use Rattle.std.proofs.lemmas.Bool.{both_ways}
use Rattle.std.proofs.lemmas.Nat.Bits.{bit_at-lt, bit_at-zero}
use Rattle.std.proofs.lemmas.List.Sums.{sum_by-set, sum_by_push}
use mathlib.Core.Option.{some}
use lib.ListN.{get_elem?}
use Rattle.atomic_table.specs.Table.{Splits}
use Rattle.atomic_table.proofs.Lists.{at_set, at_snoc}
use Rattle.ready_board.specs.Rules.{IsKept, SeatFits, first_weight, loose_weight, out_weight, Holds}
use Rattle.ready_board.specs.Views.{after_split, newcomer}
use Rattle.ready_board.specs.declared.view.View.{View}
use Rattle.ready_board.proofs.KeepLemmas.{there, same_sum, first_awake}
use Rattle.ready_board.proofs.SetLemmas.{nothing_within}

plus_none : (a b c : ℕ) → a ≡ b → c ≡ 0 → a + c ≡ b
plus_none a b c x y = omega arith

one_more_out : (loose loose_after out out_after v_out : ℕ) → loose ≡ out → loose_after ≡ loose → out_after + v_out ≡ out + (v_out + 1) → loose_after + 1 ≡ out_after + 0
one_more_out loose loose_after out out_after v_out a b c = omega arith

-- a seat with nothing fits
pub none_mine : (m d f : ℕ) → m ≡ 0 → d < 2 → m + d ≤ f + 1
none_mine m d f e h = omega arith

module _ (preds : List ℕ) where
  split_kept : (C D : ℕ) (views : List View) (id : ℕ) (v : View) → v.is_first ≡ true → IsKept preds C D views → get_elem? views id ≡ some v
      → IsKept preds C D (set views id (after_split v) ++ newcomer v ∷ [])
  split_kept C D views id v first kept at = let old = kept.seats id v at in let h = there views id v at in let w : View = after_split v in let n : View = newcomer v in let changed : List View = set views id w in record {
    done_claimed = kept.done_claimed;
    systems = kept.systems;
    ready = kept.ready;
    seats = λ seat u k. ⊎_elim
        (λ there_before. ⊎_elim
        (λ t. subst (λ x. SeatFits C D x) t.1 record { seen_claimed = old.seen_claimed; seen_done = old.seen_done; finished_mine = old.finished_mine; finished_done = old.finished_done; unfinished = old.unfinished; spent = λ is. absurd (first_awake C D v old first is) })
        (λ t. kept.seats seat u t.1) (at_set views id seat w u there_before))
        (λ new. subst (λ x. SeatFits C D x) new record {
          seen_claimed = old.seen_claimed;
          seen_done = old.seen_done;
          finished_mine = nothing_within 0;
          finished_done = nothing_within D;
          unfinished = λ i. none_mine (bit_at 0 i) (bit_at D i) (bit_at 0 i) (bit_at-zero i) (bit_at-lt D i);
          spent = λ is. absurd (both_ways n.is_spent refl is);
        }) (at_snoc changed n u seat k);
    owned = λ system. let f : View → ℕ = λ x. bit_at x.mine system in sum_by_push f changed n ∙ plus_none (sum_by f changed) (bit_at C system) (f n) (same_sum f views id v w at refl ∙ kept.owned system) (bit_at-zero system);
    one_first = sum_by_push first_weight changed n ∙ plus_none (sum_by first_weight changed) 1 0 (same_sum first_weight views id v w at refl ∙ kept.one_first) refl;
    counted = sum_by_push loose_weight changed n ∙ one_more_out (sum_by loose_weight views) (sum_by loose_weight changed) (sum_by out_weight views) (sum_by out_weight changed) v.out kept.counted (same_sum loose_weight views id v w at refl)
        (let is : out_weight v ≡ v.out = ap (λ b. cond b v.out 0) first in let is_now : out_weight w ≡ v.out + 1 = ap (λ b. cond b (v.out + 1) 0) first in
        ap (λ x. sum_by out_weight changed + x) (sym (ap out_weight h.1 ∙ is)) ∙ sum_by-set out_weight views id w v h.0 ∙ ap (λ x. sum_by out_weight views + x) is_now)
        ∙ sym (sum_by_push out_weight changed n);
  }

  pub splits : (id : ℕ) (v : View) → v.is_first ≡ true → Splits (Holds preds) id v (after_split v) (newcomer v)
  splits id v first s (C, D, words, kept) at = (C, D, words, split_kept C D s.views id v first kept at)
