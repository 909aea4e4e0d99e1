-- Taking a seat in keeps the rule.
use Rattle.std.proofs.Common.{◌≡◌, ℕ, ◌+◌, ◌-◌, ◌<◌, ◌≤◌, ◌≢◌, ⊎_elim, List, set, sym, refl, ap, ◌∙◌, subst, arith, true, false, cond, max}
use Rattle.std.specs.List.{sum_by}
use Rattle.std.specs.Int.{bit_at}
use Rattle.std.proofs.lemmas.Nat.Bits.{bit_at_or, bit_at-lt, bit_at-zero}
use Rattle.std.proofs.lemmas.List.Sums.{sum_by-set}
use mathlib.Core.Option.{some}
use lib.ListN.{get_elem?}
use Rattle.atomic_table.specs.Table.{Joins}
use Rattle.atomic_table.proofs.Lists.{at_set, set_else}
use Rattle.ready_board.specs.Rules.{IsKept, SeatFits, first_weight, loose_weight, out_weight, Holds}
use Rattle.ready_board.specs.Views.{after_join, spent_view}
use Rattle.ready_board.specs.declared.view.View.{View}
use Rattle.ready_board.proofs.DoneLemmas.{two_of_sum}
use Rattle.ready_board.proofs.KeepLemmas.{there, same_sum, first_awake}
use Rattle.ready_board.proofs.SetLemmas.{nothing_within, or_within, or_within_or}
use Rattle.ready_board.proofs.SplitLemmas.{none_mine}
use Rattle.ready_board.proofs.LastLemmas.{loose_is_out}

max_unfinished : (vm wm vf wf d : ℕ) → vm + d ≤ vf + 1 → wm + d ≤ wf + 1 → max vm wm + d ≤ max vf wf + 1
max_unfinished vm wm vf wf d x y = omega arith

joined_sum : (v w both first_set second_set total c : ℕ) → first_set + v ≡ total + both → second_set + w ≡ first_set + 0 → both ≡ max v w → w + v ≤ total → total ≡ c → c < 2 → second_set ≡ c
joined_sum v w both first_set second_set total c a b d e f g = omega arith

one_gone : (first_set second_set total : ℕ) → second_set + 0 ≡ first_set + 0 → first_set ≡ total → second_set ≡ total
one_gone first_set second_set total a b = omega arith

fewer_out : (loose loose_first loose_second out out_first out_second v_out : ℕ) → loose ≡ out → loose ≡ v_out → loose_first ≡ loose → loose_second + 1 ≡ loose_first + 0 → out_first + v_out ≡ out + (v_out - 1) → out_second + 0 ≡ out_first + 0 → loose_second ≡ out_second
fewer_out loose loose_first loose_second out out_first out_second v_out a b c d e f = omega arith

module _ (preds : List ℕ) where
  join_kept : (C D : ℕ) (views : List View) (id : ℕ) (v : View) (other : ℕ) (w : View) → v.is_first ≡ true → w.is_first ≡ false → w.is_spent ≡ false → IsKept preds C D views → get_elem? views id ≡ some v
      → other ≢ id → get_elem? (set views id (after_join v w)) other ≡ some w → IsKept preds C D (set (set views id (after_join v w)) other spent_view)
  join_kept C D views id v other w first not_it waking kept at ne at_other = let both : View = after_join v w in let z : View = spent_view in let changed : List View = set views id both in
      let at_before : get_elem? views other ≡ some w = sym (set_else views id other both ne) ∙ at_other in
      let old = kept.seats id v at in let its = kept.seats other w at_before in let h = there views id v at in let k = there changed other w at_other in record {
        done_claimed = kept.done_claimed;
        systems = kept.systems;
        ready = kept.ready;
        seats = λ seat u r. ⊎_elim
            (λ t. subst (λ x. SeatFits C D x) t.1 record {
              seen_claimed = nothing_within C;
              seen_done = nothing_within D;
              finished_mine = nothing_within 0;
              finished_done = nothing_within D;
              unfinished = λ i. none_mine (bit_at 0 i) (bit_at D i) (bit_at 0 i) (bit_at-zero i) (bit_at-lt D i);
              spent = λ _. record { seen_claimed = refl; seen_done = refl; mine = refl; finished = refl; other = refl };
            })
            (λ s. ⊎_elim
            (λ t. subst (λ x. SeatFits C D x) t.1 record {
              seen_claimed = or_within v.seen_claimed w.seen_claimed C old.seen_claimed its.seen_claimed;
              seen_done = or_within v.seen_done w.seen_done D old.seen_done its.seen_done;
              finished_mine = or_within_or v.finished w.finished v.mine w.mine old.finished_mine its.finished_mine;
              finished_done = or_within v.finished w.finished D old.finished_done its.finished_done;
              unfinished = λ i. subst (λ (p : ℕ × ℕ). p.0 + bit_at D i ≤ p.1 + 1) (λ j. (sym (bit_at_or v.mine w.mine i) j, sym (bit_at_or v.finished w.finished i) j))
                  (max_unfinished (bit_at v.mine i) (bit_at w.mine i) (bit_at v.finished i) (bit_at w.finished i) (bit_at D i) (old.unfinished i) (its.unfinished i));
              spent = λ is. absurd (first_awake C D v old first is);
            })
            (λ t. kept.seats seat u t.1) (at_set views id seat both u s.1))
            (at_set changed other seat z u r);
        owned = λ system. let f : View → ℕ = λ x. bit_at x.mine system in joined_sum (f v) (f w) (f both) (sum_by f changed) (sum_by f (set changed other z)) (sum_by f views) (bit_at C system)
            (ap (λ n. sum_by f changed + n) (sym (ap f h.1)) ∙ sum_by-set f views id both v h.0)
            (ap (λ n. sum_by f (set changed other z) + n) (sym (ap f k.1)) ∙ sum_by-set f changed other z w k.0 ∙ ap (λ n. sum_by f changed + n) (bit_at-zero system))
            (bit_at_or v.mine w.mine system)
            (two_of_sum f views id other v w z (bit_at-zero system) ne at at_before)
            (kept.owned system) (bit_at-lt C system);
        one_first = one_gone (sum_by first_weight changed) (sum_by first_weight (set changed other z)) 1
            (ap (λ n. sum_by first_weight (set changed other z) + n) (sym (ap first_weight k.1 ∙ ap (λ b. cond b 1 0) not_it)) ∙ sum_by-set first_weight changed other z w k.0)
            (same_sum first_weight views id v both at refl ∙ kept.one_first);
        counted = fewer_out (sum_by loose_weight views) (sum_by loose_weight changed) (sum_by loose_weight (set changed other z)) (sum_by out_weight views) (sum_by out_weight changed) (sum_by out_weight (set changed other z)) v.out
            kept.counted (loose_is_out preds C D views id v first kept at) (same_sum loose_weight views id v both at refl)
            (let is : loose_weight w ≡ 1 = ap (λ b. cond b 0 (cond w.is_spent 0 1)) not_it ∙ ap (λ b. cond b 0 1) waking in
            ap (λ n. sum_by loose_weight (set changed other z) + n) (sym (ap loose_weight k.1 ∙ is)) ∙ sum_by-set loose_weight changed other z w k.0)
            (let is : out_weight v ≡ v.out = ap (λ b. cond b v.out 0) first in let is_now : out_weight both ≡ v.out - 1 = ap (λ b. cond b (v.out - 1) 0) first in
            ap (λ n. sum_by out_weight changed + n) (sym (ap out_weight h.1 ∙ is)) ∙ sum_by-set out_weight views id both v h.0 ∙ ap (λ n. sum_by out_weight views + n) is_now)
            (let is : out_weight w ≡ 0 = ap (λ b. cond b w.out 0) not_it in
            ap (λ n. sum_by out_weight (set changed other z) + n) (sym (ap out_weight k.1 ∙ is)) ∙ sum_by-set out_weight changed other z w k.0);
      }

  pub joins : (id : ℕ) (v : View) (other : ℕ) (w : View) → v.is_first ≡ true → w.is_first ≡ false → w.is_spent ≡ false → Joins (Holds preds) id v other w (after_join v w) spent_view
  joins id v other w first not_it waking s (C, D, words, kept) at ne at_other = (C, D, words, join_kept C D s.views id v other w first not_it waking kept at ne at_other)
