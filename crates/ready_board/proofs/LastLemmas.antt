-- With no seat out, the first one has all that is claimed.
use Rattle.std.proofs.Common.{◌≡◌, ℕ, suc, ◌+◌, ◌≤◌, ⊎_elim, List, [], ◌∷◌, get_or, set, sym, refl, ap, ◌∙◌, subst, arith, Bool, true, false, cond, zero-add}
use Rattle.std.specs.List.{sum_by}
use Rattle.std.specs.Int.{bit_at}
use Rattle.std.proofs.lemmas.Nat.Bits.{bit_at-zero}
use Rattle.std.proofs.lemmas.List.Sums.{sum_by-set, sum_by-cons, get_or-le-sum_by}
use mathlib.Core.Option.{none, some}
use lib.ListN.{get_elem?}
use Rattle.atomic_table.specs.Table.{step, keeps, Allows}
use Rattle.atomic_table.proofs.Lists.{at_set}
use Rattle.ready_board.specs.Rules.{IsKept, SeatFits, first_weight, loose_weight, out_weight, Holds}
use Rattle.ready_board.specs.Sets.{IsWithin}
use Rattle.ready_board.specs.Steps.{Seated, LoadsLast, LoadsLastDone}
use Rattle.ready_board.specs.Views.{spent_view, after_claimed_load, after_done_load}
use Rattle.ready_board.specs.declared.view.View.{View}
use Rattle.ready_board.proofs.KeepLemmas.{there, looked, first_awake}
use Rattle.ready_board.proofs.SetLemmas.{same_within, within_trans}

zero_parts : (a b : ℕ) → a + b ≡ 0 → (a ≡ 0) × (b ≡ 0)
zero_parts a b e = (omega arith, omega arith)

-- where the weights add up to nothing, so do weights that are nothing wherever those are
zero_sum : (f g : View → ℕ) (views : List View) → ((x : View) → f x ≡ 0 → g x ≡ 0) → sum_by f views ≡ 0 → sum_by g views ≡ 0
zero_sum f g [] weaker e = refl
zero_sum f g (x ∷ xs) weaker e = let parts = zero_parts (f x) (sum_by f xs) (sym (sum_by-cons f x xs) ∙ e) in
    sum_by-cons g x xs ∙ ap (λ n. n + sum_by g xs) (weaker x parts.0) ∙ zero-add (sum_by g xs) ∙ zero_sum f g xs weaker parts.1

not_first : (v : View) → first_weight v ≡ 0 → v.is_first ≡ false
not_first v e = first_by v.is_first e
  where
    first_by : (b : Bool) → ◌≡◌ {A = ℕ} (cond b 1 0) 0 → b ≡ false
    first_by true e = absurd (omega (arith, e))
    first_by false e = refl

only_out : (v : View) → first_weight v ≡ 0 → out_weight v ≡ 0
only_out v e = ap (λ b. cond b v.out 0) (not_first v e)

rest_is_zero : (after total : ℕ) → after + 1 ≡ total + 0 → total ≡ 1 → after ≡ 0
rest_is_zero after total a b = omega arith

only_its : (after total out : ℕ) → after + out ≡ total + 0 → after ≡ 0 → total ≡ out
only_its after total out a b = omega arith

module _ (preds : List ℕ) where
  -- the seats that are out are as many as the first seat counts
  pub loose_is_out : (C D : ℕ) (views : List View) (id : ℕ) (v : View) → v.is_first ≡ true → IsKept preds C D views → get_elem? views id ≡ some v → sum_by loose_weight views ≡ v.out
  loose_is_out C D views id v first kept at = let h = there views id v at in let z : View = spent_view in let without : List View = set views id z in
      let one : first_weight v ≡ 1 = ap (λ b. cond b 1 0) first in let out : out_weight v ≡ v.out = ap (λ b. cond b v.out 0) first in
      let none_first : sum_by first_weight without ≡ 0 = rest_is_zero (sum_by first_weight without) (sum_by first_weight views) (ap (λ n. sum_by first_weight without + n) (sym (ap first_weight h.1 ∙ one)) ∙ sum_by-set first_weight views id z v h.0) kept.one_first in
      kept.counted ∙ only_its (sum_by out_weight without) (sum_by out_weight views) v.out (ap (λ n. sum_by out_weight without + n) (sym (ap out_weight h.1 ∙ out)) ∙ sum_by-set out_weight views id z v h.0)
      (zero_sum first_weight out_weight without only_out none_first)

loose_one : (v : View) → v.is_first ≡ false → loose_weight v ≡ 0 → v.is_spent ≡ true
loose_one v first e = let f : ◌≡◌ {A = ℕ} (cond v.is_spent 0 1) 0 = sym (ap (λ b. cond b 0 (cond v.is_spent 0 1)) first) ∙ e in spent_by v.is_spent f
  where
    spent_by : (b : Bool) → ◌≡◌ {A = ℕ} (cond b 0 1) 0 → b ≡ true
    spent_by true e = refl
    spent_by false e = absurd (omega (arith, e))

within_zero : (x total : ℕ) → x ≤ total → total ≡ 0 → x ≡ 0
within_zero x total a b = omega arith

done_finished : (d c m f : ℕ) → d ≤ c → c ≤ m → m + d ≤ f + 1 → d ≤ f
done_finished d c m f a b e = omega arith

all_its : (after total mine : ℕ) → after + mine ≡ total + 0 → after ≡ 0 → total ≤ mine
all_its after total mine a b = omega arith

sum_zero : (f : View → ℕ) (views : List View) → ((seat : ℕ) (u : View) → get_elem? views seat ≡ some u → f u ≡ 0) → sum_by f views ≡ 0
sum_zero f [] each = refl
sum_zero f (x ∷ xs) each = sum_by-cons f x xs ∙ ap (λ n. n + sum_by f xs) (each 0 x refl) ∙ zero-add (sum_by f xs) ∙ sum_zero f xs (λ seat u h. each (suc seat) u h)

awake_by : (b : Bool) → (b ≡ true → ⊥) → b ≡ false
awake_by true never = absurd (never refl)
awake_by false never = refl

awake : (C D : ℕ) (v : View) → SeatFits C D v → v.is_first ≡ true → v.is_spent ≡ false
awake C D v fits first = awake_by v.is_spent (first_awake C D v fits first)

module _ (preds : List ℕ) where
  -- with no seat out, all that is claimed is the first seat's own
  pub all_mine : (C D : ℕ) (views : List View) (id : ℕ) (v : View) → v.is_first ≡ true → v.out ≡ 0 → IsKept preds C D views → get_elem? views id ≡ some v → IsWithin C v.mine
  all_mine C D views id v first none_out kept at system = let h = there views id v at in let z : View = spent_view in let without : List View = set views id z in let f : View → ℕ = λ x. bit_at x.mine system in
      let nothing_loose : sum_by loose_weight views ≡ 0 = loose_is_out preds C D views id v first kept at ∙ none_out in
      let one : first_weight v ≡ 1 = ap (λ b. cond b 1 0) first in
      let none_first : sum_by first_weight without ≡ 0 = rest_is_zero (sum_by first_weight without) (sum_by first_weight views) (ap (λ n. sum_by first_weight without + n) (sym (ap first_weight h.1 ∙ one)) ∙ sum_by-set first_weight views id z v h.0) kept.one_first in
      let others : sum_by f without ≡ 0 = sum_zero f without (λ seat u k. ⊎_elim
      (λ t. sym (ap f t.1) ∙ bit_at-zero system)
      (λ t. let w = there without seat u k in let x = there views seat u t.1 in
      let not_it : u.is_first ≡ false = not_first u (within_zero (first_weight u) (sum_by first_weight without) (subst (λ y. first_weight y ≤ sum_by first_weight without) w.1 (get_or-le-sum_by first_weight without seat u w.0)) none_first) in
      let not_loose : loose_weight u ≡ 0 = within_zero (loose_weight u) (sum_by loose_weight views) (subst (λ y. loose_weight y ≤ sum_by loose_weight views) x.1 (get_or-le-sum_by loose_weight views seat u x.0)) nothing_loose in
      ap (λ n. bit_at n system) ((kept.seats seat u t.1).spent (loose_one u not_it not_loose)).mine ∙ bit_at-zero system)
      (at_set views id seat z u k)) in
      subst (λ c. c ≤ bit_at v.mine system) (kept.owned system)
      (all_its (sum_by f without) (sum_by f views) (f v) (ap (λ n. sum_by f without + n) (sym (ap f h.1)) ∙ sum_by-set f views id z v h.0 ∙ ap (λ n. sum_by f views + n) (bit_at-zero system)) others)

  pub loads_last : (slots id : ℕ) (me : Seated) → me.0.is_first ≡ true → me.0.out ≡ 0 → Allows (Holds preds) slots id me 0 (λ n. n) (LoadsLast (step slots 0 0 0 none) me)
  loads_last slots id me first none_out s (C, D, words, kept) _ at _ = let n : ℕ = get_or s.words 0 0 in let is : n ≡ C = ap (λ ws. get_or ws 0 0) words in (
    after_claimed_load me.0 n,
    keeps,
    tt,
    (C, D, ap (λ ws. set ws 0 n) words ∙ ap (λ (x : ℕ). x ∷ D ∷ []) is, looked preds C D s.views id me.0 (after_claimed_load me.0 n) (awake C D me.0 (kept.seats id me.0 at) first) kept at (record { is_first = refl; is_spent = refl; out = refl }) (same_within n C is) (kept.seats id me.0 at).seen_done refl refl),
    record {
      learns = record { view = refl; slots = refl };
      mine = within_trans me.0.seen_claimed C me.0.mine (kept.seats id me.0 at).seen_claimed (all_mine C D s.views id me.0 first none_out kept at);
    },
  )

  pub loads_last_done : (slots id : ℕ) (me : Seated) → me.0.is_first ≡ true → me.0.out ≡ 0 → Allows (Holds preds) slots id me 1 (λ n. n) (LoadsLastDone (step slots 1 0 0 none) me)
  loads_last_done slots id me first none_out s (C, D, words, kept) _ at _ = let n : ℕ = get_or s.words 1 0 in let is : n ≡ D = ap (λ ws. get_or ws 1 0) words in let old = kept.seats id me.0 at in let all = all_mine C D s.views id me.0 first none_out kept at in (
    after_done_load me.0 n,
    keeps,
    tt,
    (C, D, ap (λ ws. set ws 1 n) words ∙ ap (λ (x : ℕ). C ∷ x ∷ []) is, looked preds C D s.views id me.0 (after_done_load me.0 n) (awake C D me.0 (kept.seats id me.0 at) first) kept at (record { is_first = refl; is_spent = refl; out = refl }) old.seen_claimed (same_within n D is) refl refl),
    record {
      learns = record { view = refl; slots = refl };
      finished = within_trans n D me.0.finished (same_within n D is) (λ i. done_finished (bit_at D i) (bit_at C i) (bit_at me.0.mine i) (bit_at me.0.finished i) (kept.done_claimed i) (all i) (old.unfinished i));
      done = within_trans me.0.finished D n old.finished_done (same_within D n (sym is));
    },
  )
