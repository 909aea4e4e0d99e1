-- One seat's step keeps the rule: the loads, and what each other step has to show.
use Rattle.std.proofs.Common.{◌≡◌, ℕ, zero, suc, ◌+◌, ◌<◌, ◌≤◌, ◌≢◌, ⊎_elim, List, [], ◌∷◌, length, get_or, set, sym, refl, ap, ◌∙◌, subst, arith, true, false, cond}
use Rattle.std.specs.List.{sum_by}
use Rattle.std.specs.Int.{bit_at}
use Rattle.std.proofs.lemmas.List.Sums.{sum_by-set, get_or-le-sum_by}
use Rattle.std.proofs.lemmas.Bool.{both_ways}
use mathlib.Core.Option.{none, some, some-injective, some-ne-none}
use lib.ListN.{get_elem?}
use Rattle.atomic_table.specs.Table.{step, keeps, Allows}
use Rattle.atomic_table.proofs.Lists.{at_set}
use Rattle.ready_board.specs.Sets.{IsWithin, Has, preds_of}
use Rattle.ready_board.specs.Rules.{IsKept, SeatFits, first_weight, loose_weight, out_weight, Holds}
use Rattle.ready_board.specs.Steps.{Seated, LoadsClaimed, LoadsDone}
use Rattle.ready_board.specs.Views.{after_claimed_load, after_done_load}
use Rattle.ready_board.specs.declared.view.View.{View}
use Rattle.ready_board.proofs.SetLemmas.{same_within, within_trans}

pub balance : (new old mine_old mine_new before after : ℕ) → new + mine_old ≡ old + mine_new → old ≡ before → mine_new + before ≡ mine_old + after → new ≡ after
balance new old mine_old mine_new before after a b c = omega arith

pub there : {A : Type 0} (l : List A) (i : ℕ) (a : A) → get_elem? l i ≡ some a → (i < length l) × (get_or l i a ≡ a)
there [] i a e = absurd (some-ne-none a (sym e))
there (x ∷ xs) zero a e = (omega arith, some-injective x a e)
there (x ∷ xs) (suc i) a e = let h = there xs i a e in (omega (arith, h.0), h.1)

balance_same : (new old before after : ℕ) → new + before ≡ old + after → after ≡ before → new ≡ old
balance_same new old before after a b = omega arith

-- a sum over the seats stays where the changed seat weighs the same
pub same_sum : (f : View → ℕ) (views : List View) (id : ℕ) (v w : View) → get_elem? views id ≡ some v → f w ≡ f v → sum_by f (set views id w) ≡ sum_by f views
same_sum f views id v w at e = let h = there views id v at in
    balance_same (sum_by f (set views id w)) (sum_by f views) (f v) (f w) (ap (λ n. sum_by f (set views id w) + n) (sym (ap f h.1)) ∙ sum_by-set f views id w v h.0) e

-- the parts of a view that tell whose it is
pub record SameRole (v w : View) : Type 0 where
  pub is_first : w.is_first ≡ v.is_first
  pub is_spent : w.is_spent ≡ v.is_spent
  pub out : w.out ≡ v.out

first_same : (v w : View) → SameRole v w → first_weight w ≡ first_weight v
first_same v w r = ap (λ b. cond b 1 0) r.is_first

loose_same : (v w : View) → SameRole v w → loose_weight w ≡ loose_weight v
loose_same v w r = ap (λ b. cond b 0 (cond w.is_spent 0 1)) r.is_first ∙ ap (λ b. cond v.is_first 0 (cond b 0 1)) r.is_spent

out_same : (v w : View) → SameRole v w → out_weight w ≡ out_weight v
out_same v w r = ap (λ b. cond b w.out 0) r.is_first ∙ ap (λ n. cond v.is_first n 0) r.out

-- the first seat is never spent
pub first_awake : (C D : ℕ) (v : View) → SeatFits C D v → v.is_first ≡ true → v.is_spent ≡ true → ⊥
first_awake C D v fits first is = both_ways v.is_first (fits.spent is).other first

pub le_by : (x total c : ℕ) → x ≤ total → total ≡ c → x ≤ c
le_by x total c a b = omega arith

module _ (preds : List ℕ) where
  -- a seat's own systems are claimed
  pub mine_within : (C D : ℕ) (views : List View) (id : ℕ) (v : View) → IsKept preds C D views → get_elem? views id ≡ some v → IsWithin v.mine C
  mine_within C D views id v kept at system = let h = there views id v at in let f : View → ℕ = λ u. bit_at u.mine system in
      le_by (bit_at v.mine system) (sum_by f views) (bit_at C system) (subst (λ u. f u ≤ sum_by f views) h.1 (get_or-le-sum_by f views id v h.0)) (kept.owned system)

  -- one seat's view changes, and the two sets may grow
  pub replaced : (C D C' D' : ℕ) (views : List View) (id : ℕ) (v w : View) → IsKept preds C D views → get_elem? views id ≡ some v → SameRole v w
      → IsWithin D' C' → ((system : ℕ) → Has C' system → system < length preds) → ((system : ℕ) → Has C' system → IsWithin (preds_of preds system) D')
      → SeatFits C' D' w → ((seat : ℕ) (u : View) → seat ≢ id → get_elem? views seat ≡ some u → SeatFits C' D' u)
      → ((system : ℕ) → bit_at w.mine system + bit_at C system ≡ bit_at v.mine system + bit_at C' system)
      → IsKept preds C' D' (set views id w)
  replaced C D C' D' views id v w kept at role done_claimed systems ready fits others mine = record {
    done_claimed = done_claimed;
    systems = systems;
    ready = ready;
    seats = λ seat u h. ⊎_elim (λ t. subst (λ x. SeatFits C' D' x) t.1 fits) (λ t. others seat u t.0 t.1) (at_set views id seat w u h);
    owned = λ system. let h = there views id v at in let f : View → ℕ = λ u. bit_at u.mine system in
        balance (sum_by f (set views id w)) (sum_by f views) (bit_at v.mine system) (bit_at w.mine system) (bit_at C system) (bit_at C' system)
        (ap (λ n. sum_by f (set views id w) + n) (sym (ap f h.1)) ∙ sum_by-set f views id w v h.0) (kept.owned system) (mine system);
    one_first = same_sum first_weight views id v w at (first_same v w role) ∙ kept.one_first;
    counted = same_sum loose_weight views id v w at (loose_same v w role) ∙ kept.counted ∙ sym (same_sum out_weight views id v w at (out_same v w role));
  }

  -- nothing but what one seat has seen changes
  pub looked : (C D : ℕ) (views : List View) (id : ℕ) (v w : View) → v.is_spent ≡ false → IsKept preds C D views → get_elem? views id ≡ some v → SameRole v w
      → IsWithin w.seen_claimed C → IsWithin w.seen_done D → w.mine ≡ v.mine → w.finished ≡ v.finished → IsKept preds C D (set views id w)
  looked C D views id v w awake kept at role sees_claimed sees_done mine finished = let old = kept.seats id v at in replaced C D C D views id v w kept at role kept.done_claimed kept.systems kept.ready
      record {
        seen_claimed = sees_claimed;
        seen_done = sees_done;
        finished_mine = within_trans w.finished v.finished w.mine (same_within w.finished v.finished finished) (within_trans v.finished v.mine w.mine old.finished_mine (same_within v.mine w.mine (sym mine)));
        finished_done = within_trans w.finished v.finished D (same_within w.finished v.finished finished) old.finished_done;
        unfinished = λ i. subst (λ (p : ℕ × ℕ). bit_at p.0 i + bit_at D i ≤ bit_at p.1 i + 1) (λ k. (sym mine k, sym finished k)) (old.unfinished i);
        spent = λ is. absurd (both_ways w.is_spent (role.is_spent ∙ awake) is);
      }
      (λ seat u ne h. kept.seats seat u h) (λ i. ap (λ n. bit_at n i + bit_at C i) mine)

  pub loads_claimed : (slots id : ℕ) (me : Seated) → me.0.is_spent ≡ false → Allows (Holds preds) slots id me 0 (λ n. n) (LoadsClaimed (step slots 0 0 0 none) me)
  loads_claimed slots id me awake s (C, D, words, kept) _ at _ = let n : ℕ = get_or s.words 0 0 in let is : n ≡ C = ap (λ ws. get_or ws 0 0) words in (
    after_claimed_load me.0 n,
    keeps,
    tt,
    (C, D, ap (λ ws. set ws 0 n) words ∙ ap (λ (x : ℕ). x ∷ D ∷ []) is, looked C D s.views id me.0 (after_claimed_load me.0 n) awake kept at (record { is_first = refl; is_spent = refl; out = refl }) (same_within n C is) (kept.seats id me.0 at).seen_done refl refl),
    record { view = refl; slots = refl },
  )

  pub loads_done : (slots id : ℕ) (me : Seated) → me.0.is_spent ≡ false → Allows (Holds preds) slots id me 1 (λ n. n) (LoadsDone (step slots 1 0 0 none) me)
  loads_done slots id me awake s (C, D, words, kept) _ at _ = let n : ℕ = get_or s.words 1 0 in let is : n ≡ D = ap (λ ws. get_or ws 1 0) words in (
    after_done_load me.0 n,
    keeps,
    tt,
    (C, D, ap (λ ws. set ws 1 n) words ∙ ap (λ (x : ℕ). C ∷ x ∷ []) is, looked C D s.views id me.0 (after_done_load me.0 n) awake kept at (record { is_first = refl; is_spent = refl; out = refl }) (kept.seats id me.0 at).seen_claimed (same_within n D is) refl refl),
    record { view = refl; slots = refl },
  )
