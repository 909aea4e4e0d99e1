-- A claim keeps the rule, and what a call learns by it.
use Rattle.std.proofs.Common.{◌≡◌, ℕ, ◌+◌, ◌<◌, ◌≤◌, ◌≢◌, ◌^◌, ⊎_elim, List, [], ◌∷◌, length, get_or, set, sym, refl, ap, ◌∙◌, subst, arith, false, cond, eq-eqb, ne_eqb, bit_or}
use Rattle.std.specs.List.{sum_by}
use Rattle.std.specs.Int.{bit_at}
use Rattle.std.proofs.lemmas.List.Sums.{get_or-le-sum_by}
use Rattle.std.proofs.lemmas.Nat.Bits.{bit_at-lt}
use Rattle.std.proofs.lemmas.Bool.{both_ways}
use native.Mathlib.Decide.{ℕ_discrete}
use mathlib.Core.Logic.{dite}
use mathlib.Core.Option.{none, some}
use lib.ListN.{get_elem?}
use Rattle.atomic_table.specs.Table.{step, keeps, Allows}
use Rattle.ready_board.specs.Claiming.{Gets, Passes}
use Rattle.ready_board.specs.Rules.{IsKept, SeatFits, Holds}
use Rattle.ready_board.specs.Sets.{IsWithin, Has, preds_of}
use Rattle.ready_board.specs.Steps.{Seated, Claims}
use Rattle.ready_board.specs.Views.{after_claim}
use Rattle.ready_board.specs.declared.view.View.{View}
use Rattle.ready_board.proofs.KeepLemmas.{there, replaced, mine_within}
use Rattle.ready_board.proofs.SetLemmas.{bit_missing, bit_there, missing_below, none_of, or_grows, other_bit, same_bit, same_within, two_cases, within_trans, zero_one}

pub mine_there : (v : View) (system found : ℕ) → bit_at found system ≡ 1 → (after_claim v (2 ^ system) found).mine ≡ v.mine
mine_there v system found is = ap (λ b. cond b v.mine (bit_or v.mine (2 ^ system))) (eq-eqb (bit_or found (2 ^ system)) found (bit_there found system is))

-- where the system was in no one's hands, it is the seat's own now, and nothing else is
pub mine_missing : (v : View) (system found : ℕ) → bit_at found system ≡ 0 → (after_claim v (2 ^ system) found).mine ≡ bit_or v.mine (2 ^ system)
mine_missing v system found is = ap (λ b. cond b v.mine (bit_or v.mine (2 ^ system))) (ne_eqb (bit_or found (2 ^ system)) found (bit_missing found system is))

one_more : (w c v c' : ℕ) → w ≡ 1 → c ≡ 0 → v ≡ 0 → c' ≡ 1 → w + c ≡ v + c'
one_more w c v c' a b d e = omega arith

both_same : (w c v c' : ℕ) → w ≡ v → c' ≡ c → w + c ≡ v + c'
both_same w c v c' a b = omega arith

mine_grows : (v : View) (system found : ℕ) → IsWithin v.mine (after_claim v (2 ^ system) found).mine
mine_grows v system found = ⊎_elim (λ missing. within_trans v.mine (bit_or v.mine (2 ^ system)) (after_claim v (2 ^ system) found).mine (or_grows v.mine (2 ^ system)) (same_within (bit_or v.mine (2 ^ system)) (after_claim v (2 ^ system) found).mine (sym (mine_missing v system found missing))))
    (λ is. same_within v.mine (after_claim v (2 ^ system) found).mine (sym (mine_there v system found is)))
    (two_cases (bit_at found system) (bit_at-lt found system))

no_done : (d c f : ℕ) → d ≤ c → c ≡ 0 → 1 + d ≤ f + 1
no_done d c f a b = omega arith

-- what a seat claims isn't done
claim_unfinished : (C D : ℕ) (v : View) (system j : ℕ) → ((i : ℕ) → bit_at v.mine i + bit_at D i ≤ bit_at v.finished i + 1) → IsWithin D C
    → bit_at (after_claim v (2 ^ system) C).mine j + bit_at D j ≤ bit_at v.finished j + 1
claim_unfinished C D v system j old within = ⊎_elim
    (λ missing. subst (λ m. bit_at m j + bit_at D j ≤ bit_at v.finished j + 1) (sym (mine_missing v system C missing)) (dite (ℕ_discrete j system)
    (λ e. subst (λ k. bit_at (bit_or v.mine (2 ^ system)) k + bit_at D k ≤ bit_at v.finished k + 1) (sym e)
    (subst (λ b. b + bit_at D system ≤ bit_at v.finished system + 1) (sym (same_bit v.mine system)) (no_done (bit_at D system) (bit_at C system) (bit_at v.finished system) (within system) missing)))
    (λ ne. subst (λ b. b + bit_at D j ≤ bit_at v.finished j + 1) (sym (other_bit v.mine system j ne)) (old j))))
    (λ is. subst (λ m. bit_at m j + bit_at D j ≤ bit_at v.finished j + 1) (sym (mine_there v system C is)) (old j))
    (two_cases (bit_at C system) (bit_at-lt C system))

module _ (preds : List ℕ) where
  claim_kept : (C D : ℕ) (views : List View) (id : ℕ) (v : View) (system : ℕ) → v.is_spent ≡ false → IsKept preds C D views → get_elem? views id ≡ some v → system < length preds → IsWithin (preds_of preds system) v.seen_done
      → IsKept preds (bit_or C (2 ^ system)) D (set views id (after_claim v (2 ^ system) C))
  claim_kept C D views id v system awake kept at is_system ready = let grown : (u : View) → SeatFits C D u → SeatFits (bit_or C (2 ^ system)) D u = λ u s. record { seen_claimed = within_trans u.seen_claimed C (bit_or C (2 ^ system)) s.seen_claimed (or_grows C (2 ^ system)); seen_done = s.seen_done; finished_mine = s.finished_mine; finished_done = s.finished_done; unfinished = s.unfinished; spent = s.spent } in let C' : ℕ = bit_or C (2 ^ system) in let w : View = after_claim v (2 ^ system) C in let h = there views id v at in
      let was : (j : ℕ) → j ≢ system → Has C' j → Has C j = λ j ne has. sym (other_bit C system j ne) ∙ has in
      let old = kept.seats id v at in
      replaced preds C D C' D views id v w kept at (record { is_first = refl; is_spent = refl; out = refl }) (within_trans D C C' kept.done_claimed (or_grows C (2 ^ system)))
      (λ j has. dite (ℕ_discrete j system) (λ e. subst (λ k. k < length preds) (sym e) is_system) (λ ne. kept.systems j (was j ne has)))
      (λ j has. dite (ℕ_discrete j system) (λ e. subst (λ k. IsWithin (preds_of preds k) D) (sym e) (within_trans (preds_of preds system) v.seen_done D ready old.seen_done))
      (λ ne. kept.ready j (was j ne has)))
      record {
        seen_claimed = same_within C' C' refl;
        seen_done = old.seen_done;
        finished_mine = within_trans v.finished v.mine w.mine old.finished_mine (mine_grows v system C);
        finished_done = old.finished_done;
        unfinished = λ j. claim_unfinished C D v system j old.unfinished kept.done_claimed;
        spent = λ is. absurd (both_ways v.is_spent awake is);
      }
      (λ seat u ne h. grown u (kept.seats seat u h))
      (λ j. ⊎_elim
      (λ missing. let mine = mine_missing v system C missing in dite (ℕ_discrete j system)
      (λ e. subst (λ k. bit_at w.mine k + bit_at C k ≡ bit_at v.mine k + bit_at C' k) (sym e) (one_more (bit_at w.mine system) (bit_at C system) (bit_at v.mine system) (bit_at C' system)
      (ap (λ n. bit_at n system) mine ∙ same_bit v.mine system) missing
      (let f : View → ℕ = λ u. bit_at u.mine system in none_of (bit_at v.mine system) (sum_by f views) (bit_at C system) (subst (λ u. f u ≤ sum_by f views) h.1 (get_or-le-sum_by f views id v h.0)) (kept.owned system) missing)
      (same_bit C system)))
      (λ ne. both_same (bit_at w.mine j) (bit_at C j) (bit_at v.mine j) (bit_at C' j) (ap (λ n. bit_at n j) mine ∙ other_bit v.mine system j ne) (other_bit C system j ne)))
      (λ is. both_same (bit_at w.mine j) (bit_at C j) (bit_at v.mine j) (bit_at C' j) (ap (λ n. bit_at n j) (mine_there v system C is)) (ap (λ n. bit_at n j) (bit_there C system is)))
      (two_cases (bit_at C system) (bit_at-lt C system)))

  claims_at : (slots id : ℕ) (me : Seated) (system : ℕ) → me.0.is_spent ≡ false → system < length preds → IsWithin (preds_of preds system) me.0.seen_done
      → Allows (Holds preds) slots id me 0 (λ n. bit_or n (2 ^ system)) (Claims (step slots 0 (2 ^ system) 0 none) me)
  claims_at slots id me system awake is_system ready s (C, D, words, kept) _ at _ = let n : ℕ = get_or s.words 0 0 in let is : n ≡ C = ap (λ ws. get_or ws 0 0) words in let bit : ℕ = 2 ^ system in (
    after_claim me.0 bit n,
    keeps,
    tt,
    (
      bit_or C bit,
      D,
      ap (λ ws. set ws 0 (bit_or n bit)) words ∙ ap (λ (x : ℕ). bit_or x bit ∷ D ∷ []) is,
      subst (λ x. IsKept preds (bit_or C bit) D (set s.views id (after_claim me.0 bit x))) (sym is) (claim_kept C D s.views id me.0 system awake kept at is_system ready),
    ),
    record {
      learns = record { view = refl; slots = refl };
      mine = within_trans me.0.mine C n (mine_within preds C D s.views id me.0 kept at) (same_within C n (sym is));
      seen = within_trans me.0.seen_claimed C n ((kept.seats id me.0 at).seen_claimed) (same_within C n (sym is));
    },
  )

  pub claims : (slots id : ℕ) (me : Seated) (system bit : ℕ) → bit ≡ 2 ^ system → me.0.is_spent ≡ false → system < length preds → IsWithin (preds_of preds system) me.0.seen_done
      → Allows (Holds preds) slots id me 0 (λ n. bit_or n bit) (Claims (step slots 0 bit 0 none) me)
  claims slots id me system bit e awake is_system ready = subst (λ b. Allows (Holds preds) slots id me 0 (λ n. bit_or n b) (Claims (step slots 0 b 0 none) me)) (sym e) (claims_at slots id me system awake is_system ready)

pub passed_claim : (preds : List ℕ) (system found : ℕ) (v w : View) → w ≡ after_claim v (2 ^ system) found → IsWithin v.seen_claimed found → bit_at found system ≡ 1 → Passes preds system v w
passed_claim preds system found v w e seen is = subst (Passes preds system v) (sym e) record {
  mine = mine_there v system found is;
  grows = within_trans v.seen_claimed found (bit_or found (2 ^ system)) seen (or_grows found (2 ^ system));
  blocked = λ zero. absurd (zero_one (bit_at (bit_or found (2 ^ system)) system) zero (same_bit found system));
}

pub got_claim : (preds : List ℕ) (system found : ℕ) (v w : View) → w ≡ after_claim v (2 ^ system) found → IsWithin v.mine found → IsWithin (preds_of preds system) v.seen_done → bit_at found system ≡ 0 → Gets preds system v w
got_claim preds system found v w e mine ready is = subst (Gets preds system v) (sym e) record {
  mine = mine_missing v system found is;
  has = ap (λ n. bit_at n system) (mine_missing v system found is) ∙ same_bit v.mine system;
  before = missing_below v.mine found system mine is;
  ready = ready;
}
