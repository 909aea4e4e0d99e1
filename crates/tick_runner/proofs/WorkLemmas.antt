-- What workers have done.
use Rattle.std.proofs.Common.{◌≡◌, ℕ, zero, suc, [], ◌∷◌, ◌++◌, ◌+◌, ◌<◌, ◌≤◌, ◌⊎◌, inl, inr, ⊎_elim, max, ◌-◌, ◌^◌, Bool, true, false, List, Option, Some, length, set, sym, refl, ap, ◌∙◌, subst, arith, bit_or, slice_get, replicate}
use Rattle.std.specs.Int.{bit_at}
use Rattle.std.proofs.lemmas.Bool.{false≢true}
use Rattle.std.proofs.lemmas.Nat.Bits.{bit_at_or, bit_at_ones, bit_at-lt, bit_at-zero}
use Rattle.std.proofs.lemmas.List.{length-replicate, length-set, length-append}
use Rattle.std.proofs.lemmas.Option.{slice_get_within, same_Some, none-some}
use native.Mathlib.Decide.{ℕ_discrete}
use mathlib.Core.Logic.{dite}
use Rattle.entity_id.proofs.ListLemmas.{slice_get-set_other, slice_get-set_same}
use Rattle.system_api.specs.Emissions.{Emissions}
use Rattle.ready_board.specs.Sets.{IsWithin}
use Rattle.ready_board.specs.Views.{after_done, after_join}
use Rattle.ready_board.specs.declared.view.View.{View}
use Rattle.ready_board.proofs.SetLemmas.{same_bit, other_bit, two_cases}
use Rattle.ready_board.specs.Seats.{view_of}
use Rattle.ready_board.specs.declared.board.Board.{Board}
use Rattle.tick_runner.specs.declared.worker.Worker.{Worker}
use Rattle.tick_runner.specs.Working.{IsAtWork, IsIdle, IsWorked}

no_one : (n : ℕ) → n ≡ 0 → n ≡ 1 → ⊥
no_one n a b = omega arith

each_flag : (xs : List Bool) (i : ℕ) → i < length xs → (slice_get xs i ≡ Some false) ⊎ (slice_get xs i ≡ Some true)
each_flag [] i h = absurd (omega (arith, h))
each_flag (false ∷ xs) zero h = inl refl
each_flag (true ∷ xs) zero h = inr refl
each_flag (x ∷ xs) (suc i) h = each_flag xs i (omega (arith, h))

not_both : (o : Option Bool) → o ≡ Some true → o ≡ Some false → ⊥
not_both o a b = false≢true (same_Some false true (sym b ∙ a))

module _ (IsRight : ℕ → Emissions → Type 0) (count : ℕ) where
  -- one system more, claimed, run and done
  pub worked_more : (v v' w : View) (system : ℕ) (b : Emissions) (flags : List Bool) (buffers : List Emissions) → IsWorked IsRight count v flags buffers
      → v'.mine ≡ bit_or v.mine (2 ^ system) → v'.finished ≡ v.finished → w ≡ after_done v' (2 ^ system) → system < count → IsRight system b
      → IsWorked IsRight count w (set flags system true) (set buffers system b)
  worked_more v v' w system b flags buffers worked mine finished last is_system is_right =
      let bit : ℕ = 2 ^ system in
      let now : w.mine ≡ bit_or v.mine bit = ap (λ x. x.mine) last ∙ mine in
      let in_flags : system < length flags = subst (λ n. system < n) (sym worked.flags) is_system in
      let in_buffers : system < length buffers = subst (λ n. system < n) (sym worked.places) is_system in
      record {
        flags = length-set flags system true ∙ worked.flags;
        places = length-set buffers system b ∙ worked.places;
        finished = ap (λ x. x.finished) last ∙ ap (λ n. bit_or n bit) (finished ∙ worked.finished) ∙ sym now;
        mine = λ j has. dite (ℕ_discrete j system)
            (λ e. subst (λ k. slice_get (set flags system true) k ≡ Some true) (sym e) (slice_get-set_same flags system true in_flags))
            (λ ne. slice_get-set_other flags system j true ne ∙ worked.mine j (sym (other_bit v.mine system j ne) ∙ sym (ap (λ n. bit_at n j) now) ∙ has));
        run = λ j is. dite (ℕ_discrete j system)
            (λ e. subst (λ k. bit_at w.mine k ≡ 1) (sym e) (ap (λ n. bit_at n system) now ∙ same_bit v.mine system))
            (λ ne. ap (λ n. bit_at n j) now ∙ other_bit v.mine system j ne ∙ worked.run j (sym (slice_get-set_other flags system j true ne) ∙ is));
        right = λ j c is at. dite (ℕ_discrete j system)
            (λ e. subst (λ k. IsRight k c) (sym e) (subst (IsRight system) (same_Some b c (sym (slice_get-set_same buffers system b in_buffers) ∙ ap (slice_get (set buffers system b)) (sym e) ∙ at)) is_right))
            (λ ne. worked.right j c (sym (slice_get-set_other flags system j true ne) ∙ is) (sym (slice_get-set_other buffers system j b ne) ∙ at));
      }

or_parts : (a b c : ℕ) → c ≡ max a b → a < 2 → c ≡ 1 → (a ≡ 0) ⊎ (a ≡ 1) → (a ≡ 1) ⊎ (b ≡ 1)
or_parts a b c e h one (inl z) = inr (omega arith)
or_parts a b c e h one (inr o) = inl o

or_left : (a b c : ℕ) → c ≡ max a b → b < 2 → a ≡ 1 → c ≡ 1
or_left a b c e h one = omega arith

or_right : (a b c : ℕ) → c ≡ max a b → a < 2 → b ≡ 1 → c ≡ 1
or_right a b c e h one = omega arith

module _ (IsRight : ℕ → Emissions → Type 0) (count : ℕ) where
  -- two workers' buffers together
  pub worked_both : (v w : View) (flags theirs both : List Bool) (mine others buffers : List Emissions) → IsWorked IsRight count v flags mine → IsWorked IsRight count w theirs others
      → length both ≡ length flags → length buffers ≡ length mine
      → ((i : ℕ) → slice_get theirs i ≡ Some true → (slice_get both i ≡ Some true) × (slice_get buffers i ≡ slice_get others i))
      → ((i : ℕ) → slice_get theirs i ≡ Some false → (slice_get both i ≡ slice_get flags i) × (slice_get buffers i ≡ slice_get mine i))
      → IsWorked IsRight count (after_join v w) both buffers
  worked_both v w flags theirs both mine others buffers a b long wide taken kept =
      let cases : (i : ℕ) (x : Bool) → slice_get both i ≡ Some x → (slice_get theirs i ≡ Some false) ⊎ (slice_get theirs i ≡ Some true)
      = λ i x is. each_flag theirs i (subst (λ n. i < n) (long ∙ a.flags ∙ sym b.flags) (slice_get_within both i x is)) in
      record {
        flags = long ∙ a.flags;
        places = wide ∙ a.places;
        finished = (λ k. bit_or (a.finished k) (b.finished k));
        mine = λ i has. ⊎_elim
            (λ is_mine. ⊎_elim (λ no. (kept i no).0 ∙ a.mine i is_mine) (λ yes. (taken i yes).0)
            (each_flag theirs i (subst (λ n. i < n) (a.flags ∙ sym b.flags) (slice_get_within flags i true (a.mine i is_mine)))))
            (λ is_theirs. (taken i (b.mine i is_theirs)).0)
            (or_parts (bit_at v.mine i) (bit_at w.mine i) (bit_at (bit_or v.mine w.mine) i) (bit_at_or v.mine w.mine i) (bit_at-lt v.mine i) has (two_cases (bit_at v.mine i) (bit_at-lt v.mine i)));
        run = λ i is. ⊎_elim
            (λ no. or_left (bit_at v.mine i) (bit_at w.mine i) (bit_at (bit_or v.mine w.mine) i) (bit_at_or v.mine w.mine i) (bit_at-lt w.mine i) (a.run i (sym (kept i no).0 ∙ is)))
            (λ yes. or_right (bit_at v.mine i) (bit_at w.mine i) (bit_at (bit_or v.mine w.mine) i) (bit_at_or v.mine w.mine i) (bit_at-lt v.mine i) (b.run i yes))
            (cases i true is);
        right = λ i c is at. ⊎_elim (λ no. a.right i c (sym (kept i no).0 ∙ is) (sym (kept i no).1 ∙ at)) (λ yes. b.right i c yes (sym (taken i yes).1 ∙ at)) (cases i true is);
      }

  one_of : (a b c : ℕ) → a ≡ 1 → a ≤ b → b ≤ c → c < 2 → c ≡ 1
  one_of a b c e f g h = omega arith

  -- where all systems are seen claimed, and what is seen is the seat's own, each buffer is right
  pub all_right : (v : View) (flags : List Bool) (buffers : List Emissions) → IsWorked IsRight count v flags buffers → IsWithin (2 ^ count - 1) v.seen_claimed → IsWithin v.seen_claimed v.mine
      → (place : ℕ) (b : Emissions) → slice_get buffers place ≡ Some b → IsRight place b
  all_right v flags buffers worked all own place b is =
      let low : place < count = subst (λ n. place < n) worked.places (slice_get_within buffers place b is) in
      worked.right place b (worked.mine place (one_of (bit_at (2 ^ count - 1) place) (bit_at v.seen_claimed place) (bit_at v.mine place) (bit_at_ones count place low) (all place) (own place) (bit_at-lt v.mine place))) is

  none_run : (n i : ℕ) → slice_get (replicate n false) i ≡ Some true → ⊥
  none_run zero i e = none-some true e
  none_run (suc n) zero e = false≢true (same_Some false true e)
  none_run (suc n) (suc i) e = none_run n i e

  -- a worker with nothing of its own has run nothing
  pub worked_nothing : (v : View) (buffers : List Emissions) → v.mine ≡ 0 → v.finished ≡ 0 → length buffers ≡ count
      → IsWorked IsRight count v (replicate count false) buffers
  worked_nothing v buffers mine finished places = record {
    flags = length-replicate count false;
    places = places;
    finished = finished ∙ sym mine;
    mine = λ i has. absurd (no_one (bit_at v.mine i) (ap (λ n. bit_at n i) mine ∙ bit_at-zero i) has);
    run = λ i is. absurd (none_run count i is);
    right = λ i b is at. absurd (none_run count i is);
  }

-- what is within one of two sets is within both together
pub or_within : (a b : ℕ) → IsWithin a (bit_or a b)
or_within a b i = omega (arith, bit_at_or a b i)

pub within_both : (a b c : ℕ) → IsWithin a b → IsWithin b c → IsWithin a c
within_both a b c ab bc i = omega (arith, ab i, bc i)

-- a worker that has claimed nothing is at work
pub idle_works : (IsRight : ℕ → Emissions → Type 0) (count : ℕ) (board : Board) (worker : Worker) → IsIdle count board worker → IsAtWork IsRight count board worker
idle_works IsRight count board worker idle = record {
  seat = idle.seat;
  awake = idle.awake;
  list = idle.list;
  room = idle.room;
  worked = subst (λ (flags : List Bool). IsWorked IsRight count (view_of worker.seat) flags worker.buffers.items) (sym idle.flags)
      (worked_nothing IsRight count (view_of worker.seat) worker.buffers.items idle.mine idle.finished idle.places);
}

pub less_one : {A : Type 0} (all xs : List A) (x : A) → all ≡ xs ++ x ∷ [] → length all - 1 ≡ length xs
less_one all xs x is = ap (λ (zs : List _). length zs - 1) is ∙ ap (λ n. n - 1) (length-append xs (x ∷ [])) ∙ minus (length xs)
  where
    minus : (n : ℕ) → (n + 1) - 1 ≡ n
    minus n = omega arith
