-- Sets of systems as the bits of numbers.
use Rattle.std.proofs.Common.{◌≡◌, ℕ, zero, suc, ◌<◌, ◌≤◌, ◌≢◌, ◌^◌, ◌⊎◌, inl, inr, ⊎_elim, sym, refl, ap, ◌∙◌, subst, arith, max, min, bit_or, bit_and}
use Rattle.std.specs.Int.{bit_at}
use Rattle.std.proofs.lemmas.Nat.Bits.{bit_at_or, bit_at_and, bit_at-pow_same, bit_at-pow_other, bit_at-lt, bit_at-zero, bit_at_ones, bit_at_ones_above, same_from_bits}
use native.Mathlib.Decide.{ℕ_discrete}
use mathlib.Core.Logic.{dite}
use Rattle.ready_board.specs.Sets.{IsWithin, Has, first_systems}

pub le_of_eq : (a b : ℕ) → a ≡ b → a ≤ b
le_of_eq a b e = omega arith

pub two_cases : (b : ℕ) → b < 2 → (b ≡ 0) ⊎ (b ≡ 1)
two_cases zero h = inl refl
two_cases (suc zero) h = inr refl
two_cases (suc (suc b)) h = absurd (omega arith)

pub same_within : (a b : ℕ) → a ≡ b → IsWithin a b
same_within a b e i = le_of_eq (bit_at a i) (bit_at b i) (ap (λ n. bit_at n i) e)

pub le_trans : (a b c : ℕ) → a ≤ b → b ≤ c → a ≤ c
le_trans a b c x y = omega arith

pub within_trans : (a b c : ℕ) → IsWithin a b → IsWithin b c → IsWithin a c
within_trans a b c x y i = le_trans (bit_at a i) (bit_at b i) (bit_at c i) (x i) (y i)

le_max : (a b c : ℕ) → c ≡ max a b → a ≤ c
le_max a b c e = subst (λ n. a ≤ n) (sym e) (omega arith)

pub or_grows : (a b : ℕ) → IsWithin a (bit_or a b)
or_grows a b i = le_max (bit_at a i) (bit_at b i) (bit_at (bit_or a b) i) (bit_at_or a b i)

max_zero : (x : ℕ) → max x 0 ≡ x
max_zero x = omega arith

max_one : (x : ℕ) → x < 2 → max x 1 ≡ 1
max_one x h = omega arith

pub other_bit : (a system j : ℕ) → j ≢ system → bit_at (bit_or a (2 ^ system)) j ≡ bit_at a j
other_bit a system j ne = bit_at_or a (2 ^ system) j ∙ ap (λ n. max (bit_at a j) n) (bit_at-pow_other system j ne) ∙ max_zero (bit_at a j)

pub same_bit : (a system : ℕ) → bit_at (bit_or a (2 ^ system)) system ≡ 1
same_bit a system = bit_at_or a (2 ^ system) system ∙ ap (λ n. max (bit_at a system) n) (bit_at-pow_same system) ∙ max_one (bit_at a system) (bit_at-lt a system)

pub bit_there : (a system : ℕ) → bit_at a system ≡ 1 → bit_or a (2 ^ system) ≡ a
bit_there a system is = same_from_bits (bit_or a (2 ^ system)) a
    (λ j. dite (ℕ_discrete j system) (λ e. subst (λ k. bit_at (bit_or a (2 ^ system)) k ≡ bit_at a k) (sym e) (same_bit a system ∙ sym is)) (λ ne. other_bit a system j ne))

pub zero_one : (x : ℕ) → x ≡ 0 → x ≡ 1 → ⊥
zero_one x a b = omega arith

pub bit_missing : (a system : ℕ) → bit_at a system ≡ 0 → bit_or a (2 ^ system) ≢ a
bit_missing a system is e = zero_one (bit_at a system) is (sym (ap (λ n. bit_at n system) e) ∙ same_bit a system)

pub none_of : (x total c : ℕ) → x ≤ total → total ≡ c → c ≡ 0 → x ≡ 0
none_of x total c a b d = omega arith

min_le : (a b : ℕ) → min a b ≡ a → a ≤ b
min_le a b e = omega arith

le_min : (a b : ℕ) → a ≤ b → min a b ≡ a
le_min a b h = omega arith

pub within_and : (a b : ℕ) → bit_and a b ≡ a → IsWithin a b
within_and a b e i = min_le (bit_at a i) (bit_at b i) (sym (bit_at_and a b i) ∙ ap (λ n. bit_at n i) e)

pub and_within : (a b : ℕ) → IsWithin a b → bit_and a b ≡ a
and_within a b h = same_from_bits (bit_and a b) a (λ i. bit_at_and a b i ∙ le_min (bit_at a i) (bit_at b i) (h i))

pub not_within : (a b : ℕ) → bit_and a b ≢ a → ¬ (IsWithin a b)
not_within a b ne h = ne (and_within a b h)

pub missing_below : (a b system : ℕ) → IsWithin a b → bit_at b system ≡ 0 → bit_at a system ≡ 0
missing_below a b system h e = none_of (bit_at a system) (bit_at b system) 0 (h system) e refl

pub not_one : (a system : ℕ) → bit_at a system ≢ 1 → bit_at a system ≡ 0
not_one a system ne = ⊎_elim (λ z. z) (λ one. absurd (ne one)) (two_cases (bit_at a system) (bit_at-lt a system))

pub nothing_within : (b : ℕ) → IsWithin 0 b
nothing_within b i = subst (λ n. n ≤ bit_at b i) (sym (bit_at-zero i)) (omega arith)

max_le : (a b c d : ℕ) → a ≤ c → b ≤ d → max a b ≤ max c d
max_le a b c d x y = omega arith

max_within : (a b c : ℕ) → a ≤ c → b ≤ c → max a b ≤ c
max_within a b c x y = omega arith

pub or_within_or : (a b c d : ℕ) → IsWithin a c → IsWithin b d → IsWithin (bit_or a b) (bit_or c d)
or_within_or a b c d x y i = subst (λ (p : ℕ × ℕ). p.0 ≤ p.1) (λ k. (sym (bit_at_or a b i) k, sym (bit_at_or c d i) k)) (max_le (bit_at a i) (bit_at b i) (bit_at c i) (bit_at d i) (x i) (y i))

pub or_within : (a b c : ℕ) → IsWithin a c → IsWithin b c → IsWithin (bit_or a b) c
or_within a b c x y i = subst (λ n. n ≤ bit_at c i) (sym (bit_at_or a b i)) (max_within (bit_at a i) (bit_at b i) (bit_at c i) (x i) (y i))

zero_le : (a b : ℕ) → a ≡ 0 → a ≤ b
zero_le a b e = omega arith

is_below : (earlier system : ℕ) → (system ≤ earlier → ⊥) → earlier < system
is_below earlier system never = ⊎_elim (λ low. low) (λ high. absurd (never high)) (sides earlier system)
  where
    sides : (a b : ℕ) → (a < b) ⊎ (b ≤ a)
    sides zero zero = inr (omega arith)
    sides zero (suc b) = inl (omega arith)
    sides (suc a) zero = inr (omega arith)
    sides (suc a) (suc b) = ⊎_elim (λ h. inl (omega arith)) (λ h. inr (omega arith)) (sides a b)

one_not_zero : (a b : ℕ) → a ≡ 1 → b ≡ 0 → a ≤ b → ⊥
one_not_zero a b x y h = omega arith

-- a set with nothing from this number on is within the systems below it
pub lower_within : (set system : ℕ) → ((earlier : ℕ) → Has set earlier → earlier < system) → IsWithin set (first_systems system)
lower_within set system lower i = ⊎_elim
    (λ none. zero_le (bit_at set i) (bit_at (first_systems system) i) none)
    (λ has. subst (λ b. bit_at set i ≤ b) (sym (bit_at_ones system i (lower i has))) (le_of_eq (bit_at set i) 1 has))
    (two_cases (bit_at set i) (bit_at-lt set i))

-- and the other way round
pub within_lower : (set system : ℕ) → IsWithin set (first_systems system) → (earlier : ℕ) → Has set earlier → earlier < system
within_lower set system within earlier has = is_below earlier system (λ high. one_not_zero (bit_at set earlier) (bit_at (first_systems system) earlier) has (bit_at_ones_above system earlier high) (within earlier))
