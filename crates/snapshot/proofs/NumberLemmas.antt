-- Numbers and their bytes, the lowest first: each is told by the other.
use Rattle.std.proofs.Common.{◌/◌, ◌%◌, ◌≡◌, ℕ, zero, suc, ◌+◌, ◌*◌, ◌^◌, ◌<◌, ◌≤◌, List, [], ◌∷◌, ◌++◌, length, drop, slice_index, refl, sym, ap, ap₂, ◌∙◌, arith}
use Rattle.std.proofs.Math.Nat.{div-div-eq-div-mul, div-one, pow-succ'}
use Rattle.std.specs.Int.{byte_at, bytes_low_first}
use Rattle.byteorder.specs.Endian.{little_from, little_number, little_bytes}
use Rattle.byteorder.specs.Numbers.{little_from-cons, little_number-reads_back}

-- a byte of a number, by its place
byte_by_power : (j x : ℕ) → byte_at j x ≡ x / 256 ^ j % 256
byte_by_power zero x = ap (λ (y : ℕ). y % 256) (sym (div-one x))
byte_by_power (suc j) x = refl

-- behind the lowest byte stand those of the rest
byte_behind : (j a m : ℕ) → a < 256 → byte_at (suc j) (a + 256 * m) ≡ byte_at j m
byte_behind j a m small =
    let whole : (a + 256 * m) / 256 ≡ m = omega arith in
    ap (λ (p : ℕ). (a + 256 * m) / p % 256) (pow-succ' 256 j)
    ∙ ap (λ (q : ℕ). q % 256) (sym (div-div-eq-div-mul (a + 256 * m) 256 (256 ^ j)))
    ∙ ap (λ (q : ℕ). q / 256 ^ j % 256) whole
    ∙ sym (byte_by_power j m)

bytes_behind : (n j a m : ℕ) → a < 256 → bytes_low_first (suc j) n (a + 256 * m) ≡ bytes_low_first j n m
bytes_behind zero j a m small = refl
bytes_behind (suc n) j a m small = ap₂ (λ (b : ℕ) bs. b ∷ bs) (byte_behind j a m small) (bytes_behind n (suc j) a m small)

-- the bytes of the number in the first bytes are these
pub number_bytes : (n : ℕ) (xs : List ℕ) → n ≤ length xs → ((k : ℕ) → slice_index xs k < 256) → little_bytes n (little_number n xs) ++ drop n xs ≡ xs
number_bytes zero xs long small = refl
number_bytes (suc n) [] long small = absurd (omega arith)
number_bytes (suc n) (a ∷ xs) long small =
    let m = little_from 0 n xs in
    let moved : little_from 1 n (a ∷ xs) ≡ m = little_from-cons 0 n a xs in
    let low : (a + 256 * m) % 256 ≡ a = omega (arith, small 0) in
    let h = number_bytes n xs (omega arith) (λ k. small (suc k)) in
    ap (λ (r : ℕ). little_bytes (suc n) (a + 256 * r) ++ drop n xs) moved
    ∙ ap₂ (λ (b : ℕ) bs. b ∷ (bs ++ drop n xs)) low (bytes_behind n 0 a m (small 0))
    ∙ ap (λ (rest : List ℕ). a ∷ rest) h

-- two numbers of the same bytes are the same
pub same_number : (n a b : ℕ) (x y : List ℕ) → a < 256 ^ n → b < 256 ^ n → little_bytes n a ++ x ≡ little_bytes n b ++ y → a ≡ b
same_number n a b x y p q e =
    sym (little_number-reads_back n a x p) ∙ ap (little_number n) e ∙ little_number-reads_back n b y q
