-- Texts of fields of components.
use Rattle.std.proofs.Common.{◌≡◌, ◌≢◌, inl, inr, ℕ, zero, suc, ◌/◌, ◌%◌, ◌<◌, cond, eqb, true, false, List, [], ◌∷◌, ◌++◌, length, Option, Some, None, slice_get, ℤ, pos, negsuc, refl, arith}
use Rattle.std.specs.Fmt.{decimal, signed_decimal, digits, digits_onto, digit_glyph}
use Rattle.std.specs.Option.{option_map_or, option_and_then}
use Rattle.std.proofs.lemmas.Bool.{cases_Bool, or_cases, eqb-true}
use Rattle.std.proofs.lemmas.Bool.Decides.{nat_tests}
use Rattle.std.proofs.lemmas.List.{length-take}
use Rattle.std.proofs.lemmas.Option.{none-some}
use Rattle.entity_id.proofs.CutLemmas.{same_last_cut}
use Rattle.world_model.specs.declared.component.Decl.{Decl}
use Rattle.world_model.specs.declared.component.Kind.{Kind}
use Rattle.world_model.specs.Components.{kinds_of}
use Rattle.world_model.specs.Tokens.{field_count}
use Rattle.world_model.proofs.TokenLemmas.{decimal_lacks_dot}
use Rattle.row_lang.specs.FieldNames.{field_text, kind_at}
use Rattle.row_lang.specs.NameLists.{name_at, IsCalled}
use Rattle.row_lang.specs.Reading.{ends_name}
use Rattle.row_lang.proofs.NameLemmas.{IsFree, called_free, one_called}

-- ---- the text of a field

pub free_byte : (byte : ℕ) → byte ≢ 32 → byte ≢ 10 → ends_name byte ≡ false
free_byte byte space end = elim (cases_Bool (ends_name byte)) [
  | inr free ↦ free
  | inl ends ↦ elim (or_cases (eqb byte 32) (eqb byte 10) ends) [
    | inl is ↦ absurd (space (eqb-true byte 32 is))
    | inr is ↦ absurd (end (eqb-true byte 10 is))
  ]
]

free-append : (a b : List ℕ) → IsFree a → IsFree b → IsFree (a ++ b)
free-append [] b p q = q
free-append (byte ∷ a) b p q = (p.0, free-append a b p.1 q)

-- a number in decimal has no byte that ends a name, however large it is
glyph_free : (d : ℕ) → d < 10 → ends_name (digit_glyph false d) ≡ false
glyph_free d small = free_byte (digit_glyph false d) (not_space d small) (not_end d small)
  where
    not_space : (n : ℕ) → n < 10 → digit_glyph false n ≢ 32
    not_space n low = grind (arith, nat_tests)

    not_end : (n : ℕ) → n < 10 → digit_glyph false n ≢ 10
    not_end n low = grind (arith, nat_tests)

digits_free : (k n : ℕ) (behind : List ℕ) → IsFree behind → IsFree (digits_onto k 10 false n behind)
digits_free zero n behind h = h
digits_free (suc k) n behind h =
    let more : IsFree (digit_glyph false (n % 10) ∷ behind) = (glyph_free (n % 10) (omega arith), h) in
    elim (eqb (n / 10) 0) as (λ b. IsFree (cond b (digit_glyph false (n % 10) ∷ behind) (digits_onto k 10 false (n / 10) (digit_glyph false (n % 10) ∷ behind)))) [
      | true ↦ more
      | false ↦ digits_free k (n / 10) (digit_glyph false (n % 10) ∷ behind) more
    ]

pub decimal_free : (n : ℕ) → IsFree (decimal n)
unfolding digits
decimal_free n = digits_free 64 n [] tt

-- the text of a field has no byte that ends a name
pub field_free : (decls : List Decl) (pool field : ℕ) → IsCalled decls pool → IsFree (field_text decls pool field)
field_free decls pool field called = free-append (name_at decls pool) (46 ∷ decimal field) (called_free decls pool called) (refl, decimal_free field)

-- ---- which fields there are

-- the place of a list that is there
pub length_found : {X : Type 0} (xs : List X) (n : ℕ) (x : X) → slice_get xs n ≡ Some x → n < length xs
length_found [] n x e = absurd (none-some x e)
length_found (y ∷ xs) zero x e = omega arith
length_found (y ∷ xs) (suc n) x e = let h = length_found xs n x e in omega arith

-- a field that has a kind is one of its component's
pub field_counted : (decls : List Decl) (pool field : ℕ) (kind : Kind) → kind_at decls pool field ≡ Some kind → field < field_count decls pool
field_counted decls pool field kind at = go (slice_get decls pool) at
  where
    go : (d : Option Decl) → option_and_then (λ (decl : Decl). slice_get (kinds_of decl) field) d ≡ Some kind → field < option_map_or (λ (decl : Decl). decl.count) d 0
    go None e = absurd (none-some kind e)
    go (Some decl) e = omega (arith, length_found (kinds_of decl) field kind e, length-take decl.count decl.kinds)

pub number_free : (z : ℤ) → IsFree (signed_decimal z)
number_free (pos n) = decimal_free n
number_free (negsuc n) = (refl, decimal_free (suc n))

-- texts of fields tell the component and the number's text
pub field_texts : (decls : List Decl) (a b m n : ℕ) → IsCalled decls a → IsCalled decls b → field_text decls a m ≡ field_text decls b n → (a ≡ b) × (decimal m ≡ decimal n)
field_texts decls a b m n p q e =
    let cut = same_last_cut 46 (name_at decls a) (name_at decls b) (decimal m) (decimal n) (decimal_lacks_dot m) (decimal_lacks_dot n) e in
    (one_called decls a b p q cut.0, cut.1)
