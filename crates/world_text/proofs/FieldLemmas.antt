-- Fields of components at the front of a text.
use Rattle.std.proofs.Common.{◌≡◌, ◌≢◌, inl, inr, ℕ, zero, suc, ◌/◌, ◌%◌, ◌^◌, ◌<◌, ◌≤◌, cond, eqb, true, false, List, [], ◌∷◌, ◌++◌, drop, length, Option, Some, None, slice_get, refl, sym, ap, ◌∙◌, arith}
use Rattle.std.specs.Fmt.{decimal, digits, digits_onto, digit_glyph}
use Rattle.std.specs.Option.{option_map_or, option_and_then}
use Rattle.std.proofs.lemmas.Bool.{cases_Bool, or_cases, eqb-true}
use Rattle.std.proofs.lemmas.Bool.Decides.{nat_tests}
use Rattle.std.proofs.lemmas.Fmt.{decimal_injective}
use Rattle.std.proofs.lemmas.List.{length-take}
use Rattle.std.proofs.lemmas.Option.{none-some, same_Some}
use Rattle.entity_id.proofs.CutLemmas.{same_last_cut}
use Rattle.world_model.specs.declared.component.Decl.{Decl}
use Rattle.world_model.specs.declared.component.Kind.{Kind}
use Rattle.world_model.specs.declared.tokens.FieldAt.{FieldAt}
use Rattle.world_model.specs.Components.{kinds_of}
use Rattle.world_model.specs.Tokens.{field_count, IsFieldToken}
use Rattle.world_model.proofs.TokenLemmas.{decimal_lacks_dot}
use Rattle.row_lang.specs.NameLists.{name_at, IsCalled}
use Rattle.row_lang.specs.FieldNames.{field_text, kind_at}
use Rattle.row_lang.specs.Reading.{IsNameSplit, ends_name}
use Rattle.world_text.specs.ScriptReading.{HasFewFields, IsFieldNext}
use Rattle.row_lang.proofs.NameLemmas.{IsFree, called_free, token_is_name, token_called, one_called, same_name_split}

-- ---- the text of a field

free_byte : (byte : ℕ) → byte ≢ 32 → byte ≢ 10 → ends_name byte ≡ false
free_byte byte space end = elim (cases_Bool (ends_name byte)) [
  | inr free ↦ free
  | inl ends ↦ elim (or_cases (eqb byte 32) (eqb byte 10) ends) [
    | inl is ↦ absurd (space (eqb-true byte 32 is))
    | inr is ↦ absurd (end (eqb-true byte 10 is))
  ]
]

free-append : (a b : List ℕ) → IsFree a → IsFree b → IsFree (a ++ b)
free-append [] b p q = q
free-append (byte ∷ a) b p q = (p.0, free-append a b p.1 q)

-- a number in decimal has no byte that ends a name, however large it is
glyph_free : (d : ℕ) → d < 10 → ends_name (digit_glyph false d) ≡ false
glyph_free d small = free_byte (digit_glyph false d) (not_space d small) (not_end d small)
  where
    not_space : (n : ℕ) → n < 10 → digit_glyph false n ≢ 32
    not_space n low = grind (arith, nat_tests)

    not_end : (n : ℕ) → n < 10 → digit_glyph false n ≢ 10
    not_end n low = grind (arith, nat_tests)

digits_free : (k n : ℕ) (behind : List ℕ) → IsFree behind → IsFree (digits_onto k 10 false n behind)
digits_free zero n behind h = h
digits_free (suc k) n behind h =
    let more : IsFree (digit_glyph false (n % 10) ∷ behind) = (glyph_free (n % 10) (omega arith), h) in
    elim (eqb (n / 10) 0) as (λ b. IsFree (cond b (digit_glyph false (n % 10) ∷ behind) (digits_onto k 10 false (n / 10) (digit_glyph false (n % 10) ∷ behind)))) [
      | true ↦ more
      | false ↦ digits_free k (n / 10) (digit_glyph false (n % 10) ∷ behind) more
    ]

decimal_free : (n : ℕ) → IsFree (decimal n)
unfolding digits
decimal_free n = digits_free 64 n [] tt

-- the text of a field has no byte that ends a name
pub field_free : (decls : List Decl) (pool field : ℕ) → IsCalled decls pool → IsFree (field_text decls pool field)
field_free decls pool field called = free-append (name_at decls pool) (46 ∷ decimal field) (called_free decls pool called) (refl, decimal_free field)

-- ---- which fields there are

-- the place of a list that is there
pub length_found : {X : Type 0} (xs : List X) (n : ℕ) (x : X) → slice_get xs n ≡ Some x → n < length xs
length_found [] n x e = absurd (none-some x e)
length_found (y ∷ xs) zero x e = omega arith
length_found (y ∷ xs) (suc n) x e = let h = length_found xs n x e in omega arith

-- a field that has a kind is one of its component's
pub field_counted : (decls : List Decl) (pool field : ℕ) (kind : Kind) → kind_at decls pool field ≡ Some kind → field < field_count decls pool
field_counted decls pool field kind at = go (slice_get decls pool) at
  where
    go : (d : Option Decl) → option_and_then (λ (decl : Decl). slice_get (kinds_of decl) field) d ≡ Some kind → field < option_map_or (λ (decl : Decl). decl.count) d 0
    go None e = absurd (none-some kind e)
    go (Some decl) e = omega (arith, length_found (kinds_of decl) field kind e, length-take decl.count decl.kinds)

-- the fields of a component of few kinds are few
pub few_fields : (decls : List Decl) (pool : ℕ) (decl : Decl) → slice_get decls pool ≡ Some decl → length (kinds_of decl) ≤ 4 → HasFewFields decls pool
few_fields decls pool decl at short = record {
  few = λ field kind of_kind. omega (arith, length_found (kinds_of decl) field kind (sym (ap (option_and_then (λ (d : Decl). slice_get (kinds_of d) field)) at) ∙ of_kind));
}

-- ---- fields at the front

-- the field that a token names
pub field_first : (decls : List Decl) (text behind token rest : List ℕ) (at : FieldAt) (kind : Kind) → text ≡ 32 ∷ behind → IsNameSplit behind token rest → IsFieldToken decls token at → kind_at decls at.pool at.field ≡ Some kind → IsFieldNext decls text at.pool at.field kind rest
field_first decls text behind token rest at kind spaced split is of_kind = record {
  called = token_called decls is.name at.pool is.named;
  of_kind = of_kind;
  whole = spaced ∙ ap (λ t. 32 ∷ t) (split.whole ∙ ap (λ t. t ++ rest) (is.whole ∙ ap (λ n. n ++ 46 ∷ decimal at.field) (token_is_name decls is.name at.pool is.named)));
  ended = split.ended;
}

-- the token of a field
field_token : (decls : List Decl) (text behind token rest : List ℕ) (pool field : ℕ) (kind : Kind) (more : List ℕ) → text ≡ 32 ∷ behind → IsNameSplit behind token rest → IsFieldNext decls text pool field kind more → token ≡ field_text decls pool field
field_token decls text behind token rest pool field kind more spaced split h =
    (same_name_split token (field_text decls pool field) rest more split.free (field_free decls pool field h.called) split.ended h.ended (sym split.whole ∙ ap (drop 1) (sym spaced ∙ h.whole))).0

pub no_field_first : (decls : List Decl) (text behind token rest : List ℕ) → text ≡ 32 ∷ behind → IsNameSplit behind token rest → ((at : FieldAt) → IsFieldToken decls token at → ⊥) → (pool field : ℕ) (kind : Kind) (more : List ℕ) → IsFieldNext decls text pool field kind more → ⊥
no_field_first decls text behind token rest spaced split none pool field kind more h =
    none (record { pool = pool; field = field }) (record {
      name = name_at decls pool;
      whole = field_token decls text behind token rest pool field kind more spaced split h;
      named = h.called.named;
      within = field_counted decls pool field kind h.of_kind;
    })

-- texts of fields tell the component and the number's text
field_texts : (decls : List Decl) (a b m n : ℕ) → IsCalled decls a → IsCalled decls b → field_text decls a m ≡ field_text decls b n → (a ≡ b) × (decimal m ≡ decimal n)
field_texts decls a b m n p q e =
    let cut = same_last_cut 46 (name_at decls a) (name_at decls b) (decimal m) (decimal n) (decimal_lacks_dot m) (decimal_lacks_dot n) e in
    (one_called decls a b p q cut.0, cut.1)

-- a token names no field of a kind where the one of its number has none
pub no_kind_first : (decls : List Decl) (text behind token rest : List ℕ) (at : FieldAt) → text ≡ 32 ∷ behind → IsNameSplit behind token rest → IsFieldToken decls token at → at.field < 2 ^ 64 → HasFewFields decls at.pool → ((kind : Kind) → kind_at decls at.pool at.field ≡ Some kind → ⊥) → (pool field : ℕ) (kind : Kind) (more : List ℕ) → IsFieldNext decls text pool field kind more → ⊥
no_kind_first decls text behind token rest at spaced split is small few none pool field kind more h =
    let texts : field_text decls at.pool at.field ≡ field_text decls pool field =
    sym (is.whole ∙ ap (λ n. n ++ 46 ∷ decimal at.field) (token_is_name decls is.name at.pool is.named)) ∙ field_token decls text behind token rest pool field kind more spaced split h in
    let same = field_texts decls at.pool pool at.field field (token_called decls is.name at.pool is.named) h.called texts in
    let of_kind : kind_at decls at.pool field ≡ Some kind = ap (λ n. kind_at decls n field) same.0 ∙ h.of_kind in
    let number : at.field ≡ field = decimal_injective at.field field small (omega (arith, few.few field kind of_kind)) same.1 in
    none kind (ap (kind_at decls at.pool) number ∙ of_kind)

-- a text begins with one field's component, one text of its number, and one rest
pub one_field_text : (decls : List Decl) (text x y : List ℕ) (a b m n : ℕ) (j k : Kind) → IsFieldNext decls text a m j x → IsFieldNext decls text b n k y → (a ≡ b) × (decimal m ≡ decimal n) × (x ≡ y)
one_field_text decls text x y a b m n j k p q =
    let same = same_name_split (field_text decls a m) (field_text decls b n) x y (field_free decls a m p.called) (field_free decls b n q.called) p.ended q.ended (ap (drop 1) (sym p.whole ∙ q.whole)) in
    let both = field_texts decls a b m n p.called q.called same.0 in
    (both.0, both.1, same.1)

-- a text begins with one field
pub one_field : (decls : List Decl) (text x y : List ℕ) (a b m n : ℕ) (j k : Kind) → HasFewFields decls a → IsFieldNext decls text a m j x → IsFieldNext decls text b n k y → (a ≡ b) × (m ≡ n) × (j ≡ k) × (x ≡ y)
one_field decls text x y a b m n j k few p q =
    let same = one_field_text decls text x y a b m n j k p q in
    let there : kind_at decls a n ≡ Some k = ap (λ pool. kind_at decls pool n) same.0 ∙ q.of_kind in
    let number : m ≡ n = decimal_injective m n (omega (arith, few.few m j p.of_kind)) (omega (arith, few.few n k there)) same.1 in
    (same.0, number, same_Some j k (sym p.of_kind ∙ ap (kind_at decls a) number ∙ there), same.2)
