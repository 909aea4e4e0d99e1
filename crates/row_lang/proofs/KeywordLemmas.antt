-- The words of the language: each text is one word, and no number and no field is spelled as one.
use Rattle.std.proofs.Common.{◌≡◌, ℕ, suc, ◌^◌, ◌<◌, ◌≤◌, Bool, true, false, cond, eqb, leb, not, ◌&&◌, ℤ, pos, negsuc, List, [], ◌∷◌, length, Option, Some, None, codes, refl, sym, ap, subst, ◌∙◌, arith}
use Rattle.std.specs.List.{list_all}
use Rattle.std.specs.Str.{bytes_eq}
use Rattle.std.specs.Fmt.{decimal, signed_decimal}
use Rattle.std.proofs.lemmas.Bool.{and_parts, both_ways, eq-eqb, not-true}
use Rattle.std.proofs.lemmas.Bool.Decides.{nat_tests}
use Rattle.std.proofs.lemmas.Option.{same_Some}
use Rattle.std.proofs.lemmas.List.{append-nil}
use Rattle.std.proofs.lemmas.Fmt.{decimal_is_IsNumeral}
use Rattle.entity_id.specs.Cuts.{Lacks}
use Rattle.entity_id.proofs.CutLemmas.{no_cut}
use Rattle.entity_id.proofs.FrontLemmas.{digit_first}
use Rattle.world_model.specs.declared.component.Decl.{Decl}
use Rattle.world_model.specs.Integers.{IsI64}
use Rattle.world_model.proofs.TokenLemmas.{decimal_lacks_dot}
use Rattle.row_lang.specs.declared.token.Keyword.{Keyword}
use Rattle.row_lang.specs.declared.token.Keyword.TheVariants as key
use Rattle.row_lang.specs.FieldNames.{field_text}
use Rattle.row_lang.specs.NameLists.{name_at}
use Rattle.row_lang.specs.Reading.{ends_name}
use Rattle.row_lang.specs.Spelling.{keyword_text}
use Rattle.row_lang.proofs.NameLemmas.{IsFree}

-- ---- one word, one text

-- the word that a text is
abbrev keyword_named : List ℕ → Option Keyword
keyword_named word =
    cond (bytes_eq word (codes "tick")) (Some key.Tick)
    (cond (bytes_eq word (codes "+")) (Some key.Plus)
    (cond (bytes_eq word (codes "-")) (Some key.Minus)
    (cond (bytes_eq word (codes "*")) (Some key.Times)
    (cond (bytes_eq word (codes "/")) (Some key.Divide)
    (cond (bytes_eq word (codes "%")) (Some key.Remainder)
    (cond (bytes_eq word (codes "min")) (Some key.Least)
    (cond (bytes_eq word (codes "max")) (Some key.Greatest)
    (cond (bytes_eq word (codes "<")) (Some key.Less)
    (cond (bytes_eq word (codes "=")) (Some key.Equal)
    (cond (bytes_eq word (codes "?")) (Some key.Choice)
    (cond (bytes_eq word (codes "self")) (Some key.Oneself)
    (cond (bytes_eq word (codes "null")) (Some key.Null)
    (cond (bytes_eq word (codes "same")) (Some key.Same)
    (cond (bytes_eq word (codes "has")) (Some key.Has)
    (cond (bytes_eq word (codes "at")) (Some key.At)
    (cond (bytes_eq word (codes "when")) (Some key.When)
    (cond (bytes_eq word (codes "set")) (Some key.Set)
    (cond (bytes_eq word (codes "kill")) (Some key.Kill)
    (cond (bytes_eq word (codes "give")) (Some key.Give)
    (cond (bytes_eq word (codes "take")) (Some key.Take)
    (cond (bytes_eq word (codes "send")) (Some key.Send)
    (cond (bytes_eq word (codes "add")) (Some key.Add)
    (cond (bytes_eq word (codes "spawn")) (Some key.Spawn)
    (cond (bytes_eq word (codes "bear")) (Some key.Bear)
    None))))))))))))))))))))))))

-- a digit
abbrev is_digit : ℕ → Bool
is_digit byte = leb 48 byte && leb byte 57

-- no digit first, and no minus before further bytes
abbrev begins_word : List ℕ → Bool
begins_word [] = false
begins_word (byte ∷ []) = not (is_digit byte)
begins_word (byte ∷ other ∷ bytes) = not (is_digit byte) && not (eqb byte 45)

-- no dot, no space and no line end
abbrev is_plain : ℕ → Bool
is_plain byte = not (eqb byte 46) && not (ends_name byte)

facts : (k : Keyword) → (keyword_named (keyword_text k) ≡ Some k) × (begins_word (keyword_text k) ≡ true) × (list_all is_plain (keyword_text k) ≡ true)
facts key.Tick = (refl, refl, refl)
facts key.Plus = (refl, refl, refl)
facts key.Minus = (refl, refl, refl)
facts key.Times = (refl, refl, refl)
facts key.Divide = (refl, refl, refl)
facts key.Remainder = (refl, refl, refl)
facts key.Least = (refl, refl, refl)
facts key.Greatest = (refl, refl, refl)
facts key.Less = (refl, refl, refl)
facts key.Equal = (refl, refl, refl)
facts key.Choice = (refl, refl, refl)
facts key.Oneself = (refl, refl, refl)
facts key.Null = (refl, refl, refl)
facts key.Same = (refl, refl, refl)
facts key.Has = (refl, refl, refl)
facts key.At = (refl, refl, refl)
facts key.When = (refl, refl, refl)
facts key.Set = (refl, refl, refl)
facts key.Kill = (refl, refl, refl)
facts key.Give = (refl, refl, refl)
facts key.Take = (refl, refl, refl)
facts key.Send = (refl, refl, refl)
facts key.Add = (refl, refl, refl)
facts key.Spawn = (refl, refl, refl)
facts key.Bear = (refl, refl, refl)

pub one_keyword : (a b : Keyword) → keyword_text a ≡ keyword_text b → a ≡ b
one_keyword a b e = same_Some a b (sym (facts a).0 ∙ ap keyword_named e ∙ (facts b).0)

plain_free : (text : List ℕ) → list_all is_plain text ≡ true → IsFree text
plain_free [] h = tt
plain_free (byte ∷ text) h =
    let parts = and_parts (is_plain byte) (list_all is_plain text) h in
    (not-true (ends_name byte) (and_parts (not (eqb byte 46)) (not (ends_name byte)) parts.0).1, plain_free text parts.1)

plain_dotless : (text : List ℕ) → list_all is_plain text ≡ true → Lacks 46 text
plain_dotless [] h = tt
plain_dotless (byte ∷ text) h =
    let parts = and_parts (is_plain byte) (list_all is_plain text) h in
    let other = not-true (eqb byte 46) (and_parts (not (eqb byte 46)) (not (ends_name byte)) parts.0).0 in
    (λ is. both_ways (eqb byte 46) other (eq-eqb byte 46 is), plain_dotless text parts.1)

-- a word has no space and no line end
pub free_keyword : (k : Keyword) → IsFree (keyword_text k)
free_keyword k = plain_free (keyword_text k) (facts k).2

-- ---- words and numbers

digit_is : (byte : ℕ) → 48 ≤ byte → byte ≤ 57 → is_digit byte ≡ true
digit_is byte low high = grind (arith, nat_tests)

digits_first : (text : List ℕ) (n : ℕ) → n < 2 ^ 64 → text ≡ decimal n → begins_word text ≡ false
digits_first [] n small e = refl
digits_first (c ∷ []) n small e =
    let d = digit_first n c [] [] small (e ∙ sym (append-nil (decimal n))) in
    ap not (digit_is c d.0 d.1)
digits_first (c ∷ o ∷ cs) n small e =
    let d = digit_first n c (o ∷ cs) [] small (e ∙ sym (append-nil (decimal n))) in
    ap (λ b. not b && not (eqb c 45)) (digit_is c d.0 d.1)

negative_first : (text : List ℕ) (n : ℕ) → n < 2 ^ 64 → text ≡ decimal n → begins_word (45 ∷ text) ≡ false
negative_first [] n small e = absurd (omega (arith, (decimal_is_IsNumeral n small).0.0, ap length e))
negative_first (c ∷ cs) n small e = refl

number_first : (z : ℤ) → IsI64 z → begins_word (signed_decimal z) ≡ false
number_first (pos n) is = digits_first (decimal n) n (omega arith) refl
number_first (negsuc n) is = negative_first (decimal (suc n)) (suc n) (omega arith) refl

pub no_number_word : (k : Keyword) (z : ℤ) → IsI64 z → keyword_text k ≡ signed_decimal z → ⊥
no_number_word k z is e = both_ways (begins_word (signed_decimal z)) (number_first z is) (sym (ap begins_word e) ∙ (facts k).1)

-- ---- words, numbers and fields

pub no_field_word : (decls : List Decl) (k : Keyword) (pool field : ℕ) → keyword_text k ≡ field_text decls pool field → ⊥
no_field_word decls k pool field e = no_cut 46 (name_at decls pool) (decimal field) (subst (Lacks 46) e (plain_dotless (keyword_text k) (facts k).2))

number_dotless : (z : ℤ) → Lacks 46 (signed_decimal z)
number_dotless (pos n) = decimal_lacks_dot n
number_dotless (negsuc n) = (omega arith, decimal_lacks_dot (suc n))

pub no_field_number : (decls : List Decl) (z : ℤ) (pool field : ℕ) → signed_decimal z ≡ field_text decls pool field → ⊥
no_field_number decls z pool field e = no_cut 46 (name_at decls pool) (decimal field) (subst (Lacks 46) e (number_dotless z))
