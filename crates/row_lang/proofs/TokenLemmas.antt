-- One text is one token in a place.
use Rattle.std.proofs.Common.{◌≡◌, ◌≢◌, ℕ, zero, suc, ◌^◌, ◌<◌, true, false, cond, eqb, ℤ, List, [], ◌∷◌, ◌++◌, drop, length, Some, None, codes, refl, sym, ap, ap₂, subst, ◌∙◌, arith}
use Rattle.std.specs.Option.{is_some}
use Rattle.std.specs.Fmt.{decimal, signed_decimal}
use Rattle.std.specs.List.{AllByRecursion}
use Rattle.std.proofs.lemmas.Bool.{false≢true}
use Rattle.std.proofs.lemmas.Fmt.{decimal_injective}
use Rattle.std.proofs.lemmas.Option.{same_Some}
use Rattle.world_model.specs.declared.access.Access.{Access}
use Rattle.world_model.specs.declared.component.Decl.{Decl}
use Rattle.world_model.specs.declared.component.Kind.{Kind}
use Rattle.world_model.specs.declared.tokens.FieldAt.{FieldAt}
use Rattle.world_model.specs.Integers.{IsI64}
use Rattle.world_model.specs.Tokens.{IsFieldToken, IsNameToken, component_named, field_count}
use Rattle.world_model.proofs.IntegerLemmas.{signed_decimal_injective}
use Rattle.row_lang.specs.declared.token.Keyword.{Keyword}
use Rattle.row_lang.specs.declared.token.Place.{Place}
use Rattle.row_lang.specs.declared.token.Place.TheVariants as place
use Rattle.row_lang.specs.declared.token.Token.{Token}
use Rattle.row_lang.specs.declared.token.Token.TheVariants.{Word, Number, Own, Pool, Field}
use Rattle.row_lang.specs.FieldNames.{field_text}
use Rattle.row_lang.specs.Naming.{AreNamedDecls, IsNamedDecl, names_of}
use Rattle.row_lang.specs.NameLists.{name_at}
use Rattle.row_lang.specs.Reading.{IsNameSplit}
use Rattle.row_lang.specs.Spelling.{keyword_text, token_text, name_in, field_in}
use Rattle.row_lang.specs.TokenReading.{fits, IsDeclared, IsTokenNext}
use Rattle.row_lang.proofs.FieldLemmas.{field_free, field_texts, number_free}
use Rattle.row_lang.proofs.KeywordLemmas.{one_keyword, free_keyword, no_number_word, no_field_word, no_field_number}
use Rattle.row_lang.proofs.NameLemmas.{IsFree, called_free, called_in, name_found, same_name_split}

-- ---- names in the table and in the components

pub name_is : (decls : List Decl) (pool : ℕ) → name_in (names_of decls) pool ≡ name_at decls pool
name_is [] pool = refl
name_is (decl ∷ decls) zero = refl
name_is (decl ∷ decls) (suc pool) = name_is decls pool

pub field_is : (decls : List Decl) (at : FieldAt) → field_in (names_of decls) at ≡ field_text decls at.pool at.field
field_is decls at = ap (λ (name : List ℕ). name ++ 46 ∷ decimal at.field) (name_is decls at.pool)

-- ---- components and fields

pub pool_of_name : (decls : List Decl) (word : List ℕ) (pool : ℕ) → component_named decls word ≡ Some pool → (pool < length decls) × (word ≡ name_in (names_of decls) pool)
pool_of_name decls word pool found =
    let h = name_found word decls 0 pool found in
    let same : pool ≡ h.pool = omega (arith, h.counted) in
    (omega (arith, h.declared), h.named ∙ ap (name_at decls) (sym same) ∙ sym (name_is decls pool))

pub one_name : (decls : List Decl) (word : List ℕ) (pool other : ℕ) → AreNamedDecls decls → component_named decls word ≡ Some pool → other < length decls → word ≡ name_in (names_of decls) other → other ≡ pool
one_name decls word pool other named found declared e =
    same_Some other pool (sym (called_in decls other named declared).named.first ∙ ap (component_named decls) (sym (e ∙ name_is decls other)) ∙ found)

pub name_token : (decls : List Decl) (word : List ℕ) (pool : ℕ) → AreNamedDecls decls → pool < length decls → word ≡ name_in (names_of decls) pool → IsNameToken decls word pool
name_token decls word pool named declared e =
    subst (λ (name : List ℕ). IsNameToken decls name pool) (sym (e ∙ name_is decls pool)) (called_in decls pool named declared).named

pub field_of_token : (decls : List Decl) (word : List ℕ) (at : FieldAt) → IsFieldToken decls word at → IsDeclared decls (Field at) × (word ≡ field_in (names_of decls) at)
field_of_token decls word at is =
    let n = pool_of_name decls is.name at.pool is.named.first in
    ((n.0, is.within), is.whole ∙ ap (λ (name : List ℕ). name ++ 46 ∷ decimal at.field) n.1)

pub field_token : (decls : List Decl) (word : List ℕ) (at : FieldAt) → AreNamedDecls decls → IsDeclared decls (Field at) → word ≡ field_in (names_of decls) at → IsFieldToken decls word at
field_token decls word at named is e = record {
  name = name_at decls at.pool;
  whole = e ∙ field_is decls at;
  named = (called_in decls at.pool named is.0).named;
  within = is.1;
}

-- a component has 4 fields at most
few_fields : (decls : List Decl) (pool field : ℕ) → AllByRecursion IsNamedDecl decls → field < field_count decls pool → field < 2 ^ 64
few_fields [] pool field each h = absurd (omega (arith, h))
few_fields (decl ∷ decls) zero field each h = omega (arith, h, each.0.fields.few)
few_fields (decl ∷ decls) (suc pool) field each h = few_fields decls pool field each.1 h

pub one_at : (decls : List Decl) (word : List ℕ) (at other : FieldAt) → AreNamedDecls decls → IsDeclared decls (Field at) → word ≡ field_in (names_of decls) at → IsDeclared decls (Field other) → word ≡ field_in (names_of decls) other → other ≡ at
one_at decls word at other named is e was f =
    let texts = sym (field_is decls other) ∙ sym f ∙ e ∙ field_is decls at in
    let same = field_texts decls other.pool at.pool other.field at.field (called_in decls other.pool named was.0) (called_in decls at.pool named is.0) texts in
    let number = decimal_injective other.field at.field (few_fields decls other.pool other.field named.each was.1) (few_fields decls at.pool at.field named.each is.1) same.1 in
    let made : ℕ → ℕ → FieldAt = λ p q. record { pool = p; field = q } in
    ap₂ made same.0 number

-- ---- tokens

free_field : (decls : List Decl) (at : FieldAt) → AreNamedDecls decls → at.pool < length decls → IsFree (field_in (names_of decls) at)
free_field decls at named declared = subst IsFree (sym (field_is decls at)) (field_free decls at.pool at.field (called_in decls at.pool named declared))

pub free_token : (decls : List Decl) (token : Token) → AreNamedDecls decls → IsDeclared decls token → IsFree (token_text (names_of decls) token)
free_token decls (Word k) named is = free_keyword k
free_token decls (Number z) named is = number_free z
free_token decls (Own at) named is = free_field decls at named is.0
free_token decls (Pool pool) named is = subst IsFree (sym (name_is decls pool)) (called_free decls pool (called_in decls pool named is))
free_token decls (Field at) named is = free_field decls at named is.0

-- the word of a token that a text begins with is the text's first word
pub first_word : (decls : List Decl) (text behind word rest : List ℕ) (token : Token) (more : List ℕ) → AreNamedDecls decls → text ≡ codes " " ++ behind → IsNameSplit behind word rest → IsTokenNext decls text token more → (word ≡ token_text (names_of decls) token) × (rest ≡ more)
first_word decls text behind word rest token more named begun split h =
    same_name_split word (token_text (names_of decls) token) rest more split.free (free_token decls token named h.is) split.ended h.ended (sym split.whole ∙ ap (drop 1) (sym begun ∙ h.whole))

-- ---- a token of an expression

-- names of components, and fields of others, are no expressions
pub no_in : (decls : List Decl) (access : Access) (kind : Kind) (levels pool : ℕ) → fits decls access (place.Value kind levels) (Pool pool) ≡ true → ⊥
no_in decls access kind levels pool f = elim (eqb levels 0) as (λ b. is_some {T = List Place} (cond b None None) ≡ true → ⊥) [
  | true ↦ λ h. false≢true h
  | false ↦ λ h. false≢true h
] f

pub no_of : (decls : List Decl) (access : Access) (kind : Kind) (levels : ℕ) (at : FieldAt) → fits decls access (place.Value kind levels) (Field at) ≡ true → ⊥
no_of decls access kind levels at f = elim (eqb levels 0) as (λ b. is_some {T = List Place} (cond b None None) ≡ true → ⊥) [
  | true ↦ λ h. false≢true h
  | false ↦ λ h. false≢true h
] f

module _ (decls : List Decl) (access : Access) (kind : Kind) (levels : ℕ) (word : List ℕ) where
  pub one_key_value : (k : Keyword) → word ≡ keyword_text k → (other : Token) → IsDeclared decls other → fits decls access (place.Value kind levels) other ≡ true → word ≡ token_text (names_of decls) other → other ≡ Word k
  one_key_value k e (Word o) is f w = ap Word (one_keyword o k (sym w ∙ e))
  one_key_value k e (Number z) is f w = absurd (no_number_word k z is (sym e ∙ w))
  one_key_value k e (Own at) is f w = absurd (no_field_word decls k at.pool at.field (sym e ∙ w ∙ field_is decls at))
  one_key_value k e (Pool pool) is f w = absurd (no_in decls access kind levels pool f)
  one_key_value k e (Field at) is f w = absurd (no_of decls access kind levels at f)

  pub one_number_value : (z : ℤ) → IsI64 z → word ≡ signed_decimal z → (other : Token) → IsDeclared decls other → fits decls access (place.Value kind levels) other ≡ true → word ≡ token_text (names_of decls) other → other ≡ Number z
  one_number_value z n e (Word o) is f w = absurd (no_number_word o z n (sym w ∙ e))
  one_number_value z n e (Number y) is f w = ap Number (signed_decimal_injective y z is n (sym w ∙ e))
  one_number_value z n e (Own at) is f w = absurd (no_field_number decls z at.pool at.field (sym e ∙ w ∙ field_is decls at))
  one_number_value z n e (Pool pool) is f w = absurd (no_in decls access kind levels pool f)
  one_number_value z n e (Field at) is f w = absurd (no_of decls access kind levels at f)

  pub one_own_value : ((k : Keyword) → word ≢ keyword_text k) → ((z : ℤ) → IsI64 z → word ≢ signed_decimal z) → (at : FieldAt) → ((o : FieldAt) → IsDeclared decls (Field o) → word ≡ token_text (names_of decls) (Field o) → o ≡ at)
      → (other : Token) → IsDeclared decls other → fits decls access (place.Value kind levels) other ≡ true → word ≡ token_text (names_of decls) other → other ≡ Own at
  one_own_value p q at once (Word o) is f w = absurd (p o w)
  one_own_value p q at once (Number y) is f w = absurd (q y is w)
  one_own_value p q at once (Own o) is f w = ap Own (once o is w)
  one_own_value p q at once (Pool pool) is f w = absurd (no_in decls access kind levels pool f)
  one_own_value p q at once (Field o) is f w = absurd (no_of decls access kind levels o f)

  pub no_value : ((k : Keyword) → word ≢ keyword_text k) → ((z : ℤ) → IsI64 z → word ≢ signed_decimal z) → ((o : FieldAt) → IsDeclared decls (Field o) → word ≢ token_text (names_of decls) (Field o))
      → (other : Token) → IsDeclared decls other → fits decls access (place.Value kind levels) other ≡ true → word ≡ token_text (names_of decls) other → ⊥
  no_value p q r (Word o) is f w = p o w
  no_value p q r (Number y) is f w = q y is w
  no_value p q r (Own o) is f w = r o is w
  no_value p q r (Pool pool) is f w = no_in decls access kind levels pool f
  no_value p q r (Field o) is f w = no_of decls access kind levels o f
