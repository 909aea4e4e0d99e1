-- Names at the front of a text.
use Rattle.std.proofs.Common.{◌≡◌, Bool, not, inl, inr, ℕ, zero, suc, ◌+◌, ◌<◌, ◌≤◌, true, false, cond, eqb, List, [], ◌∷◌, ◌++◌, take, drop, length, length-append, Some, None, refl, sym, ap, ap₂, subst, ◌∙◌, arith}
use Rattle.std.specs.List.{AllByRecursion, list_all, list_any, position_from}
use Rattle.std.specs.Str.{bytes_eq}
use Rattle.std.proofs.lemmas.Bool.{and_from, or_from, not_from_false, and_parts, cases_Bool, or_cases, eqb-true, or_parts, not-true, both_ways}
use Rattle.std.proofs.lemmas.Slice.Eq.{bytes_eq-Decides}
use Rattle.std.proofs.lemmas.Option.{none-some, same_Some}
use Rattle.std.proofs.lemmas.List.Folds.{list_any-append}
use Rattle.std.proofs.lemmas.List.{append-nil, take_all, drop_all}
use Rattle.std.proofs.Math.Seq.{take-append_seam, drop-append_seam}
use Rattle.world_model.specs.declared.component.Decl.{Decl}
use Rattle.world_model.specs.Names.{is_name, is_name_byte}
use Rattle.row_lang.specs.Naming.{IsNamedDecl}
use Rattle.world_model.specs.Components.{has_name}
use Rattle.world_model.specs.Tokens.{component_named, IsNameToken}
use Rattle.row_lang.specs.Naming.{AreNamedDecls, are_named_apart}
use Rattle.row_lang.specs.NameLists.{name_at, IsCalled}
use Rattle.row_lang.specs.Reading.{ends_name, EndsName, IsNameSplit, IsPoolNext}

-- ---- a text has one cut at the end of its name

-- a text without a byte that ends a name
abbrev pub IsFree : List ℕ → Type 0
IsFree name = AllByRecursion (λ byte. ends_name byte ≡ false) name

-- no byte of a name ends it
inside : (byte : ℕ) → is_name_byte byte ≡ true → ends_name byte ≡ false
inside byte h = elim (cases_Bool (ends_name byte)) [
  | inr e ↦ e
  | inl e ↦ elim (or_cases (eqb byte 32) (eqb byte 10) e) [
    | inl space ↦ absurd (both_ways (is_name_byte 32) refl (subst (λ b. is_name_byte b ≡ true) (eqb-true byte 32 space) h))
    | inr end ↦ absurd (both_ways (is_name_byte 10) refl (subst (λ b. is_name_byte b ≡ true) (eqb-true byte 10 end) h))
  ]
]

bytes_free : (bytes : List ℕ) → list_all is_name_byte bytes ≡ true → IsFree bytes
bytes_free [] h = tt
bytes_free (byte ∷ bytes) h =
    let parts = and_parts (is_name_byte byte) (list_all is_name_byte bytes) h in
    (inside byte parts.0, bytes_free bytes parts.1)

-- a name has no byte that ends a name
pub name_free : (name : List ℕ) → is_name name ≡ true → IsFree name
name_free name h = bytes_free name (and_parts _ _ (and_parts _ _ h).0).1

pub same_name_split : (a b x y : List ℕ) → IsFree a → IsFree b → EndsName x → EndsName y → a ++ x ≡ b ++ y → (a ≡ b) × (x ≡ y)
same_name_split [] [] x y p q ex ey e = (refl, e)
same_name_split [] (b ∷ bs) [] y p q ex ey e = absurd cc
same_name_split [] (b ∷ bs) (c ∷ x) y p q ex ey e = absurd (let same : c ≡ b = cc in both_ways (ends_name b) q.0 (subst (λ (k : ℕ). ends_name k ≡ true) same ex))
same_name_split (a ∷ heads) [] x [] p q ex ey e = absurd cc
same_name_split (a ∷ heads) [] x (c ∷ y) p q ex ey e = absurd (let same : c ≡ a = cc in both_ways (ends_name a) p.0 (subst (λ (k : ℕ). ends_name k ≡ true) same ey))
same_name_split (a ∷ heads) (b ∷ bs) x y p q ex ey e =
    let h = same_name_split heads bs x y p.1 q.1 ex ey cc in
    let head : a ≡ b = cc in
    (ap₂ (λ k ks. k ∷ ks) head h.0, h.1)

-- ---- cutting it

-- where the first byte that ends a name stands
pub record IsFirstEnd (text : List ℕ) (from place : ℕ) : Type 0 where
  pub front : List ℕ
  pub back : List ℕ
  pub whole : text ≡ front ++ back
  pub free : IsFree front
  pub ended : EndsName back
  pub counted : place ≡ from + length front

first_end : (text : List ℕ) (from place : ℕ) → position_from ends_name from text ≡ Some place → IsFirstEnd text from place
first_end [] from place h = absurd (none-some place h)
first_end (byte ∷ text) from place h = elim (cases_Bool (ends_name byte)) [
  | inl ends ↦ record {
    front = [];
    back = byte ∷ text;
    whole = refl;
    free = tt;
    ended = ends;
    counted = sym (same_Some from place (sym (ap (λ b. cond b (Some from) (position_from ends_name (from + 1) text)) ends) ∙ h)) ∙ (omega arith);
  }
  | inr other ↦
      let rest = first_end text (from + 1) place (sym (ap (λ b. cond b (Some from) (position_from ends_name (from + 1) text)) other) ∙ h) in
      record {
        front = byte ∷ rest.front;
        back = rest.back;
        whole = ap (λ xs. byte ∷ xs) rest.whole;
        free = (other, rest.free);
        ended = rest.ended;
        counted = omega (arith, rest.counted);
      }
]

no_end : (text : List ℕ) (from : ℕ) → position_from ends_name from text ≡ None → IsFree text
no_end [] from h = tt
no_end (byte ∷ text) from h = elim (cases_Bool (ends_name byte)) [
  | inl ends ↦ absurd (none-some from (sym h ∙ ap (λ b. cond b (Some from) (position_from ends_name (from + 1) text)) ends))
  | inr other ↦ (other, no_end text (from + 1) (sym (ap (λ b. cond b (Some from) (position_from ends_name (from + 1) text)) other) ∙ h))
]

-- the end stands within the text
pub end_within : (text : List ℕ) (place : ℕ) → position_from ends_name 0 text ≡ Some place → place ≤ length text
end_within text place found =
    let h = first_end text 0 place found in
    omega (arith, h.counted, ap length h.whole, length-append h.front h.back)

-- a text cut where its name ends
pub cut_at_end : (text front back : List ℕ) (place : ℕ) → position_from ends_name 0 text ≡ Some place → front ≡ take place text → back ≡ drop place text → IsNameSplit text front back
cut_at_end text front back place found is_front is_back =
    let h = first_end text 0 place found in
    let at : place ≡ length h.front = omega (arith, h.counted) in
    let f : front ≡ h.front = is_front ∙ (λ i. take (at i) (h.whole i)) ∙ take-append_seam h.front h.back in
    let b : back ≡ h.back = is_back ∙ (λ i. drop (at i) (h.whole i)) ∙ drop-append_seam h.front h.back in
    record {
      whole = h.whole ∙ (λ i. sym f i ++ sym b i);
      free = subst IsFree (sym f) h.free;
      ended = subst EndsName (sym b) h.ended;
    }

-- a text that is a name to its end
pub cut_nowhere : (text front back : List ℕ) → position_from ends_name 0 text ≡ None → front ≡ take (length text) text → back ≡ drop (length text) text → IsNameSplit text front back
cut_nowhere text front back none is_front is_back =
    let all : front ≡ text = is_front ∙ take_all (length text) text (omega arith) in
    let nothing : back ≡ [] = is_back ∙ drop_all (length text) text (omega arith) in
    record {
      whole = sym ((λ i. all i ++ nothing i) ∙ append-nil text);
      free = subst IsFree (sym all) (no_end text 0 none);
      ended = subst EndsName (sym nothing) tt;
    }

-- ---- components by their names

-- a component has a name of the form of names
named_at : (decls : List Decl) (pool : ℕ) → AllByRecursion IsNamedDecl decls → pool < length decls → is_name (name_at decls pool) ≡ true
named_at [] pool each within = absurd (omega arith)
named_at (decl ∷ decls) zero each within = each.0.name
named_at (decl ∷ decls) (suc pool) each within = named_at decls pool each.1 (omega arith)

same_test : (a b : List ℕ) → a ≡ b → bytes_eq a b ≡ true
same_test a b e = (bytes_eq-Decides a b).1 e

-- a name that no component of a list has
differs : (name : List ℕ) (decls : List Decl) (pool : ℕ) → list_any (λ (other : Decl). bytes_eq name other.name) decls ≡ false → pool < length decls → name ≡ name_at decls pool → ⊥
differs name [] pool none within e = omega arith
differs name (decl ∷ decls) zero none within e = both_ways (bytes_eq name decl.name) (or_parts _ _ none).0 (same_test name decl.name e)
differs name (decl ∷ decls) (suc pool) none within e = differs name decls pool (or_parts (bytes_eq name decl.name) _ none).1 (omega arith) e

-- where names stand apart, a name is at one place
pub one_place : (decls : List Decl) (a b : ℕ) → are_named_apart decls ≡ true → a < length decls → b < length decls → name_at decls a ≡ name_at decls b → a ≡ b
one_place [] a b apart la lb e = absurd (omega arith)
one_place (decl ∷ decls) zero zero apart la lb e = refl
one_place (decl ∷ decls) zero (suc b) apart la lb e = absurd (differs decl.name decls b (not-true _ (and_parts _ (are_named_apart decls) apart).0) (omega arith) e)
one_place (decl ∷ decls) (suc a) zero apart la lb e = absurd (differs decl.name decls a (not-true _ (and_parts _ (are_named_apart decls) apart).0) (omega arith) (sym e))
one_place (decl ∷ decls) (suc a) (suc b) apart la lb e = ap suc (one_place decls a b (and_parts _ _ apart).1 (omega arith) (omega arith) e)

-- a name is that of one component
pub one_called : (decls : List Decl) (a b : ℕ) → IsCalled decls a → IsCalled decls b → name_at decls a ≡ name_at decls b → a ≡ b
one_called decls a b p q e = same_Some a b (sym p.named.first ∙ ap (component_named decls) e ∙ q.named.first)

-- the name of a component has no byte that ends a name
pub called_free : (decls : List Decl) (pool : ℕ) → IsCalled decls pool → IsFree (name_at decls pool)
called_free decls pool called = name_free (name_at decls pool) called.named.form

-- a text begins with one component's name
pub one_pool : (decls : List Decl) (text x y : List ℕ) (a b : ℕ) → IsPoolNext decls text a x → IsPoolNext decls text b y → (a ≡ b) × (x ≡ y)
one_pool decls text x y a b p q =
    let same = same_name_split (name_at decls a) (name_at decls b) x y (called_free decls a p.called) (called_free decls b q.called) p.ended q.ended (ap (drop 1) (sym p.whole ∙ q.whole)) in
    (one_called decls a b p.called q.called same.0, same.1)

-- where a name is found
pub record IsFound (name : List ℕ) (decls : List Decl) (from place : ℕ) : Type 0 where
  pub pool : ℕ
  pub declared : pool < length decls
  pub counted : place ≡ from + pool
  pub named : name ≡ name_at decls pool

pub name_found : (name : List ℕ) (decls : List Decl) (from place : ℕ) → position_from (has_name name) from decls ≡ Some place → IsFound name decls from place
name_found name [] from place h = absurd (none-some place h)
name_found name (decl ∷ decls) from place h = elim (cases_Bool (has_name name decl)) [
  | inl here ↦ record {
    pool = 0;
    declared = omega arith;
    counted = sym (same_Some from place (sym (ap (λ b. cond b (Some from) (position_from (has_name name) (from + 1) decls)) here) ∙ h)) ∙ omega arith;
    named = sym ((bytes_eq-Decides decl.name name).0 here);
  }
  | inr other ↦
      let rest = name_found name decls (from + 1) place (sym (ap (λ b. cond b (Some from) (position_from (has_name name) (from + 1) decls)) other) ∙ h) in
      record { pool = suc rest.pool; declared = omega (arith, rest.declared); counted = omega (arith, rest.counted); named = rest.named }
]

-- a name is at none of the components behind the first, or not at all
pub name_nowhere : (name : List ℕ) (decls : List Decl) (from pool : ℕ) → position_from (has_name name) from decls ≡ None → pool < length decls → name ≡ name_at decls pool → ⊥
name_nowhere name [] from pool h within e = omega arith
name_nowhere name (decl ∷ decls) from zero h within e =
    none-some from (sym h ∙ ap (λ b. cond b (Some from) (position_from (has_name name) (from + 1) decls)) (same_test decl.name name (sym e)))
name_nowhere name (decl ∷ decls) from (suc pool) h within e = elim (cases_Bool (has_name name decl)) [
  | inl here ↦ none-some from (sym h ∙ ap (λ b. cond b (Some from) (position_from (has_name name) (from + 1) decls)) here)
  | inr other ↦ name_nowhere name decls (from + 1) pool (sym (ap (λ b. cond b (Some from) (position_from (has_name name) (from + 1) decls)) other) ∙ h) (omega arith) e
]

-- where names stand apart, each tells its component
pub called_in : (decls : List Decl) (pool : ℕ) → AreNamedDecls decls → pool < length decls → IsCalled decls pool
called_in decls pool named declared =
    let first : component_named decls (name_at decls pool) ≡ Some pool =
    elim (component_named decls (name_at decls pool)) as (λ o. component_named decls (name_at decls pool) ≡ o → o ≡ Some pool) [
      | None ↦ λ none. absurd (name_nowhere (name_at decls pool) decls 0 pool none declared refl)
      | Some place ↦ λ found.
          let h = name_found (name_at decls pool) decls 0 place found in
          let same : h.pool ≡ pool = one_place decls h.pool pool named.apart h.declared declared (sym h.named) in
          ap Some (omega (arith, h.counted, same))
    ] refl in
    record { declared = declared; named = record { form = named_at decls pool named.each declared; first = first } }

-- a token that names a component is its name
pub token_is_name : (decls : List Decl) (name : List ℕ) (pool : ℕ) → IsNameToken decls name pool → name ≡ name_at decls pool
token_is_name decls name pool token =
    let h = name_found name decls 0 pool token.first in
    let same : pool ≡ h.pool = omega (arith, h.counted) in
    h.named ∙ ap (name_at decls) (sym same)

pub token_called : (decls : List Decl) (name : List ℕ) (pool : ℕ) → IsNameToken decls name pool → IsCalled decls pool
token_called decls name pool token =
    let h = name_found name decls 0 pool token.first in
    record {
      declared = omega (arith, h.declared, h.counted);
      named = subst (λ (n : List ℕ). IsNameToken decls n pool) (token_is_name decls name pool token) token;
    }

-- the component that a text names
pub pool_first : (decls : List Decl) (text behind name rest : List ℕ) (pool : ℕ) → text ≡ 32 ∷ behind → IsNameSplit behind name rest → IsNameToken decls name pool → IsPoolNext decls text pool rest
pool_first decls text behind name rest pool spaced split token = record {
  called = token_called decls name pool token;
  whole = spaced ∙ ap (λ t. 32 ∷ t) (split.whole ∙ ap (λ n. n ++ rest) (token_is_name decls name pool token));
  ended = split.ended;
}

-- a text names no component
pub no_pool_first : (decls : List Decl) (text behind name rest : List ℕ) → text ≡ 32 ∷ behind → IsNameSplit behind name rest → ((pool : ℕ) → IsNameToken decls name pool → ⊥) → (pool : ℕ) (more : List ℕ) → IsPoolNext decls text pool more → ⊥
no_pool_first decls text behind name rest spaced split none pool more p =
    let same = same_name_split name (name_at decls pool) rest more split.free (called_free decls pool p.called) split.ended p.ended (sym split.whole ∙ ap (drop 1) (sym spaced ∙ p.whole)) in
    none pool (subst (λ (n : List ℕ). IsNameToken decls n pool) (sym same.0) p.called.named)

-- a component of a new name stands apart from those before it
pub apart_push : (decls : List Decl) (decl : Decl) → are_named_apart decls ≡ true → list_any (has_name decl.name) decls ≡ false → are_named_apart (decls ++ decl ∷ []) ≡ true
apart_push [] decl apart new = refl
apart_push (d ∷ decls) decl apart new =
    let among : Bool = list_any (λ other. has_name other.name d) decls in
    let parts = and_parts (not among) (are_named_apart decls) apart in
    let others = or_parts (has_name decl.name d) (list_any (has_name decl.name) decls) new in
    let none : list_any (λ other. has_name other.name d) (decls ++ decl ∷ []) ≡ false =
    list_any-append (λ other. has_name other.name d) decls (decl ∷ [])
    ∙ or_from _ _ (not-true among parts.0) (or_from _ _ others.0 refl) in
    and_from _ _ (not_from_false _ none) (apart_push decls decl parts.1 others.1)
