-- The statements of a system in a line: which tokens they have, and which are admissible.
use Rattle.std.proofs.Common.{◌≡◌, inl, inr, ℕ, ◌-◌, ◌<◌, Bool, true, false, cond, eqb, ◌&&◌, List, [], ◌∷◌, ◌++◌, length, Some, None, refl, sym, ap, subst, ◌∙◌}
use Rattle.std.specs.List.{AllByRecursion}
use Rattle.std.specs.Option.{option_map_or, is_some}
use Rattle.std.proofs.lemmas.Bool.{and_parts, cases_Bool, false≢true}
use Rattle.std.proofs.lemmas.List.{length-map}
use Rattle.world_model.specs.declared.access.Access.{Access}
use Rattle.world_model.specs.declared.component.Decl.{Decl}
use Rattle.world_model.specs.declared.component.Kind.{Kind}
use Rattle.world_model.specs.declared.component.Kind.TheVariants.{Int}
use Rattle.world_model.specs.declared.tokens.FieldAt.{FieldAt}
use Rattle.world_model.specs.Groups.{has_pool}
use Rattle.world_model.specs.Tokens.{field_count}
use Rattle.row_lang.specs.declared.token.Place.{Place}
use Rattle.row_lang.specs.declared.token.Place.TheVariants.{Value, LookedField, Written, Sent, Raised}
use Rattle.row_lang.specs.declared.token.Token.{Token}
use Rattle.row_lang.specs.declared.token.Token.TheVariants.{Word, Number, Own, Pool, Field}
use Rattle.row_lang.specs.FieldNames.{kind_at}
use Rattle.row_lang.specs.Naming.{names_of}
use Rattle.row_lang.specs.Places.{fills, has_kind, is_kind, is_own, only_if, opened, value_of_field, value_opened, whole_value}
use Rattle.row_lang.specs.Spelling.{IsToken}
use Rattle.row_lang.specs.TokenReading.{fits, IsDeclared}
use Rattle.row_lang.proofs.FieldLemmas.{field_counted}

-- ---- a token that fits is of a declared component and a declared field

pub table_length : (decls : List Decl) → length (names_of decls) ≡ length decls
table_length decls = length-map decls (λ (decl : Decl). decl.name)

kind_declares : (decls : List Decl) (at : FieldAt) (kind : Kind) → kind_at decls at.pool at.field ≡ Some kind → at.field < field_count decls at.pool
kind_declares decls at kind e = field_counted decls at.pool at.field kind e

has_declares : (decls : List Decl) (at : FieldAt) (kind : Kind) → has_kind decls at kind ≡ true → at.field < field_count decls at.pool
has_declares decls at kind h = elim (kind_at decls at.pool at.field) as (λ o. kind_at decls at.pool at.field ≡ o → option_map_or (λ other. is_kind other kind) o false ≡ true → at.field < field_count decls at.pool) [
  | None ↦ λ e none. absurd (false≢true none)
  | Some k ↦ λ e some. kind_declares decls at k e
] refl h

only_holds : (holds : Bool) (places : List Place) → is_some (only_if holds places) ≡ true → holds ≡ true
only_holds true places h = refl
only_holds false places h = absurd (false≢true h)

value_declares : (decls : List Decl) (at : FieldAt) → is_some (value_of_field decls at) ≡ true → at.field < field_count decls at.pool
value_declares decls at h = elim (kind_at decls at.pool at.field) as (λ o. kind_at decls at.pool at.field ≡ o → is_some (option_map_or (λ kind. Some (whole_value kind ∷ [])) o None) ≡ true → at.field < field_count decls at.pool) [
  | None ↦ λ e none. absurd (false≢true none)
  | Some kind ↦ λ e some. kind_declares decls at kind e
] refl h

module _ (decls : List Decl) (access : Access) where
  declared : (pool : ℕ) → pool < length (names_of decls) → pool < length decls
  declared pool h = subst (λ n. pool < n) (table_length decls) h

  own_declares : (kind : Kind) (levels : ℕ) (at : FieldAt) → fits decls access (Value kind levels) (Own at) ≡ true → at.field < field_count decls at.pool
  own_declares kind levels at h = elim (cases_Bool (eqb levels 0)) [
    | inl none ↦ absurd (false≢true (sym (ap (λ b. is_some (cond b None (value_opened decls access kind (levels - 1) (Own at)))) none) ∙ h))
    | inr some ↦
        let holds = only_holds (is_own access at.pool && has_kind decls at kind) [] (sym (ap (λ b. is_some (cond b None (value_opened decls access kind (levels - 1) (Own at)))) some) ∙ h) in
        has_declares decls at kind (and_parts (is_own access at.pool) (has_kind decls at kind) holds).1
  ]

  no_value_field : (kind : Kind) (levels : ℕ) (at : FieldAt) → fits decls access (Value kind levels) (Field at) ≡ true → ⊥
  no_value_field kind levels at h = elim (eqb levels 0) as (λ b. is_some {T = List Place} (cond b None None) ≡ true → ⊥) [
    | true ↦ λ none. false≢true none
    | false ↦ λ none. false≢true none
  ] h

  pub fits_declared : (place : Place) (token : Token) → fits decls access place token ≡ true → IsToken (names_of decls) token → IsDeclared decls token
  fits_declared place (Word word) fit is = tt
  fits_declared place (Number z) fit is = is
  fits_declared place (Pool pool) fit is = declared pool is
  fits_declared (Value kind levels) (Own at) fit is = (declared at.pool is, own_declares kind levels at fit)
  fits_declared (Value kind levels) (Field at) fit is = absurd (no_value_field kind levels at fit)
  fits_declared (LookedField kind) (Field at) fit is =
      let holds = only_holds (has_pool access.look at.pool && has_kind decls at kind) [] fit in
      (declared at.pool is, has_declares decls at kind (and_parts (has_pool access.look at.pool) (has_kind decls at kind) holds).1)
  fits_declared Written (Field at) fit is = (declared at.pool is, written (has_pool access.write at.pool) fit)
    where
      written : (b : Bool) → is_some (cond b (value_of_field decls at) None) ≡ true → at.field < field_count decls at.pool
      written true h = value_declares decls at h
      written false h = absurd (false≢true h)
  fits_declared Sent (Field at) fit is = (declared at.pool is, value_declares decls at fit)
  fits_declared Raised (Field at) fit is = (declared at.pool is, has_declares decls at Int (only_holds (has_kind decls at Int) _ fit))
  fits_declared _ _ fit is = absurd (false≢true fit)

  pub all_declared : (places : List Place) (tokens : List Token) → fills decls access places tokens ≡ true → AllByRecursion (IsToken (names_of decls)) tokens → AllByRecursion (IsDeclared decls) tokens
  all_declared [] [] fill are = tt
  all_declared [] (token ∷ tokens) fill are = absurd (false≢true fill)
  all_declared (place ∷ places) [] fill are = tt
  all_declared (place ∷ places) (token ∷ tokens) fill are =
      elim (opened decls access place token) as (λ o. opened decls access place token ≡ o → option_map_or (λ more. fills decls access (more ++ places) tokens) o false ≡ true → AllByRecursion (IsDeclared decls) (token ∷ tokens)) [
        | None ↦ λ e none. absurd (false≢true none)
        | Some more ↦ λ e rest. (fits_declared place token (ap is_some e) are.0, all_declared (more ++ places) tokens rest are.1)
      ] refl fill

pub in_table : (decls : List Decl) (tokens : List Token) → AllByRecursion (IsDeclared decls) tokens → AllByRecursion (IsToken (names_of decls)) tokens
in_table decls [] are = tt
in_table decls (token ∷ tokens) are = (one token are.0, in_table decls tokens are.1)
  where
    back : (pool : ℕ) → pool < length decls → pool < length (names_of decls)
    back pool h = subst (λ n. pool < n) (sym (table_length decls)) h

    one : (token : Token) → IsDeclared decls token → IsToken (names_of decls) token
    one (Word word) is = tt
    one (Number z) is = is
    one (Own at) is = back at.pool is.0
    one (Pool pool) is = back pool is
    one (Field at) is = back at.pool is.0
