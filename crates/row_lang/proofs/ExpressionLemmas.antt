-- An expression in front of tokens gives one more value, of its kind, and nothing else.
use Rattle.std.proofs.Common.{◌≡◌, ℕ, zero, suc, ◌-◌, ◌^◌, ◌<◌, ◌≤◌, ◌==◌, Bool, true, false, cond, ◌&&◌, ◌||◌, List, [], ◌∷◌, ◌++◌, length, slice_get, Option, Some, None, refl, ap, ◌∙◌, subst, arith, ℤ, pos, negsuc}
use Rattle.std.specs.Prelude.{int_lt}
use Rattle.std.specs.Int.{w64, int_wrapping_add, int_wrapping_sub, int_wrapping_mul, int_min, int_max}
use Rattle.std.specs.List.{AllByRecursion, list_any}
use Rattle.std.specs.Map.{lookup}
use Rattle.std.specs.Option.{option_map_or, option_and_then}
use Rattle.std.specs.Ordering.{int_eq}
use Rattle.std.proofs.lemmas.Bool.{and_parts, false≢true}
use Rattle.entity_id.specs.declared.entity.Entity.{Entity}
use Rattle.entity_id.specs.Fields.{field_of, entity_in}
use Rattle.entity_id.specs.FiniteMap as entries
use Rattle.entity_id.specs.Identifiers.{HasLimits, is_same}
use Rattle.entity_id.proofs.ListLemmas.{all_at}
use Rattle.world_model.specs.declared.access.Access.{Access}
use Rattle.world_model.specs.declared.component.Decl.{Decl}
use Rattle.world_model.specs.declared.component.Kind.{Kind}
use Rattle.world_model.specs.declared.component.Kind.TheVariants.{Int, Ref}
use Rattle.world_model.specs.declared.component.Row.{Row}
use Rattle.world_model.specs.declared.tokens.FieldAt.{FieldAt}
use Rattle.world_model.specs.Components.{IsDecl, is_below, kinds_of, value_at}
use Rattle.world_model.specs.Groups.{has_pool}
use Rattle.world_model.specs.Integers.{IsI64}
use Rattle.row_lang.specs.declared.token.Keyword.{Keyword}
use Rattle.row_lang.specs.declared.token.Keyword.TheVariants as key
use Rattle.row_lang.specs.declared.token.Place.{Place}
use Rattle.row_lang.specs.declared.token.Place.TheVariants.{Value, Looked, LookedField}
use Rattle.row_lang.specs.declared.token.Token.{Token}
use Rattle.row_lang.specs.declared.token.Token.TheVariants.{Word, Number, Own, Pool, Field}
use Rattle.row_lang.specs.Arithmetic.{truth, is_zero, quotient, remainder, choice}
use Rattle.row_lang.specs.Bodies.{deed_of}
use Rattle.row_lang.specs.FieldNames.{kind_at}
use Rattle.row_lang.specs.Places.{fills, has_kind, is_kind, is_own, only_if, value_opened}
use Rattle.row_lang.specs.Spelling.{IsToken}
use Rattle.row_lang.specs.Systems.{is_set}
use Rattle.row_lang.specs.Values.{Setting, Operands, at_value, has_value, on_two, operands_of, operands_with, own_row, replaced, rows_looked_at, same_entity}
use Rattle.row_lang.proofs.KindLemmas.{Holds, Stands, bits_are, either_is, truth_is, quotient_is, remainder_is, min_is, max_is, null_holds, self_holds, field_holds}

-- what a body finds is in order: a profile, components, a tick number of less than 64 bits, an entity below the limits, and rows that fit
pub record IsInOrder (decls : List Decl) (s : Setting) (rows : List (ℕ × Row)) : Type 0 where
  pub decls_are : AllByRecursion IsDecl decls
  pub limits : HasLimits s.profile
  pub tick : s.tick < 2 ^ 63
  pub below : is_below s.profile s.entity ≡ true
  pub own : (pool : ℕ) (decl : Decl) → slice_get decls pool ≡ Some decl → Stands s.profile decl (own_row rows pool)
  pub looked : (pool : ℕ) (decl : Decl) → slice_get decls pool ≡ Some decl → AllByRecursion (λ entry. Stands s.profile decl entry.1) (rows_looked_at s pool)

-- ---- places

module _ (filled : List Place → Bool) where
  -- a place that a token fits
  not_none : (b : Bool) (o : Option (List Place)) → option_map_or filled (cond b None o) false ≡ true → option_map_or filled o false ≡ true
  not_none true o is = absurd (false≢true is)
  not_none false o is = is

  pub only : (b : Bool) (more : List Place) → option_map_or filled (only_if b more) false ≡ true → (b ≡ true) × (filled more ≡ true)
  only true more is = (refl, is)
  only false more is = absurd (false≢true is)

same_kind : (a b : Kind) → is_kind a b ≡ true → a ≡ b
same_kind Int Int is = refl
same_kind Int Ref is = absurd (false≢true is)
same_kind Ref Int is = absurd (false≢true is)
same_kind Ref Ref is = refl

-- the kind of a field, with its component
pub field_kind : (decls : List Decl) (pool field : ℕ) (kind : Kind) → kind_at decls pool field ≡ Some kind → (decl : Decl) × (slice_get decls pool ≡ Some decl) × (slice_get (kinds_of decl) field ≡ Some kind)
field_kind decls pool field kind is = split (slice_get decls pool) is
  where
    split : (o : Option Decl) → option_and_then (λ decl. slice_get (kinds_of decl) field) o ≡ Some kind → (decl : Decl) × (o ≡ Some decl) × (slice_get (kinds_of decl) field ≡ Some kind)
    split None is = absurd (cc)
    split (Some decl) is = (decl, refl, is)

pub kind_found : (decls : List Decl) (at : FieldAt) (kind : Kind) → has_kind decls at kind ≡ true → kind_at decls at.pool at.field ≡ Some kind
kind_found decls at kind is = split (kind_at decls at.pool at.field) is
  where
    split : (o : Option Kind) → option_map_or (λ other. is_kind other kind) o false ≡ true → o ≡ Some kind
    split None is = absurd (false≢true is)
    split (Some other) is = ap Some (same_kind other kind is)

module _ (names : List (List ℕ)) (decls : List Decl) (access : Access) (s : Setting) (rows : List (ℕ × Row)) where
  -- tokens begin with an expression of this kind, and those behind it fill these places
  pub record IsExpression (kind : Kind) (places : List Place) (tokens : List Token) : Type 0 where
    pub value : ℤ
    pub behind : List Token
    pub fill : fills decls access places behind ≡ true
    pub holds : Holds s.profile kind value
    pub gives : operands_of s rows tokens ≡ replaced 0 value (operands_of s rows behind)
    pub deed : deed_of tokens ≡ deed_of behind
    pub sets : list_any is_set tokens ≡ list_any is_set behind
    pub shorter : length behind ≤ length tokens
    pub wide : AllByRecursion (IsToken names) behind

  abbrev pub Expressions : ℕ → Type 0
  Expressions n = (kind : Kind) (levels : ℕ) (places : List Place) (tokens : List Token) → length tokens ≤ n → AllByRecursion (IsToken names) tokens →
      fills decls access (Value kind levels ∷ places) tokens ≡ true → IsExpression kind places tokens

  -- one token that is an expression
  leaf : (kind : Kind) (places : List Place) (token : Token) (tokens : List Token) (value : ℤ) → AllByRecursion (IsToken names) tokens →
      fills decls access places tokens ≡ true → Holds s.profile kind value →
      ((o : Operands) → operands_with s rows token o ≡ replaced 0 value o) → deed_of (token ∷ tokens) ≡ deed_of tokens → is_set token ≡ false →
      IsExpression kind places (token ∷ tokens)
  leaf kind places token tokens value wide fill holds gives deed set = record {
    value = value;
    behind = tokens;
    fill = fill;
    holds = holds;
    gives = gives (operands_of s rows tokens);
    deed = deed;
    sets = rw set refl;
    shorter = omega arith;
    wide = wide;
  }

  -- a word before two expressions
  two : (n : ℕ) (each : Expressions n) (word : Keyword) (operator : ℤ → ℤ → ℤ) (kind : Kind) (levels : ℕ) (places : List Place) (tokens : List Token) →
      length tokens ≤ n → AllByRecursion (IsToken names) tokens → fills decls access (Value kind levels ∷ Value kind levels ∷ places) tokens ≡ true →
      ((o : Operands) → operands_with s rows (Word word) o ≡ on_two operator o) → deed_of (Word word ∷ tokens) ≡ deed_of tokens → is_set (Word word) ≡ false →
      ((x y : ℤ) → Holds s.profile kind x → Holds s.profile kind y → Holds s.profile Int (operator x y)) →
      IsExpression Int places (Word word ∷ tokens)
  two n each word operator kind levels places tokens small wide filled acts plain set result =
      let a = each kind levels (Value kind levels ∷ places) tokens small wide filled in
      let b = each kind levels places a.behind (omega (arith, small, a.shorter)) a.wide a.fill in
      record {
        value = operator a.value b.value;
        behind = b.behind;
        fill = b.fill;
        holds = result a.value b.value a.holds b.holds;
        gives = acts (operands_of s rows tokens) ∙ ap (on_two operator) (a.gives ∙ ap (replaced 0 a.value) b.gives);
        deed = plain ∙ a.deed ∙ b.deed;
        sets = ap (λ t. t || list_any is_set tokens) set ∙ a.sets ∙ b.sets;
        shorter = omega (arith, a.shorter, b.shorter);
        wide = b.wide;
      }

  ints : (operator : ℤ → ℤ → ℤ) → ((x y : ℤ) → IsI64 x → IsI64 y → IsI64 (operator x y)) → (x y : ℤ) → Holds s.profile Int x → Holds s.profile Int y → Holds s.profile Int (operator x y)
  ints operator result x y p q = (result x y p.0 q.0, refl)

  -- the words of expressions that aren't operators
  three : (n : ℕ) (each : Expressions n) (kind : Kind) (levels : ℕ) (places : List Place) (tokens : List Token) →
      length tokens ≤ n → AllByRecursion (IsToken names) tokens → fills decls access (Value Int levels ∷ Value kind levels ∷ Value kind levels ∷ places) tokens ≡ true →
      IsExpression kind places (Word key.Choice ∷ tokens)
  three n each kind levels places tokens small wide filled =
      let a = each Int levels (Value kind levels ∷ Value kind levels ∷ places) tokens small wide filled in
      let b = each kind levels (Value kind levels ∷ places) a.behind (omega (arith, small, a.shorter)) a.wide a.fill in
      let c = each kind levels places b.behind (omega (arith, small, a.shorter, b.shorter)) b.wide b.fill in
      record {
        value = choice a.value b.value c.value;
        behind = c.behind;
        fill = c.fill;
        holds = either_is (Holds s.profile kind) (is_zero a.value) c.value b.value c.holds b.holds;
        gives = ap (operands_with s rows (Word key.Choice)) (a.gives ∙ ap (replaced 0 a.value) (b.gives ∙ ap (replaced 0 b.value) c.gives));
        deed = a.deed ∙ b.deed ∙ c.deed;
        sets = a.sets ∙ b.sets ∙ c.sets;
        shorter = omega (arith, a.shorter, b.shorter, c.shorter);
        wide = c.wide;
      }

  looked_first : (places : List Place) (tokens : List Token) → fills decls access (Looked ∷ places) tokens ≡ true →
      (pool : ℕ) × (behind : List Token) × (tokens ≡ Pool pool ∷ behind) × (fills decls access places behind ≡ true)
  looked_first places [] filled = absurd (false≢true filled)
  looked_first places (Pool pool ∷ tokens) filled = (pool, tokens, refl, (only (λ more. fills decls access (more ++ places) tokens) (has_pool access.look pool) [] filled).1)
  looked_first places (_ ∷ tokens) filled = absurd (false≢true filled)

  looked_field_first : (kind : Kind) (places : List Place) (tokens : List Token) → fills decls access (LookedField kind ∷ places) tokens ≡ true →
      (at : FieldAt) × (behind : List Token) × (tokens ≡ Field at ∷ behind) × (has_kind decls at kind ≡ true) × (fills decls access places behind ≡ true)
  looked_field_first kind places [] filled = absurd (false≢true filled)
  looked_field_first kind places (Field at ∷ tokens) filled =
      let parts = only (λ more. fills decls access (more ++ places) tokens) (has_pool access.look at.pool && has_kind decls at kind) [] filled in
      (at, tokens, refl, (and_parts (has_pool access.look at.pool) (has_kind decls at kind) parts.0).1, parts.1)
  looked_field_first kind places (_ ∷ tokens) filled = absurd (false≢true filled)

  has : (n : ℕ) (each : Expressions n) (levels : ℕ) (places : List Place) (tokens : List Token) →
      length tokens ≤ n → AllByRecursion (IsToken names) tokens → fills decls access (Value Ref levels ∷ Looked ∷ places) tokens ≡ true →
      IsExpression Int places (Word key.Has ∷ tokens)
  has n each levels places tokens small wide filled =
      let a = each Ref levels (Looked ∷ places) tokens small wide filled in
      let (pool, behind, is, fill) = looked_first places a.behind a.fill in
      record {
        value = has_value s pool a.value;
        behind = behind;
        fill = fill;
        holds = (truth_is (entries.contains (rows_looked_at s pool) (entity_in s.profile a.value)), refl);
        gives = ap (operands_with s rows (Word key.Has)) (a.gives ∙ ap (λ ts. replaced 0 a.value (operands_of s rows ts)) is);
        deed = a.deed ∙ ap deed_of is;
        sets = a.sets ∙ ap (list_any is_set) is;
        shorter = omega (arith, a.shorter, ap length is);
        wide = (subst (AllByRecursion (IsToken names)) is a.wide).1;
      }

  found_holds : (kind : Kind) (decl : Decl) (field : ℕ) (e : Entity) (otherwise : ℤ) (found : List (Entity × Row)) →
      ((row : Row) → Stands s.profile decl row → Holds s.profile kind (value_at row field)) → AllByRecursion (λ entry. Stands s.profile decl entry.1) found →
      Holds s.profile kind otherwise → Holds s.profile kind (option_map_or (λ row. value_at row field) (entries.get found e) otherwise)
  found_holds kind decl field e otherwise [] row_holds stand holds = holds
  found_holds kind decl field e otherwise (entry ∷ found) row_holds stand holds =
      elim (is_same e entry.0) as (λ b. Holds s.profile kind (option_map_or (λ row. value_at row field) (cond b (Some entry.1) (lookup (is_same e) found)) otherwise)) [
        | true ↦ row_holds entry.1 stand.0
        | false ↦ found_holds kind decl field e otherwise found row_holds stand.1 holds
      ]

  module _ (fine : IsInOrder decls s rows) where
    at_holds : (kind : Kind) (at : FieldAt) (x otherwise : ℤ) → has_kind decls at kind ≡ true → Holds s.profile kind otherwise → Holds s.profile kind (at_value s at x otherwise)
    at_holds kind at x otherwise of_kind holds =
        let (decl, is, field) = field_kind decls at.pool at.field kind (kind_found decls at kind of_kind) in
        found_holds kind decl at.field (entity_in s.profile x) otherwise (rows_looked_at s at.pool)
        (λ row stands. field_holds s.profile decl row at.field kind (all_at IsDecl decls at.pool decl fine.decls_are is) stands field) (fine.looked at.pool decl is) holds

    own_holds : (kind : Kind) (at : FieldAt) → has_kind decls at kind ≡ true → Holds s.profile kind (value_at (own_row rows at.pool) at.field)
    own_holds kind at of_kind =
        let (decl, is, field) = field_kind decls at.pool at.field kind (kind_found decls at kind of_kind) in
        field_holds s.profile decl (own_row rows at.pool) at.field kind (all_at IsDecl decls at.pool decl fine.decls_are is) (fine.own at.pool decl is) field

    looks : (n : ℕ) (each : Expressions n) (kind : Kind) (levels : ℕ) (places : List Place) (tokens : List Token) →
        length tokens ≤ n → AllByRecursion (IsToken names) tokens → fills decls access (Value Ref levels ∷ LookedField kind ∷ Value kind levels ∷ places) tokens ≡ true →
        IsExpression kind places (Word key.At ∷ tokens)
    looks n each kind levels places tokens small wide filled =
        let a = each Ref levels (LookedField kind ∷ Value kind levels ∷ places) tokens small wide filled in
        let (at, found, is, of_kind, fill) = looked_field_first kind (Value kind levels ∷ places) a.behind a.fill in
        let b = each kind levels places found (omega (arith, small, a.shorter, ap length is)) (subst (AllByRecursion (IsToken names)) is a.wide).1 fill in
        record {
          value = at_value s at a.value b.value;
          behind = b.behind;
          fill = b.fill;
          holds = at_holds kind at a.value b.value of_kind b.holds;
          gives = ap (operands_with s rows (Word key.At))
              (a.gives ∙ ap (λ ts. replaced 0 a.value (operands_of s rows ts)) is ∙ ap (λ o. replaced 0 a.value (record o { fields = at ∷ o.fields })) b.gives);
          deed = a.deed ∙ ap deed_of is ∙ b.deed;
          sets = a.sets ∙ ap (list_any is_set) is ∙ b.sets;
          shorter = omega (arith, a.shorter, b.shorter, ap length is);
          wide = b.wide;
        }

    first : (n : ℕ) (each : Expressions n) (token : Token) (kind : Kind) (levels : ℕ) (places : List Place) (tokens : List Token) →
        length tokens ≤ n → IsToken names token → AllByRecursion (IsToken names) tokens →
        option_map_or (λ more. fills decls access (more ++ places) tokens) (value_opened decls access kind levels token) false ≡ true →
        IsExpression kind places (token ∷ tokens)
    first n each (Number z) Int levels places tokens small is wide filled = leaf Int places (Number z) tokens z wide filled (is, refl) (λ o. refl) refl refl
    first n each (Number z) Ref levels places tokens small is wide filled = absurd (false≢true filled)
    first n each (Own at) kind levels places tokens small is wide filled =
        let parts = only (λ more. fills decls access (more ++ places) tokens) (is_own access at.pool && has_kind decls at kind) [] filled in
        leaf kind places (Own at) tokens (value_at (own_row rows at.pool) at.field) wide parts.1
        (own_holds kind at (and_parts (is_own access at.pool) (has_kind decls at kind) parts.0).1) (λ o. refl) refl refl
    first n each (Pool pool) kind levels places tokens small is wide filled = absurd (false≢true filled)
    first n each (Field at) kind levels places tokens small is wide filled = absurd (false≢true filled)
    first n each (Word key.Tick) Int levels places tokens small is wide filled = leaf Int places (Word key.Tick) tokens (pos s.tick) wide filled (fine.tick, refl) (λ o. refl) refl refl
    first n each (Word key.Oneself) Ref levels places tokens small is wide filled =
        leaf Ref places (Word key.Oneself) tokens (field_of s.profile s.entity) wide filled (self_holds s.profile s.entity fine.below fine.limits) (λ o. refl) refl refl
    first n each (Word key.Null) Ref levels places tokens small is wide filled = leaf Ref places (Word key.Null) tokens (negsuc 0) wide filled (null_holds s.profile) (λ o. refl) refl refl
    first n each (Word key.Plus) Int levels places tokens small is wide filled =
        two n each key.Plus (int_wrapping_add w64) Int levels places tokens small wide filled (λ o. refl) refl refl (ints (int_wrapping_add w64) (λ x y p q. bits_are _))
    first n each (Word key.Minus) Int levels places tokens small is wide filled =
        two n each key.Minus (int_wrapping_sub w64) Int levels places tokens small wide filled (λ o. refl) refl refl (ints (int_wrapping_sub w64) (λ x y p q. bits_are _))
    first n each (Word key.Times) Int levels places tokens small is wide filled =
        two n each key.Times (int_wrapping_mul w64) Int levels places tokens small wide filled (λ o. refl) refl refl (ints (int_wrapping_mul w64) (λ x y p q. bits_are _))
    first n each (Word key.Divide) Int levels places tokens small is wide filled =
        two n each key.Divide quotient Int levels places tokens small wide filled (λ o. refl) refl refl (ints quotient (λ x y p q. quotient_is x y))
    first n each (Word key.Remainder) Int levels places tokens small is wide filled =
        two n each key.Remainder remainder Int levels places tokens small wide filled (λ o. refl) refl refl (ints remainder (λ x y p q. remainder_is x y p))
    first n each (Word key.Least) Int levels places tokens small is wide filled =
        two n each key.Least int_min Int levels places tokens small wide filled (λ o. refl) refl refl (ints int_min min_is)
    first n each (Word key.Greatest) Int levels places tokens small is wide filled =
        two n each key.Greatest int_max Int levels places tokens small wide filled (λ o. refl) refl refl (ints int_max max_is)
    first n each (Word key.Less) Int levels places tokens small is wide filled =
        two n each key.Less (λ x y. truth (int_lt x y)) Int levels places tokens small wide filled (λ o. refl) refl refl (ints (λ x y. truth (int_lt x y)) (λ x y p q. truth_is (int_lt x y)))
    first n each (Word key.Equal) Int levels places tokens small is wide filled =
        two n each key.Equal (λ x y. truth (int_eq x y)) Int levels places tokens small wide filled (λ o. refl) refl refl (ints (λ x y. truth (int_eq x y)) (λ x y p q. truth_is (int_eq x y)))
    first n each (Word key.Same) Int levels places tokens small is wide filled =
        two n each key.Same (same_entity s.profile) Ref levels places tokens small wide filled (λ o. refl) refl refl
        (λ x y p q. (truth_is (is_same (entity_in s.profile x) (entity_in s.profile y)), refl))
    first n each (Word key.Choice) kind levels places tokens small is wide filled = three n each kind levels places tokens small wide filled
    first n each (Word key.Has) Int levels places tokens small is wide filled = has n each levels places tokens small wide filled
    first n each (Word key.At) kind levels places tokens small is wide filled = looks n each kind levels places tokens small wide filled
    first n each (Word _) kind levels places tokens small is wide filled = absurd (false≢true filled)

    -- tokens that begin with an expression
    pub expressions : (n : ℕ) → Expressions n
    expressions n kind levels places [] small wide filled = absurd (false≢true filled)
    expressions zero kind levels places (token ∷ tokens) small wide filled = absurd (omega (arith, small))
    expressions (suc n) kind levels places (token ∷ tokens) small wide filled =
        first n (expressions n) token kind (levels - 1) places tokens (omega (arith, small)) wide.0 wide.1
        (not_none (λ more. fills decls access (more ++ places) tokens) (levels == 0) (value_opened decls access kind (levels - 1) token) filled)
