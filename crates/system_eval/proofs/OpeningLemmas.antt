-- What the places that a token opens do to the operands of a statement, to the room that they need, and where the words of statements stand.
use Rattle.std.proofs.Common.{◌≡◌, ◌≢◌, ℕ, zero, suc, ◌+◌, ◌-◌, ◌*◌, ◌≤◌, ◌==◌, Bool, true, false, cond, ◌&&◌, List, [], ◌∷◌, ◌++◌, map, drop, length, slice_get, Option, Some, None, refl, sym, ◌∙◌, subst, arith, length-drop, length-take}
use Rattle.std.specs.Prelude.{MatchOption}
use Rattle.std.specs.List.{list_all, AllByRecursion}
use Rattle.std.specs.Option.{option_map_or}
use Rattle.std.proofs.lemmas.Bool.{false≢true, eq-eqb}
use Rattle.world_model.specs.declared.access.Access.{Access}
use Rattle.world_model.specs.declared.component.Decl.{Decl}
use Rattle.world_model.specs.declared.component.Kind.{Kind}
use Rattle.world_model.specs.declared.component.Kind.TheVariants.{Int, Ref}
use Rattle.world_model.specs.declared.component.Row.{Row}
use Rattle.world_model.specs.declared.tokens.FieldAt.{FieldAt}
use Rattle.world_model.specs.Components.{IsDecl, kinds_of}
use Rattle.world_model.specs.Groups.{has_pool}
use Rattle.row_lang.specs.declared.token.Keyword.TheVariants as key
use Rattle.row_lang.specs.declared.token.Place.{Place}
use Rattle.row_lang.specs.declared.token.Place.TheVariants.{Statement, Deed, Value, Looked, LookedField, Written, Sent, Raised, Named, Given}
use Rattle.row_lang.specs.declared.token.Token.{Token}
use Rattle.row_lang.specs.declared.token.Token.TheVariants.{Word, Number, Own, Pool, Field}
use Rattle.row_lang.specs.FieldNames.{kind_at}
use Rattle.row_lang.specs.Places.{has_kind, is_kind, is_own, only_if, opened, deed_opened, statement_opened, value_opened, value_of_field, whole_value}
use Rattle.row_lang.specs.Systems.{is_set}
use Rattle.row_lang.specs.Values.{Setting, Operands, operands_with}
use Rattle.system_eval.proofs.WeightLemmas.{HaveReach, Within, added, added-append, fields_of, is_deed_token, is_quiet, pools_of, reach, values_of, weight}

module _ (decls : List Decl) (declared : AllByRecursion IsDecl decls) (access : Access) (s : Setting) (rows : List (ℕ × Row)) where
  -- a token that opens these places in one that weighs so much and needs so much room
  pub record Sound (quiet : Bool) (v p f n : ℕ) (token : Token) (more : List Place) : Type 0 where
    pub counts : (a b c : ℕ) (o : Operands) → Within (added values_of more + a) (added pools_of more + b) (added fields_of more + c) o → Within (v + a) (p + b) (f + c) (operands_with s rows token o)
    pub room : (left : List Place) → added weight left + n ≤ 47 → HaveReach left → HaveReach (more ++ left)
    pub hush : quiet ≡ true → (is_set token ≡ false) × (is_deed_token token ≡ false) × (list_all is_quiet more ≡ true)

  abbrev pub Opens : Bool → ℕ → ℕ → ℕ → ℕ → Token → Option (List Place) → Type 0
  Opens quiet v p f n token o = MatchOption o (Unit {0}) (Sound quiet v p f n token)

  only : (quiet : Bool) (v p f n : ℕ) (token : Token) (b : Bool) (more : List Place) → Sound quiet v p f n token more → Opens quiet v p f n token (only_if b more)
  only quiet v p f n token true more is = is
  only quiet v p f n token false more is = tt

  either : (quiet : Bool) (v p f n : ℕ) (token : Token) (b : Bool) (x y : Option (List Place)) → Opens quiet v p f n token x → Opens quiet v p f n token y → Opens quiet v p f n token (cond b x y)
  either quiet v p f n token true x y is other = is
  either quiet v p f n token false x y is other = other

  -- ---- expressions

  -- a token in front of so many values gives one in their place
  abbrev Takes : Token → ℕ → Type 0
  Takes token count = (o : Operands) → (length (operands_with s rows token o).values ≡ suc (length (drop count o.values))) × (length (operands_with s rows token o).pools ≡ length o.pools) × (length (operands_with s rows token o).fields ≡ length o.fields)

  leaf : (n : ℕ) (token : Token) → Takes token 0 → is_set token ≡ false → is_deed_token token ≡ false → Sound true 1 0 0 (3 + 2 * n) token []
  leaf n token takes set deed = record {
    counts = λ a b c o w. let t = takes o in record { values = omega (arith, t.0, w.values); pools = omega (arith, t.1, w.pools); fields = omega (arith, t.2, w.fields) };
    room = λ left few have. have;
    hush = λ _. (set, deed, refl);
  }

  pair : (n : ℕ) (token : Token) (a b : Kind) → Takes token 2 → is_set token ≡ false → is_deed_token token ≡ false → Sound true 1 0 0 (3 + 2 * n) token (Value a n ∷ Value b n ∷ [])
  pair n token k l takes set deed = record {
    counts = λ a b c o w. let t = takes o in record { values = omega (arith, t.0, length-drop 2 o.values, w.values); pools = omega (arith, t.1, w.pools); fields = omega (arith, t.2, w.fields) };
    room = λ left few have. (omega (arith, few), (omega (arith, few), have));
    hush = λ _. (set, deed, refl);
  }

  pub open_value : (kind : Kind) (n : ℕ) (token : Token) → Opens true 1 0 0 (3 + 2 * n) token (value_opened decls access kind n token)
  open_value kind n (Number z) = only true 1 0 0 (3 + 2 * n) (Number z) (is_kind Int kind) [] (leaf n (Number z) (λ o. (refl, refl, refl)) refl refl)
  open_value kind n (Own at) = only true 1 0 0 (3 + 2 * n) (Own at) (is_own access at.pool && has_kind decls at kind) [] (leaf n (Own at) (λ o. (refl, refl, refl)) refl refl)
  open_value kind n (Pool pool) = tt
  open_value kind n (Field at) = tt
  open_value kind n (Word key.Plus) = only true 1 0 0 (3 + 2 * n) (Word key.Plus) (is_kind Int kind) (Value Int n ∷ Value Int n ∷ []) (pair n (Word key.Plus) Int Int (λ o. (refl, refl, refl)) refl refl)
  open_value kind n (Word key.Minus) = only true 1 0 0 (3 + 2 * n) (Word key.Minus) (is_kind Int kind) (Value Int n ∷ Value Int n ∷ []) (pair n (Word key.Minus) Int Int (λ o. (refl, refl, refl)) refl refl)
  open_value kind n (Word key.Times) = only true 1 0 0 (3 + 2 * n) (Word key.Times) (is_kind Int kind) (Value Int n ∷ Value Int n ∷ []) (pair n (Word key.Times) Int Int (λ o. (refl, refl, refl)) refl refl)
  open_value kind n (Word key.Divide) = only true 1 0 0 (3 + 2 * n) (Word key.Divide) (is_kind Int kind) (Value Int n ∷ Value Int n ∷ []) (pair n (Word key.Divide) Int Int (λ o. (refl, refl, refl)) refl refl)
  open_value kind n (Word key.Remainder) = only true 1 0 0 (3 + 2 * n) (Word key.Remainder) (is_kind Int kind) (Value Int n ∷ Value Int n ∷ []) (pair n (Word key.Remainder) Int Int (λ o. (refl, refl, refl)) refl refl)
  open_value kind n (Word key.Least) = only true 1 0 0 (3 + 2 * n) (Word key.Least) (is_kind Int kind) (Value Int n ∷ Value Int n ∷ []) (pair n (Word key.Least) Int Int (λ o. (refl, refl, refl)) refl refl)
  open_value kind n (Word key.Greatest) = only true 1 0 0 (3 + 2 * n) (Word key.Greatest) (is_kind Int kind) (Value Int n ∷ Value Int n ∷ []) (pair n (Word key.Greatest) Int Int (λ o. (refl, refl, refl)) refl refl)
  open_value kind n (Word key.Less) = only true 1 0 0 (3 + 2 * n) (Word key.Less) (is_kind Int kind) (Value Int n ∷ Value Int n ∷ []) (pair n (Word key.Less) Int Int (λ o. (refl, refl, refl)) refl refl)
  open_value kind n (Word key.Equal) = only true 1 0 0 (3 + 2 * n) (Word key.Equal) (is_kind Int kind) (Value Int n ∷ Value Int n ∷ []) (pair n (Word key.Equal) Int Int (λ o. (refl, refl, refl)) refl refl)
  open_value kind n (Word key.Same) = only true 1 0 0 (3 + 2 * n) (Word key.Same) (is_kind Int kind) (Value Ref n ∷ Value Ref n ∷ []) (pair n (Word key.Same) Ref Ref (λ o. (refl, refl, refl)) refl refl)
  open_value kind n (Word key.Tick) = only true 1 0 0 (3 + 2 * n) (Word key.Tick) (is_kind Int kind) [] (leaf n (Word key.Tick) (λ o. (refl, refl, refl)) refl refl)
  open_value kind n (Word key.Oneself) = only true 1 0 0 (3 + 2 * n) (Word key.Oneself) (is_kind Ref kind) [] (leaf n (Word key.Oneself) (λ o. (refl, refl, refl)) refl refl)
  open_value kind n (Word key.Null) = only true 1 0 0 (3 + 2 * n) (Word key.Null) (is_kind Ref kind) [] (leaf n (Word key.Null) (λ o. (refl, refl, refl)) refl refl)
  open_value kind n (Word key.Choice) = record {
    counts = λ a b c o w. record { values = omega (arith, length-drop 3 o.values, w.values); pools = omega (arith, w.pools); fields = omega (arith, w.fields) };
    room = λ left few have. (omega (arith, few), (omega (arith, few), (omega (arith, few), have)));
    hush = λ _. (refl, refl, refl);
  }
  open_value kind n (Word key.Has) = only true 1 0 0 (3 + 2 * n) (Word key.Has) (is_kind Int kind) (Value Ref n ∷ Looked ∷ []) (record {
    counts = λ a b c o w. record { values = omega (arith, length-drop 1 o.values, w.values); pools = omega (arith, length-drop 1 o.pools, w.pools); fields = omega (arith, w.fields) };
    room = λ left few have. (omega (arith, few), (omega (arith, few), have));
    hush = λ _. (refl, refl, refl);
  })
  open_value kind n (Word key.At) = record {
    counts = λ a b c o w. record { values = omega (arith, length-drop 2 o.values, w.values); pools = omega (arith, w.pools); fields = omega (arith, length-drop 1 o.fields, w.fields) };
    room = λ left few have. (omega (arith, few), (omega (arith, few), (omega (arith, few), have)));
    hush = λ _. (refl, refl, refl);
  }
  open_value kind n (Word _) = tt

  -- ---- names and fields

  -- a token that puts nothing on but what it names
  pool_sound : (quiet : Bool) (n : ℕ) (pool : ℕ) → 1 ≤ n → Sound quiet 0 1 0 n (Pool pool) []
  pool_sound quiet n pool some = record {
    counts = λ a b c o w. record { values = omega (arith, w.values); pools = omega (arith, w.pools); fields = omega (arith, w.fields) };
    room = λ left few have. have;
    hush = λ _. (refl, refl, refl);
  }

  looked_field_sound : (at : FieldAt) → Sound true 0 0 1 1 (Field at) []
  looked_field_sound at = record {
    counts = λ a b c o w. record { values = omega (arith, w.values); pools = omega (arith, w.pools); fields = omega (arith, w.fields) };
    room = λ left few have. have;
    hush = λ _. (refl, refl, refl);
  }

  field_sound : (at : FieldAt) (kind : Kind) → Sound true 1 0 1 33 (Field at) (whole_value kind ∷ [])
  field_sound at kind = record {
    counts = λ a b c o w. record { values = omega (arith, w.values); pools = omega (arith, w.pools); fields = omega (arith, w.fields) };
    room = λ left few have. (omega (arith, few), have);
    hush = λ _. (refl, refl, refl);
  }

  open_field : (at : FieldAt) → Opens true 1 0 1 33 (Field at) (value_of_field decls at)
  open_field at = split (kind_at decls at.pool at.field)
    where
      split : (o : Option Kind) → Opens true 1 0 1 33 (Field at) (option_map_or (λ kind. Some (whole_value kind ∷ [])) o None)
      split None = tt
      split (Some kind) = field_sound at kind

  -- ---- rows that are given

  values_weigh : (of : Place → ℕ) (one : ℕ) → ((kind : Kind) → of (whole_value kind) ≡ one) → (kinds : List Kind) → added of (map whole_value kinds) ≡ one * length kinds
  values_weigh of one is [] = omega arith
  values_weigh of one is (kind ∷ kinds) =
      let behind = values_weigh of one is kinds in
      let product : one * suc (length kinds) ≡ one + one * length kinds = omega arith in
      omega (arith, is kind, behind, product)

  values_reach : (kinds : List Kind) (left : List Place) → added weight left + length kinds + 32 ≤ 47 → HaveReach left → HaveReach (map whole_value kinds ++ left)
  values_reach [] left few have = have
  values_reach (kind ∷ kinds) left few have =
      let sum = added-append weight (map whole_value kinds) left in
      let own = values_weigh weight 1 (λ _. refl) kinds in
      (omega (arith, sum, own, few), values_reach kinds left (omega (arith, few)) have)

  values_quiet : (kinds : List Kind) → list_all is_quiet (map whole_value kinds) ≡ true
  values_quiet [] = refl
  values_quiet (kind ∷ kinds) = values_quiet kinds

  kinds_few : (decls : List Decl) (pool : ℕ) (decl : Decl) → AllByRecursion IsDecl decls → slice_get decls pool ≡ Some decl → length (kinds_of decl) ≤ 4
  kinds_few [] pool decl each e = absurd (cc)
  kinds_few (d ∷ decls) zero decl each e = let same : d ≡ decl = cc in subst (λ (d : Decl). length (kinds_of d) ≤ 4) same (omega (arith, each.0.few, length-take d.count d.kinds))
  kinds_few (d ∷ decls) (suc pool) decl each e = kinds_few decls pool decl each.1 e

  given_sound : (pool : ℕ) (kinds : List Kind) → length kinds ≤ 4 → Sound true 4 1 0 36 (Pool pool) (map whole_value kinds)
  given_sound pool kinds small = record {
    counts = λ a b c o w. record {
      values = omega (arith, w.values, small, values_weigh values_of 1 (λ _. refl) kinds);
      pools = omega (arith, w.pools, values_weigh pools_of 0 (λ _. refl) kinds);
      fields = omega (arith, w.fields, values_weigh fields_of 0 (λ _. refl) kinds);
    };
    room = λ left few have. values_reach kinds left (omega (arith, few, small)) have;
    hush = λ _. (refl, refl, values_quiet kinds);
  }

  open_given : (pool : ℕ) → Opens true 4 1 0 36 (Pool pool) (option_map_or (λ decl. Some (map whole_value (kinds_of decl))) (slice_get decls pool) None)
  open_given pool = split (slice_get decls pool) refl
    where
      split : (o : Option Decl) → slice_get decls pool ≡ o → Opens true 4 1 0 36 (Pool pool) (option_map_or (λ decl. Some (map whole_value (kinds_of decl))) o None)
      split None found = tt
      split (Some decl) found = given_sound pool (kinds_of decl) (kinds_few decls pool decl declared found)

  -- ---- words of statements

  -- a word that gives nothing, and opens places that weigh no more
  word_sound : (v p f n : ℕ) (token : Token) (more : List Place) → ((o : Operands) → operands_with s rows token o ≡ o) → added values_of more ≤ v → added pools_of more ≤ p → added fields_of more ≤ f →
      ((left : List Place) → added weight left + n ≤ 47 → HaveReach left → HaveReach (more ++ left)) → Sound false v p f n token more
  word_sound v p f n token more same few_values few_pools few_fields room = record {
    counts = λ a b c o w. subst (Within (v + a) (p + b) (f + c)) (sym (same o)) (record { values = omega (arith, w.values, few_values); pools = omega (arith, w.pools, few_pools); fields = omega (arith, w.fields, few_fields) });
    room = room;
    hush = λ quiet. absurd (false≢true quiet);
  }

  open_deed : (v n : ℕ) (token : Token) → 5 ≤ v → 37 ≤ n → Opens false v 1 1 n token (deed_opened token)
  open_deed v n (Word key.Set) wide tall = word_sound v 1 1 n (Word key.Set) (Written ∷ []) (λ o. refl) (omega (arith, wide)) (omega arith) (omega arith) (λ left few have. (omega (arith, few, tall), have))
  open_deed v n (Word key.Kill) wide tall = word_sound v 1 1 n (Word key.Kill) (whole_value Ref ∷ []) (λ o. refl) (omega (arith, wide)) (omega arith) (omega arith) (λ left few have. (omega (arith, few, tall), have))
  open_deed v n (Word key.Give) wide tall = word_sound v 1 1 n (Word key.Give) (whole_value Ref ∷ Given ∷ []) (λ o. refl) (omega (arith, wide)) (omega arith) (omega arith) (λ left few have. (omega (arith, few, tall), (omega (arith, few, tall), have)))
  open_deed v n (Word key.Take) wide tall = word_sound v 1 1 n (Word key.Take) (whole_value Ref ∷ Named ∷ []) (λ o. refl) (omega (arith, wide)) (omega arith) (omega arith) (λ left few have. (omega (arith, few, tall), (omega (arith, few, tall), have)))
  open_deed v n (Word key.Send) wide tall = word_sound v 1 1 n (Word key.Send) (whole_value Ref ∷ Sent ∷ []) (λ o. refl) (omega (arith, wide)) (omega arith) (omega arith) (λ left few have. (omega (arith, few, tall), (omega (arith, few, tall), have)))
  open_deed v n (Word key.Add) wide tall = word_sound v 1 1 n (Word key.Add) (whole_value Ref ∷ Raised ∷ []) (λ o. refl) (omega (arith, wide)) (omega arith) (omega arith) (λ left few have. (omega (arith, few, tall), (omega (arith, few, tall), have)))
  open_deed v n (Word key.Spawn) wide tall = word_sound v 1 1 n (Word key.Spawn) ([]) (λ o. refl) (omega (arith, wide)) (omega arith) (omega arith) (λ left few have. have)
  open_deed v n (Word key.Bear) wide tall = word_sound v 1 1 n (Word key.Bear) (Given ∷ []) (λ o. refl) (omega (arith, wide)) (omega arith) (omega arith) (λ left few have. (omega (arith, few, tall), have))
  open_deed v n _ wide tall = tt

  open_statement : (token : Token) → Opens false 6 1 1 38 token (statement_opened token)
  open_statement (Word key.When) = word_sound 6 1 1 38 (Word key.When) (whole_value Int ∷ Deed ∷ []) (λ o. refl) (omega arith) (omega arith) (omega arith) (λ left few have. (omega (arith, few), (omega (arith, few), have)))
  open_statement token = open_deed 6 38 token (omega arith) (omega arith)

  -- ---- all places

  pub open_sound : (place : Place) (token : Token) → Opens (is_quiet place) (values_of place) (pools_of place) (fields_of place) (reach place) token (opened decls access place token)
  open_sound Statement token = open_statement token
  open_sound Deed token = open_deed 5 37 token (omega arith) (omega arith)
  open_sound (Value kind levels) token = split (levels == 0) refl
    where
      split : (b : Bool) → (levels == 0) ≡ b → Opens true 1 0 0 (1 + 2 * levels) token (cond b None (value_opened decls access kind (levels - 1) token))
      split true is = tt
      split false is =
          let some : levels ≢ 0 = λ zero. false≢true (sym is ∙ eq-eqb levels 0 zero) in
          let same : 3 + 2 * (levels - 1) ≡ 1 + 2 * levels = omega (arith, some) in
          subst (λ n. Opens true 1 0 0 n token (value_opened decls access kind (levels - 1) token)) same (open_value kind (levels - 1) token)
  open_sound Looked (Pool pool) = only true 0 1 0 1 (Pool pool) (has_pool access.look pool) [] (pool_sound true 1 pool (omega arith))
  open_sound Looked _ = tt
  open_sound (LookedField kind) (Field at) = only true 0 0 1 1 (Field at) (has_pool access.look at.pool && has_kind decls at kind) [] (looked_field_sound at)
  open_sound (LookedField kind) _ = tt
  open_sound Written (Field at) = either true 1 0 1 33 (Field at) (has_pool access.write at.pool) (value_of_field decls at) None (open_field at) tt
  open_sound Written _ = tt
  open_sound Sent (Field at) = open_field at
  open_sound Sent _ = tt
  open_sound Raised (Field at) = only true 1 0 1 33 (Field at) (has_kind decls at Int) (whole_value Int ∷ []) (field_sound at Int)
  open_sound Raised _ = tt
  open_sound Named (Pool pool) = only true 0 1 0 1 (Pool pool) _ [] (pool_sound true 1 pool (omega arith))
  open_sound Named _ = tt
  open_sound Given (Pool pool) = open_given pool
  open_sound Given _ = tt
