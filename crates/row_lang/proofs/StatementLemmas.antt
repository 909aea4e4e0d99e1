-- A statement of a system leaves own rows that fit, and gives fitting orders.
use Rattle.std.proofs.Common.{◌≡◌, ℕ, ◌^◌, ◌<◌, Bool, true, false, cond, List, [], ◌∷◌, ◌++◌, map, length, drop, slice_get, Option, Some, None, refl, sym, ap, ◌∙◌, subst, arith, ℤ, if◌then◌else◌}
use Rattle.std.specs.List.{AllByRecursion, AllZip}
use Rattle.std.specs.Option.{option_map_or}
use Rattle.std.proofs.lemmas.Bool.{false≢true, ltb-true}
use Rattle.entity_id.specs.Fields.{entity_in}
use Rattle.entity_id.specs.Identifiers.{HasLimits}
use Rattle.entity_id.proofs.ListLemmas.{all_at, all-append}
use Rattle.world_model.specs.declared.access.Access.{Access}
use Rattle.world_model.specs.declared.component.Decl.{Decl}
use Rattle.world_model.specs.declared.component.Kind.{Kind}
use Rattle.world_model.specs.declared.component.Kind.TheVariants.{Int, Ref}
use Rattle.world_model.specs.declared.component.Row.{Row}
use Rattle.world_model.specs.declared.deferred.Deferred.{Deferred}
use Rattle.world_model.specs.declared.deferred.Deferred.TheVariants as order
use Rattle.world_model.specs.declared.tokens.FieldAt.{FieldAt}
use Rattle.world_model.specs.Components.{IsDecl, fits_kind, has_field, is_below, kinds_of}
use Rattle.world_model.specs.Conditions.{MaySet, MaySetField}
use Rattle.world_model.specs.Groups.{has_pool}
use Rattle.world_model.specs.Orders.{IsFitting}
use Rattle.row_lang.specs.declared.token.Keyword.TheVariants as key
use Rattle.row_lang.specs.declared.token.Place.{Place}
use Rattle.row_lang.specs.declared.token.Place.TheVariants.{Deed, Written, Sent, Raised, Named, Given}
use Rattle.row_lang.specs.declared.token.Token.{Token}
use Rattle.row_lang.specs.declared.token.Token.TheVariants.{Word, Pool, Field}
use Rattle.row_lang.specs.Arithmetic.{is_zero}
use Rattle.row_lang.specs.Bodies.{Done, after_any_deed, after_body, after_deed, after_statement, deed_of, padded_row}
use Rattle.row_lang.specs.Effects.{AreStatements}
use Rattle.row_lang.specs.FieldNames.{kind_at}
use Rattle.row_lang.specs.Places.{fills, has_kind, is_statement, nesting_limit, value_of_field, whole_value}
use Rattle.row_lang.specs.Spelling.{IsToken}
use Rattle.row_lang.specs.Values.{Setting, Operands, operand, operands_of, own_row, replaced, rows_looked_at}
use Rattle.row_lang.proofs.ExpressionLemmas.{IsExpression, IsInOrder, expressions, field_kind, kind_found, only}
use Rattle.row_lang.proofs.KindLemmas.{Holds, Stands, either_is}
use Rattle.row_lang.proofs.RowLemmas.{own_kept, padded_stands, set_stands, within}

-- ---- fields of declared components

-- a place for a field, and the value that has its kind
valued : (filled : List Place → Bool) (decls : List Decl) (at : FieldAt) → option_map_or filled (value_of_field decls at) false ≡ true →
    (kind : Kind) × (kind_at decls at.pool at.field ≡ Some kind) × (filled (whole_value kind ∷ []) ≡ true)
valued filled decls at is = split (kind_at decls at.pool at.field) is
  where
    split : (o : Option Kind) → option_map_or filled (option_map_or (λ kind. Some (whole_value kind ∷ [])) o None) false ≡ true → (kind : Kind) × (o ≡ Some kind) × (filled (whole_value kind ∷ []) ≡ true)
    split None is = absurd (false≢true is)
    split (Some kind) is = (kind, refl, is)

-- a field of a kind passes what its kind passes
kind_passes : (test : Kind → Bool) (decls : List Decl) (pool field : ℕ) (kind : Kind) → kind_at decls pool field ≡ Some kind → test kind ≡ true → has_field test decls pool field ≡ true
kind_passes test decls pool field kind at is =
    let (decl, found, of_kind) = field_kind decls pool field kind at in
    rw (found, of_kind) is

module _ (names : List (List ℕ)) (decls : List Decl) (access : Access) (s : Setting) where
  -- what a body has done so far is in order
  pub record IsDone (d : Done) : Type 0 where
    pub own : (pool : ℕ) (decl : Decl) → slice_get decls pool ≡ Some decl → Stands s.profile decl (own_row d.rows pool)
    pub orders : AllByRecursion (IsFitting s.profile decls) d.orders

  ordered : (d : Done) (given : Deferred) (spawned : Bool) → IsDone d → IsFitting s.profile decls given → IsDone (record { rows = d.rows; spawned = spawned; orders = d.orders ++ given ∷ [] })
  ordered d given spawned is fitting = record { own = is.own; orders = all-append (IsFitting s.profile decls) d.orders (given ∷ []) is.orders (fitting, tt) }

  -- the values of a row that is given, and nothing behind them
  pub record AreGiven (rows : List (ℕ × Row)) (kinds : List Kind) (tokens : List Token) : Type 0 where
    pub fields : List ℤ
    pub hold : AllZip (Holds s.profile) kinds fields
    pub give : (operands_of s rows tokens).values ≡ fields

  module _ (rows : List (ℕ × Row)) (fine : IsInOrder decls s rows) where
    abbrev expression : (kind : Kind) (places : List Place) (tokens : List Token) → AllByRecursion (IsToken names) tokens → fills decls access (whole_value kind ∷ places) tokens ≡ true →
        IsExpression names decls access s rows kind places tokens
    expression kind places tokens wide filled = expressions names decls access s rows fine (length tokens) kind nesting_limit places tokens (omega arith) wide filled

    given : (kinds : List Kind) (tokens : List Token) → AllByRecursion (IsToken names) tokens → fills decls access (map whole_value kinds ++ []) tokens ≡ true → AreGiven rows kinds tokens
    given [] [] wide filled = record { fields = []; hold = tt; give = refl }
    given [] (token ∷ tokens) wide filled = absurd (false≢true filled)
    given (kind ∷ kinds) tokens wide filled =
        let a = expression kind (map whole_value kinds ++ []) tokens wide filled in
        let b = given kinds a.behind a.wide a.fill in
        record { fields = a.value ∷ b.fields; hold = (a.holds, b.hold); give = ap (λ o. o.values) a.gives ∙ ap (λ vs. a.value ∷ vs) b.give }

  -- ---- what stands first

  allowed : (filled : List Place → Bool) (b : Bool) (o : Option (List Place)) → option_map_or filled (cond b o None) false ≡ true → option_map_or filled o false ≡ true
  allowed filled true o is = is
  allowed filled false o is = absurd (false≢true is)

  given_first : (tokens : List Token) → fills decls access (Given ∷ []) tokens ≡ true →
      (pool : ℕ) × (decl : Decl) × (behind : List Token) × (tokens ≡ Pool pool ∷ behind) × (slice_get decls pool ≡ Some decl) × (fills decls access (map whole_value (kinds_of decl) ++ []) behind ≡ true)
  given_first [] filled = absurd (false≢true filled)
  given_first (Pool pool ∷ tokens) filled = split (slice_get decls pool) refl filled
    where
      split : (o : Option Decl) → slice_get decls pool ≡ o → option_map_or (λ more. fills decls access (more ++ []) tokens) (option_map_or (λ decl. Some (map whole_value (kinds_of decl))) o None) false ≡ true →
          (it : ℕ) × (decl : Decl) × (behind : List Token) × (Pool pool ∷ tokens ≡ Pool it ∷ behind) × (slice_get decls it ≡ Some decl) × (fills decls access (map whole_value (kinds_of decl) ++ []) behind ≡ true)
      split None found filled = absurd (false≢true filled)
      split (Some decl) found filled = (pool, decl, tokens, refl, found, filled)
  given_first (_ ∷ tokens) filled = absurd (false≢true filled)

  named_first : (tokens : List Token) → fills decls access (Named ∷ []) tokens ≡ true → (pool : ℕ) × (behind : List Token) × (tokens ≡ Pool pool ∷ behind) × (pool < length decls)
  named_first [] filled = absurd (false≢true filled)
  named_first (Pool pool ∷ tokens) filled = (pool, tokens, refl, ltb-true pool (length decls) (only (λ more. fills decls access (more ++ []) tokens) _ [] filled).0)
  named_first (_ ∷ tokens) filled = absurd (false≢true filled)

  sent_first : (tokens : List Token) → fills decls access (Sent ∷ []) tokens ≡ true →
      (at : FieldAt) × (kind : Kind) × (behind : List Token) × (tokens ≡ Field at ∷ behind) × (kind_at decls at.pool at.field ≡ Some kind) × (fills decls access (whole_value kind ∷ []) behind ≡ true)
  sent_first [] filled = absurd (false≢true filled)
  sent_first (Field at ∷ tokens) filled =
      let (kind, of_kind, fill) = valued (λ more. fills decls access (more ++ []) tokens) decls at filled in
      (at, kind, tokens, refl, of_kind, fill)
  sent_first (_ ∷ tokens) filled = absurd (false≢true filled)

  raised_first : (tokens : List Token) → fills decls access (Raised ∷ []) tokens ≡ true →
      (at : FieldAt) × (behind : List Token) × (tokens ≡ Field at ∷ behind) × (kind_at decls at.pool at.field ≡ Some Int) × (fills decls access (whole_value Int ∷ []) behind ≡ true)
  raised_first [] filled = absurd (false≢true filled)
  raised_first (Field at ∷ tokens) filled =
      let parts = only (λ more. fills decls access (more ++ []) tokens) (has_kind decls at Int) (whole_value Int ∷ []) filled in
      (at, tokens, refl, kind_found decls at Int parts.0, parts.1)
  raised_first (_ ∷ tokens) filled = absurd (false≢true filled)

  -- ---- fitting orders

  row_fits : AllByRecursion IsDecl decls → (pool : ℕ) (decl : Decl) (fields : List ℤ) → slice_get decls pool ≡ Some decl → AllZip (Holds s.profile) (kinds_of decl) fields →
      (pool < length decls) × MaySet s.profile decls pool (padded_row fields)
  row_fits are pool decl fields found hold =
      let stands = padded_stands s.profile decl fields (all_at IsDecl decls pool decl are found) hold in
      (within decls pool decl found, record { wide = stands.0; fit = rw found stands.1 })

  field_fits : (at : FieldAt) (kind : Kind) (x : ℤ) → kind_at decls at.pool at.field ≡ Some kind → Holds s.profile kind x → (at.pool < length decls) × MaySetField s.profile decls at.pool at.field x
  field_fits at kind x of_kind holds =
      let (decl, found, _) = field_kind decls at.pool at.field kind of_kind in
      (within decls at.pool decl found, record { wide = holds.0; fit = λ _. kind_passes (λ kind. fits_kind s.profile kind x) decls at.pool at.field kind of_kind holds.1 })

  -- ---- what each word does

  module _ (d : Done) (done : IsDone d) (fine : IsInOrder decls s d.rows) where
    ordering_done : (given : Deferred) → IsFitting s.profile decls given → IsDone (record d { orders = d.orders ++ given ∷ [] })
    ordering_done given fitting = ordered d given d.spawned done fitting

    set_done : (at : FieldAt) (tokens : List Token) → AllByRecursion (IsToken names) tokens → fills decls access (Written ∷ []) (Field at ∷ tokens) ≡ true →
        IsDone (after_deed s key.Set (operands_of s d.rows (Field at ∷ tokens)) d)
    set_done at tokens wide filled =
        let (kind, of_kind, fill) = valued (λ more. fills decls access (more ++ []) tokens) decls at
        (allowed (λ more. fills decls access (more ++ []) tokens) (has_pool access.write at.pool) (value_of_field decls at) filled) in
        let a = expression d.rows fine kind [] tokens wide fill in
        let x : ℤ = operand (operands_of s d.rows tokens) 0 in
        let holds : Holds s.profile kind x = subst (Holds s.profile kind) (sym (ap (λ o. operand o 0) a.gives)) a.holds in
        record {
          own = λ pool decl found. own_kept (Stands s.profile decl) at x pool
              (λ same row stands. set_stands s.profile decl row at.field kind x stands
              (kind_of_found at.pool at.field decl kind (subst (λ p. slice_get decls p ≡ Some decl) same found) of_kind) holds)
              d.rows (done.own pool decl found);
          orders = done.orders;
        }
      where
        kind_of_found : (pool field : ℕ) (decl : Decl) (kind : Kind) → slice_get decls pool ≡ Some decl → kind_at decls pool field ≡ Some kind → slice_get (kinds_of decl) field ≡ Some kind
        kind_of_found pool field decl kind found of_kind = rw found at of_kind

    give_done : (tokens : List Token) → AllByRecursion (IsToken names) tokens → fills decls access (whole_value Ref ∷ Given ∷ []) tokens ≡ true → IsDone (after_deed s key.Give (operands_of s d.rows tokens) d)
    give_done tokens wide filled =
        let a = expression d.rows fine Ref (Given ∷ []) tokens wide filled in
        let (pool, decl, behind, is, found, fill) = given_first a.behind a.fill in
        let g = given d.rows fine (kinds_of decl) behind (subst (AllByRecursion (IsToken names)) is a.wide).1 fill in
        let ob : Operands = operands_of s d.rows behind in
        let whole : operands_of s d.rows tokens ≡ record { values = a.value ∷ ob.values; pools = pool ∷ ob.pools; fields = ob.fields } =
        a.gives ∙ ap (λ ts. replaced 0 a.value (operands_of s d.rows ts)) is in
        subst (λ o. IsDone (after_deed s key.Give o d)) (sym whole)
        (ordering_done (order.Give (entity_in s.profile a.value) pool (padded_row ob.values))
        (subst (λ fields. (pool < length decls) × MaySet s.profile decls pool (padded_row fields)) (sym g.give) (row_fits fine.decls_are pool decl g.fields found g.hold)))

    bear_done : (tokens : List Token) → AllByRecursion (IsToken names) tokens → fills decls access (Given ∷ []) tokens ≡ true → IsDone (after_deed s key.Bear (operands_of s d.rows tokens) d)
    bear_done tokens wide filled =
        let (pool, decl, behind, is, found, fill) = given_first tokens filled in
        let g = given d.rows fine (kinds_of decl) behind (subst (AllByRecursion (IsToken names)) is wide).1 fill in
        let ob : Operands = operands_of s d.rows behind in
        let whole : operands_of s d.rows tokens ≡ record { values = ob.values; pools = pool ∷ ob.pools; fields = ob.fields } = ap (operands_of s d.rows) is in
        subst (λ o. IsDone (after_deed s key.Bear o d)) (sym whole)
        (either_is IsDone d.spawned (record d { orders = d.orders ++ order.Bear pool (padded_row ob.values) ∷ [] }) d
        (ordering_done (order.Bear pool (padded_row ob.values))
        (subst (λ fields. (pool < length decls) × MaySet s.profile decls pool (padded_row fields)) (sym g.give) (row_fits fine.decls_are pool decl g.fields found g.hold)))
        done)

    take_done : (tokens : List Token) → AllByRecursion (IsToken names) tokens → fills decls access (whole_value Ref ∷ Named ∷ []) tokens ≡ true → IsDone (after_deed s key.Take (operands_of s d.rows tokens) d)
    take_done tokens wide filled =
        let a = expression d.rows fine Ref (Named ∷ []) tokens wide filled in
        let (pool, behind, is, declared) = named_first a.behind a.fill in
        let ob : Operands = operands_of s d.rows behind in
        let whole : operands_of s d.rows tokens ≡ record { values = a.value ∷ ob.values; pools = pool ∷ ob.pools; fields = ob.fields } =
        a.gives ∙ ap (λ ts. replaced 0 a.value (operands_of s d.rows ts)) is in
        subst (λ o. IsDone (after_deed s key.Take o d)) (sym whole) (ordering_done (order.Take (entity_in s.profile a.value) pool) declared)

    send_done : (tokens : List Token) → AllByRecursion (IsToken names) tokens → fills decls access (whole_value Ref ∷ Sent ∷ []) tokens ≡ true → IsDone (after_deed s key.Send (operands_of s d.rows tokens) d)
    send_done tokens wide filled =
        let a = expression d.rows fine Ref (Sent ∷ []) tokens wide filled in
        let (at, kind, behind, is, of_kind, fill) = sent_first a.behind a.fill in
        let b = expression d.rows fine kind [] behind (subst (AllByRecursion (IsToken names)) is a.wide).1 fill in
        let ob : Operands = operands_of s d.rows b.behind in
        let whole : operands_of s d.rows tokens ≡ record { values = a.value ∷ b.value ∷ ob.values; pools = ob.pools; fields = at ∷ ob.fields } =
        a.gives ∙ ap (λ ts. replaced 0 a.value (operands_of s d.rows ts)) is ∙ ap (λ o. replaced 0 a.value (record o { fields = at ∷ o.fields })) b.gives in
        subst (λ o. IsDone (after_deed s key.Send o d)) (sym whole)
        (ordering_done (order.Send (entity_in s.profile a.value) at.pool at.field b.value) (field_fits at kind b.value of_kind b.holds))

    add_done : (tokens : List Token) → AllByRecursion (IsToken names) tokens → fills decls access (whole_value Ref ∷ Raised ∷ []) tokens ≡ true → IsDone (after_deed s key.Add (operands_of s d.rows tokens) d)
    add_done tokens wide filled =
        let a = expression d.rows fine Ref (Raised ∷ []) tokens wide filled in
        let (at, behind, is, of_kind, fill) = raised_first a.behind a.fill in
        let b = expression d.rows fine Int [] behind (subst (AllByRecursion (IsToken names)) is a.wide).1 fill in
        let ob : Operands = operands_of s d.rows b.behind in
        let whole : operands_of s d.rows tokens ≡ record { values = a.value ∷ b.value ∷ ob.values; pools = ob.pools; fields = at ∷ ob.fields } =
        a.gives ∙ ap (λ ts. replaced 0 a.value (operands_of s d.rows ts)) is ∙ ap (λ o. replaced 0 a.value (record o { fields = at ∷ o.fields })) b.gives in
        subst (λ o. IsDone (after_deed s key.Add o d)) (sym whole)
        (ordering_done (order.Add (entity_in s.profile a.value) at.pool at.field b.value)
        ((field_fits at Int b.value of_kind b.holds).0, (kind_passes _ decls at.pool at.field Int of_kind refl, b.holds.0)))

    -- what a statement does, by its word
    deed_done : (tokens : List Token) → AllByRecursion (IsToken names) tokens → fills decls access (Deed ∷ []) tokens ≡ true →
        IsDone (after_any_deed s (deed_of tokens) (operands_of s d.rows tokens) d)
    deed_done [] wide filled = absurd (false≢true filled)
    deed_done (Word key.Set ∷ []) wide filled = absurd (false≢true filled)
    deed_done (Word key.Set ∷ Field at ∷ tokens) wide filled = set_done at tokens wide.1.1 filled
    deed_done (Word key.Set ∷ _ ∷ tokens) wide filled = absurd (false≢true filled)
    deed_done (Word key.Kill ∷ tokens) wide filled = ordering_done (order.Kill (entity_in s.profile (operand (operands_of s d.rows tokens) 0))) tt
    deed_done (Word key.Give ∷ tokens) wide filled = give_done tokens wide.1 filled
    deed_done (Word key.Take ∷ tokens) wide filled = take_done tokens wide.1 filled
    deed_done (Word key.Send ∷ tokens) wide filled = send_done tokens wide.1 filled
    deed_done (Word key.Add ∷ tokens) wide filled = add_done tokens wide.1 filled
    deed_done (Word key.Spawn ∷ tokens) wide filled = ordered d order.Spawn true done tt
    deed_done (Word key.Bear ∷ tokens) wide filled = bear_done tokens wide.1 filled
    deed_done (_ ∷ tokens) wide filled = absurd (false≢true filled)

    -- a statement, with a test or without
    statement_done : (tokens : List Token) → AllByRecursion (IsToken names) tokens → is_statement decls access tokens ≡ true → IsDone (after_statement s tokens d)
    statement_done [] wide filled = absurd (false≢true filled)
    statement_done (Word key.When ∷ tokens) wide filled =
        let a = expression d.rows fine Int (Deed ∷ []) tokens wide.1 filled in
        subst (λ o. IsDone (if is_zero (operand o 0) then d else after_any_deed s (deed_of tokens) (record o { values = drop 1 o.values }) d)) (sym a.gives)
        (subst (λ word. IsDone (if is_zero a.value then d else after_any_deed s word (operands_of s d.rows a.behind) d)) (sym a.deed)
        (either_is IsDone (is_zero a.value) d (after_any_deed s (deed_of a.behind) (operands_of s d.rows a.behind) d) done (deed_done a.behind a.wide a.fill)))
    statement_done (Word key.Set ∷ tokens) wide filled = deed_done (Word key.Set ∷ tokens) wide filled
    statement_done (Word key.Kill ∷ tokens) wide filled = deed_done (Word key.Kill ∷ tokens) wide filled
    statement_done (Word key.Give ∷ tokens) wide filled = deed_done (Word key.Give ∷ tokens) wide filled
    statement_done (Word key.Take ∷ tokens) wide filled = deed_done (Word key.Take ∷ tokens) wide filled
    statement_done (Word key.Send ∷ tokens) wide filled = deed_done (Word key.Send ∷ tokens) wide filled
    statement_done (Word key.Add ∷ tokens) wide filled = deed_done (Word key.Add ∷ tokens) wide filled
    statement_done (Word key.Spawn ∷ tokens) wide filled = deed_done (Word key.Spawn ∷ tokens) wide filled
    statement_done (Word key.Bear ∷ tokens) wide filled = deed_done (Word key.Bear ∷ tokens) wide filled
    statement_done (_ ∷ tokens) wide filled = absurd (false≢true filled)

  -- what a body finds for an entity is in order, but for its own rows
  pub record IsSetting : Type 0 where
    pub decls_are : AllByRecursion IsDecl decls
    pub limits : HasLimits s.profile
    pub tick : s.tick < 2 ^ 63
    pub below : is_below s.profile s.entity ≡ true
    pub looked : (pool : ℕ) (decl : Decl) → slice_get decls pool ≡ Some decl → AllByRecursion (λ entry. Stands s.profile decl entry.1) (rows_looked_at s pool)

  pub body_is_done : IsSetting → (statements : List (List Token)) → AreStatements names decls access statements → (d : Done) → IsDone d → IsDone (after_body s statements d)
  body_is_done fine [] are d done = done
  body_is_done fine (tokens ∷ statements) are d done =
      body_is_done fine statements are.1 (after_statement s tokens d)
      (statement_done d done (record { decls_are = fine.decls_are; limits = fine.limits; tick = fine.tick; below = fine.below; own = done.own; looked = fine.looked }) tokens are.0.0 are.0.1)
