-- A system gives no more orders than it has command statements, for each of its entities.
use Rattle.std.proofs.Common.{◌≡◌, ℕ, zero, suc, ◌+◌, ◌*◌, ◌≤◌, ◌==◌, Bool, true, false, cond, not, ◌&&◌, ◌||◌, List, [], ◌∷◌, ◌++◌, map, get_or, length, slice_get, Option, Some, None, refl, sym, ap, ◌∙◌, subst, arith, length-append, append_assoc, if◌then◌else◌}
use Rattle.std.specs.Prelude.{MatchOption, slice_index_or}
use Rattle.std.specs.List.{list_any, list_all, flat_map}
use Rattle.std.specs.Option.{option_map_or}
use Rattle.std.proofs.Math.Nat.{mul-le-mul_left}
use Rattle.std.proofs.lemmas.List.Sums.{length-filter, count_by-le-length, sum_by-cons}
use Rattle.std.proofs.lemmas.Bool.{and_parts, and_from, false≢true}
use Rattle.entity_id.specs.declared.entity.Entity.{Entity}
use Rattle.entity_id.specs.declared.entity.Profile.{Profile}
use Rattle.entity_id.specs.FiniteMap as entries
use Rattle.entity_id.specs.Matching.{is_match, matches}
use Rattle.world_model.specs.declared.access.Access.{Access}
use Rattle.world_model.specs.declared.component.Decl.{Decl}
use Rattle.world_model.specs.declared.component.Kind.{Kind}
use Rattle.world_model.specs.declared.component.Kind.TheVariants.{Int, Ref}
use Rattle.world_model.specs.declared.component.Row.{Row}
use Rattle.world_model.specs.declared.tokens.FieldAt.{FieldAt}
use Rattle.world_model.specs.Components.{kinds_of}
use Rattle.world_model.specs.Groups.{has_pool}
use Rattle.world_model.specs.Ticks.{Maps}
use Rattle.row_lang.specs.declared.token.Keyword.{Keyword}
use Rattle.row_lang.specs.declared.token.Keyword.TheVariants as key
use Rattle.row_lang.specs.declared.token.Place.{Place}
use Rattle.row_lang.specs.declared.token.Place.TheVariants.{Statement, Deed, Value, Looked, LookedField, Written, Sent, Raised, Named, Given}
use Rattle.row_lang.specs.declared.token.Token.{Token}
use Rattle.row_lang.specs.declared.token.Token.TheVariants.{Word, Number, Own, Pool, Field}
use Rattle.row_lang.specs.Arithmetic.{is_zero}
use Rattle.row_lang.specs.Bodies.{Done, after_any_deed, after_body, after_deed, after_statement, deed_of, is_deed}
use Rattle.row_lang.specs.Effects.{AreStatements, IsChecked, done_for, own_rows, setting_of, system_effect}
use Rattle.row_lang.specs.FieldNames.{kind_at}
use Rattle.world_model.specs.Frames.{GivesAtMost, map_at, members, own_pools}
use Rattle.row_lang.specs.Places.{fills, has_kind, is_kind, is_own, is_statement, only_if, opened, value_opened, value_of_field, whole_value}
use Rattle.row_lang.specs.Systems.{System, command_count, is_command, is_set}
use Rattle.row_lang.specs.Naming.{names_of}
use Rattle.row_lang.specs.Values.{Setting, Operands, operand, operands_of}

-- ---- which places a word of a statement may stand in

-- whether no word of a statement fits a place
abbrev is_quiet : Place → Bool
is_quiet Statement = false
is_quiet Deed = false
is_quiet _ = true

abbrev is_deed_token : Token → Bool
is_deed_token (Word word) = is_deed word
is_deed_token _ = false

-- where a token fits, it is no word of a statement, and opens places for none
abbrev Quiet : Token → Option (List Place) → Type 0
Quiet token o = MatchOption o (Unit {0}) (λ more. (is_set token ≡ false) × (is_deed_token token ≡ false) × (list_all is_quiet more ≡ true))

only_quiet : (token : Token) (b : Bool) (more : List Place) → is_set token ≡ false → is_deed_token token ≡ false → list_all is_quiet more ≡ true → Quiet token (only_if b more)
only_quiet token true more set deed quiet = (set, deed, quiet)
only_quiet token false more set deed quiet = tt

cond_quiet : (token : Token) (b : Bool) (o p : Option (List Place)) → Quiet token o → Quiet token p → Quiet token (cond b o p)
cond_quiet token true o p q r = q
cond_quiet token false o p q r = r

quiet_values : (kinds : List Kind) → list_all is_quiet (map whole_value kinds) ≡ true
quiet_values [] = refl
quiet_values (kind ∷ kinds) = quiet_values kinds

module _ (decls : List Decl) (access : Access) where
  value_quiet : (kind : Kind) (levels : ℕ) (token : Token) → Quiet token (value_opened decls access kind levels token)
  value_quiet kind levels (Number z) = only_quiet (Number z) (is_kind Int kind) [] refl refl refl
  value_quiet kind levels (Own at) = only_quiet (Own at) (is_own access at.pool && has_kind decls at kind) [] refl refl refl
  value_quiet kind levels (Pool pool) = tt
  value_quiet kind levels (Field at) = tt
  value_quiet kind levels (Word key.Tick) = only_quiet (Word key.Tick) (is_kind Int kind) [] refl refl refl
  value_quiet kind levels (Word key.Plus) = only_quiet (Word key.Plus) (is_kind Int kind) (Value Int levels ∷ Value Int levels ∷ []) refl refl refl
  value_quiet kind levels (Word key.Minus) = only_quiet (Word key.Minus) (is_kind Int kind) (Value Int levels ∷ Value Int levels ∷ []) refl refl refl
  value_quiet kind levels (Word key.Times) = only_quiet (Word key.Times) (is_kind Int kind) (Value Int levels ∷ Value Int levels ∷ []) refl refl refl
  value_quiet kind levels (Word key.Divide) = only_quiet (Word key.Divide) (is_kind Int kind) (Value Int levels ∷ Value Int levels ∷ []) refl refl refl
  value_quiet kind levels (Word key.Remainder) = only_quiet (Word key.Remainder) (is_kind Int kind) (Value Int levels ∷ Value Int levels ∷ []) refl refl refl
  value_quiet kind levels (Word key.Least) = only_quiet (Word key.Least) (is_kind Int kind) (Value Int levels ∷ Value Int levels ∷ []) refl refl refl
  value_quiet kind levels (Word key.Greatest) = only_quiet (Word key.Greatest) (is_kind Int kind) (Value Int levels ∷ Value Int levels ∷ []) refl refl refl
  value_quiet kind levels (Word key.Less) = only_quiet (Word key.Less) (is_kind Int kind) (Value Int levels ∷ Value Int levels ∷ []) refl refl refl
  value_quiet kind levels (Word key.Equal) = only_quiet (Word key.Equal) (is_kind Int kind) (Value Int levels ∷ Value Int levels ∷ []) refl refl refl
  value_quiet kind levels (Word key.Choice) = (refl, refl, refl)
  value_quiet kind levels (Word key.Oneself) = only_quiet (Word key.Oneself) (is_kind Ref kind) [] refl refl refl
  value_quiet kind levels (Word key.Null) = only_quiet (Word key.Null) (is_kind Ref kind) [] refl refl refl
  value_quiet kind levels (Word key.Same) = only_quiet (Word key.Same) (is_kind Int kind) (Value Ref levels ∷ Value Ref levels ∷ []) refl refl refl
  value_quiet kind levels (Word key.Has) = only_quiet (Word key.Has) (is_kind Int kind) (Value Ref levels ∷ Looked ∷ []) refl refl refl
  value_quiet kind levels (Word key.At) = (refl, refl, refl)
  value_quiet kind levels (Word _) = tt

  field_quiet : (at : FieldAt) → Quiet (Field at) (value_of_field decls at)
  field_quiet at = split (kind_at decls at.pool at.field)
    where
      split : (o : Option Kind) → Quiet (Field at) (option_map_or (λ kind. Some (whole_value kind ∷ [])) o None)
      split None = tt
      split (Some kind) = (refl, refl, refl)

  opened_quiet : (place : Place) (token : Token) → is_quiet place ≡ true → Quiet token (opened decls access place token)
  opened_quiet Statement token quiet = absurd (false≢true quiet)
  opened_quiet Deed token quiet = absurd (false≢true quiet)
  opened_quiet (Value kind levels) token quiet = cond_quiet token (levels == 0) None _ tt (value_quiet kind _ token)
  opened_quiet Looked (Pool pool) quiet = only_quiet (Pool pool) (has_pool access.look pool) [] refl refl refl
  opened_quiet Looked _ quiet = tt
  opened_quiet (LookedField kind) (Field at) quiet = only_quiet (Field at) (has_pool access.look at.pool && has_kind decls at kind) [] refl refl refl
  opened_quiet (LookedField kind) _ quiet = tt
  opened_quiet Written (Field at) quiet = cond_quiet (Field at) (has_pool access.write at.pool) (value_of_field decls at) None (field_quiet at) tt
  opened_quiet Written _ quiet = tt
  opened_quiet Sent (Field at) quiet = field_quiet at
  opened_quiet Sent _ quiet = tt
  opened_quiet Raised (Field at) quiet = only_quiet (Field at) (has_kind decls at Int) (whole_value Int ∷ []) refl refl refl
  opened_quiet Raised _ quiet = tt
  opened_quiet Named (Pool pool) quiet = only_quiet (Pool pool) _ [] refl refl refl
  opened_quiet Named _ quiet = tt
  opened_quiet Given (Pool pool) quiet = split (slice_get decls pool)
    where
      split : (o : Option Decl) → Quiet (Pool pool) (option_map_or (λ decl. Some (map whole_value (kinds_of decl))) o None)
      split None = tt
      split (Some decl) = (refl, refl, quiet_values (kinds_of decl))
  opened_quiet Given _ quiet = tt

  -- ---- where the word `set` stands

  quiet_more : (more places : List Place) → list_all is_quiet more ≡ true → list_all is_quiet places ≡ true → list_all is_quiet (more ++ places) ≡ true
  quiet_more [] places first behind = behind
  quiet_more (place ∷ more) places first behind =
      let parts = and_parts (is_quiet place) (list_all is_quiet more) first in and_from _ _ parts.0 (quiet_more more places parts.1 behind)

  -- nowhere in tokens that fill such places
  unset : (tokens : List Token) (places : List Place) → list_all is_quiet places ≡ true → fills decls access places tokens ≡ true → list_any is_set tokens ≡ false
  unset [] places quiet filled = refl
  unset (token ∷ tokens) [] quiet filled = absurd (false≢true filled)
  unset (token ∷ tokens) (place ∷ places) quiet filled =
      let parts = and_parts (is_quiet place) (list_all is_quiet places) quiet in
      step (opened decls access place token) (opened_quiet place token parts.0) filled (λ more first fill. unset tokens (more ++ places) (quiet_more more places first parts.1) fill)
    where
      step : (o : Option (List Place)) → Quiet token o → option_map_or (λ more. fills decls access (more ++ places) tokens) o false ≡ true →
          ((more : List Place) → list_all is_quiet more ≡ true → fills decls access (more ++ places) tokens ≡ true → list_any is_set tokens ≡ false) →
          (is_set token || list_any is_set tokens) ≡ false
      step None is filled behind = absurd (false≢true filled)
      step (Some more) is filled behind = rw (is.0, behind more is.2 filled) refl

  -- or as the word that says what a statement does
  deed_behind : (tokens : List Token) (places : List Place) → list_all is_quiet places ≡ true → fills decls access (places ++ Deed ∷ []) tokens ≡ true → list_any is_set tokens ≡ true → deed_of tokens ≡ Some key.Set
  deed_behind [] [] quiet filled is = absurd (false≢true filled)
  deed_behind [] (place ∷ places) quiet filled is = absurd (false≢true filled)
  deed_behind (Word key.Set ∷ tokens) [] quiet filled is = refl
  deed_behind (Word key.Kill ∷ tokens) [] quiet filled is = absurd (false≢true (sym (unset tokens (whole_value Ref ∷ []) refl filled) ∙ is))
  deed_behind (Word key.Give ∷ tokens) [] quiet filled is = absurd (false≢true (sym (unset tokens (whole_value Ref ∷ Given ∷ []) refl filled) ∙ is))
  deed_behind (Word key.Take ∷ tokens) [] quiet filled is = absurd (false≢true (sym (unset tokens (whole_value Ref ∷ Named ∷ []) refl filled) ∙ is))
  deed_behind (Word key.Send ∷ tokens) [] quiet filled is = absurd (false≢true (sym (unset tokens (whole_value Ref ∷ Sent ∷ []) refl filled) ∙ is))
  deed_behind (Word key.Add ∷ tokens) [] quiet filled is = absurd (false≢true (sym (unset tokens (whole_value Ref ∷ Raised ∷ []) refl filled) ∙ is))
  deed_behind (Word key.Spawn ∷ tokens) [] quiet filled is = absurd (false≢true (sym (unset tokens [] refl filled) ∙ is))
  deed_behind (Word key.Bear ∷ tokens) [] quiet filled is = absurd (false≢true (sym (unset tokens (Given ∷ []) refl filled) ∙ is))
  deed_behind (_ ∷ tokens) [] quiet filled is = absurd (false≢true filled)
  deed_behind (token ∷ tokens) (place ∷ places) quiet filled is =
      let parts = and_parts (is_quiet place) (list_all is_quiet places) quiet in
      step (opened decls access place token) (opened_quiet place token parts.0) filled is
      (λ more first fill set. deed_behind tokens (more ++ places) (quiet_more more places first parts.1) (subst (λ all. fills decls access all tokens ≡ true) (sym (append_assoc more places (Deed ∷ []))) fill) set)
    where
      skipped : (token : Token) → is_deed_token token ≡ false → deed_of (token ∷ tokens) ≡ deed_of tokens
      skipped (Word word) is = rw is refl
      skipped (Number z) is = refl
      skipped (Own at) is = refl
      skipped (Pool pool) is = refl
      skipped (Field at) is = refl

      step : (o : Option (List Place)) → Quiet token o → option_map_or (λ more. fills decls access (more ++ (places ++ Deed ∷ [])) tokens) o false ≡ true → (is_set token || list_any is_set tokens) ≡ true →
          ((more : List Place) → list_all is_quiet more ≡ true → fills decls access (more ++ (places ++ Deed ∷ [])) tokens ≡ true → list_any is_set tokens ≡ true → deed_of tokens ≡ Some key.Set) →
          deed_of (token ∷ tokens) ≡ Some key.Set
      step None is filled set behind = absurd (false≢true filled)
      step (Some more) is filled set behind = skipped token is.1 ∙ behind more is.2 filled (sym (ap (λ b. b || list_any is_set tokens) is.0) ∙ set)

-- ---- how many orders

appended : {X : Type 0} (xs : List X) (x : X) → length (xs ++ x ∷ []) ≤ length xs + 1
appended xs x = omega (arith, length-append xs (x ∷ []))

either_least : {X : Type 0} (size : X → ℕ) (n : ℕ) (b : Bool) (x y : X) → size x ≤ n → size y ≤ n → size (if b then x else y) ≤ n
either_least size n true x y p q = p
either_least size n false x y p q = q

module _ (s : Setting) (d : Done) where
  abbrev count : Done → ℕ
  count it = length it.orders

  word_adds : (word : Keyword) (o : Operands) → count (after_deed s word o d) ≤ count d + 1
  word_adds key.Kill o = appended d.orders _
  word_adds key.Give o = appended d.orders _
  word_adds key.Take o = appended d.orders _
  word_adds key.Send o = appended d.orders _
  word_adds key.Add o = appended d.orders _
  word_adds key.Spawn o = appended d.orders _
  word_adds key.Bear o = either_least count (count d + 1) d.spawned _ d (appended d.orders _) (omega arith)
  word_adds _ o = omega arith

  deed_adds : (word : Option Keyword) (o : Operands) → count (after_any_deed s word o d) ≤ count d + 1
  deed_adds None o = omega arith
  deed_adds (Some word) o = word_adds word o

  statement_adds : (tokens : List Token) → count (after_statement s tokens d) ≤ count d + 1
  statement_adds (Word key.When ∷ tokens) = either_least count (count d + 1) (is_zero (operand (operands_of s d.rows tokens) 0)) d _ (omega arith) (deed_adds (deed_of tokens) _)
  statement_adds tokens = deed_adds (deed_of tokens) (operands_of s d.rows tokens)

module _ (decls : List Decl) (access : Access) (s : Setting) where
  -- a `set` gives none
  set_adds_none : (d : Done) (tokens : List Token) → is_statement decls access tokens ≡ true → list_any is_set tokens ≡ true → length (after_statement s tokens d).orders ≤ length d.orders
  set_adds_none d [] filled is = absurd (false≢true filled)
  set_adds_none d (Word key.When ∷ tokens) filled is =
      rw (deed_behind decls access tokens (whole_value Int ∷ []) refl filled is)
      (either_least (λ it. length it.orders) (length d.orders) (is_zero (operand (operands_of s d.rows tokens) 0)) d _ (omega arith) (omega arith))
  set_adds_none d (Word key.Set ∷ tokens) filled is = omega arith
  set_adds_none d (Word key.Kill ∷ tokens) filled is = absurd (false≢true (sym (unset decls access tokens (whole_value Ref ∷ []) refl filled) ∙ is))
  set_adds_none d (Word key.Give ∷ tokens) filled is = absurd (false≢true (sym (unset decls access tokens (whole_value Ref ∷ Given ∷ []) refl filled) ∙ is))
  set_adds_none d (Word key.Take ∷ tokens) filled is = absurd (false≢true (sym (unset decls access tokens (whole_value Ref ∷ Named ∷ []) refl filled) ∙ is))
  set_adds_none d (Word key.Send ∷ tokens) filled is = absurd (false≢true (sym (unset decls access tokens (whole_value Ref ∷ Sent ∷ []) refl filled) ∙ is))
  set_adds_none d (Word key.Add ∷ tokens) filled is = absurd (false≢true (sym (unset decls access tokens (whole_value Ref ∷ Raised ∷ []) refl filled) ∙ is))
  set_adds_none d (Word key.Spawn ∷ tokens) filled is = absurd (false≢true (sym (unset decls access tokens [] refl filled) ∙ is))
  set_adds_none d (Word key.Bear ∷ tokens) filled is = absurd (false≢true (sym (unset decls access tokens (Given ∷ []) refl filled) ∙ is))
  set_adds_none d (_ ∷ tokens) filled is = absurd (false≢true filled)

  statement_counts : (d : Done) (tokens : List Token) → is_statement decls access tokens ≡ true → length (after_statement s tokens d).orders ≤ length d.orders + cond (is_command tokens) 1 0
  statement_counts d tokens filled = split (list_any is_set tokens) refl
    where
      split : (b : Bool) → list_any is_set tokens ≡ b → length (after_statement s tokens d).orders ≤ length d.orders + cond (not b) 1 0
      split true is = omega (arith, set_adds_none d tokens filled is)
      split false is = statement_adds s d tokens

  body_counts : (names : List (List ℕ)) (statements : List (List Token)) → AreStatements names decls access statements → (d : Done) → length (after_body s statements d).orders ≤ length d.orders + command_count statements
  body_counts names [] are d = omega arith
  body_counts names (tokens ∷ statements) are d =
      let first = statement_counts d tokens are.0.1 in
      let behind = body_counts names statements are.1 (after_statement s tokens d) in
      let all : command_count (tokens ∷ statements) ≡ cond (is_command tokens) 1 0 + command_count statements = sum_by-cons (λ it. cond (is_command it) 1 0) tokens statements in
      omega (arith, first, behind, all)

-- ---- a system

flat_map_counts : {X Y : Type 0} (f : X → List Y) (n : ℕ) → ((x : X) → length (f x) ≤ n) → (xs : List X) → length (flat_map f xs) ≤ n * length xs
flat_map_counts f n each [] = omega arith
flat_map_counts f n each (x ∷ xs) =
    let first = each x in let behind = flat_map_counts f n each xs in
    let all : length (f x ++ flat_map f xs) ≡ length (f x) + length (flat_map f xs) = length-append (f x) (flat_map f xs) in
    let product : n * length (x ∷ xs) ≡ n + n * length xs = omega arith in
    omega (arith, first, behind, all, product)

length-keys : (rows : List (Entity × Row)) → length (entries.keys rows) ≡ length rows
length-keys [] = refl
length-keys (entry ∷ rows) = let behind = length-keys rows in omega (arith, behind)

pub keys_counted : (maps : Maps) (pool : ℕ) → length (get_or (map entries.keys maps) pool []) ≡ length (map_at maps pool)
keys_counted [] pool = refl
keys_counted (rows ∷ maps) zero = length-keys rows
keys_counted (rows ∷ maps) (suc pool) = keys_counted maps pool

members_counted : (access : Access) (maps : Maps) → length (members access maps) ≤ length (map_at maps (slice_index_or (own_pools access) 0 0))
members_counted access maps = first (own_pools access)
  where
    first : (pools : List ℕ) → length (matches (map entries.keys maps) pools access.without) ≤ length (map_at maps (slice_index_or pools 0 0))
    first [] = omega arith
    first (pool ∷ pools) =
        let test = is_match (map entries.keys maps) (pool ∷ pools) access.without in
        let keys = get_or (map entries.keys maps) pool [] in
        omega (arith, length-filter test keys, count_by-le-length test keys, keys_counted maps pool)

pub orders_counted : (profile : Profile) (decls : List Decl) (system : System) → IsChecked decls system → (tick : ℕ) (maps : Maps) →
    length (system_effect profile system tick maps).orders ≤ command_count system.statements * length (members system.access maps)
orders_counted profile decls system checked tick maps =
    let of_each : (e : Entity) → length (done_for profile system tick maps e).orders ≤ command_count system.statements =
    λ e. let counted = body_counts decls system.access (setting_of profile system.access tick maps e) (names_of decls) system.statements checked.statements (record { rows = own_rows system.access maps e; spawned = false; orders = [] }) in
    omega (arith, counted) in
    flat_map_counts (λ e. (done_for profile system tick maps e).orders) (command_count system.statements) of_each (members system.access maps)

pub gives_at_most : (profile : Profile) (decls : List Decl) (system : System) → IsChecked decls system → GivesAtMost (command_count system.statements) system.access (system_effect profile system)
gives_at_most profile decls system checked tick maps =
    let product = mul-le-mul_left (command_count system.statements) (members_counted system.access maps) in
    omega (arith, orders_counted profile decls system checked tick maps, product)
