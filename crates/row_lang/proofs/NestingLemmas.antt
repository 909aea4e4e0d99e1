-- The levels of places count how deep expressions stand in each other.
use Rattle.std.proofs.Common.{◌≡◌, ◌≢◌, inl, inr, ℕ, zero, suc, ◌-◌, ◌<◌, ◌≤◌, ltb, eqb, Bool, true, false, cond, ◌&&◌, List, [], ◌∷◌, ◌++◌, replicate, take, drop, slice_index_or, Option, None, refl, sym, ap, subst, ◌∙◌, arith}
use Rattle.std.specs.Prelude.{◌↔◌, if◌then◌else◌}
use Rattle.std.specs.List.{AllByRecursion}
use Rattle.std.specs.Option.{option_map_or}
use Rattle.std.proofs.lemmas.Bool.{both_ways, cases_Bool, eq-eqb, false≢true, ltb-true, ltb-false}
use Rattle.world_model.specs.declared.access.Access.{Access}
use Rattle.world_model.specs.declared.component.Decl.{Decl}
use Rattle.world_model.specs.declared.component.Kind.{Kind}
use Rattle.world_model.specs.declared.component.Kind.TheVariants.{Int, Ref}
use Rattle.world_model.specs.Groups.{has_pool}
use Rattle.row_lang.specs.declared.token.Keyword.TheVariants as key
use Rattle.row_lang.specs.declared.token.Place.{Place}
use Rattle.row_lang.specs.declared.token.Place.TheVariants.{Value, Looked, LookedField}
use Rattle.row_lang.specs.declared.token.Token.{Token}
use Rattle.row_lang.specs.declared.token.Token.TheVariants.{Word, Number, Own, Pool, Field}
use Rattle.row_lang.specs.Nesting.{greatest, nested, nesting, nestings, operands}
use Rattle.row_lang.specs.Places.{fills, has_kind, is_kind, is_own, only_if, value_opened}
use Rattle.row_lang.proofs.AscendingLemmas.{unequal_test}

-- ---- the greatest of numbers

greatest_within : (m : ℕ) (n : ℕ) (ns : List ℕ) → n ≤ m → greatest ns ≤ m → greatest (n ∷ ns) ≤ m
greatest_within m n ns p q = elim (ltb (greatest ns) n) as (λ b. (if b then n else greatest ns) ≤ m) [
  | true ↦ p
  | false ↦ q
]

greatest_parts : (m : ℕ) (n : ℕ) (ns : List ℕ) → greatest (n ∷ ns) ≤ m → (n ≤ m) × (greatest ns ≤ m)
greatest_parts m n ns h = elim (cases_Bool (ltb (greatest ns) n)) [
  | inl above ↦
      let is : n ≤ m = subst (λ b. (if b then n else greatest ns) ≤ m) above h in
      (is, omega (arith, is, ltb-true (greatest ns) n above))
  | inr below ↦
      let is : greatest ns ≤ m = subst (λ b. (if b then n else greatest ns) ≤ m) below h in
      (omega (arith, is, ltb-false (greatest ns) n below), is)
]

-- ---- numbers one by one within others

abbrev Within : List ℕ → List ℕ → Type 0
Within [] [] = Unit {0}
Within (n ∷ ns) (m ∷ ms) = (n ≤ m) × Within ns ms
Within _ _ = ⊥

-- the first so many are within one number
first_within : (count m : ℕ) (ns ms : List ℕ) → Within ns (replicate count m ++ ms) → (greatest (take count ns) ≤ m) × Within (drop count ns) ms
first_within zero m ns ms h = (omega arith, h)
first_within (suc count) m [] ms h = absurd h
first_within (suc count) m (n ∷ ns) ms h =
    let rest = first_within count m ns ms h.1 in
    (greatest_within m n (take count ns) h.0 rest.0, rest.1)

within_first : (count l m : ℕ) (ns ls ms : List ℕ) → Within ns (replicate count l ++ ls) → greatest (take count ns) ≤ m → Within (drop count ns) ms → Within ns (replicate count m ++ ms)
within_first zero l m ns ls ms h few rest = rest
within_first (suc count) l m [] ls ms h few rest = absurd h
within_first (suc count) l m (n ∷ ns) ls ms h few rest =
    let parts = greatest_parts m n (take count ns) few in
    (parts.0, within_first count l m ns ls ms h.1 parts.1 rest)

-- ---- places of expressions

abbrev IsExpression : Place → Type 0
IsExpression (Value kind levels) = Unit {0}
IsExpression Looked = Unit {0}
IsExpression (LookedField kind) = Unit {0}
IsExpression _ = ⊥

abbrev AreExpressions : List Place → Type 0
AreExpressions places = AllByRecursion IsExpression places

-- the levels of expressions' places
abbrev levels_of : List Place → List ℕ
levels_of [] = []
levels_of (Value kind levels ∷ places) = levels ∷ levels_of places
levels_of (_ ∷ places) = levels_of places

-- the same places with other levels
abbrev releveled : List ℕ → List Place → List Place
releveled levels [] = []
releveled levels (Value kind old ∷ places) = Value kind (slice_index_or levels 0 old) ∷ releveled (drop 1 levels) places
releveled levels (place ∷ places) = place ∷ releveled levels places

-- ---- what a token of an expression opens, at any level

abbrev operand_count : Token → ℕ
operand_count (Word word) = operands word
operand_count _ = 0

record IsShape (decls : List Decl) (access : Access) (kind : Kind) (token : Token) : Type 0 where
  holds : Bool
  make : ℕ → List Place
  is : (m : ℕ) → value_opened decls access kind m token ≡ only_if holds (make m)
  levels : (m : ℕ) (places : List Place) → levels_of (make m ++ places) ≡ replicate (operand_count token) m ++ levels_of places
  other : (m n : ℕ) (levels : List ℕ) (places : List Place) → releveled (replicate (operand_count token) n ++ levels) (make m ++ places) ≡ make n ++ releveled levels places
  are : (m : ℕ) (places : List Place) → AreExpressions places → AreExpressions (make m ++ places)

module _ (decls : List Decl) (access : Access) (kind : Kind) where
  abbrev Shape : Token → Type 0
  Shape token = IsShape decls access kind token

  shape : (token : Token) → Shape token
  shape (Number z) = record { holds = is_kind Int kind; make = λ m. []; is = λ m. refl; levels = λ m ps. refl; other = λ m n ls ps. refl; are = λ m ps h. h }
  shape (Own at) = record { holds = is_own access at.pool && has_kind decls at kind; make = λ m. []; is = λ m. refl; levels = λ m ps. refl; other = λ m n ls ps. refl; are = λ m ps h. h }
  shape (Pool pool) = record { holds = false; make = λ m. []; is = λ m. refl; levels = λ m ps. refl; other = λ m n ls ps. refl; are = λ m ps h. h }
  shape (Field at) = record { holds = false; make = λ m. []; is = λ m. refl; levels = λ m ps. refl; other = λ m n ls ps. refl; are = λ m ps h. h }
  shape (Word key.Tick) = record { holds = is_kind Int kind; make = λ m. []; is = λ m. refl; levels = λ m ps. refl; other = λ m n ls ps. refl; are = λ m ps h. h }
  shape (Word key.Plus) = record { holds = is_kind Int kind; make = λ m. Value Int m ∷ Value Int m ∷ []; is = λ m. refl; levels = λ m ps. refl; other = λ m n ls ps. refl; are = λ m ps h. (tt, (tt, h)) }
  shape (Word key.Minus) = record { holds = is_kind Int kind; make = λ m. Value Int m ∷ Value Int m ∷ []; is = λ m. refl; levels = λ m ps. refl; other = λ m n ls ps. refl; are = λ m ps h. (tt, (tt, h)) }
  shape (Word key.Times) = record { holds = is_kind Int kind; make = λ m. Value Int m ∷ Value Int m ∷ []; is = λ m. refl; levels = λ m ps. refl; other = λ m n ls ps. refl; are = λ m ps h. (tt, (tt, h)) }
  shape (Word key.Divide) = record { holds = is_kind Int kind; make = λ m. Value Int m ∷ Value Int m ∷ []; is = λ m. refl; levels = λ m ps. refl; other = λ m n ls ps. refl; are = λ m ps h. (tt, (tt, h)) }
  shape (Word key.Remainder) = record { holds = is_kind Int kind; make = λ m. Value Int m ∷ Value Int m ∷ []; is = λ m. refl; levels = λ m ps. refl; other = λ m n ls ps. refl; are = λ m ps h. (tt, (tt, h)) }
  shape (Word key.Least) = record { holds = is_kind Int kind; make = λ m. Value Int m ∷ Value Int m ∷ []; is = λ m. refl; levels = λ m ps. refl; other = λ m n ls ps. refl; are = λ m ps h. (tt, (tt, h)) }
  shape (Word key.Greatest) = record { holds = is_kind Int kind; make = λ m. Value Int m ∷ Value Int m ∷ []; is = λ m. refl; levels = λ m ps. refl; other = λ m n ls ps. refl; are = λ m ps h. (tt, (tt, h)) }
  shape (Word key.Less) = record { holds = is_kind Int kind; make = λ m. Value Int m ∷ Value Int m ∷ []; is = λ m. refl; levels = λ m ps. refl; other = λ m n ls ps. refl; are = λ m ps h. (tt, (tt, h)) }
  shape (Word key.Equal) = record { holds = is_kind Int kind; make = λ m. Value Int m ∷ Value Int m ∷ []; is = λ m. refl; levels = λ m ps. refl; other = λ m n ls ps. refl; are = λ m ps h. (tt, (tt, h)) }
  shape (Word key.Choice) = record { holds = true; make = λ m. Value Int m ∷ Value kind m ∷ Value kind m ∷ []; is = λ m. refl; levels = λ m ps. refl; other = λ m n ls ps. refl; are = λ m ps h. (tt, (tt, (tt, h))) }
  shape (Word key.Oneself) = record { holds = is_kind Ref kind; make = λ m. []; is = λ m. refl; levels = λ m ps. refl; other = λ m n ls ps. refl; are = λ m ps h. h }
  shape (Word key.Null) = record { holds = is_kind Ref kind; make = λ m. []; is = λ m. refl; levels = λ m ps. refl; other = λ m n ls ps. refl; are = λ m ps h. h }
  shape (Word key.Same) = record { holds = is_kind Int kind; make = λ m. Value Ref m ∷ Value Ref m ∷ []; is = λ m. refl; levels = λ m ps. refl; other = λ m n ls ps. refl; are = λ m ps h. (tt, (tt, h)) }
  shape (Word key.Has) = record { holds = is_kind Int kind; make = λ m. Value Ref m ∷ Looked ∷ []; is = λ m. refl; levels = λ m ps. refl; other = λ m n ls ps. refl; are = λ m ps h. (tt, (tt, h)) }
  shape (Word key.At) = record { holds = true; make = λ m. Value Ref m ∷ LookedField kind ∷ Value kind m ∷ []; is = λ m. refl; levels = λ m ps. refl; other = λ m n ls ps. refl; are = λ m ps h. (tt, (tt, (tt, h))) }
  shape (Word key.When) = record { holds = false; make = λ m. []; is = λ m. refl; levels = λ m ps. refl; other = λ m n ls ps. refl; are = λ m ps h. h }
  shape (Word key.Set) = record { holds = false; make = λ m. []; is = λ m. refl; levels = λ m ps. refl; other = λ m n ls ps. refl; are = λ m ps h. h }
  shape (Word key.Kill) = record { holds = false; make = λ m. []; is = λ m. refl; levels = λ m ps. refl; other = λ m n ls ps. refl; are = λ m ps h. h }
  shape (Word key.Give) = record { holds = false; make = λ m. []; is = λ m. refl; levels = λ m ps. refl; other = λ m n ls ps. refl; are = λ m ps h. h }
  shape (Word key.Take) = record { holds = false; make = λ m. []; is = λ m. refl; levels = λ m ps. refl; other = λ m n ls ps. refl; are = λ m ps h. h }
  shape (Word key.Send) = record { holds = false; make = λ m. []; is = λ m. refl; levels = λ m ps. refl; other = λ m n ls ps. refl; are = λ m ps h. h }
  shape (Word key.Add) = record { holds = false; make = λ m. []; is = λ m. refl; levels = λ m ps. refl; other = λ m n ls ps. refl; are = λ m ps h. h }
  shape (Word key.Spawn) = record { holds = false; make = λ m. []; is = λ m. refl; levels = λ m ps. refl; other = λ m n ls ps. refl; are = λ m ps h. h }
  shape (Word key.Bear) = record { holds = false; make = λ m. []; is = λ m. refl; levels = λ m ps. refl; other = λ m n ls ps. refl; are = λ m ps h. h }

-- ---- one token

-- tokens that fill an expression's place and others
record IsValueFirst (decls : List Decl) (access : Access) (kind : Kind) (levels : ℕ) (places : List Place) (token : Token) (tokens : List Token) : Type 0 where
  above : 0 < levels
  holds : (shape decls access kind token).holds ≡ true
  rest : fills decls access ((shape decls access kind token).make (levels - 1) ++ places) tokens ≡ true

value_first : (decls : List Decl) (access : Access) (kind : Kind) (levels : ℕ) (places : List Place) (token : Token) (tokens : List Token) → fills decls access (Value kind levels ∷ places) (token ∷ tokens) ≡ true → IsValueFirst decls access kind levels places token tokens
value_first decls access kind levels places token tokens fill =
    let s = shape decls access kind token in
    let go : Option (List Place) → Bool = λ o. option_map_or (λ more. fills decls access (more ++ places) tokens) o false in
    elim (cases_Bool (eqb levels 0)) [
      | inl none ↦ absurd (false≢true (sym (ap (λ b. go (cond b None (value_opened decls access kind (levels - 1) token))) none) ∙ fill))
      | inr some ↦
          let above : levels ≢ 0 = λ zero. both_ways (eqb levels 0) some (eq-eqb levels 0 zero) in
          let opens : go (only_if s.holds (s.make (levels - 1))) ≡ true = ap go (sym (s.is (levels - 1))) ∙ sym (ap (λ b. go (cond b None (value_opened decls access kind (levels - 1) token))) some) ∙ fill in
          elim s.holds as (λ b. s.holds ≡ b → go (only_if b (s.make (levels - 1))) ≡ true → IsValueFirst decls access kind levels places token tokens) [
            | false ↦ λ e f. absurd (false≢true f)
            | true ↦ λ e f. record { above = omega (arith, above); holds = e; rest = f }
          ] refl opens
    ]

value_filled : (decls : List Decl) (access : Access) (kind : Kind) (levels : ℕ) (places : List Place) (token : Token) (tokens : List Token) → 0 < levels → (shape decls access kind token).holds ≡ true → fills decls access ((shape decls access kind token).make (levels - 1) ++ places) tokens ≡ true → fills decls access (Value kind levels ∷ places) (token ∷ tokens) ≡ true
value_filled decls access kind levels places token tokens above holds rest =
    let s = shape decls access kind token in
    let go : Option (List Place) → Bool = λ o. option_map_or (λ more. fills decls access (more ++ places) tokens) o false in
    let some : eqb levels 0 ≡ false = unequal_test levels 0 (λ zero. omega (arith, above, zero)) in
    ap (λ b. go (cond b None (value_opened decls access kind (levels - 1) token))) some ∙ ap go (s.is (levels - 1)) ∙ ap (λ b. go (only_if b (s.make (levels - 1)))) holds ∙ rest

-- a name or a field behind a word, which opens nothing
plain_first : (decls : List Decl) (access : Access) (holds : Bool) (places : List Place) (tokens : List Token) → option_map_or (λ more. fills decls access (more ++ places) tokens) (only_if holds []) false ≡ true → (holds ≡ true) × (fills decls access places tokens ≡ true)
plain_first decls access true places tokens h = (refl, h)
plain_first decls access false places tokens h = absurd (false≢true h)

nested_is : (decls : List Decl) (access : Access) (kind : Kind) (token : Token) (tokens : List Token) → (shape decls access kind token).holds ≡ true → nestings (token ∷ tokens) ≡ nested (operand_count token) (nestings tokens)
unfolding shape
nested_is decls access kind (Word word) tokens h = refl
nested_is decls access kind (Number z) tokens h = refl
nested_is decls access kind (Own at) tokens h = refl
nested_is decls access kind (Pool pool) tokens h = absurd (false≢true h)
nested_is decls access kind (Field at) tokens h = absurd (false≢true h)

-- ---- all tokens

-- expressions that fill places have no more levels than they
pub filled_within : (decls : List Decl) (access : Access) (places : List Place) (tokens : List Token) → AreExpressions places → fills decls access places tokens ≡ true → Within (nestings tokens) (levels_of places)
filled_within decls access [] [] are fill = tt
filled_within decls access [] (token ∷ tokens) are fill = absurd (false≢true fill)
filled_within decls access (place ∷ places) [] are fill = absurd (false≢true fill)
filled_within decls access (Value kind levels ∷ places) (token ∷ tokens) are fill =
    let s = shape decls access kind token in
    let h = value_first decls access kind levels places token tokens fill in
    let rest = filled_within decls access (s.make (levels - 1) ++ places) tokens (s.are (levels - 1) places are.1) h.rest in
    let parts = first_within (operand_count token) (levels - 1) (nestings tokens) (levels_of places) (subst (λ (ls : List ℕ). Within (nestings tokens) ls) (s.levels (levels - 1) places) rest) in
    subst (λ (ns : List ℕ). Within ns (levels ∷ levels_of places)) (sym (nested_is decls access kind token tokens h.holds)) (omega (arith, parts.0, h.above), parts.1)
filled_within decls access (Looked ∷ places) (Pool pool ∷ tokens) are fill =
    filled_within decls access places tokens are.1 (plain_first decls access (has_pool access.look pool) places tokens fill).1
filled_within decls access (LookedField kind ∷ places) (Field at ∷ tokens) are fill =
    filled_within decls access places tokens are.1 (plain_first decls access (has_pool access.look at.pool && has_kind decls at kind) places tokens fill).1
filled_within decls access (Looked ∷ places) (token ∷ tokens) are fill = absurd (false≢true fill)
filled_within decls access (LookedField kind ∷ places) (token ∷ tokens) are fill = absurd (false≢true fill)
filled_within decls access (place ∷ places) (token ∷ tokens) are fill = absurd are.0

-- expressions that fill places fill them also with other levels, where they have no more than those
pub within_fills : (decls : List Decl) (access : Access) (places : List Place) (tokens : List Token) (levels : List ℕ) → AreExpressions places → fills decls access places tokens ≡ true → Within (nestings tokens) levels → fills decls access (releveled levels places) tokens ≡ true
within_fills decls access [] [] levels are fill within = refl
within_fills decls access [] (token ∷ tokens) levels are fill within = absurd (false≢true fill)
within_fills decls access (place ∷ places) [] levels are fill within = absurd (false≢true fill)
within_fills decls access (Value kind old ∷ places) (token ∷ tokens) [] are fill within =
    let h = value_first decls access kind old places token tokens fill in
    absurd (subst (λ (ns : List ℕ). Within ns []) (nested_is decls access kind token tokens h.holds) within)
within_fills decls access (Value kind old ∷ places) (token ∷ tokens) (level ∷ levels) are fill within =
    let s = shape decls access kind token in
    let count = operand_count token in
    let h = value_first decls access kind old places token tokens fill in
    let few = subst (λ (ns : List ℕ). Within ns (level ∷ levels)) (nested_is decls access kind token tokens h.holds) within in
    let before = subst (λ (ls : List ℕ). Within (nestings tokens) ls) (s.levels (old - 1) places) (filled_within decls access (s.make (old - 1) ++ places) tokens (s.are (old - 1) places are.1) h.rest) in
    let all = within_first count (old - 1) (level - 1) (nestings tokens) (levels_of places) levels before (omega (arith, few.0)) few.1 in
    let rest = within_fills decls access (s.make (old - 1) ++ places) tokens (replicate count (level - 1) ++ levels) (s.are (old - 1) places are.1) h.rest all in
    value_filled decls access kind level (releveled levels places) token tokens (omega (arith, few.0)) h.holds
    (ap (λ (ps : List Place). fills decls access ps tokens) (sym (s.other (old - 1) (level - 1) levels places)) ∙ rest)
within_fills decls access (Looked ∷ places) (Pool pool ∷ tokens) levels are fill within =
    let h = plain_first decls access (has_pool access.look pool) places tokens fill in
    ap (λ b. option_map_or (λ more. fills decls access (more ++ releveled levels places) tokens) (only_if b []) false) h.0 ∙ within_fills decls access places tokens levels are.1 h.1 within
within_fills decls access (LookedField kind ∷ places) (Field at ∷ tokens) levels are fill within =
    let h = plain_first decls access (has_pool access.look at.pool && has_kind decls at kind) places tokens fill in
    ap (λ b. option_map_or (λ more. fills decls access (more ++ releveled levels places) tokens) (only_if b []) false) h.0 ∙ within_fills decls access places tokens levels are.1 h.1 within
within_fills decls access (Looked ∷ places) (token ∷ tokens) levels are fill within = absurd (false≢true fill)
within_fills decls access (LookedField kind ∷ places) (token ∷ tokens) levels are fill within = absurd (false≢true fill)
within_fills decls access (place ∷ places) (token ∷ tokens) levels are fill within = absurd are.0

-- ---- one expression

-- one number within another
one_within : (ns : List ℕ) (m : ℕ) → Within ns (m ∷ []) → greatest ns ≤ m
one_within [] m h = absurd h
one_within (n ∷ []) m h = greatest_within m n [] h.0 (omega arith)
one_within (n ∷ k ∷ ns) m h = absurd h.1

within_one : (ns : List ℕ) (l m : ℕ) → Within ns (l ∷ []) → greatest ns ≤ m → Within ns (m ∷ [])
within_one [] l m h few = absurd h
within_one (n ∷ []) l m h few = ((greatest_parts m n [] few).0, tt)
within_one (n ∷ k ∷ ns) l m h few = absurd h.1

pub nesting_counted : (decls : List Decl) (access : Access) (kind : Kind) (limit : ℕ) (tokens : List Token)
    → (fills decls access (Value kind limit ∷ []) tokens ≡ true) ↔ (((levels : ℕ) × (fills decls access (Value kind levels ∷ []) tokens ≡ true)) × (nesting tokens ≤ limit))
nesting_counted decls access kind limit tokens = (
  λ fill. ((limit, fill), one_within (nestings tokens) limit (filled_within decls access (Value kind limit ∷ []) tokens (tt, tt) fill)),
  λ h.
      let before = filled_within decls access (Value kind h.0.0 ∷ []) tokens (tt, tt) h.0.1 in
      within_fills decls access (Value kind h.0.0 ∷ []) tokens (limit ∷ []) (tt, tt) h.0.1 (within_one (nestings tokens) h.0.0 limit before h.1),
)
