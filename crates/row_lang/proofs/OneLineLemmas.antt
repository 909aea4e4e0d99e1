-- One text is one line of a system.
use Rattle.std.proofs.Common.{◌≡◌, ℕ, true, false, List, [], ◌∷◌, ◌++◌, drop, get_or, length, map, codes, Some, None, refl, sym, ap, ap₂, subst, ◌∙◌, arith, append_assoc}
use Rattle.std.specs.List.{AllByRecursion}
use Rattle.std.specs.Option.{is_some, option_map_or}
use Rattle.std.proofs.lemmas.Bool.{and_parts, false≢true}
use Rattle.std.proofs.lemmas.Option.{same_Some}
use Rattle.world_model.specs.declared.access.Access.{Access}
use Rattle.world_model.specs.declared.component.Decl.{Decl}
use Rattle.world_model.specs.Tokens.{component_named}
use Rattle.world_model.proofs.IntegerLemmas.{signed_decimal_injective}
use Rattle.row_lang.specs.declared.token.Place.{Place}
use Rattle.row_lang.specs.declared.token.Place.TheVariants.{Statement, Deed, Value, Looked, LookedField, Written, Sent, Raised, Named, Given}
use Rattle.row_lang.specs.declared.token.Token.{Token}
use Rattle.row_lang.specs.declared.token.Token.TheVariants.{Word, Number, Own, Pool, Field}
use Rattle.row_lang.specs.BodyLines.{BodyLine, Lists, Do, Close}
use Rattle.row_lang.specs.Naming.{AreNamedDecls, names_of}
use Rattle.row_lang.specs.NameLists.{spaced_names}
use Rattle.row_lang.specs.Places.{fills, opened}
use Rattle.row_lang.specs.Reading.{AreSomeNext}
use Rattle.row_lang.specs.Spelling.{IsBodyLine, body_line_text, name_in, token_text, tokens_text}
use Rattle.row_lang.specs.Systems.{Draft, admits, after_line, are_admitted}
use Rattle.row_lang.specs.TokenReading.{fits, IsDeclared, IsTokenNext, AreTokensNext, IsDoLine}
use Rattle.row_lang.proofs.DeclaredLemmas.{all_declared}
use Rattle.row_lang.proofs.DoLineLemmas as do_lines
use Rattle.row_lang.proofs.KeywordLemmas.{one_keyword, no_number_word, no_field_word, no_field_number}
use Rattle.row_lang.proofs.ListLineLemmas.{admissible, line_of_list, names_of_list, no_close, no_do}
use Rattle.row_lang.proofs.NameLemmas.{same_name_split, called_in}
use Rattle.row_lang.proofs.NameListLemmas.{one_some}
use Rattle.row_lang.proofs.StepLemmas.{do_next, spaced}
use Rattle.row_lang.proofs.TokenLemmas.{field_is, free_token, name_is, no_in, no_of, one_at, one_name}

-- ---- one text, one token in a place

-- what a token is a spelling of: part of an expression or a word, a component, a field
abbrev sort : Token → ℕ
sort (Word word) = 0
sort (Number z) = 0
sort (Own at) = 0
sort (Pool pool) = 1
sort (Field at) = 2

abbrev sort_of_place : Place → ℕ
sort_of_place Statement = 0
sort_of_place Deed = 0
sort_of_place (Value kind levels) = 0
sort_of_place Looked = 1
sort_of_place Named = 1
sort_of_place Given = 1
sort_of_place _ = 2

sorted : (decls : List Decl) (access : Access) (place : Place) (token : Token) → fits decls access place token ≡ true → sort token ≡ sort_of_place place
sorted decls access (Value kind levels) (Pool pool) fit = absurd (no_in decls access kind levels pool fit)
sorted decls access (Value kind levels) (Field at) fit = absurd (no_of decls access kind levels at fit)
sorted decls access (Value kind levels) (Word word) fit = refl
sorted decls access (Value kind levels) (Number z) fit = refl
sorted decls access (Value kind levels) (Own at) fit = refl
sorted decls access Statement (Word word) fit = refl
sorted decls access Deed (Word word) fit = refl
sorted decls access Looked (Pool pool) fit = refl
sorted decls access Named (Pool pool) fit = refl
sorted decls access Given (Pool pool) fit = refl
sorted decls access (LookedField kind) (Field at) fit = refl
sorted decls access Written (Field at) fit = refl
sorted decls access Sent (Field at) fit = refl
sorted decls access Raised (Field at) fit = refl
sorted decls access _ _ fit = absurd (false≢true fit)

one_text : (decls : List Decl) (t u : Token) → AreNamedDecls decls → sort t ≡ sort u → IsDeclared decls t → IsDeclared decls u → token_text (names_of decls) t ≡ token_text (names_of decls) u → t ≡ u
one_text decls (Word k) (Word o) named same p q e = ap Word (one_keyword k o e)
one_text decls (Word k) (Number z) named same p q e = absurd (no_number_word k z q e)
one_text decls (Number z) (Word k) named same p q e = absurd (no_number_word k z p (sym e))
one_text decls (Word k) (Own at) named same p q e = absurd (no_field_word decls k at.pool at.field (e ∙ field_is decls at))
one_text decls (Own at) (Word k) named same p q e = absurd (no_field_word decls k at.pool at.field (sym e ∙ field_is decls at))
one_text decls (Number z) (Number y) named same p q e = ap Number (signed_decimal_injective z y p q e)
one_text decls (Number z) (Own at) named same p q e = absurd (no_field_number decls z at.pool at.field (e ∙ field_is decls at))
one_text decls (Own at) (Number z) named same p q e = absurd (no_field_number decls z at.pool at.field (sym e ∙ field_is decls at))
one_text decls (Own a) (Own b) named same p q e = ap Own (one_at decls _ b a named q e p refl)
one_text decls (Field a) (Field b) named same p q e = ap Field (one_at decls _ b a named q e p refl)
one_text decls (Pool a) (Pool b) named same p q e =
    ap Pool (one_name decls (name_in (names_of decls) a) b a named
    (subst (λ (text : List ℕ). component_named decls text ≡ Some b) (sym (e ∙ name_is decls b)) (called_in decls b named q).named.first) p refl)
one_text decls _ _ named same p q e = absurd (omega (arith, same))

one_token : (decls : List Decl) (access : Access) (place : Place) (text : List ℕ) (t u : Token) (x y : List ℕ) → AreNamedDecls decls → fits decls access place t ≡ true → fits decls access place u ≡ true → IsTokenNext decls text t x → IsTokenNext decls text u y → (t ≡ u) × (x ≡ y)
one_token decls access place text t u x y named f g p q =
    let same = same_name_split (token_text (names_of decls) t) (token_text (names_of decls) u) x y (free_token decls t named p.is) (free_token decls u named q.is) p.ended q.ended (ap (drop 1) (sym p.whole ∙ q.whole)) in
    (one_text decls t u named (sorted decls access place t f ∙ sym (sorted decls access place u g)) p.is q.is same.0, same.1)

-- ---- one text, one list of tokens

-- the first of tokens that fill a place and others
record IsFirst (decls : List Decl) (access : Access) (place : Place) (places : List Place) (text : List ℕ) (token : Token) (others : List Token) (rest : List ℕ) : Type 0 where
  more : List Place
  opens : opened decls access place token ≡ Some more
  first : IsTokenNext decls text token (tokens_text (names_of decls) others ++ rest)
  next : AreTokensNext decls access (more ++ places) (tokens_text (names_of decls) others ++ rest) others rest

first_of_all : (decls : List Decl) (access : Access) (place : Place) (places : List Place) (text : List ℕ) (token : Token) (others : List Token) (rest : List ℕ) → AreTokensNext decls access (place ∷ places) text (token ∷ others) rest → IsFirst decls access place places text token others rest
first_of_all decls access place places text token others rest h =
    elim (opened decls access place token) as (λ o. opened decls access place token ≡ o → option_map_or (λ more. fills decls access (more ++ places) others) o false ≡ true → IsFirst decls access place places text token others rest) [
      | None ↦ λ e f. absurd (false≢true f)
      | Some more ↦ λ e f. record {
        more = more;
        opens = e;
        first = record {
          is = h.are.0;
          whole = h.whole ∙ ap (λ t. 32 ∷ t) (append_assoc (token_text (names_of decls) token) (tokens_text (names_of decls) others) rest);
          ended = spaced decls access others rest h.ended;
        };
        next = record { are = h.are.1; fill = f; whole = refl; ended = h.ended };
      }
    ] refl h.fill

pub one_list : (decls : List Decl) (access : Access) (places : List Place) (text : List ℕ) (a : List Token) (x : List ℕ) (b : List Token) (y : List ℕ) → AreNamedDecls decls → AreTokensNext decls access places text a x → AreTokensNext decls access places text b y → (a ≡ b) × (x ≡ y)
one_list decls access [] text [] x [] y named p q = (refl, sym p.whole ∙ q.whole)
one_list decls access [] text [] x (u ∷ b) y named p q = absurd (false≢true q.fill)
one_list decls access [] text (t ∷ a) x b y named p q = absurd (false≢true p.fill)
one_list decls access (place ∷ places) text [] x b y named p q = absurd (false≢true p.fill)
one_list decls access (place ∷ places) text (t ∷ a) x [] y named p q = absurd (false≢true q.fill)
one_list decls access (place ∷ places) text (t ∷ a) x (u ∷ b) y named p q =
    let one = first_of_all decls access place places text t a x p in
    let other = first_of_all decls access place places text u b y q in
    let behind_one = tokens_text (names_of decls) a ++ x in
    let behind_other = tokens_text (names_of decls) b ++ y in
    let same = one_token decls access place text t u behind_one behind_other named (ap is_some one.opens) (ap is_some other.opens) one.first other.first in
    let more : other.more ≡ one.more = same_Some other.more one.more (sym other.opens ∙ ap (opened decls access place) (sym same.0) ∙ one.opens) in
    let rest = one_list decls access (one.more ++ places) behind_one a x b y named one.next
    (subst (λ (ps : List Place). AreTokensNext decls access (ps ++ places) behind_one b y) more (subst (λ (t : List ℕ). AreTokensNext decls access (other.more ++ places) t b y) (sym same.1) other.next)) in
    (ap₂ (λ (z : Token) zs. z ∷ zs) same.0 rest.0, rest.1)

pub one_do : (decls : List Decl) (access : Access) (line : List ℕ) (a b : List Token) → AreNamedDecls decls → IsDoLine decls access line a → IsDoLine decls access line b → a ≡ b
one_do decls access line a b named p q =
    let body = tokens_text (names_of decls) a in
    (one_list decls access (Statement ∷ []) body a [] b [] named (do_next decls access line body a p.whole p) (do_next decls access line body b p.whole q)).0

-- ---- one text, one line

do_of : (decls : List Decl) (draft : Draft) (tokens : List Token) → IsBodyLine (names_of decls) (Do tokens) → admits decls draft (Do tokens) ≡ true → IsDoLine decls draft.system.access (codes "do" ++ tokens_text (names_of decls) tokens) tokens
do_of decls draft tokens is fit =
    let h = do_lines.admissible decls draft tokens fit in
    record { are = all_declared decls draft.system.access (Statement ∷ []) tokens h.statement is.spelled; fill = h.statement; whole = refl }

pub one_line : (decls : List Decl) (draft : Draft) (l m : BodyLine) → AreNamedDecls decls → IsBodyLine (names_of decls) l → IsBodyLine (names_of decls) m → admits decls draft l ≡ true → admits decls draft m ≡ true → body_line_text (names_of decls) l ≡ body_line_text (names_of decls) m → l ≡ m
one_line decls draft (Lists of pools) m named is am f g e =
    let names = names_of decls in
    let h = line_of_list names of (spaced_names (map (name_in names) pools)) m e in
    let one = names_of_list decls draft of pools named (admissible decls draft of pools f) in
    let other = names_of_list decls draft of h.pools named (admissible decls draft of h.pools (ap (admits decls draft) (sym h.is) ∙ g)) in
    let same = (one_some decls [] _ pools [] h.pools [] one (subst (λ (t : List ℕ). AreSomeNext decls [] t h.pools []) (sym h.spelled) other)).0 in
    ap (Lists of) same ∙ sym h.is
one_line decls draft (Do a) (Lists of pools) named is am f g e =
    absurd (no_do of (spaced_names (map (name_in (names_of decls)) pools)) (tokens_text (names_of decls) a) (sym e))
one_line decls draft (Do a) (Do b) named is am f g e =
    ap Do (one_do decls draft.system.access _ a b named (do_of decls draft a is f) (subst (λ (t : List ℕ). IsDoLine decls draft.system.access t b) (sym e) (do_of decls draft b am g)))
one_line decls draft (Do a) Close named is am f g e = absurd (omega (arith, ap (λ (t : List ℕ). get_or t 0 0) e))
one_line decls draft Close (Do b) named is am f g e = absurd (omega (arith, ap (λ (t : List ℕ). get_or t 0 0) e))
one_line decls draft Close Close named is am f g e = refl
one_line decls draft Close (Lists of pools) named is am f g e =
    absurd (no_close of (spaced_names (map (name_in (names_of decls)) pools)) (sym e))

-- lines of the same texts are the same lines
pub one_lines : (decls : List Decl) (draft : Draft) (lines others : List BodyLine) → AreNamedDecls decls → AllByRecursion (IsBodyLine (names_of decls)) lines → AllByRecursion (IsBodyLine (names_of decls)) others → are_admitted decls draft lines ≡ true → are_admitted decls draft others ≡ true
    → map (body_line_text (names_of decls)) lines ≡ map (body_line_text (names_of decls)) others → lines ≡ others
one_lines decls draft [] [] named p q f g e = refl
one_lines decls draft [] (m ∷ others) named p q f g e = absurd (omega (arith, ap length e))
one_lines decls draft (l ∷ lines) [] named p q f g e = absurd (omega (arith, ap length e))
one_lines decls draft (l ∷ lines) (m ∷ others) named p q f g e =
    let here = and_parts (admits decls draft l) (are_admitted decls (after_line decls draft l) lines) f in
    let there = and_parts (admits decls draft m) (are_admitted decls (after_line decls draft m) others) g in
    let head : body_line_text (names_of decls) l ≡ body_line_text (names_of decls) m = cc in
    let tail : map (body_line_text (names_of decls)) lines ≡ map (body_line_text (names_of decls)) others = cc in
    let same = one_line decls draft l m named p.0 q.0 here.0 there.0 head in
    let rest = one_lines decls (after_line decls draft l) lines others named p.1 q.1 here.1 (ap (λ (x : BodyLine). are_admitted decls (after_line decls draft x) others) same ∙ there.1) tail in
    ap₂ (λ (x : BodyLine) xs. x ∷ xs) same rest
