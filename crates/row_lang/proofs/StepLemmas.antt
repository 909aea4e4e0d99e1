-- Tokens one after another at the front of a text.
use Rattle.std.proofs.Common.{◌≡◌, ℕ, true, false, List, [], ◌∷◌, ◌++◌, drop, append_assoc, codes, Some, None, Result, Ok, Err, refl, sym, ap, subst, ◌∙◌}
use Rattle.std.specs.List.{AllByRecursion}
use Rattle.std.specs.Option.{option_map_or, is_some}
use Rattle.std.specs.Prelude.{IsErrOf, OnOk}
use Rattle.std.specs.Result.{is_err}
use Rattle.row_lang.specs.declared.fault.LineFault.{LineFault}
use Rattle.row_lang.specs.declared.fault.LineFault.TheVariants.{Bad, OutOfMemory}
use Rattle.std.proofs.lemmas.Bool.{false≢true}
use Rattle.std.proofs.lemmas.Option.{same_Some}
use Rattle.std.proofs.lemmas.List.{append-nil}
use Rattle.row_lang.specs.Reading.{EndsName}
use Rattle.row_lang.specs.declared.token.Token.{Token}
use Rattle.row_lang.specs.declared.token.Place.{Place}
use Rattle.world_model.specs.declared.access.Access.{Access}
use Rattle.world_model.specs.declared.component.Decl.{Decl}
use Rattle.row_lang.specs.Naming.{names_of}
use Rattle.row_lang.specs.Spelling.{token_text, tokens_text}
use Rattle.row_lang.specs.Places.{opened, fills}
use Rattle.row_lang.specs.Stacks.{HaveRoom}
use Rattle.row_lang.specs.TokenReading.{fits, IsDeclared, IsTokenNext, AreTokensNext, AreOnlyTokens, IsDoLine}
use Rattle.row_lang.specs.declared.token.Place.TheVariants.{Statement}

-- the only token that a text can begin with in a place
abbrev pub IsOnlyHere : List Decl → Access → Place → List ℕ → Token → List ℕ → Type 0
IsOnlyHere decls access place text token rest = (other : Token) (more : List ℕ) → fits decls access place other ≡ true → IsTokenNext decls text other more → (other ≡ token) × (more ≡ rest)

-- every token begins with a space
pub spaced : (decls : List Decl) (access : Access) (tokens : List Token) (rest : List ℕ) → EndsName rest → EndsName (tokens_text (names_of decls) tokens ++ rest)
spaced decls access [] rest ended = ended
spaced decls access (token ∷ tokens) rest ended = refl

pub fitting : (decls : List Decl) (access : Access) (place : Place) (token : Token) (more : List Place) → opened decls access place token ≡ Some more → fits decls access place token ≡ true
fitting decls access place token more e = ap is_some e

-- what tokens that fill a place and others begin with
pub record IsBegin (decls : List Decl) (access : Access) (place : Place) (places : List Place) (text : List ℕ) (tokens : List Token) (rest : List ℕ) : Type 0 where
  pub token : Token
  pub others : List Token
  pub more : List Place
  pub behind : List ℕ
  pub split : tokens ≡ token ∷ others
  pub opens : opened decls access place token ≡ Some more
  pub first : IsTokenNext decls text token behind
  pub next : AreTokensNext decls access (more ++ places) behind others rest

pub begin : (decls : List Decl) (access : Access) (place : Place) (places : List Place) (text : List ℕ) (tokens : List Token) (rest : List ℕ) → AreTokensNext decls access (place ∷ places) text tokens rest → IsBegin decls access place places text tokens rest
begin decls access place places text [] rest h = absurd (false≢true h.fill)
begin decls access place places text (token ∷ others) rest h =
    elim (opened decls access place token) as (λ o. opened decls access place token ≡ o → option_map_or (λ more. fills decls access (more ++ places) others) o false ≡ true → IsBegin decls access place places text (token ∷ others) rest) [
      | None ↦ λ e f. absurd (false≢true f)
      | Some more ↦ λ e f. record {
        token = token;
        others = others;
        more = more;
        behind = tokens_text (names_of decls) others ++ rest;
        split = refl;
        opens = e;
        first = record {
          is = h.are.0;
          whole = h.whole ∙ ap (λ t. 32 ∷ t) (append_assoc (token_text (names_of decls) token) (tokens_text (names_of decls) others) rest);
          ended = spaced decls access others rest h.ended;
        };
        next = record { are = h.are.1; fill = f; whole = refl; ended = h.ended };
      }
    ] refl h.fill

pub join : (decls : List Decl) (access : Access) (place : Place) (places more : List Place) (text behind : List ℕ) (token : Token) (others : List Token) (rest : List ℕ) → opened decls access place token ≡ Some more → IsTokenNext decls text token behind → AreTokensNext decls access (more ++ places) behind others rest → AreTokensNext decls access (place ∷ places) text (token ∷ others) rest
join decls access place places more text behind token others rest opens first next = record {
  are = (first.is, next.are);
  fill = ap (λ o. option_map_or (λ m. fills decls access (m ++ places) others) o false) opens ∙ next.fill;
  whole = first.whole ∙ ap (λ t. 32 ∷ t) (ap (λ t. token_text (names_of decls) token ++ t) next.whole ∙ sym (append_assoc (token_text (names_of decls) token) (tokens_text (names_of decls) others) rest));
  ended = next.ended;
}

-- ---- how far a reader has come

-- tokens that were read: those that fill the open places follow on them, and on them alone
pub record IsHalf (decls : List Decl) (access : Access) (places : List Place) (text : List ℕ) (tokens : List Token) (open_places : List Place) (rest : List ℕ) : Type 0 where
  pub ended : EndsName rest
  pub room : HaveRoom open_places
  pub onward : (left : List Token) (more : List ℕ) → AreTokensNext decls access open_places rest left more → AreTokensNext decls access places text (tokens ++ left) more
  pub back : (all : List Token) (more : List ℕ) → AreTokensNext decls access places text all more → (left : List Token) × (all ≡ tokens ++ left) × AreTokensNext decls access open_places rest left more

pub half_begun : (decls : List Decl) (access : Access) (places : List Place) (text : List ℕ) → EndsName text → HaveRoom places → IsHalf decls access places text [] places text
half_begun decls access places text ended room = record {
  ended = ended;
  room = room;
  onward = λ left more h. h;
  back = λ all more h. (all, refl, h);
}

module _ (decls : List Decl) (access : Access) (places : List Place) (text : List ℕ) (tokens : List Token) (place : Place) (left : List Place) (rest : List ℕ) (half : IsHalf decls access places text tokens (place ∷ left) rest) where
  -- one more token
  pub half_step : (token : Token) (behind : List ℕ) (more : List Place) → opened decls access place token ≡ Some more → IsTokenNext decls rest token behind → IsOnlyHere decls access place rest token behind → HaveRoom (more ++ left)
      → IsHalf decls access places text (tokens ++ token ∷ []) (more ++ left) behind
  half_step token behind more opens first only room = record {
    ended = first.ended;
    room = room;
    onward = λ others z h.
        subst (λ (ts : List Token). AreTokensNext decls access places text ts z) (sym (append_assoc tokens (token ∷ []) others))
        (half.onward (token ∷ others) z (join decls access place left more rest behind token others z opens first h));
    back = λ all z h.
        let b = half.back all z h in
        let s = begin decls access place left rest b.0 z b.2 in
        let same = only s.token s.behind (fitting decls access place s.token s.more s.opens) s.first in
        let opens_same : s.more ≡ more = same_Some s.more more (sym s.opens ∙ ap (opened decls access place) same.0 ∙ opens) in (
          s.others,
          b.1 ∙ ap (λ ts. tokens ++ ts) (s.split ∙ ap (λ t. t ∷ s.others) same.0) ∙ sym (append_assoc tokens (token ∷ []) s.others),
          subst (λ (ps : List Place). AreTokensNext decls access (ps ++ left) behind s.others z) opens_same (subst (λ (t : List ℕ). AreTokensNext decls access (s.more ++ left) t s.others z) same.1 s.next),
        );
  }

  -- no token stands there
  pub half_none : ((other : Token) (more : List ℕ) → fits decls access place other ≡ true → IsTokenNext decls rest other more → ⊥) → (all : List Token) (more : List ℕ) → AreTokensNext decls access places text all more → ⊥
  half_none none all more h =
      let b = half.back all more h in
      let s = begin decls access place left rest b.0 more b.2 in
      none s.token s.behind (fitting decls access place s.token s.more s.opens) s.first

  -- the only token that stands there doesn't fit
  pub half_unfit : (token : Token) (behind : List ℕ) → IsOnlyHere decls access place rest token behind → opened decls access place token ≡ None → (all : List Token) (more : List ℕ) → AreTokensNext decls access places text all more → ⊥
  half_unfit token behind only unfit = half_none (λ other more f h. false≢true (sym (ap is_some unfit) ∙ ap (fits decls access place) (sym (only other more f h).0) ∙ f))

-- all places are filled
pub half_done : (decls : List Decl) (access : Access) (places : List Place) (text : List ℕ) (tokens : List Token) (rest : List ℕ) → IsHalf decls access places text tokens [] rest → AreOnlyTokens decls access places text tokens rest
half_done decls access places text tokens rest half = record {
  next = subst (λ (ts : List Token). AreTokensNext decls access places text ts rest) (append-nil tokens) (half.onward [] rest (record { are = tt; fill = refl; whole = refl; ended = half.ended }));
  only = λ others more h.
      let b = half.back others more h in
      let n = nothing_left b.0 more b.2 in
      (b.1 ∙ ap (λ ts. tokens ++ ts) n.0 ∙ append-nil tokens, sym n.1);
}
  where
    nothing_left : (left : List Token) (more : List ℕ) → AreTokensNext decls access [] rest left more → (left ≡ []) × (rest ≡ more)
    nothing_left [] more h = (refl, h.whole)
    nothing_left (token ∷ left) more h = absurd (false≢true h.fill)

-- ---- what is printed is read

pub printed : (decls : List Decl) (access : Access) (places : List Place) (text : List ℕ) (tokens : List Token) → AllByRecursion (IsDeclared decls) tokens → fills decls access places tokens ≡ true → text ≡ tokens_text (names_of decls) tokens → AreTokensNext decls access places text tokens []
printed decls access places text tokens are fill e = record { are = are; fill = fill; whole = e ∙ sym (append-nil (tokens_text (names_of decls) tokens)); ended = tt }

-- ---- a line

pub do_next : (decls : List Decl) (access : Access) (line body : List ℕ) (tokens : List Token) → line ≡ codes "do" ++ body → IsDoLine decls access line tokens → AreTokensNext decls access (Statement ∷ []) body tokens []
do_next decls access line body tokens begun h = printed decls access (Statement ∷ []) body tokens h.are h.fill (ap (drop 2) (sym begun ∙ h.whole))

pub do_ends : (decls : List Decl) (access : Access) (line body : List ℕ) (read : List Token) (rest : List ℕ) → line ≡ codes "do" ++ body → AreOnlyTokens decls access (Statement ∷ []) body read rest → (rest ≡ [] → ⊥) → (tokens : List Token) → IsDoLine decls access line tokens → ⊥
do_ends decls access line body read rest begun only more tokens h = more (sym (only.only tokens [] (do_next decls access line body tokens begun h)).1)

-- ---- answers

pub still_bad : {A B : Type 0} (fault : LineFault) → IsErrOf {T = A} (Err fault) Bad → IsErrOf {T = B} (Err fault) Bad
still_bad Bad h = refl
still_bad OutOfMemory h = absurd cc

pub ok_told : {T E Q : Type 0} (r : Result T E) → OnOk r Q → is_err r ≡ false → Q
ok_told (Ok x) h e = h
ok_told (Err x) h e = absurd (false≢true (sym e))
