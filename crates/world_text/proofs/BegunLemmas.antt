-- How far a script was read.
use Rattle.std.proofs.Common.{◌≡◌, ◌≢◌, inl, inr, ℕ, ◌+◌, ◌<◌, List, [], ◌∷◌, ◌++◌, length, length-append, codes, sym, ap, ◌∙◌, subst, arith, append_assoc}
use Rattle.std.specs.List.{AllZip, flat_map}
use Rattle.std.specs.Fmt.{decimal}
use Rattle.std.proofs.lemmas.List.{append-nil}
use Rattle.std.proofs.lemmas.Grind.{flat_map-append}
use Rattle.entity_id.specs.declared.entity.Profile.{Profile}
use Rattle.entity_id.proofs.ListLemmas.{all-append}
use Rattle.world_model.specs.declared.component.Decl.{Decl}
use Rattle.world_text.specs.declared.script.ScriptLine.{ScriptLine}
use Rattle.world_text.specs.declared.script.ScriptLine.TheVariants.{Run, Watch, Unwatch}
use Rattle.row_lang.specs.NameLists.{name_at}
use Rattle.world_text.specs.Scripts.{IsScriptLine, IsLineWrittenAs, IsLineFirst, IsScript, IsBegun, IsBadScriptLine, begun_text, first_line, last_line, script_line_text, event_word}

-- before the first line
pub begun_none : (profile : Profile) (decls : List Decl) (text behind : List ℕ) → text ≡ first_line ++ behind → IsBegun profile decls text [] behind
begun_none profile decls text behind spelled = record {
  each = tt;
  written = [];
  same = tt;
  spelled = spelled ∙ ap (λ (x : List ℕ). x ++ behind) (sym (append-nil first_line));
}

zip-push : {A B : Type 0} (R : A → B → Type 0) (xs : List A) (ys : List B) (x : A) (y : B) → AllZip R xs ys → R x y → AllZip R (xs ++ x ∷ []) (ys ++ y ∷ [])
zip-push R [] [] x y h r = (r, tt)
zip-push R [] (b ∷ ys) x y h r = absurd h
zip-push R (a ∷ xs) [] x y h r = absurd h
zip-push R (a ∷ xs) (b ∷ ys) x y h r = (h.0, zip-push R xs ys x y h.1 r)

-- one line more
pub begun-push : (profile : Profile) (decls : List Decl) (text : List ℕ) (lines : List ScriptLine) (rest : List ℕ) (line : ScriptLine) (behind : List ℕ) → IsBegun profile decls text lines rest → IsLineFirst profile decls rest line behind → IsBegun profile decls text (lines ++ line ∷ []) behind
begun-push profile decls text lines rest line behind h first =
    let line_text = script_line_text profile decls first.written in
    record {
      each = all-append (IsScriptLine profile decls) lines (line ∷ []) h.each (first.is, tt);
      written = h.written ++ first.written ∷ [];
      same = zip-push IsLineWrittenAs lines h.written line first.written h.same first.same;
      spelled = h.spelled ∙ ap (λ (x : List ℕ). begun_text profile decls h.written ++ x) first.spelled ∙ sym (append_assoc (begun_text profile decls h.written) line_text behind)
          ∙ ap (λ (x : List ℕ). x ++ behind) (append_assoc first_line (flat_map (script_line_text profile decls) h.written) line_text
          ∙ ap (λ (x : List ℕ). first_line ++ x) (sym (flat_map-append (script_line_text profile decls) h.written (first.written ∷ []) ∙ ap (λ (x : List ℕ). flat_map (script_line_text profile decls) h.written ++ x) (append-nil line_text))));
    }

ended_length : (front rest : List ℕ) → length rest < length ((front ++ 10 ∷ []) ++ rest)
ended_length front rest = omega (arith, length-append (front ++ 10 ∷ []) rest, length-append front (10 ∷ []))

line_length : (profile : Profile) (decls : List Decl) (line : ScriptLine) (rest : List ℕ) → length rest < length (script_line_text profile decls line ++ rest)
line_length profile decls (Run c) rest = ended_length _ rest
line_length profile decls (Watch kind pool) rest = ended_length (codes "watch " ++ (event_word kind ++ 32 ∷ name_at decls pool)) rest
line_length profile decls (Unwatch number) rest = ended_length (codes "unwatch " ++ decimal number) rest

-- behind a line fewer bytes are left
pub line_shortens : (profile : Profile) (decls : List Decl) (text : List ℕ) (line : ScriptLine) (rest : List ℕ) → IsLineFirst profile decls text line rest → length rest < length text
line_shortens profile decls text line rest first = omega (arith, ap length first.spelled, line_length profile decls first.written rest)

-- what stands behind the lines is the end
pub begun_whole : (profile : Profile) (decls : List Decl) (text : List ℕ) (lines : List ScriptLine) (rest behind : List ℕ) → IsBegun profile decls text lines rest → rest ≡ last_line ++ behind → behind ≡ [] → IsScript profile decls text lines
begun_whole profile decls text lines rest behind h ends nothing = record {
  each = h.each;
  written = h.written;
  same = h.same;
  spelled = h.spelled ∙ ap (λ (x : List ℕ). begun_text profile decls h.written ++ x) (ends ∙ ap (λ (x : List ℕ). last_line ++ x) nothing ∙ append-nil last_line);
}

-- no line of a script stands behind the lines, and not its end
pub begun_bad : (profile : Profile) (decls : List Decl) (text : List ℕ) (lines : List ScriptLine) (rest : List ℕ) (number : ℕ) → IsBegun profile decls text lines rest → ((line : ScriptLine) (more : List ℕ) → IsLineFirst profile decls rest line more → ⊥) → ((more : List ℕ) → rest ≢ last_line ++ more) → number ≡ length lines + 2 → IsBadScriptLine profile decls text number
begun_bad profile decls text lines rest number h no_line no_end counted = inr (inl (lines, rest, counted, record { begun = h; no_line = no_line; no_end = no_end }))

-- something stands behind the end
pub begun_more : (profile : Profile) (decls : List Decl) (text : List ℕ) (lines : List ScriptLine) (rest behind : List ℕ) (number : ℕ) → IsBegun profile decls text lines rest → rest ≡ last_line ++ behind → behind ≢ [] → number ≡ length lines + 3 → IsBadScriptLine profile decls text number
begun_more profile decls text lines rest behind number h ends more counted =
    inr (inr (lines, behind, counted, record { begun = subst (IsBegun profile decls text lines) ends h; more = more }))
