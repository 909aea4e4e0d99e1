-- Loops that print what two lists have side by side, and texts of lines.
use Rattle.std.proofs.Common.{◌≡◌, ℕ, zero, suc, List, [], ◌∷◌, ◌++◌, length, take, drop, min, arith, Option, Some, None, refl, sym, ap, ◌∙◌, append_assoc, ◌⊎◌, inl, inr, Bor, Iter}
use Rattle.std.specs.List.{zip}
use Rattle.std.specs.declared.iter.Zip.{Zip}
use Rattle.std.specs.Iterator.Adapters.{zip_first, zip_second}
use Rattle.std.specs.Slice.Iter.{iter_rest}
use Rattle.std.proofs.iter.Yields.{fronts}
use Rattle.std.proofs.lemmas.Iterator.{zips}
use Rattle.std.proofs.lemmas.List.{append-nil, take-append-drop, take_more}
use Rattle.std.proofs.lemmas.Grind.{flat_map-append}
use Rattle.std.proofs.lemmas.Slice.Zip.{Zip-more, either_empty_from_Zip}
use Rattle.std.proofs.Math.Seq.{take-append_seam}
use Rattle.std.proofs.Common.{map, get_or, ◌<◌, ◌+◌}
use Rattle.std.specs.List.{flat_map}
use Rattle.world_model.specs.declared.component.Decl.{Decl}
use Rattle.row_lang.specs.Naming.{names_of}
use Rattle.row_lang.specs.Spelling.{first_line_text}
use Rattle.row_lang.specs.Systems.{System, body_lines, body_text, system_text}
use Rattle.world_text.specs.declared.format.Format.{Format}
use Rattle.world_text.specs.LineKinds as line
use Rattle.world_text.specs.Documents.{system_lines}
use Rattle.world_text.specs.Formats.{version_1}
use Rattle.world_text.specs.LineKinds.{Line}
use Rattle.world_text.specs.Lines.{line_text, text_of}

-- the pairs that a zip of two slices has left
abbrev pub left_of : {A B : Type 0} → Zip (Iter A) (Iter B) → List (A × B)
left_of s = zip (iter_rest (zip_first s)) (iter_rest (zip_second s))

-- what is left before a pair is yielded is that pair and what is left behind it
pub left_more : {A B : Type 0} (s t : Zip (Iter A) (Iter B)) (r : Option (Bor A × Bor B)) (p : Bor A × Bor B) → r ≡ Some p → zips fronts fronts s r t → left_of s ≡ (p.0.now, p.1.now) ∷ left_of t
left_more s t r p is steps = let h = Zip-more s t r p is steps in λ i. zip (h.0 i) (h.1 i)

none_left : {A B : Type 0} (xs : List A) (ys : List B) → (xs ≡ []) ⊎ (ys ≡ []) → zip xs ys ≡ []
none_left xs ys (inl e) = ap (λ zs. zip zs ys) e
none_left [] ys (inr e) = refl
none_left (x ∷ xs) ys (inr e) = ap (zip (x ∷ xs)) e

-- nothing is left where none is yielded
pub left_none : {A B : Type 0} (s t : Zip (Iter A) (Iter B)) (r : Option (Bor A × Bor B)) → r ≡ None → zips fronts fronts s r t → left_of s ≡ []
left_none s t r is steps = none_left _ _ (either_empty_from_Zip s t r is steps)

-- one part more is printed, and that much less is left
pub printed_more : {Z : Type 0} (text : List Z → List ℕ) (part : Z → List ℕ) → ((z : Z) (zs : List Z) → text (z ∷ zs) ≡ part z ++ text zs) → (z : Z) (before after : List Z) → before ≡ z ∷ after → (old new whole : List ℕ) → new ≡ old ++ part z → old ++ text before ≡ whole → new ++ text after ≡ whole
printed_more text part cons z before after split old new whole pushed invariant =
    ap (λ bytes. bytes ++ text after) pushed
    ∙ append_assoc old (part z) (text after)
    ∙ ap (λ bytes. old ++ bytes) (sym (ap text split ∙ cons z after))
    ∙ invariant

-- where nothing is left, the whole is printed
pub printed_all : {Z : Type 0} (text : List Z → List ℕ) (left : List Z) → left ≡ [] → text [] ≡ [] → (out whole : List ℕ) → out ++ text left ≡ whole → out ≡ whole
printed_all text left none empty out whole invariant = sym (append-nil out) ∙ ap (λ bytes. out ++ bytes) (sym (ap text none ∙ empty)) ∙ invariant

-- what something is appended to is a front of it
pub front_of : (old x new : List ℕ) → new ≡ old ++ x → take (length old) new ≡ old
front_of old x new e = ap (take (length old)) e ∙ take-append_seam old x

-- a front of what is kept is kept
pub front_kept : (old x held new : List ℕ) → held ≡ old ++ x → take (length held) new ≡ held → take (length old) new ≡ old
front_kept old x held new is kept =
    ap (take (length old)) (sym (take-append-drop (length held) new) ∙ ap (λ t. t ++ drop (length held) new) (kept ∙ is) ∙ append_assoc old x (drop (length held) new))
    ∙ take-append_seam old (x ++ drop (length held) new)

-- the same of a front of it
pub front_on : (old held new : List ℕ) → take (length old) held ≡ old → take (length held) new ≡ held → take (length old) new ≡ old
front_on old held new front kept =
    front_kept old (drop (length old) held) held new (sym (take-append-drop (length old) held) ∙ ap (λ t. t ++ drop (length old) held) front) kept

pub text_of-append : (format : Format) (a b : List Line) → text_of format (a ++ b) ≡ text_of format a ++ text_of format b
text_of-append format a b = flat_map-append _ a b

-- side by side past the end of one of them two lists have nothing
pub none_past : {A B : Type 0} (n : ℕ) (xs : List A) (ys : List B) → n ≡ min (length xs) (length ys) → zip (drop n xs) (drop n ys) ≡ []
none_past zero [] ys e = refl
none_past zero (x ∷ xs) [] e = refl
none_past zero (x ∷ xs) (y ∷ ys) e = absurd (omega arith)
none_past (suc n) [] ys e = refl
none_past (suc n) (x ∷ xs) [] e = absurd (omega arith)
none_past (suc n) (x ∷ xs) (y ∷ ys) e = none_past n xs ys (omega arith)

-- a list cut to a number of items beside one that has no more
pub zip-take : {A B : Type 0} (n : ℕ) (xs : List A) (ys : List B) → zip (take n xs) ys ≡ zip (take n xs) (take n ys)
zip-take zero xs ys = refl
zip-take (suc n) [] ys = refl
zip-take (suc n) (x ∷ xs) [] = refl
zip-take (suc n) (x ∷ xs) (y ∷ ys) = ap (λ zs. (x, y) ∷ zs) (zip-take n xs ys)

-- ---- systems

flat_map-map : {X Y : Type 0} (f : Y → List ℕ) (g : X → Y) (xs : List X) → flat_map f (map g xs) ≡ flat_map (λ x. f (g x)) xs
flat_map-map f g [] = refl
flat_map-map f g (x ∷ xs) = ap (λ ys. f (g x) ++ ys) (flat_map-map f g xs)

-- the text of a system is that of its lines
pub system_spelled : (decls : List Decl) (system : System) → text_of version_1 (system_lines decls system) ≡ system_text (names_of decls) system
system_spelled decls system =
    ap (λ text. (first_line_text system.name ++ 10 ∷ []) ++ text) (flat_map-map (λ l. line_text version_1 l ++ 10 ∷ []) (line.Body (names_of decls)) (body_lines system))
    ∙ append_assoc (first_line_text system.name) (10 ∷ []) (body_text (names_of decls) (body_lines system))

-- and with one more
pub systems_push : (decls : List Decl) (systems : List System) (system : System) → text_of version_1 (flat_map (system_lines decls) (systems ++ system ∷ [])) ≡ text_of version_1 (flat_map (system_lines decls) systems) ++ system_text (names_of decls) system
systems_push decls systems system =
    ap (text_of version_1) (flat_map-append (system_lines decls) systems (system ∷ []) ∙ ap (λ ls. flat_map (system_lines decls) systems ++ ls) (append-nil (system_lines decls system)))
    ∙ text_of-append version_1 (flat_map (system_lines decls) systems) (system_lines decls system)
    ∙ ap (λ text. text_of version_1 (flat_map (system_lines decls) systems) ++ text) (system_spelled decls system)

-- printing one system more in a loop
pub systems_printed_more : (decls : List Decl) (systems : List System) (index : ℕ) (item : System) (start old new : List ℕ) → index < length systems → item ≡ get_or systems index item → old ≡ start ++ text_of version_1 (flat_map (system_lines decls) (take index systems)) → new ≡ old ++ system_text (names_of decls) item → new ≡ start ++ text_of version_1 (flat_map (system_lines decls) (take (index + 1) systems))
systems_printed_more decls systems index item start old new within is before pushed =
    let one : take (index + 1) systems ≡ take index systems ++ item ∷ [] = take_more systems index item within ∙ ap (λ (s : System). take index systems ++ s ∷ []) (sym is) in
    pushed
    ∙ ap (λ text. text ++ system_text (names_of decls) item) before
    ∙ append_assoc start _ _
    ∙ ap (λ text. start ++ text) (sym (ap (λ (ls : List System). text_of version_1 (flat_map (system_lines decls) ls)) one ∙ systems_push decls (take index systems) item))
