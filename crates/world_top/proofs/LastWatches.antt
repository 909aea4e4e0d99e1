-- The watches that still stand at the end of a script.
use Rattle.std.proofs.Common.{◌≡◌, ◌≢◌, ℕ, zero, suc, ◌+◌, ◌<◌, ◌≤◌, drop, true, false, List, [], ◌∷◌, ◌++◌, length, Some, None, slice_get, slice_set, refl, sym, ap, subst, ◌∙◌, arith, if◌then◌else◌}
use Rattle.std.specs.Option.{option_map_or}
use Rattle.std.proofs.lemmas.Option.{same_Some, none-some}
use Rattle.entity_id.specs.declared.entity.Profile.{Profile}
use Rattle.world_model.specs.declared.component.Decl.{Decl}
use Rattle.registry.specs.Held.{Held}
use Rattle.world_model.proofs.ListLemmas.{slice_get-set_other}
use Rattle.world_text.specs.Playing.{Watching, ended, watch_lines, standing_lines}
use Rattle.world_top.specs.declared.watching.Watch.{Watch}
use Rattle.world_top.specs.Watched.{AreWatched, left_at, told_at, left_upto}
use Rattle.world_top.proofs.DisconnectLemmas.{item_at}

-- what a place without a standing watch is to a script
pub record IsOver (its : List Watching) (at : ℕ) : Type 0 where
  pub over : Watching
  pub there : slice_get its at ≡ Some over
  pub stands : over.stands ≡ false

pub none_stands : (held : Held) (watches : List Watch) (its : List Watching) (at : ℕ) → at < length watches → ((w : Watch) → slice_get watches at ≡ Some w → w.stands ≡ false) → AreWatched held watches its → IsOver its at
none_stands held watches its at low none h =
    let w = item_at watches at low in
    let s = item_at its at (subst (λ (n : ℕ). at < n) h.counted low) in
    record { over = s.item; there = s.at; stands = sym (h.each at w.item s.item w.at s.at).stands ∙ none w.item w.at }

pub left_none : (its : List Watching) (at : ℕ) (s : Watching) → slice_get its at ≡ Some s → s.stands ≡ false → left_at at its ≡ its
left_none its at s there over =
    ap (λ o. option_map_or (λ (x : Watching). if x.stands then slice_set its at (ended x) else its) o its) there ∙ ap (λ b. if b then slice_set its at (ended s) else its) over

pub left_one : (its : List Watching) (at : ℕ) (s : Watching) → slice_get its at ≡ Some s → s.stands ≡ true → left_at at its ≡ slice_set its at (ended s)
left_one its at s there stands =
    ap (λ o. option_map_or (λ (x : Watching). if x.stands then slice_set its at (ended x) else its) o its) there ∙ ap (λ b. if b then slice_set its at (ended s) else its) stands

pub told_none : (profile : Profile) (decls : List Decl) (its : List Watching) (at : ℕ) (s : Watching) → slice_get its at ≡ Some s → s.stands ≡ false → told_at profile decls at its ≡ []
told_none profile decls its at s there over =
    ap (λ o. option_map_or (λ (x : Watching). if x.stands then watch_lines profile decls at x else []) o []) there ∙ ap (λ b. if b then watch_lines profile decls at s else []) over

pub told_one : (profile : Profile) (decls : List Decl) (its : List Watching) (at : ℕ) (s : Watching) → slice_get its at ≡ Some s → s.stands ≡ true → told_at profile decls at its ≡ watch_lines profile decls at s
told_one profile decls its at s there stands =
    ap (λ o. option_map_or (λ (x : Watching). if x.stands then watch_lines profile decls at x else []) o []) there ∙ ap (λ b. if b then watch_lines profile decls at s else []) stands

left_elsewhere : (its : List Watching) (k j : ℕ) → j ≢ k → slice_get (left_at k its) j ≡ slice_get its j
left_elsewhere its k j other = elim (slice_get its k) as (λ o. slice_get (option_map_or (λ (x : Watching). if x.stands then slice_set its k (ended x) else its) o its) j ≡ slice_get its j) [
  | None ↦ refl
  | Some s ↦ elim s.stands as (λ b. slice_get (if b then slice_set its k (ended s) else its) j ≡ slice_get its j) [ true ↦ slice_get-set_other its k j (ended s) other | false ↦ refl ]
]

upto_still : (its : List Watching) (n j : ℕ) → n ≤ j → slice_get (left_upto n its) j ≡ slice_get its j
upto_still its zero j low = refl
upto_still its (suc n) j low = left_elsewhere (left_upto n its) n j (λ e. absurd (omega (arith, low, e))) ∙ upto_still its n j (omega arith)

pub told_still : (profile : Profile) (decls : List Decl) (its : List Watching) (at : ℕ) → told_at profile decls at (left_upto at its) ≡ told_at profile decls at its
told_still profile decls its at = ap (λ o. option_map_or (λ (x : Watching). if x.stands then watch_lines profile decls at x else []) o []) (upto_still its at at (omega arith))

drop_item : (its : List Watching) (at : ℕ) (s : Watching) → slice_get its at ≡ Some s → drop at its ≡ s ∷ drop (suc at) its
drop_item [] at s there = absurd (none-some s there)
drop_item (x ∷ its) zero s there = ap (λ (y : Watching). y ∷ its) (same_Some x s there)
drop_item (x ∷ its) (suc at) s there = drop_item its at s there

-- one of the last ones is told
pub standing_next : (profile : Profile) (decls : List Decl) (its : List Watching) (at : ℕ) → at < length its → standing_lines profile decls at (drop at its) ≡ told_at profile decls at its ++ standing_lines profile decls (at + 1) (drop (at + 1) its)
standing_next profile decls its at low =
    let i = item_at its at low in
    let next : suc at ≡ at + 1 = omega arith in
    ap (standing_lines profile decls at) (drop_item its at i.item i.at)
    ∙ ap (λ told. told ++ standing_lines profile decls (at + 1) (drop (suc at) its)) (sym (ap (λ o. option_map_or (λ (x : Watching). if x.stands then watch_lines profile decls at x else []) o []) i.at))
    ∙ ap (λ n. told_at profile decls at its ++ standing_lines profile decls (at + 1) (drop n its)) next

pub none_left : (profile : Profile) (decls : List Decl) (its : List Watching) (at : ℕ) → length its ≤ at → standing_lines profile decls at (drop at its) ≡ []
none_left profile decls its at past = ap (standing_lines profile decls at) (all_dropped its at past)
  where
    all_dropped : (xs : List Watching) (n : ℕ) → length xs ≤ n → drop n xs ≡ []
    all_dropped [] zero h = refl
    all_dropped [] (suc n) h = refl
    all_dropped (x ∷ xs) zero h = absurd (omega arith)
    all_dropped (x ∷ xs) (suc n) h = all_dropped xs n (omega arith)
