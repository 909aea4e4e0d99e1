-- A script played one line further.
use Rattle.std.proofs.Common.{◌≡◌, ℕ, ◌+◌, List, [], ◌∷◌, ◌++◌, length-append, refl, sym, ap, ◌∙◌, subst, arith, append_assoc}
use Rattle.entity_id.specs.Identifiers.{p20_12}
use Rattle.world_model.specs.declared.component.Decl.{Decl}
use Rattle.world_model.specs.declared.world.World.{World}
use Rattle.registry.specs.Held.{Held}
use Rattle.world_text.specs.declared.script.ScriptLine.{ScriptLine}
use Rattle.world_text.specs.Playing.{line_outcome, outcome_from}
use Rattle.world_text.specs.Scripts.{IsLineFirst}
use Rattle.world_text.proofs.BegunLemmas.{begun_none, begun-push}
use Rattle.world_text.proofs.ScriptLemmas.{script_keeps, outcome-push, printed-push}
use Rattle.world_top.specs.declared.watching.Watch.{Watch}
use Rattle.world_top.specs.Watched.{AreWatched}
use Rattle.world_top.specs.Playing.{IsPlayedTo, Plays}
use Rattle.world_text.specs.Scripts.{first_line}
use Rattle.std.proofs.lemmas.List.{append-nil}

-- before the first line
pub played_none : (old : Held) (watches : List Watch) (before : List ℕ) (decls : List Decl) (bytes rest : List ℕ) → AreWatched old watches [] → bytes ≡ first_line ++ rest → IsPlayedTo old old watches before before decls bytes 0 rest
played_none old watches before decls bytes rest watched spelled = record {
  lines = [];
  counted = refl;
  begun = begun_none p20_12 decls bytes rest spelled;
  at = record { limit_is = refl; world_is = refl; watched = watched; printed = sym (append-nil before) };
}

-- one line further
pub played-push : (old mid new : Held) (watches left : List Watch) (before out after : List ℕ) (decls : List Decl) (bytes rest behind : List ℕ) (count : ℕ) (line : ScriptLine) → IsPlayedTo old mid watches before out decls bytes count rest → IsLineFirst p20_12 decls rest line behind → Plays mid new watches left out after line → IsPlayedTo old new left before after decls bytes (count + 1) behind
played-push old mid new watches left before out after decls bytes rest behind count line h first plays =
    let sofar = outcome_from old.limit old.world [] h.lines in
    let now = plays sofar.watches h.at.watched in
    let pushed = outcome-push old.limit old.world [] h.lines line in
    let same : line_outcome mid.limit mid.world sofar.watches line ≡ line_outcome old.limit sofar.world sofar.watches line =
    λ i. line_outcome (h.at.limit_is i) (h.at.world_is i) sofar.watches line in
    record {
      lines = h.lines ++ line ∷ [];
      counted = omega (arith, h.counted, length-append h.lines (line ∷ []));
      begun = begun-push p20_12 decls bytes h.lines rest line behind h.begun first;
      at = record {
        limit_is = now.limit_is ∙ h.at.limit_is;
        world_is = now.world_is ∙ ap (λ o. o.world) same ∙ sym pushed.0;
        watched = subst (AreWatched new left) (ap (λ o. o.watches) same ∙ sym pushed.1) now.watched;
        printed = now.printed ∙ (λ i. h.at.printed i ++ (same i).printed)
            ∙ append_assoc before sofar.printed (line_outcome old.limit sofar.world sofar.watches line).printed
            ∙ ap (λ (x : List ℕ). before ++ x) (sym (printed-push old.limit old.world [] h.lines line));
      };
    }

-- the profile and the components stay
pub record IsOfScript (held : Held) (decls : List Decl) : Type 0 where
  pub decls_are : held.world.decls ≡ decls
  pub profile_is : held.world.profile ≡ p20_12

pub played_keeps : (old new : Held) (watches : List Watch) (before after : List ℕ) (decls : List Decl) (bytes : List ℕ) (count : ℕ) (rest : List ℕ) → IsPlayedTo old new watches before after decls bytes count rest → old.world.decls ≡ decls → old.world.profile ≡ p20_12 → IsOfScript new decls
played_keeps old new watches before after decls bytes count rest h same profile =
    let w = old.world in
    let kept = script_keeps old.limit w [] h.lines in
    record {
      decls_are = ap (λ (v : World). v.decls) h.at.world_is ∙ kept.decls ∙ same;
      profile_is = ap (λ (v : World). v.profile) h.at.world_is ∙ kept.profile ∙ profile;
    }
