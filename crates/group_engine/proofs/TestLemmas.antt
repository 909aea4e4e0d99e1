-- Which of the two tests of an identifier has to be made, before a change of a pool and after it.
use Rattle.std.proofs.Common.{◌≡◌, ℕ, Bool, true, false, not, ◌&&◌, cond, List, ◌++◌, sym, refl, ap, ap₂, ◌∙◌, inl, inr, ◌||◌, eqb}
use Rattle.std.proofs.Math.Bool.{and-false}
use Rattle.std.proofs.lemmas.Bool.{cases_Bool, eq-eqb}
use Rattle.std.proofs.lemmas.List.Folds.{list_any-append}
use Rattle.entity_id.specs.declared.entity.Entity.{Entity}
use Rattle.entity_id.specs.Matching.{is_in}
use Rattle.world_model.specs.declared.group.GroupDecl.{GroupDecl}
use Rattle.world_model.specs.Groups.{has_pool}
use Rattle.group_engine.specs.Masks.{may_enter}
use Rattle.group_engine.specs.Moving.{in_if, matches_if, comes_in, goes_out}
use Rattle.group_engine.proofs.ClearLemmas.{held_fails, excluded_fails}
use Rattle.group_engine.proofs.StepLemmas.{unnamed_comes}

-- in a group that may be entered it wasn't before
pub comes_matched : (packed : List (List Entity)) (e : Entity) (p : ℕ) (d : GroupDecl) (held : Bool) → may_enter p held d ≡ true → matches_if packed e p held d ≡ comes_in packed e p held d
comes_matched packed e p d true wants = sym (ap (λ b. not b && matches_if packed e p true d) (held_fails packed p d wants e))
comes_matched packed e p d false excludes = sym (ap (λ b. not b && matches_if packed e p false d) (excluded_fails d (in_if packed e p true) p excludes (ap (λ b. cond b true (is_in packed e p)) (eq-eqb p p refl))))

-- another is not entered
pub comes_concerned : (packed : List (List Entity)) (e : Entity) (p : ℕ) (d : GroupDecl) (held : Bool) → may_enter p held d ≡ false → comes_in packed e p held d ≡ false
comes_concerned packed e p d true out = elim (cases_Bool (has_pool d.without p)) [
  | inl excludes ↦ ap (λ b. not (matches_if packed e p false d) && b) (excluded_fails d (in_if packed e p true) p excludes (ap (λ b. cond b true (is_in packed e p)) (eq-eqb p p refl))) ∙ and-false (not (matches_if packed e p false d))
  | inr free ↦ unnamed_comes packed e p true d (list_any-append (λ q. eqb q p) (d.own ++ d.get) d.without ∙ ap₂ (λ a b. a || b) out free)
]
comes_concerned packed e p d false out = elim (cases_Bool (has_pool (d.own ++ d.get) p)) [
  | inl wants ↦ ap (λ b. not (matches_if packed e p true d) && b) (held_fails packed p d wants e) ∙ and-false (not (matches_if packed e p true d))
  | inr free ↦ unnamed_comes packed e p false d (list_any-append (λ q. eqb q p) (d.own ++ d.get) d.without ∙ ap₂ (λ a b. a || b) free out)
]

-- it goes out where it would come in the other way
pub goes_as_comes : (packed : List (List Entity)) (e : Entity) (p : ℕ) (d : GroupDecl) (held : Bool) → comes_in packed e p (not held) d ≡ goes_out packed e p held d
goes_as_comes packed e p d true = turned (matches_if packed e p true d) (matches_if packed e p false d)
  where
    turned : (a b : Bool) → (not a && b) ≡ (b && not a)
    turned true true = refl
    turned true false = refl
    turned false true = refl
    turned false false = refl
goes_as_comes packed e p d false = turned (matches_if packed e p false d) (matches_if packed e p true d)
  where
    turned : (a b : Bool) → (not a && b) ≡ (b && not a)
    turned true true = refl
    turned true false = refl
    turned false true = refl
    turned false false = refl

pub goes_concerned : (packed : List (List Entity)) (e : Entity) (p : ℕ) (d : GroupDecl) (held : Bool) → may_enter p (not held) d ≡ false → goes_out packed e p held d ≡ false
goes_concerned packed e p d held out = sym (goes_as_comes packed e p d held) ∙ comes_concerned packed e p d (not held) out
