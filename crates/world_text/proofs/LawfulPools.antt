-- The pools of admissible lines: each has the rows of the component in its place.
use Rattle.std.proofs.Common.{◌≡◌, ℕ, zero, suc, ◌-◌, ◌<◌, Bool, true, false, List, [], ◌∷◌, ◌++◌, length, get_or, set, Option, Some, None, refl, sym, ap, subst, ◌∙◌, arith}
use Rattle.std.specs.Prelude.{slice_get, nat_lt}
use Rattle.std.specs.List.{AllByRecursion, AllZip}
use Rattle.std.specs.Option.{option_map_or}
use Rattle.std.proofs.lemmas.Bool.{ltb-true, false≢true}
use Rattle.entity_id.specs.declared.entity.Profile.{Profile}
use Rattle.entity_id.specs.declared.entity.Entity.{Entity}
use Rattle.entity_id.specs.FiniteMap.{IsAscendingBy}
use Rattle.entity_id.proofs.ListLemmas.{all-append, all_weaker, ascending-append}
use Rattle.world_model.specs.declared.component.Decl.{Decl}
use Rattle.world_model.specs.declared.component.Row.{Row}
use Rattle.world_model.specs.declared.slot.Slot.{Slot}
use Rattle.world_model.specs.Components.{IsRow, fits}
use Rattle.world_model.specs.Slots.{is_live}
use Rattle.world_model.specs.Worlds.{AreLawfulRows}
use Rattle.world_text.specs.Fitting.{is_above}

-- ---- lists beside the first items of another

-- each of some items is beside the one in its place, of at least as many others
abbrev pub AreBeside : {X Y : Type 0} → (X → Y → Type 0) → List Y → List X → Type 0
AreBeside R [] xs = Unit {0}
AreBeside R (y ∷ ys) [] = ⊥
AreBeside R (y ∷ ys) (x ∷ xs) = R x y × AreBeside R ys xs

pub beside_push : {X Y : Type 0} (R : X → Y → Type 0) (ys : List Y) (xs : List X) (y : Y) → ((x : X) → R x y) → length ys < length xs → AreBeside R ys xs → AreBeside R (ys ++ y ∷ []) xs
beside_push R [] [] y each room beside = absurd (omega arith)
beside_push R [] (x ∷ xs) y each room beside = (each x, tt)
beside_push R (z ∷ ys) [] y each room beside = beside
beside_push R (z ∷ ys) (x ∷ xs) y each room beside = (beside.0, beside_push R ys xs y each (omega arith) beside.1)

pub beside_set : {X Y : Type 0} (R : X → Y → Type 0) (ys : List Y) (xs : List X) (k : ℕ) (x : X) (y d : Y) → k < length ys → slice_get xs k ≡ Some x → (R x (get_or ys k d) → R x y) → AreBeside R ys xs → AreBeside R (set ys k y) xs
beside_set R [] xs k x y d within here step beside = tt
beside_set R (z ∷ ys) [] k x y d within here step beside = absurd beside
beside_set R (z ∷ ys) (w ∷ xs) zero x y d within here step beside =
    let same : w ≡ x = cc in
    (subst (λ v. R v y) (sym same) (step (subst (λ v. R v z) same beside.0)), beside.1)
beside_set R (z ∷ ys) (w ∷ xs) (suc k) x y d within here step beside = (beside.0, beside_set R ys xs k x y d (omega arith) here step beside.1)

-- as many items as others
pub beside_all : {X Y : Type 0} (R : X → Y → Type 0) (ys : List Y) (xs : List X) → length ys ≡ length xs → AreBeside R ys xs → AllZip R xs ys
beside_all R [] [] as_many beside = tt
beside_all R [] (x ∷ xs) as_many beside = absurd (omega arith)
beside_all R (y ∷ ys) [] as_many beside = beside
beside_all R (y ∷ ys) (x ∷ xs) as_many beside = (beside.0, beside_all R ys xs (omega arith) beside.1)

-- ---- what a test of an item that may be missing tells

pub there : {X : Type 0} (f : X → Bool) (o : Option X) → option_map_or f o false ≡ true → (x : X) × (o ≡ Some x) × (f x ≡ true)
there f None h = absurd (false≢true h)
there f (Some x) h = (x, refl, h)

-- ---- rows

-- above the last item of an ascending list is above each
last_greatest : {X : Type 0} (n : X → ℕ) (xs : List X) (top : ℕ) → IsAscendingBy n xs → option_map_or (λ x. nat_lt (n x) top) (slice_get xs (length xs - 1)) true ≡ true → AllByRecursion (λ x. n x < top) xs
last_greatest n [] top ascending above = tt
last_greatest n (x ∷ []) top ascending above = (ltb-true (n x) top above, tt)
last_greatest n (x ∷ y ∷ xs) top ascending above =
    let at : length (x ∷ y ∷ xs) - 1 ≡ suc (length (y ∷ xs) - 1) = omega arith in
    let rest = last_greatest n (y ∷ xs) top ascending.1 (ap (λ k. option_map_or (λ z. nat_lt (n z) top) (slice_get (x ∷ y ∷ xs) k) true) (sym at) ∙ above) in
    (omega (arith, ascending.0.0, rest.0), rest)

pub no_rows_lawful : (profile : Profile) (slots : List Slot) (decl : Decl) → AreLawfulRows profile slots decl []
no_rows_lawful profile slots decl = record { ascending = tt; live = tt; wide = tt; fitting = tt }

pub rows_push : (profile : Profile) (slots : List Slot) (decl : Decl) (rows : List (Entity × Row)) (entity : Entity) (row : Row) → is_above rows entity ≡ true → is_live slots entity ≡ true → IsRow row → fits profile decl row ≡ true → AreLawfulRows profile slots decl rows → AreLawfulRows profile slots decl (rows ++ (entity, row) ∷ [])
rows_push profile slots decl rows entity row above live wide fitting lawful = record {
  ascending = ascending-append (λ entry. entry.0.index) rows ((entity, row) ∷ []) lawful.ascending (tt, tt)
      (all_weaker _ (λ (x : Entity × Row). AllByRecursion (λ (y : Entity × Row). x.0.index < y.0.index) ((entity, row) ∷ [])) (λ entry low. (low, tt)) rows (last_greatest (λ entry. entry.0.index) rows entity.index lawful.ascending above));
  live = all-append _ rows ((entity, row) ∷ []) lawful.live (live, tt);
  wide = all-append _ rows ((entity, row) ∷ []) lawful.wide (wide, tt);
  fitting = all-append _ rows ((entity, row) ∷ []) lawful.fitting (fitting, tt);
}
