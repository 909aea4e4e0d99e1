-- What the tests' systems do: each gives one order at each tick, and changes no row. No public clause cites this file.
use Rattle.std.proofs.Common.{◌≡◌, ℕ, ◌≤◌, ◌++◌, ◌||◌, Bool, true, false, eqb, List, [], ◌∷◌, refl, ◌∙◌}
use Rattle.std.specs.Prelude.{codes}
use Rattle.std.proofs.Math.Nat.{le_refl}
use Rattle.std.proofs.lemmas.List.Folds.{list_any-append}
use Rattle.world_model.specs.declared.access.Access.{Access}
use Rattle.world_model.specs.declared.component.Decl.{Decl}
use Rattle.world_model.specs.declared.component.Kind.TheVariants.{Int}
use Rattle.world_model.specs.declared.deferred.Deferred.{Deferred}
use Rattle.world_model.specs.Frames.{ChangesOnlyItsRows, DependsOnItsLists, system_pools}
use Rattle.world_model.specs.Groups.{has_pool}
use Rattle.world_model.specs.Ticks.{Maps, Effect}

-- a component of one number
abbrev pub number_component : List ℕ → Decl
number_component name = record { name = name; count = 1; kinds = Int ∷ Int ∷ Int ∷ Int ∷ [] }

-- three components, of one number each
abbrev pub three_components : List Decl
three_components = number_component (codes "a") ∷ number_component (codes "b") ∷ number_component (codes "c") ∷ []

-- lists of what is read and what is written
abbrev pub reading_and_writing : List ℕ → List ℕ → Access
reading_and_writing read write = record { read = read; write = write; look = []; without = [] }

-- no row changes, and one order is given
abbrev pub gives : Deferred → ℕ → Maps → Effect
gives order tick maps = record { maps = maps; orders = order ∷ [] }

-- one order, whatever the sizes
abbrev pub one_order : List ℕ → ℕ
one_order sizes = 1

-- ---- its laws

or_first : (b c : Bool) → b ≡ true → (b || c) ≡ true
or_first true c e = refl
or_first false c e = absurd (cc)

or_second : (b c : Bool) → c ≡ true → (b || c) ≡ true
or_second true c e = refl
or_second false c e = e

-- what is written is named
write_named : (access : Access) (pool : ℕ) → has_pool access.write pool ≡ true → has_pool (system_pools access) pool ≡ true
write_named access pool named =
    let is : ℕ → Bool = λ other. eqb other pool in
    list_any-append is ((access.read ++ access.write) ++ access.look) access.without
    ∙ or_first _ _ (list_any-append is (access.read ++ access.write) access.look ∙ or_first _ _ (list_any-append is access.read access.write ∙ or_second _ _ named))

pub giver_frame : (access : Access) (order : Deferred) → ChangesOnlyItsRows access (gives order)
giver_frame access order = record {
  identifiers = λ tick maps. refl;
  unwritten = λ tick maps pool absent. refl;
  others = λ tick maps pool entity absent. refl;
}

pub giver_local : (access : Access) (order : Deferred) → DependsOnItsLists access (gives order)
giver_local access order = record {
  rows = λ tick a b same pool named. same pool (write_named access pool named);
  orders = λ tick a b same. refl;
}

pub giver_few : 1 ≤ 1
giver_few = le_refl 1

pub giver_sized : ◌≡◌ {A = ℕ} 1 1
giver_sized = refl
