-- Worked views of a few sets.
use Rattle.std.proofs.Common.{◌≡◌, ℕ, true, false, List, [], ◌∷◌, refl}
use Rattle.entity_id.specs.declared.entity.Entity.{Entity}
use Rattle.entity_id.specs.Matching.{matches}
use Rattle.pool_view.specs.ViewedSets.{ViewedSets, is_viewed, leading_place, walk_of}

abbrev id : ℕ → ℕ → Entity
id index version = record { index = index; version = version }

abbrev a : List Entity
a = id 1 0 ∷ id 2 0 ∷ id 3 0 ∷ []

abbrev b : List Entity
b = id 3 0 ∷ id 1 0 ∷ []

abbrev c : List Entity
c = id 3 0 ∷ []

abbrev d : List Entity
d = id 9 0 ∷ id 8 0 ∷ id 2 0 ∷ []

abbrev of : List (List Entity) → List (List Entity) → ViewedSets
of included excluded = record { included = included; excluded = excluded }

-- the smallest set leads, and is walked from the back
pub leading-smallest : leading_place (a ∷ b ∷ []) ≡ 1
leading-smallest = refl

pub walk-two : walk_of (of (a ∷ b ∷ []) []) ≡ id 1 0 ∷ id 3 0 ∷ []
walk-two = refl

pub walk-one : walk_of (of (a ∷ []) []) ≡ id 3 0 ∷ id 2 0 ∷ id 1 0 ∷ []
walk-one = refl

-- what an excluded set contains is not walked
pub walk-excluded : walk_of (of (a ∷ b ∷ []) (c ∷ [])) ≡ id 1 0 ∷ []
walk-excluded = refl

-- of two sets of one size the first leads
pub leading-tie : leading_place (a ∷ d ∷ []) ≡ 0
leading-tie = refl

pub walk-tie : walk_of (of (a ∷ d ∷ []) []) ≡ id 2 0 ∷ []
walk-tie = refl

-- the version counts
pub viewed-version : is_viewed (of (a ∷ []) []) (id 1 1) ≡ false
viewed-version = refl

pub viewed-excluded_version : is_viewed (of (a ∷ []) ((id 1 1 ∷ []) ∷ [])) (id 1 0) ≡ true
viewed-excluded_version = refl

-- an empty set leads, and nothing is walked
pub walk-empty : walk_of (of (a ∷ [] ∷ []) []) ≡ []
walk-empty = refl

-- the walk in packed order, and the matches in the order of the first map
pub walk-matches : matches (a ∷ b ∷ []) (0 ∷ 1 ∷ []) [] ≡ id 1 0 ∷ id 3 0 ∷ []
walk-matches = refl
