-- How a sparse set's places stand in pages. No public clause cites this file.
use Rattle.std.specs.Prelude.{◌≡◌, ◌≢◌, ℕ, ◌/◌, ◌%◌, ◌<◌, ◌≤◌, List, [], length, Option, Some, slice_get, slice_index_or}
use Rattle.sparse_set.specs.declared.pages.TheConstants.{PAGE}

-- the places of a page, of which there are none before it is made
abbrev pub page_of : List (List ℕ) → ℕ → List ℕ
page_of pages number = slice_index_or pages number []

-- what stands under an index
abbrev pub place_at : List (List ℕ) → ℕ → Option ℕ
place_at pages index = slice_get (page_of pages (index / PAGE)) (index % PAGE)

-- something stands under an index
abbrev pub HasPlace : List (List ℕ) → ℕ → Type 0
HasPlace pages index = index % PAGE < length (page_of pages (index / PAGE))

-- a page has all its places
abbrev pub IsMade : List (List ℕ) → ℕ → Type 0
IsMade pages number = PAGE ≤ length (page_of pages number)

-- the pages of the indices below a bound are made
abbrev pub AreMadeBelow : List (List ℕ) → ℕ → Type 0
AreMadeBelow pages bound = (index : ℕ) → index < bound → IsMade pages (index / PAGE)

-- a place was put under an index, and what stands under the others is as before
pub record Puts (old new : List (List ℕ)) (index place : ℕ) : Type 0 where
  pub here : place_at new index ≡ Some place
  pub others : (other : ℕ) → other ≢ index → place_at new other ≡ place_at old other
  pub lengths : (number : ℕ) → length (page_of new number) ≡ length (page_of old number)

-- what stood under an index does so still, and no page has fewer places
pub record Keeps (old new : List (List ℕ)) : Type 0 where
  pub places : (index place : ℕ) → place_at old index ≡ Some place → place_at new index ≡ Some place
  pub lengths : (number : ℕ) → length (page_of old number) ≤ length (page_of new number)
