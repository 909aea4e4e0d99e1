-- What readers of names of components in a line say.
use Rattle.std.specs.Prelude.{◌≡◌, ◌≢◌, ℕ, ◌<◌, Bool, true, false, ◌||◌, ◌==◌, List, [], ◌∷◌, ◌++◌, length, Option, MatchOption, IsPermutation}
use Rattle.std.specs.List.{AllByRecursion, list_any}
use Rattle.std.specs.List.Sorted.{IsNonDecreasing}
use Rattle.std.specs.Borrow.{Bor}
use Rattle.world_model.specs.declared.component.Decl.{Decl}
use Rattle.row_lang.specs.NameLists.{name_at, IsCalled, AreNamedOnce}

-- ---- words

-- what stands behind a word at the front, or none where the word isn't there
abbrev pub IsAfter : List ℕ → List ℕ → Option (Bor (List ℕ)) → Type 0
IsAfter text word result = MatchOption result ((rest : List ℕ) → text ≢ word ++ rest) (λ rest. text ≡ word ++ rest.now)

-- whether a name ends before this byte: a space (32), or a line end (10)
abbrev pub ends_name : ℕ → Bool
ends_name byte = (byte == 32) || (byte == 10)

-- nothing, or a byte first before which a name ends
abbrev pub EndsName : List ℕ → Type 0
EndsName [] = Unit {0}
EndsName (byte ∷ bytes) = ends_name byte ≡ true

-- a text cut before its first space or line end
pub record IsNameSplit (text name rest : List ℕ) : Type 0 where
  pub whole : text ≡ name ++ rest
  pub free : AllByRecursion (λ byte. ends_name byte ≡ false) name
  pub ended : EndsName rest

-- ---- names of components

-- a text begins with a space and the name of this component, whole, and this is the rest
pub record IsPoolNext (decls : List Decl) (text : List ℕ) (pool : ℕ) (rest : List ℕ) : Type 0 where
  pub called : IsCalled decls pool
  pub whole : text ≡ 32 ∷ (name_at decls pool ++ rest)
  pub ended : EndsName rest

-- whether a component is one of those that were named, or of these others
abbrev pub is_named : List ℕ → List ℕ → ℕ → Bool
is_named others pools pool = list_any (λ other. other == pool) others || list_any (λ other. other == pool) pools

-- a text begins with the names of these components, in this order, each behind a space, and this is the rest
abbrev pub ArePoolsNext : List Decl → List ℕ → List ℕ → List ℕ → Type 0
ArePoolsNext decls text [] rest = text ≡ rest
ArePoolsNext decls text (pool ∷ pools) rest = (behind : List ℕ) × IsPoolNext decls text pool behind × ArePoolsNext decls behind pools rest

-- the same, and no further name follows; none is named twice, also not beside these others
pub record AreNamesNext (decls : List Decl) (others : List ℕ) (text : List ℕ) (pools rest : List ℕ) : Type 0 where
  pub next : ArePoolsNext decls text pools rest
  pub once : AreNamedOnce (others ++ pools)
  pub last : (pool : ℕ) (more : List ℕ) → IsPoolNext decls rest pool more → ⊥

-- the same, one name or more
pub record AreSomeNext (decls : List Decl) (others : List ℕ) (text : List ℕ) (pools rest : List ℕ) : Type 0 where
  pub names : AreNamesNext decls others text pools rest
  pub some : 0 < length pools

-- a part that may be left out: where a text begins with the word, one name or more behind it; where it doesn't, nothing
abbrev pub IsPartNext : List Decl → List ℕ → List ℕ → List ℕ → List ℕ → List ℕ → Type 0
IsPartNext decls others word text [] rest = (text ≡ rest) × ((more : List ℕ) → text ≢ word ++ more)
IsPartNext decls others word text (pool ∷ pools) rest = (behind : List ℕ) × (text ≡ word ++ behind) × AreNamesNext decls others behind (pool ∷ pools) rest

-- a list is kept in ascending number
pub record IsKeptAs (order pools : List ℕ) : Type 0 where
  pub same : IsPermutation order pools
  pub ascending : IsNonDecreasing pools
