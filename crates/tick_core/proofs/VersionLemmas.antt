-- The versions that a list of them stands for.
use Rattle.std.proofs.Common.{◌≡◌, ◌≢◌, ℕ, zero, suc, ◌+◌, ◌<◌, Bool, true, false, cond, eqb, List, [], ◌∷◌, set, map, drop, length, get_or, Option, Some, None, unwrap_or, refl, sym, ap, subst, ◌∙◌, arith, eq-eqb}
use Rattle.std.specs.FinMap as entries
use Rattle.std.specs.Ordering.{nat_cmp}
use Rattle.std.specs.Cmp.{nat_cmp_total}
use Rattle.std.proofs.lemmas.Bool.{eqb-true, ne_eqb}
use Rattle.std.proofs.Math.Seq.{map-set_same}
use Rattle.tick_core.specs.declared.versions.PoolVersion.{PoolVersion}
use Rattle.tick_core.specs.Layout.{at_zero, version_in, versioned, versions_in}
use Rattle.tick_core.proofs.KeepLemmas.{get-insert}

-- the version of a pool, found from the front
abbrev pub found : List PoolVersion → ℕ → Option ℕ
found [] q = None
found (at ∷ versions) q = cond (eqb q at.pool) (Some at.version) (found versions q)

pub get-versions : (versions : List PoolVersion) (q : ℕ) → entries.get (versions_in versions) q ≡ found versions q
get-versions [] q = entries.get-empty nat_cmp q
get-versions (at ∷ versions) q = get-insert (versions_in versions) at.pool at.version q ∙ ap (cond (eqb q at.pool) (Some at.version)) (get-versions versions q)

module _ (next d : PoolVersion) where
  over : (b : Bool) (old new : ℕ) (rest : Option ℕ) → cond b (Some new) rest ≡ cond b (Some new) (cond b (Some old) rest)
  over true old new rest = refl
  over false old new rest = refl

  apart : (a b : Bool) (x y : ℕ) (rest : Option ℕ) → (a ≡ true → b ≡ true → ⊥) → cond a (Some x) (cond b (Some y) rest) ≡ cond b (Some y) (cond a (Some x) rest)
  apart true true x y rest never = absurd (never refl refl)
  apart true false x y rest never = refl
  apart false b x y rest never = refl

  -- the first entry of a pool is replaced
  pub found-set : (versions : List PoolVersion) (i q : ℕ) → i < length versions → (get_or versions i d).pool ≡ next.pool → ((k : ℕ) → k < i → (get_or versions k d).pool ≢ next.pool)
      → found (set versions i next) q ≡ cond (eqb q next.pool) (Some next.version) (found versions q)
  found-set [] i q low same first = absurd (omega (arith, low))
  found-set (at ∷ versions) zero q low same first =
      over (eqb q next.pool) at.version next.version (found versions q)
      ∙ ap (λ p. cond (eqb q next.pool) (Some next.version) (cond (eqb q p) (Some at.version) (found versions q))) (sym same)
  found-set (at ∷ versions) (suc i) q low same first =
      ap (cond (eqb q at.pool) (Some at.version)) (found-set versions i q (omega (arith, low)) same (λ k below. first (suc k) (omega (arith, below))))
      ∙ apart (eqb q at.pool) (eqb q next.pool) at.version next.version (found versions q)
      (λ here there. first 0 (omega arith) (sym (eqb-true q at.pool here) ∙ eqb-true q next.pool there))

-- the first entry of a pool tells its version
pub found-at : (versions : List PoolVersion) (i : ℕ) (d : PoolVersion) → i < length versions → ((k : ℕ) → k < i → (get_or versions k d).pool ≢ (get_or versions i d).pool)
    → found versions (get_or versions i d).pool ≡ Some (get_or versions i d).version
found-at [] i d low first = absurd (omega (arith, low))
found-at (at ∷ versions) zero d low first = ap (λ b. cond b (Some at.version) (found versions at.pool)) (eq-eqb at.pool at.pool refl)
found-at (at ∷ versions) (suc i) d low first =
    ap (λ b. cond b (Some at.version) (found versions (get_or versions i d).pool)) (ne_eqb (get_or versions i d).pool at.pool (λ e. first 0 (omega arith) (sym e)))
    ∙ found-at versions i d (omega (arith, low)) (λ k below. first (suc k) (omega (arith, below)))

pub version-found : (versions : List PoolVersion) (pool : ℕ) → version_in versions pool ≡ unwrap_or (found versions pool) 0
version-found versions pool = ap (λ o. unwrap_or o 0) (get-versions versions pool)

module _ (versions : List PoolVersion) (i pool : ℕ) (next d : PoolVersion) (low : i < length versions) (was : (get_or versions i d).pool ≡ pool) (first : (k : ℕ) → k < i → (get_or versions k d).pool ≢ pool) where
  pub version-at : version_in versions pool ≡ (get_or versions i d).version
  version-at =
      version-found versions pool ∙ ap (λ p. unwrap_or (found versions p) 0) (sym was)
      ∙ ap (λ o. unwrap_or o 0) (found-at versions i d low (λ k below e. first k below (e ∙ was)))

  pub versions-set : next.pool ≡ pool → versions_in (set versions i next) ≡ entries.insert (versions_in versions) pool next.version
  versions-set is = entries.same_map nat_cmp_total entries.nat_cmp-IsAntisymmetric _ _ (λ q.
      get-versions (set versions i next) q
      ∙ found-set next d versions i q low (was ∙ sym is) (λ k below e. first k below (e ∙ is))
      ∙ ap (λ p. cond (eqb q p) (Some next.version) (found versions q)) is
      ∙ ap (cond (eqb q pool) (Some next.version)) (sym (get-versions versions q))
      ∙ sym (get-insert (versions_in versions) pool next.version q))

  pub versioned-set : next.pool ≡ pool → versioned (set versions i next) ≡ versioned versions
  versioned-set is = map-set_same (λ at. at.pool) versions i next d (is ∙ sym was)

-- the first entry from a place on is of this pool, or isn't
pub found-here : (versions : List PoolVersion) (i pool : ℕ) (d : PoolVersion) → i < length versions → (get_or versions i d).pool ≡ pool → found (drop i versions) pool ≡ Some (get_or versions i d).version
found-here [] i pool d low is = absurd (omega (arith, low))
found-here (at ∷ versions) zero pool d low is = ap (λ b. cond b (Some at.version) (found versions pool)) (eq-eqb pool at.pool (sym is))
found-here (at ∷ versions) (suc i) pool d low is = found-here versions i pool d (omega (arith, low)) is

pub found-later : (versions : List PoolVersion) (i pool : ℕ) (d : PoolVersion) → i < length versions → ((get_or versions i d).pool ≡ pool → ⊥) → found (drop i versions) pool ≡ found (drop (suc i) versions) pool
found-later [] i pool d low not = absurd (omega (arith, low))
found-later (at ∷ versions) zero pool d low not = ap (λ b. cond b (Some at.version) (found versions pool)) (ne_eqb pool at.pool (λ e. not (sym e)))
found-later (at ∷ versions) (suc i) pool d low not = found-later versions i pool d (omega (arith, low)) not

-- ---- the first entry of a pool is found, and raised

module _ (versions seen : List PoolVersion) (same : seen ≡ versions) (i pool : ℕ) (old : PoolVersion) (is : old ≡ get_or versions i old) (low : i < length seen)
    (was : (at : PoolVersion) → (get_or seen i at).pool ≡ pool) (first : (k : ℕ) (at : PoolVersion) → k < i → (get_or seen k at).pool ≢ pool) where
  within : i < length versions
  within = subst (λ (list : List PoolVersion). i < length list) same low

  here : (get_or versions i old).pool ≡ pool
  here = subst (λ (list : List PoolVersion). (get_or list i old).pool ≡ pool) same (was old)

  not_before : (k : ℕ) → k < i → (get_or versions k old).pool ≢ pool
  not_before k below = subst (λ (list : List PoolVersion). (get_or list k old).pool ≢ pool) same (first k old below)

  pub old_version : version_in versions pool ≡ old.version
  old_version = version-at versions i pool old old within here not_before ∙ ap (λ (at : PoolVersion). at.version) (sym is)

  pub old_pool : old.pool ≡ pool
  old_pool = ap (λ (at : PoolVersion). at.pool) is ∙ here

  pub raised : versions_in (set versions i (record old { version = old.version + 1 })) ≡ entries.insert (versions_in versions) pool (version_in versions pool + 1)
  raised = versions-set versions i pool (record old { version = old.version + 1 }) old within here not_before old_pool
      ∙ ap (λ n. entries.insert (versions_in versions) pool (n + 1)) (sym old_version)

  pub raised-pools : versioned (set versions i (record old { version = old.version + 1 })) ≡ versioned versions
  raised-pools = versioned-set versions i pool (record old { version = old.version + 1 }) old within here not_before old_pool

-- ---- versions that are all 0

pub versioned-zeros : (pools : List ℕ) → versioned (map at_zero pools) ≡ pools
versioned-zeros [] = refl
versioned-zeros (pool ∷ pools) = ap (λ rest. pool ∷ rest) (versioned-zeros pools)

pub versions-zeros : (pools : List ℕ) → versions_in (map at_zero pools) ≡ entries.from_entries (map (λ (pool : ℕ). (pool, 0)) pools)
versions-zeros [] = refl
versions-zeros (pool ∷ pools) = ap (λ rest. entries.insert rest pool 0) (versions-zeros pools)
