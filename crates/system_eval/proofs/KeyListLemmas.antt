-- Which identifiers a map has depends on the identifiers of the list that it stands for alone.
use Rattle.std.proofs.Common.{◌≡◌, Bool, true, false, cond, ◌||◌, List, [], ◌∷◌, ◌++◌, filter, Option, Some, refl, sym, ap, ap₂, ◌∙◌}
use Rattle.std.specs.Prelude.{is_some, nat_lt}
use Rattle.std.specs.List.{list_any}
use Rattle.std.proofs.lemmas.List.{map-append}
use Rattle.entity_id.specs.declared.entity.Entity.{Entity}
use Rattle.entity_id.specs.FiniteMap as entries
use Rattle.entity_id.specs.Identifiers.{is_same}

module _ {X : Type 0} where
  keys-step : (b : Bool) (entry : Entity × X) (xs : List (Entity × X)) (es : List Entity) → entries.keys xs ≡ es → entries.keys (cond {A = List (Entity × X)} b (entry ∷ xs) xs) ≡ cond b (entry.0 ∷ es) es
  keys-step true entry xs es is = ap (λ rest. entry.0 ∷ rest) is
  keys-step false entry xs es is = is

  keys-filter : (test : Entity → Bool) (xs : List (Entity × X)) → entries.keys (filter (λ entry. test entry.0) xs) ≡ filter test (entries.keys xs)
  keys-filter test [] = refl
  keys-filter test (entry ∷ xs) = keys-step (test entry.0) entry (filter (λ entry. test entry.0) xs) (filter test (entries.keys xs)) (keys-filter test xs)

  keys-put : (m : List (Entity × X)) (e : Entity) (x : X) → entries.keys (entries.put m e x) ≡ filter (λ (k : Entity). nat_lt k.index e.index) (entries.keys m) ++ e ∷ filter (λ (k : Entity). nat_lt e.index k.index) (entries.keys m)
  keys-put m e x =
      map-append (λ (entry : Entity × X). entry.0) (filter (λ entry. nat_lt entry.0.index e.index) m) ((e, x) ∷ filter (λ entry. nat_lt e.index entry.0.index) m)
      ∙ ap₂ (λ a b. a ++ e ∷ b) (keys-filter (λ (k : Entity). nat_lt k.index e.index) m) (keys-filter (λ (k : Entity). nat_lt e.index k.index) m)

  any-step : (b : Bool) (x : X) (rest : Option X) (any : Bool) → any ≡ is_some rest → (b || any) ≡ is_some (cond b (Some x) rest)
  any-step true x rest any h = refl
  any-step false x rest any h = h

  -- an identifier has a value where it stands among the identifiers
  pub any-keys : (e : Entity) (m : List (Entity × X)) → list_any (is_same e) (entries.keys m) ≡ entries.contains m e
  any-keys e [] = refl
  any-keys e (p ∷ m) = any-step (is_same e p.0) p.1 (entries.get m e) (list_any (is_same e) (entries.keys m)) (any-keys e m)

  pub keys-map_of : (xs ys : List (Entity × X)) → entries.keys xs ≡ entries.keys ys → entries.keys (entries.map_of xs) ≡ entries.keys (entries.map_of ys)
  keys-map_of [] [] is = refl
  keys-map_of [] (y ∷ ys) is = absurd (cc)
  keys-map_of (x ∷ xs) [] is = absurd (cc)
  keys-map_of (x ∷ xs) (y ∷ ys) is =
      let head : x.0 ≡ y.0 = cc in
      let tail : entries.keys xs ≡ entries.keys ys = cc in
      keys-put (entries.map_of xs) x.0 x.1
      ∙ ap₂ (λ (e : Entity) (es : List Entity). filter (λ (k : Entity). nat_lt k.index e.index) es ++ e ∷ filter (λ (k : Entity). nat_lt e.index k.index) es) head (keys-map_of xs ys tail)
      ∙ sym (keys-put (entries.map_of ys) y.0 y.1)

  pub contains-keys : (xs ys : List (Entity × X)) (e : Entity) → entries.keys xs ≡ entries.keys ys → entries.contains (entries.map_of xs) e ≡ entries.contains (entries.map_of ys) e
  contains-keys xs ys e is = sym (any-keys e (entries.map_of xs)) ∙ ap (list_any (is_same e)) (keys-map_of xs ys is) ∙ any-keys e (entries.map_of ys)
