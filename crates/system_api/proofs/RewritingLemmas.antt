-- The map of rewritten pairs is the rewritten map, in whatever order the pairs stand.
use Rattle.std.proofs.Common.{◌≡◌, Bool, true, false, cond, List, [], ◌∷◌, ◌++◌, filter, refl, sym, ap, ap₂, ◌∙◌}
use Rattle.std.specs.Prelude.{nat_lt}
use Rattle.std.proofs.lemmas.List.{map-append}
use Rattle.entity_id.specs.declared.entity.Entity.{Entity}
use Rattle.entity_id.specs.FiniteMap as entries
use Rattle.system_api.specs.Rewriting.{rewritten}

module _ {X : Type 0} (f : Entity → X → X) where
  g : Entity × X → Entity × X
  g entry = (entry.0, f entry.0 entry.1)

  kept : (b : Bool) (x : Entity × X) (xs ys : List (Entity × X)) → xs ≡ ys → cond b (x ∷ xs) xs ≡ cond b (x ∷ ys) ys
  kept b x xs ys e = ap (λ zs. cond b (x ∷ zs) zs) e

  pushed : (b : Bool) (x : Entity × X) (zs : List (Entity × X)) → cond {A = List (Entity × X)} b ((x.0, f x.0 x.1) ∷ rewritten f zs) (rewritten f zs) ≡ rewritten f (cond {A = List (Entity × X)} b (x ∷ zs) zs)
  pushed true x zs = refl
  pushed false x zs = refl

  filtered : (p : Entity → Bool) (xs : List (Entity × X)) → filter (λ entry. p entry.0) (rewritten f xs) ≡ rewritten f (filter (λ entry. p entry.0) xs)
  filtered p [] = refl
  filtered p (x ∷ xs) = kept (p x.0) (x.0, f x.0 x.1) _ _ (filtered p xs) ∙ pushed (p x.0) x (filter (λ entry. p entry.0) xs)

  put-rewritten : (m : List (Entity × X)) (e : Entity) (v : X) → entries.put (rewritten f m) e (f e v) ≡ rewritten f (entries.put m e v)
  put-rewritten m e v =
      ap₂ (λ a b. a ++ (e, f e v) ∷ b) (filtered (λ entity. nat_lt entity.index e.index) m) (filtered (λ entity. nat_lt e.index entity.index) m)
      ∙ sym (map-append (λ entry. (entry.0, f entry.0 entry.1)) (filter (λ entry. nat_lt entry.0.index e.index) m) ((e, v) ∷ filter (λ entry. nat_lt e.index entry.0.index) m))

  pub map-rewritten : (pairs : List (Entity × X)) → entries.map_of (rewritten f pairs) ≡ rewritten f (entries.map_of pairs)
  map-rewritten [] = refl
  map-rewritten (x ∷ xs) = ap (λ m. entries.put m x.0 (f x.0 x.1)) (map-rewritten xs) ∙ put-rewritten (entries.map_of xs) x.0 x.1
