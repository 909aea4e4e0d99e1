-- Identifiers, components and numbers at the front of a text, each behind a space.
use Rattle.std.proofs.Common.{◌≡◌, ◌≢◌, inl, ℕ, List, ◌∷◌, ◌++◌, drop, codes, refl, sym, ap, ◌∙◌, arith, append_assoc}
use Rattle.entity_id.specs.declared.entity.Profile.{Profile}
use Rattle.entity_id.specs.declared.entity.Entity.{Entity}
use Rattle.entity_id.specs.Identifiers.{HasLimits}
use Rattle.entity_id.specs.Texts.{entity_text}
use Rattle.entity_id.proofs.FrontLemmas.{same_entity, same_number}
use Rattle.world_model.specs.declared.component.Decl.{Decl}
use Rattle.row_lang.specs.NameLists.{name_at}
use Rattle.row_lang.specs.Reading.{IsPoolNext}
use Rattle.world_text.specs.ScriptReading.{IsEntityNext, IsEntryNext, IsNumberNext}
use Rattle.row_lang.proofs.NameLemmas.{one_pool}

-- ---- identifiers

-- a text begins with one identifier
pub one_entity : (profile : Profile) (text x y : List ℕ) (e f : Entity) → HasLimits profile → IsEntityNext profile text e x → IsEntityNext profile text f y → (e ≡ f) × (x ≡ y)
one_entity profile text x y e f limits p q = same_entity profile e f x y limits p.of_profile q.of_profile p.ended q.ended (ap (drop 1) (sym p.whole ∙ q.whole))

pub no_last_entity : (profile : Profile) (text rest : List ℕ) (entity : Entity) → HasLimits profile → IsEntityNext profile text entity rest → ((more : List ℕ) → rest ≢ codes "\n" ++ more) → (other : Entity) (more : List ℕ) → IsEntityNext profile text other (10 ∷ more) → ⊥
no_last_entity profile text rest entity limits first none other more h = none more (one_entity profile text rest (10 ∷ more) entity other limits first h).1

-- ---- components

pub no_last_pool : (decls : List Decl) (text rest : List ℕ) (pool : ℕ) → IsPoolNext decls text pool rest → ((more : List ℕ) → rest ≢ codes "\n" ++ more) → (other : ℕ) (more : List ℕ) → IsPoolNext decls text other (10 ∷ more) → ⊥
no_last_pool decls text rest pool first none other more h = none more (one_pool decls text rest (10 ∷ more) pool other first h).1

-- ---- an identifier and a component

-- an entry begins with its identifier, and behind that with its component
entry_entity : (profile : Profile) (decls : List Decl) (text : List ℕ) (entity : Entity) (pool : ℕ) (rest : List ℕ) → IsEntryNext profile decls text entity pool rest → IsEntityNext profile text entity (32 ∷ (name_at decls pool ++ rest))
entry_entity profile decls text entity pool rest h = record {
  of_profile = h.is.of_profile;
  whole = h.whole ∙ ap (λ t. 32 ∷ t) (append_assoc (entity_text profile entity) (32 ∷ name_at decls pool) rest);
  ended = inl (omega arith);
}

-- what stands behind the identifier of an entry
pub entry_pool : (profile : Profile) (decls : List Decl) (text behind : List ℕ) (entity other : Entity) (pool : ℕ) (rest : List ℕ) → HasLimits profile → IsEntityNext profile text entity behind → IsEntryNext profile decls text other pool rest → (entity ≡ other) × IsPoolNext decls behind pool rest
entry_pool profile decls text behind entity other pool rest limits first h =
    let same = one_entity profile text behind (32 ∷ (name_at decls pool ++ rest)) entity other limits first (entry_entity profile decls text other pool rest h) in
    (same.0, record { called = h.is.called; whole = same.1; ended = h.ended })

pub no_entry_pool : (profile : Profile) (decls : List Decl) (text behind : List ℕ) (entity : Entity) → HasLimits profile → IsEntityNext profile text entity behind → ((pool : ℕ) (more : List ℕ) → IsPoolNext decls behind pool more → ⊥) → (other : Entity) (pool : ℕ) (more : List ℕ) → IsEntryNext profile decls text other pool more → ⊥
no_entry_pool profile decls text behind entity limits first none other pool more h =
    none pool more (entry_pool profile decls text behind entity other pool more limits first h).1

-- a text begins with one entry
pub one_entry : (profile : Profile) (decls : List Decl) (text x y : List ℕ) (e f : Entity) (a b : ℕ) → HasLimits profile → IsEntryNext profile decls text e a x → IsEntryNext profile decls text f b y → (e ≡ f) × (a ≡ b) × (x ≡ y)
one_entry profile decls text x y e f a b limits p q =
    let behind = 32 ∷ (name_at decls a ++ x) in
    let h = entry_pool profile decls text behind e f b y limits (entry_entity profile decls text e a x p) q in
    let same = one_pool decls behind x y a b (record { called = p.is.called; whole = refl; ended = p.ended }) h.1 in
    (h.0, same.0, same.1)

pub no_last_entry : (profile : Profile) (decls : List Decl) (text rest : List ℕ) (entity : Entity) (pool : ℕ) → HasLimits profile → IsEntryNext profile decls text entity pool rest → ((more : List ℕ) → rest ≢ codes "\n" ++ more) → (other : Entity) (number : ℕ) (more : List ℕ) → IsEntryNext profile decls text other number (10 ∷ more) → ⊥
no_last_entry profile decls text rest entity pool limits first none other number more h =
    none more (one_entry profile decls text rest (10 ∷ more) entity other pool number limits first h).2

-- ---- numbers

-- a text begins with one number
pub one_number : (text x y : List ℕ) (m n : ℕ) → IsNumberNext text m x → IsNumberNext text n y → (m ≡ n) × (x ≡ y)
one_number text x y m n p q = same_number m n x y (omega (arith, p.within)) (omega (arith, q.within)) p.ended q.ended (ap (drop 1) (sym p.whole ∙ q.whole))

pub no_last_number : (text rest : List ℕ) (number : ℕ) → IsNumberNext text number rest → ((more : List ℕ) → rest ≢ codes "\n" ++ more) → (other : ℕ) (more : List ℕ) → IsNumberNext text other (10 ∷ more) → ⊥
no_last_number text rest number first none other more h = none more (one_number text rest (10 ∷ more) number other first h).1
