-- Entries in any order against the finite map that they make.
use Rattle.std.proofs.Common.{not, ◌≡◌, ℕ, zero, suc, Bool, false, cond, List, [], ◌∷◌, Some, None, slice_get, sym, refl, ap, ap₂, ◌∙◌, subst, inl, inr, arith}
use Rattle.std.specs.Prelude.{is_some}
use Rattle.std.specs.Bool.{OnFalse}
use Rattle.std.proofs.lemmas.Bool.{cases_Bool, cases_eq}
use Rattle.std.proofs.lemmas.Option.{none-some, same_Some, some_pair_parts}
use Rattle.entity_id.specs.declared.entity.Entity.{Entity}
use Rattle.entity_id.specs.Identifiers.{is_same}
use Rattle.entity_id.specs.FiniteMap.{get, put, remove, map_of, HasEachOnce, IsAscending}
use Rattle.entity_id.proofs.MapLemmas.{same_itself, same_true, get-put_same, get-put_other, get-put_version, ascending-put}

-- the first entry's look-up
get_first : {X : Type 0} (e : Entity) (x : X) (entries : List (Entity × X)) → get ((e, x) ∷ entries) e ≡ Some x
get_first e x entries = ap (λ b. cond b (Some x) (get entries e)) (same_itself e)

get_rest : {X : Type 0} (q e : Entity) (x : X) (entries : List (Entity × X)) → is_same q e ≡ false → get ((e, x) ∷ entries) q ≡ get entries q
get_rest q e x entries other = ap (λ b. cond b (Some x) (get entries q)) other

-- the entry of an identifier stands at a place
pub get_at : {X : Type 0} (entries : List (Entity × X)) (q : Entity) (x : X) → get entries q ≡ Some x → (k : ℕ) × (slice_get entries k ≡ Some (q, x))
get_at [] q x h = absurd (none-some x h)
get_at {X = X} ((e, y) ∷ entries) q x h =
    elim (cases_Bool (is_same q e)) [
      | inl same ↦
          let value : y ≡ x = same_Some y x (sym (ap (λ b. cond b (Some y) (get entries q)) same) ∙ h) in
          let is : q ≡ e = same_true q e same in
          (0, ap (λ (v : Entity × X). Some v) (ap₂ (λ (a : Entity) (b : X). (a, b)) (sym is) value))
      | inr other ↦ let rest = get_at entries q x (sym (get_rest q e y entries other) ∙ h) in (suc rest.0, rest.1)
    ]

-- where nothing of this identifier stands, nothing is found
pub get_none : {X : Type 0} (entries : List (Entity × X)) (q : Entity) → ((k : ℕ) (x : X) → slice_get entries k ≡ Some (q, x) → ⊥) → get entries q ≡ None
get_none entries q gone = elim (get entries q) as (λ o. get entries q ≡ o → o ≡ None) [
  | None ↦ λ h. refl
  | Some x ↦ λ h. let at = get_at entries q x h in absurd (gone at.0 x at.1)
] refl

pub rest_once : {X : Type 0} (entry : Entity × X) (entries : List (Entity × X)) → HasEachOnce (entry ∷ entries) → HasEachOnce entries
rest_once entry entries once i j x y hi hj same = let e : suc i ≡ suc j = once (suc i) (suc j) x y hi hj same in omega arith

-- what stands at a place is found, where no index comes twice
pub get_here : {X : Type 0} (entries : List (Entity × X)) (k : ℕ) (q : Entity) (x : X) → HasEachOnce entries → slice_get entries k ≡ Some (q, x) → get entries q ≡ Some x
get_here [] k q x once h = absurd (none-some (q, x) h)
get_here {X = X} ((e, y) ∷ entries) zero q x once h =
    let parts = some_pair_parts e q y x h in
    ap (λ (v : Entity). get ((v, y) ∷ entries) q) parts.0 ∙ get_first q y entries ∙ ap Some parts.1
get_here {X = X} ((e, y) ∷ entries) (suc k) q x once h =
    elim (cases_Bool (is_same q e)) [
      | inl same ↦ absurd (let z : 0 ≡ suc k = once 0 (suc k) (e, y) (q, x) refl h (ap (λ (v : Entity). v.index) (sym (same_true q e same))) in omega arith)
      | inr other ↦ get_rest q e y entries other ∙ get_here entries k q x (rest_once (e, y) entries once) h
    ]

-- lists with the same entries find the same
pub get_alike : {X : Type 0} (xs ys : List (Entity × X)) (q : Entity) → HasEachOnce xs → HasEachOnce ys
    → ((k : ℕ) (x : X) → slice_get xs k ≡ Some (q, x) → (j : ℕ) × (slice_get ys j ≡ Some (q, x)))
    → ((k : ℕ) (x : X) → slice_get ys k ≡ Some (q, x) → (j : ℕ) × (slice_get xs j ≡ Some (q, x))) → get xs q ≡ get ys q
get_alike xs ys q once once' to from =
    elim (get xs q) as (λ o. get xs q ≡ o → o ≡ get ys q) [
      | None ↦ λ h. sym (get_none ys q (λ k x g. let at = from k x g in none-some x (sym h ∙ get_here xs at.0 q x once at.1)))
      | Some x ↦ λ h. let here = get_at xs q x h in let at = to here.0 x here.1 in sym (get_here ys at.0 q x once' at.1)
    ] refl

pub ascending-map_of : {X : Type 0} (entries : List (Entity × X)) → IsAscending (map_of entries)
ascending-map_of [] = tt
ascending-map_of (entry ∷ entries) = ascending-put (map_of entries) entry.0 entry.1 (ascending-map_of entries)

-- the finite map finds what the entries find
pub get-map_of : {X : Type 0} (entries : List (Entity × X)) (q : Entity) → HasEachOnce entries → get (map_of entries) q ≡ get entries q
get-map_of [] q once = refl
get-map_of {X = X} ((e, x) ∷ entries) q once =
    let rest = get-map_of entries q (rest_once (e, x) entries once) in
    elim (cases_Bool (is_same q e)) [
      | inl same ↦ ap (λ (v : Entity). get (put (map_of entries) e x) v) (same_true q e same) ∙ get-put_same (map_of entries) e x ∙ sym (get_first e x entries) ∙ ap (λ (v : Entity). get ((e, x) ∷ entries) v) (sym (same_true q e same))
      | inr other ↦ elim (cases_eq q.index e.index) [
        | inl index ↦ get-put_version (map_of entries) e x q index other
            ∙ sym (get_rest q e x entries other ∙ get_none entries q (λ k y g. let z : 0 ≡ suc k = once 0 (suc k) (e, x) (q, y) refl g (sym index) in omega arith))
        | inr apart ↦ get-put_other (map_of entries) e x q apart ∙ rest ∙ sym (get_rest q e x entries other)
      ]
    ]

-- where nothing is found, nothing is removed
pub remove-absent : {X : Type 0} (entries : List (Entity × X)) (e : Entity) → get entries e ≡ None → remove entries e ≡ entries
remove-absent [] e h = refl
remove-absent {X = X} ((k, x) ∷ entries) e h =
    elim (cases_Bool (is_same e k)) [
      | inl same ↦ absurd (none-some x (sym h ∙ ap (λ b. cond b (Some x) (get entries e)) same))
      | inr differ ↦ ap (λ b. cond (not b) ((k, x) ∷ remove entries e) (remove entries e)) differ ∙ ap (λ l. (k, x) ∷ l) (remove-absent entries e (sym (get_rest e k x entries differ) ∙ h))
    ]

pub absent_unchanged : {X : Type 0} (entries : List (Entity × X)) (e : Entity) (b : Bool) → b ≡ is_some (get entries e) → OnFalse b (remove entries e ≡ entries)
absent_unchanged entries e b h = elim (get entries e) as (λ o. get entries e ≡ o → b ≡ is_some o → OnFalse b (remove entries e ≡ entries)) [
  | None ↦ λ k q. subst (λ v. OnFalse v (remove entries e ≡ entries)) (sym q) (remove-absent entries e k)
  | Some x ↦ λ k q. subst (λ v. OnFalse v (remove entries e ≡ entries)) (sym q) tt
] refl h
