-- A finite map after a change, and two finite maps with equal look-ups.
use Rattle.std.proofs.Common.{◌≡◌, ◌<◌, ◌≤◌, ◌≢◌, Bool, true, false, cond, eqb, ltb, List, [], ◌∷◌, ◌++◌, Option, Some, None, sym, refl, ap, ap₂, ◌∙◌, inl, inr, arith}
use Rattle.std.specs.Prelude.{filter}
use Rattle.std.specs.List.{AllByRecursion}
use Rattle.std.specs.Map.{lookup}
use Rattle.std.specs.Option.{option_or}
use Rattle.std.proofs.lemmas.Bool.{and_parts, and_left, and_from, eqb-true, eq-eqb, ne_eqb, lt-ltb, le-ltb, ltb-true, cases_order, not_from_true, not_from_false}
use Rattle.entity_id.specs.declared.entity.Entity.{Entity}
use Rattle.entity_id.specs.Identifiers.{is_same}
use Rattle.entity_id.specs.FiniteMap.{get, put, remove, keys, IsAscending, IsAscendingBy}
use Rattle.entity_id.proofs.ListLemmas.{all-filter, all-filter_passes, all-append, all_weaker, ascending-filter, ascending-append, ascending-map}

pub same_itself : (e : Entity) → is_same e e ≡ true
same_itself e = and_from _ _ (eq-eqb e.index e.index refl) (eq-eqb e.version e.version refl)

-- identifiers that test alike are one
pub same_true : (a b : Entity) → is_same a b ≡ true → a ≡ b
same_true a b h =
    let index : a.index ≡ b.index = eqb-true a.index b.index (and_parts (eqb a.index b.index) (eqb a.version b.version) h).0 in
    let version : a.version ≡ b.version = eqb-true a.version b.version (and_parts (eqb a.index b.index) (eqb a.version b.version) h).1 in
    λ i. record { index = index i; version = version i }

pub same_index : (a b : Entity) → is_same a b ≡ true → a.index ≡ b.index
same_index a b h = ap (λ (v : Entity). v.index) (same_true a b h)

pub same_false : (a b : Entity) → a.index ≢ b.index → is_same a b ≡ false
same_false a b h = and_left _ _ (ne_eqb a.index b.index h)

pub lookup-append : {X : Type 0} (t : Entity → Bool) (xs ys : List (Entity × X)) → lookup t (xs ++ ys) ≡ option_or (lookup t xs) (lookup t ys)
lookup-append t [] ys = refl
lookup-append t (e ∷ es) ys =
    elim (t e.0) as (λ b. cond b (Some e.1) (lookup t (es ++ ys)) ≡ option_or (cond b (Some e.1) (lookup t es)) (lookup t ys)) [
      | true ↦ refl
      | false ↦ lookup-append t es ys
    ]

kept_step : {X : Type 0} (t : Entity → Bool) (b : Bool) (e : Entity × X) (left es : List (Entity × X)) → (t e.0 ≡ true → b ≡ true) → lookup t left ≡ lookup t es → lookup t (cond b (e ∷ left) left) ≡ lookup t (e ∷ es)
kept_step t b e left es h same = grind arith

-- a filter that keeps what passes the test leaves the look-up
pub lookup-filter_kept : {X : Type 0} (t : Entity → Bool) (p : Entity × X → Bool) → ((e : Entity × X) → t e.0 ≡ true → p e ≡ true) → (xs : List (Entity × X)) → lookup t (filter p xs) ≡ lookup t xs
lookup-filter_kept t p h [] = refl
lookup-filter_kept t p h (e ∷ es) = kept_step t (p e) e (filter p es) es (h e) (lookup-filter_kept t p h es)

gone_step : {X : Type 0} (t : Entity → Bool) (b : Bool) (e : Entity × X) (left : List (Entity × X)) → (t e.0 ≡ true → b ≡ false) → lookup t left ≡ None → lookup t (cond b (e ∷ left) left) ≡ None
gone_step t b e left h none = grind arith

-- a filter that drops what passes the test leaves nothing to find
pub lookup-filter_gone : {X : Type 0} (t : Entity → Bool) (p : Entity × X → Bool) → ((e : Entity × X) → t e.0 ≡ true → p e ≡ false) → (xs : List (Entity × X)) → lookup t (filter p xs) ≡ None
lookup-filter_gone t p h [] = refl
lookup-filter_gone t p h (e ∷ es) = gone_step t (p e) e (filter p es) (h e) (lookup-filter_gone t p h es)

-- what stands beside nothing stays
pub beside : {X : Type 0} (o : Option X) → option_or o None ≡ o
beside None = refl
beside (Some x) = refl

-- after a put the value is there
pub get-put_same : {X : Type 0} (entries : List (Entity × X)) (e : Entity) (x : X) → get (put entries e x) e ≡ Some x
get-put_same entries e x =
    lookup-append (is_same e) (filter (λ k. ltb k.0.index e.index) entries) _
    ∙ ap (λ o. option_or o (cond (is_same e e) (Some x) (lookup (is_same e) (filter (λ k. ltb e.index k.0.index) entries))))
    (lookup-filter_gone (is_same e) _ (λ k h. let i = same_index e k.0 h in le-ltb k.0.index e.index (omega arith)) entries)
    ∙ ap (λ b. cond b (Some x) (lookup (is_same e) (filter (λ k. ltb e.index k.0.index) entries))) (same_itself e)

-- and the value of every other index is as before
pub get-put_other : {X : Type 0} (entries : List (Entity × X)) (e : Entity) (x : X) (q : Entity) → q.index ≢ e.index → get (put entries e x) q ≡ get entries q
get-put_other {X = X} entries e x q apart =
    let below : List (Entity × X) = filter (λ k. ltb k.0.index e.index) entries in
    let above : List (Entity × X) = filter (λ k. ltb e.index k.0.index) entries in
    let not_here : is_same q e ≡ false = same_false q e apart in
    lookup-append (is_same q) below ((e, x) ∷ above)
    ∙ ap (λ b. option_or (lookup (is_same q) below) (cond b (Some x) (lookup (is_same q) above))) not_here
    ∙ elim (cases_order q.index e.index) [
      | inl same ↦ absurd (apart same)
      | inr (inl less) ↦
          ap₂ option_or
          (lookup-filter_kept (is_same q) _ (λ k h. let i = same_index q k.0 h in lt-ltb k.0.index e.index (omega arith)) entries)
          (lookup-filter_gone (is_same q) _ (λ k h. let i = same_index q k.0 h in le-ltb e.index k.0.index (omega arith)) entries)
          ∙ beside _
      | inr (inr more) ↦
          ap₂ option_or
          (lookup-filter_gone (is_same q) _ (λ k h. let i = same_index q k.0 h in le-ltb k.0.index e.index (omega arith)) entries)
          (lookup-filter_kept (is_same q) _ (λ k h. let i = same_index q k.0 h in lt-ltb e.index k.0.index (omega arith)) entries)
    ]

-- and another version of the index has none
pub get-put_version : {X : Type 0} (entries : List (Entity × X)) (e : Entity) (x : X) (q : Entity) → q.index ≡ e.index → is_same q e ≡ false → get (put entries e x) q ≡ None
get-put_version {X = X} entries e x q one_index apart =
    let below : List (Entity × X) = filter (λ k. ltb k.0.index e.index) entries in
    let above : List (Entity × X) = filter (λ k. ltb e.index k.0.index) entries in
    lookup-append (is_same q) below ((e, x) ∷ above)
    ∙ ap (λ b. option_or (lookup (is_same q) below) (cond b (Some x) (lookup (is_same q) above))) apart
    ∙ ap₂ option_or
    (lookup-filter_gone (is_same q) _ (λ k h. let i = same_index q k.0 h in le-ltb k.0.index e.index (omega arith)) entries)
    (lookup-filter_gone (is_same q) _ (λ k h. let i = same_index q k.0 h in le-ltb e.index k.0.index (omega arith)) entries)

pub get-remove_same : {X : Type 0} (entries : List (Entity × X)) (e : Entity) → get (remove entries e) e ≡ None
get-remove_same entries e = lookup-filter_gone (is_same e) _ (λ k h. not_from_true _ h) entries

pub get-remove_other : {X : Type 0} (entries : List (Entity × X)) (e q : Entity) → is_same e q ≡ false → get (remove entries e) q ≡ get entries q
get-remove_other entries e q apart =
    lookup-filter_kept (is_same q) _ (λ k h. not_from_false _ (ap (is_same e) (sym (same_true q k.0 h)) ∙ apart)) entries

pub all-put : {X : Type 0} (P : Entity × X → Type 0) (entries : List (Entity × X)) (e : Entity) (x : X) → AllByRecursion P entries → P (e, x) → AllByRecursion P (put entries e x)
all-put P entries e x h here = all-append P _ _ (all-filter P _ entries h) (here, all-filter P _ entries h)

pub all-remove : {X : Type 0} (P : Entity × X → Type 0) (entries : List (Entity × X)) (e : Entity) → AllByRecursion P entries → AllByRecursion P (remove entries e)
all-remove P entries e h = all-filter P _ entries h

pub ascending-put : {X : Type 0} (entries : List (Entity × X)) (e : Entity) (x : X) → IsAscending entries → IsAscending (put entries e x)
ascending-put entries e x h =
    ascending-append _ (filter (λ k. ltb k.0.index e.index) entries) ((e, x) ∷ filter (λ k. ltb e.index k.0.index) entries)
    (ascending-filter _ _ entries h)
    (all-filter_passes _ _ entries (λ k p. ltb-true e.index k.0.index p), ascending-filter _ _ entries h)
    (all-filter_passes _ _ entries (λ k p. let low : k.0.index < e.index = ltb-true k.0.index e.index p in
    (low, all-filter_passes _ _ entries (λ m q. let high : e.index < m.0.index = ltb-true e.index m.0.index q in omega arith))))

pub ascending-remove : {X : Type 0} (entries : List (Entity × X)) (e : Entity) → IsAscending entries → IsAscending (remove entries e)
ascending-remove entries e h = ascending-filter _ _ entries h

pub ascending-keys : {X : Type 0} (entries : List (Entity × X)) → IsAscending entries → IsAscendingBy (λ (e : Entity). e.index) (keys entries)
ascending-keys entries h = ascending-map _ (λ entry. entry.0) entries h

-- an identifier below every index has no value
pub get_below : {X : Type 0} (e : Entity) (entries : List (Entity × X)) → AllByRecursion (λ k. e.index < k.0.index) entries → get entries e ≡ None
get_below e [] h = refl
get_below e (k ∷ ks) h =
    let apart : is_same e k.0 ≡ false = same_false e k.0 (omega (arith, h.0)) in
    ap (λ b. cond b (Some k.1) (get ks e)) apart ∙ get_below e ks h.1

-- a value that is found, of an index that is not above the head's, is the head's
pub get_head : {X : Type 0} (e : Entity) (x : X) (k : Entity × X) (ks : List (Entity × X)) → AllByRecursion (λ m. k.0.index < m.0.index) ks → e.index ≤ k.0.index → get (k ∷ ks) e ≡ Some x → (e ≡ k.0) × (x ≡ k.1)
get_head e x k ks above low =
    elim (is_same e k.0) as (λ b. is_same e k.0 ≡ b → cond b (Some k.1) (get ks e) ≡ Some x → (e ≡ k.0) × (x ≡ k.1)) [
      | true ↦ λ same found. (same_true e k.0 same, cc)
      | false ↦ λ apart found.
          let none : get ks e ≡ None = get_below e ks (all_weaker _ _ (λ m h. omega (arith, h)) ks above) in
          absurd cc
    ] refl

head_found : {X : Type 0} (k : Entity × X) (ks : List (Entity × X)) → get (k ∷ ks) k.0 ≡ Some k.1
head_found k ks = ap (λ b. cond b (Some k.1) (get ks k.0)) (same_itself k.0)

same_heads : {X : Type 0} (a b : Entity × X) (xs ys : List (Entity × X)) → AllByRecursion (λ m. a.0.index < m.0.index) xs → AllByRecursion (λ m. b.0.index < m.0.index) ys → ((e : Entity) → get (a ∷ xs) e ≡ get (b ∷ ys) e) → (a.0 ≡ b.0) × (a.1 ≡ b.1)
same_heads a b xs ys above_a above_b same =
    elim (cases_order a.0.index b.0.index) [
      | inl equal ↦ get_head a.0 a.1 b ys above_b (omega arith) (sym (same a.0) ∙ head_found a xs)
      | inr (inl less) ↦ get_head a.0 a.1 b ys above_b (omega arith) (sym (same a.0) ∙ head_found a xs)
      | inr (inr more) ↦
          let found = get_head b.0 b.1 a xs above_a (omega arith) (same b.0 ∙ head_found b ys) in
          (sym found.0, sym found.1)
    ]

-- behind equal heads the look-ups are equal too
same_behind : {X : Type 0} (a b : Entity × X) (xs ys : List (Entity × X)) → AllByRecursion (λ m. a.0.index < m.0.index) xs → AllByRecursion (λ m. b.0.index < m.0.index) ys → a.0 ≡ b.0 → (e : Entity) → get (a ∷ xs) e ≡ get (b ∷ ys) e → get xs e ≡ get ys e
same_behind a b xs ys above_a above_b heads e =
    elim (is_same e a.0) as (λ p. is_same e a.0 ≡ p → cond p (Some a.1) (get xs e) ≡ get (b ∷ ys) e → get xs e ≡ get ys e) [
      | true ↦ λ here same.
          let is_a : e ≡ a.0 = same_true e a.0 here in
          let is_b : e ≡ b.0 = is_a ∙ heads in
          let index_a = ap (λ (v : Entity). v.index) is_a in
          let index_b = ap (λ (v : Entity). v.index) is_b in
          get_below e xs (all_weaker _ _ (λ m h. omega (arith, h)) xs above_a)
          ∙ sym (get_below e ys (all_weaker _ _ (λ m h. omega (arith, h)) ys above_b))
      | false ↦ λ apart same.
          let apart_b : is_same e b.0 ≡ false = ap (is_same e) (sym heads) ∙ apart in
          same ∙ ap (λ p. cond p (Some b.1) (get ys e)) apart_b
    ] refl

-- two finite maps that give the same value for every identifier are the same list
pub equal_lookups : {X : Type 0} (v w : List (Entity × X)) → IsAscending v → IsAscending w → ((e : Entity) → get v e ≡ get w e) → v ≡ w
equal_lookups [] [] g h same = refl
equal_lookups [] (b ∷ ys) g h same = let found = head_found b ys in let none = same b.0 in absurd cc
equal_lookups (a ∷ xs) [] g h same = let found = head_found a xs in let none = same a.0 in absurd cc
equal_lookups (a ∷ xs) (b ∷ ys) g h same =
    let heads = same_heads a b xs ys g.0 h.0 same in
    let tails = equal_lookups xs ys g.1 h.1 (λ e. same_behind a b xs ys g.0 h.0 heads.0 e (same e)) in
    ap₂ (λ k ks. k ∷ ks) (λ i. (heads.0 i, heads.1 i)) tails
