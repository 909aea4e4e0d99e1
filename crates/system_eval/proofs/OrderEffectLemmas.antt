-- After a walk that comes to each of a system's entities, the buffer is settled as the system's orders.
use Rattle.std.proofs.Common.{◌≡◌, ◌≢◌, ℕ, zero, suc, ◌<◌, ◌≤◌, ◌==◌, not, Bool, true, false, cond, List, [], ◌∷◌, ◌++◌, map, filter, length, take, refl, sym, ap, ap₂, ◌∙◌, subst, arith, eqb, eq-eqb, append-nil, if◌then◌else◌}
use Rattle.std.specs.List.{flat_map, list_all, list_any}
use Rattle.std.proofs.lemmas.Bool.{and_parts, eqb-true, false≢true}
use Rattle.std.proofs.lemmas.List.Elements.{filter-append}
use Rattle.entity_id.specs.declared.entity.Entity.{Entity}
use Rattle.entity_id.specs.FiniteMap as entries
use Rattle.entity_id.specs.Identifiers.{is_same}
use Rattle.entity_id.specs.Matching.{is_in, is_match, matches}
use Rattle.entity_id.proofs.ListLemmas.{ascending-filter}
use Rattle.entity_id.proofs.MapLemmas.{ascending-keys}
use Rattle.entity_id.proofs.MatchLemmas.{ascending-matches, any-matches, any-filter_is, equal_members}
use Rattle.world_model.specs.declared.component.Row.{Row}
use Rattle.world_model.specs.declared.deferred.Deferred.{Deferred}
use Rattle.world_model.specs.Frames.{map_at, is_member, own_pools}
use Rattle.world_model.specs.Groups.{has_pool}
use Rattle.world_model.specs.Ticks.{Maps}
use Rattle.row_lang.specs.Bodies.{Done}
use Rattle.row_lang.specs.Effects.{done_for, system_effect}
use Rattle.system_api.specs.Batches.{entity_at}
use Rattle.system_api.specs.Emissions.{Emission, GiveTheSame, SettlesAs, emissions_for, emissions_along, orders_along}
use Rattle.system_api.specs.Registers.{Register, Shows}
use Rattle.system_api.specs.Running.{AreLentFor}
use Rattle.system_api.proofs.MemberLemmas.{orders-kept}
use Rattle.system_api.proofs.OrderLemmas.{settles_in_order}
use Rattle.system_eval.specs.Lanes.{given_to, beside}
use Rattle.system_eval.specs.Walks.{Task, is_member_in, done_in, IsTaken, Gives, AreOnce}
use Rattle.system_eval.proofs.CoverLemmas.{each-named, entity_at-take, length-keys, length-taken, once-keys}
use Rattle.system_eval.proofs.RowEffectLemmas.{Covers, named-here}
use Rattle.system_eval.proofs.ToldLemmas.{told-member, told-done, keys-at}

-- ---- emissions of one index

other-number : (i j : ℕ) (b : Bool) → eqb j i ≡ b → j ≢ i → eqb j i ≡ false
other-number i j true is ne = absurd (ne (eqb-true j i is))
other-number i j false is ne = is

kept-one : (b : Bool) (x : Emission) (xs ys : List Emission) → b ≡ true → xs ≡ ys → cond b (x ∷ xs) xs ≡ x ∷ ys
kept-one true x xs ys is same = ap (λ rest. x ∷ rest) same
kept-one false x xs ys is same = absurd (false≢true is)

gone-one : (b : Bool) (x : Emission) (xs : List Emission) → b ≡ false → xs ≡ [] → cond b (x ∷ xs) xs ≡ []
gone-one true x xs is none = absurd (cc)
gone-one false x xs is none = none

own-given : (i : ℕ) (orders : List Deferred) → given_to i (beside i orders) ≡ beside i orders
own-given i [] = refl
own-given i (order ∷ orders) = kept-one (eqb i i) (record { index = i; order = order }) (given_to i (beside i orders)) (beside i orders) (eq-eqb i i refl) (own-given i orders)

other-given : (i j : ℕ) (orders : List Deferred) → j ≢ i → given_to i (beside j orders) ≡ []
other-given i j [] ne = refl
other-given i j (order ∷ orders) ne = gone-one (eqb j i) (record { index = j; order = order }) (given_to i (beside j orders)) (other-number i j (eqb j i) refl ne) (other-given i j orders ne)

both-given : (i : ℕ) (xs ys : List Emission) → given_to i (xs ++ ys) ≡ given_to i xs ++ given_to i ys
both-given i xs ys = filter-append (λ (emission : Emission). emission.index == i) xs ys

-- ---- emissions along entries

module _ (member : Entity → Bool) (give : Entity → List Deferred) where
  abbrev pub given_for : Entity → Row → List Deferred
  given_for entity row = if member entity then give entity else []

  nothing-given : (b : Bool) (i j : ℕ) (orders : List Deferred) → (b ≡ true → j ≢ i) → given_to i (beside j (if b then orders else [])) ≡ []
  nothing-given true i j orders ne = other-given i j orders (ne refl)
  nothing-given false i j orders ne = refl

  -- none of an index that no entry has, or whose entry is no member
  none-along : (i : ℕ) (pairs : List (Entity × Row)) → ((k : ℕ) → k < length pairs → member (entity_at (entries.keys pairs) k) ≡ true → (entity_at (entries.keys pairs) k).index ≢ i) → given_to i (emissions_along given_for pairs) ≡ []
  none-along i [] free = refl
  none-along i (p ∷ pairs) free =
      both-given i (emissions_for given_for p) (emissions_along given_for pairs)
      ∙ ap₂ (λ (a b : List Emission). a ++ b) (nothing-given (member p.0) i p.0.index (give p.0) (free 0 (omega arith))) (none-along i pairs (λ k within. free (suc k) (omega arith)))

  along-step : (b c : Bool) (i : ℕ) (p : Entity × Row) (pairs : List (Entity × Row)) (out : List Emission) → member p.0 ≡ b → eqb p.0.index i ≡ c
      → AreOnce (entries.keys (p ∷ pairs))
      → ((k : ℕ) → k < length (p ∷ pairs) → member (entity_at (entries.keys (p ∷ pairs)) k) ≡ true → (entity_at (entries.keys (p ∷ pairs)) k).index ≡ i → out ≡ beside i (give (entity_at (entries.keys (p ∷ pairs)) k)))
      → (((k : ℕ) → k < length (p ∷ pairs) → member (entity_at (entries.keys (p ∷ pairs)) k) ≡ true → (entity_at (entries.keys (p ∷ pairs)) k).index ≢ i) → out ≡ [])
      → ((((k : ℕ) → k < length pairs → member (entity_at (entries.keys pairs) k) ≡ true → (entity_at (entries.keys pairs) k).index ≢ i) → out ≡ []) → out ≡ given_to i (emissions_along given_for pairs))
      → out ≡ given_to i (emissions_along given_for (p ∷ pairs))
  along-step true true i p pairs out is same once taken free rest =
      let index : p.0.index ≡ i = eqb-true p.0.index i same in
      taken 0 (omega arith) is index
      ∙ sym (append-nil (beside i (give p.0)))
      ∙ sym (both-given i (emissions_for given_for p) (emissions_along given_for pairs)
      ∙ ap₂ (λ (a b : List Emission). a ++ b)
      (ap (λ (d : Bool). given_to i (beside p.0.index (if d then give p.0 else []))) is ∙ ap (λ (j : ℕ). given_to i (beside j (give p.0))) index ∙ own-given i (give p.0))
      (none-along i pairs (λ k within member again. let e : 0 ≡ suc k = once 0 (suc k) (omega arith) (omega (arith, within, length-keys pairs)) (index ∙ sym again) in omega arith)))
  along-step true false i p pairs out is same once taken free rest =
      let ne = λ (e : p.0.index ≡ i). false≢true (sym same ∙ eq-eqb p.0.index i e) in
      rest (λ none. free (λ k within m. here k within m none))
      ∙ sym (both-given i (emissions_for given_for p) (emissions_along given_for pairs)
      ∙ ap (λ (a : List Emission). a ++ given_to i (emissions_along given_for pairs)) (nothing-given (member p.0) i p.0.index (give p.0) (λ _. ne)))
    where
      here : (k : ℕ) → k < length (p ∷ pairs) → member (entity_at (entries.keys (p ∷ pairs)) k) ≡ true → ((k : ℕ) → k < length pairs → member (entity_at (entries.keys pairs) k) ≡ true → (entity_at (entries.keys pairs) k).index ≢ i) → (entity_at (entries.keys (p ∷ pairs)) k).index ≢ i
      here zero within m none e = false≢true (sym same ∙ eq-eqb p.0.index i e)
      here (suc k) within m none e = none k (omega arith) m e
  along-step false c i p pairs out is same once taken free rest =
      rest (λ none. free (λ k within m. here k within m none))
      ∙ sym (both-given i (emissions_for given_for p) (emissions_along given_for pairs)
      ∙ ap (λ (a : List Emission). a ++ given_to i (emissions_along given_for pairs)) (ap (λ (d : Bool). given_to i (beside p.0.index (if d then give p.0 else []))) is))
    where
      here : (k : ℕ) → k < length (p ∷ pairs) → member (entity_at (entries.keys (p ∷ pairs)) k) ≡ true → ((k : ℕ) → k < length pairs → member (entity_at (entries.keys pairs) k) ≡ true → (entity_at (entries.keys pairs) k).index ≢ i) → (entity_at (entries.keys (p ∷ pairs)) k).index ≢ i
      here zero within m none e = false≢true (sym is ∙ m)
      here (suc k) within m none e = none k (omega arith) m e

  once-rest : (e : Entity) (list : List Entity) → AreOnce (e ∷ list) → AreOnce list
  once-rest e list once a b low high same = let more : suc a ≡ suc b = once (suc a) (suc b) (omega arith) (omega arith) same in omega arith

  -- what is given for each index is known where it is known for members and for the rest
  along : (i : ℕ) (pairs : List (Entity × Row)) (out : List Emission) → AreOnce (entries.keys pairs)
      → ((k : ℕ) → k < length pairs → member (entity_at (entries.keys pairs) k) ≡ true → (entity_at (entries.keys pairs) k).index ≡ i → out ≡ beside i (give (entity_at (entries.keys pairs) k)))
      → (((k : ℕ) → k < length pairs → member (entity_at (entries.keys pairs) k) ≡ true → (entity_at (entries.keys pairs) k).index ≢ i) → out ≡ [])
      → out ≡ given_to i (emissions_along given_for pairs)
  along i [] out once taken free = free (λ k within m. absurd (omega arith))
  along i (p ∷ pairs) out once taken free =
      along-step (member p.0) (eqb p.0.index i) i p pairs out refl refl once taken free
      (λ none. along i pairs out (once-rest p.0 (entries.keys pairs) once) (λ k within m e. taken (suc k) (omega arith) m e) none)

-- ---- a system's entities along a pool of its own, whose map ascends

walked : (maps : Maps) (all none : List ℕ) (pool : ℕ) → ((own : ℕ) → has_pool all own ≡ true → entries.IsAscending (map_at maps own)) → has_pool all pool ≡ true
    → filter (is_match (map entries.keys maps) all none) (entries.keys (map_at maps pool)) ≡ matches (map entries.keys maps) all none
walked maps [] none pool up has = absurd (false≢true has)
walked maps (first ∷ rest) none pool up has =
    let lists = map entries.keys maps in
    let p = is_match lists (first ∷ rest) none in
    let here = entries.keys (map_at maps pool) in
    equal_members (filter p here) (matches lists (first ∷ rest) none)
    (ascending-filter (λ (e : Entity). e.index) p here (ascending-keys (map_at maps pool) (up pool has)))
    (ascending-matches lists first rest none (subst (λ (es : List Entity). entries.AreAscending es) (sym (keys-at maps first)) (ascending-keys (map_at maps first) (up first (named-here (eqb first first) (has_pool rest first) (eq-eqb first first refl))))))
    (λ e. any-filter_is e p here (λ is. subst (λ (es : List Entity). list_any (is_same e) es ≡ true) (keys-at maps pool) (each-named (is_in lists e) (first ∷ rest) pool (and_parts (list_all (is_in lists e) (first ∷ rest)) (not (list_any (is_in lists e) none)) is).0 has))
    ∙ sym (any-matches lists first rest none e))

-- ---- the whole walk

module _ (task : Task) (register : Register) (lent : AreLentFor task.system.access register) (maps : Maps) (shows : Shows register maps)
    (pairs : List (Entity × Row)) (once : entries.HasEachOnce pairs) (count : ℕ) (fits : count ≤ length pairs) (to : ℕ) (whole : count ≤ to)
    (covers : Covers task maps (take count (entries.keys pairs))) (out : List Emission) (gives : Gives task (take count (entries.keys pairs)) 0 to register [] out) where
  abbrev member : Entity → Bool
  member entity = is_member task.system.access maps entity

  abbrev give : Entity → List Deferred
  give entity = (done_for task.profile task.system task.tick maps entity).orders

  counted : length (take count (entries.keys pairs)) ≡ count
  counted = length-taken count (entries.keys pairs) (omega (arith, fits, length-keys pairs))

  -- a member stands among the identifiers that were walked
  walked-place : (k : ℕ) → k < length pairs → member (entity_at (entries.keys pairs) k) ≡ true → k < count
  walked-place k within is =
      let at = covers (entity_at (entries.keys pairs) k) is in
      let low : at.0 < count = omega (arith, at.1.0, counted) in
      let same : at.0 ≡ k = once-keys pairs once at.0 k (omega (arith, low, fits, length-keys pairs)) (omega (arith, within, length-keys pairs)) (ap (λ (e : Entity). e.index) (sym (entity_at-take count (entries.keys pairs) at.0 low) ∙ at.1.1)) in
      omega (arith, same, low)

  taken-place : (k : ℕ) → k < count → member (entity_at (entries.keys pairs) k) ≡ true → IsTaken task (take count (entries.keys pairs)) 0 to register k
  taken-place k low is = record {
    after = omega arith;
    before = omega (arith, low, whole);
    within = omega (arith, low, counted);
    member = ap (is_member_in task.system.access register) (entity_at-take count (entries.keys pairs) k low) ∙ told-member task.system.access register lent maps shows (entity_at (entries.keys pairs) k) ∙ is;
  }

  given-taken : (i k : ℕ) → k < length pairs → member (entity_at (entries.keys pairs) k) ≡ true → (entity_at (entries.keys pairs) k).index ≡ i → given_to i out ≡ beside i (give (entity_at (entries.keys pairs) k))
  given-taken i k within is index =
      let low = walked-place k within is in
      let same = entity_at-take count (entries.keys pairs) k low in
      subst (λ (j : ℕ). given_to j out ≡ beside j (give (entity_at (entries.keys pairs) k))) index
      (subst (λ (e : Entity). given_to e.index out ≡ beside e.index (done_in task register e).orders) same (gives.taken k (taken-place k low is))
      ∙ ap (λ (done : Done). beside (entity_at (entries.keys pairs) k).index done.orders) (told-done task register maps lent shows (entity_at (entries.keys pairs) k)))

  given-none : (i : ℕ) → ((k : ℕ) → k < length pairs → member (entity_at (entries.keys pairs) k) ≡ true → (entity_at (entries.keys pairs) k).index ≢ i) → given_to i out ≡ []
  given-none i free = gives.others i (λ k t index.
      let low : k < count = omega (arith, t.within, counted) in
      let same = entity_at-take count (entries.keys pairs) k low in
      free k (omega (arith, low, fits))
      (sym (told-member task.system.access register lent maps shows (entity_at (entries.keys pairs) k)) ∙ ap (is_member_in task.system.access register) (sym same) ∙ t.member)
      (ap (λ (e : Entity). e.index) (sym same) ∙ index))

  same-given : GiveTheSame out (emissions_along (given_for member give) pairs)
  same-given i = along member give i pairs (given_to i out) (once-keys pairs once) (given-taken i) (given-none i)

  pub orders-now : (pool : ℕ) → has_pool (own_pools task.system.access) pool ≡ true → ((own : ℕ) → has_pool (own_pools task.system.access) own ≡ true → entries.IsAscending (map_at maps own))
      → map_at maps pool ≡ entries.map_of pairs → SettlesAs out (system_effect task.profile task.system task.tick maps).orders
  orders-now pool own up is = subst (λ (orders : List Deferred). SettlesAs out orders)
      (ap (orders_along (given_for member give)) (sym is)
      ∙ orders-kept member give (map_at maps pool)
      ∙ ap (flat_map give) (walked maps (own_pools task.system.access) task.system.access.without pool up own))
      (settles_in_order (given_for member give) pairs out once same-given)
