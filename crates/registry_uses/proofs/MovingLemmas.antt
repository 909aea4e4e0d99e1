-- Entities of a list moved one after another.
use Rattle.std.proofs.Common.{◌≡◌, ◌≢◌, ℕ, ◌<◌, true, false, Bool, cond, ◌||◌, List, [], ◌∷◌, ◌++◌, length, take, Option, Some, None, refl, sym, ap, ap₂, ◌∙◌, subst, arith, slice_get, zero, suc, inl, inr}
use Rattle.std.proofs.lemmas.Bool.{cases_Bool, cases_eq, both_ways}
use Rattle.std.proofs.lemmas.List.{get_or-set_other}
use Rattle.std.proofs.lemmas.List.Folds.{list_any-append}
use Rattle.std.proofs.Common.{◌&&◌, ◌⊎◌, not, is_some}
use Rattle.std.proofs.lemmas.Option.{none-some, same_Some}
use Rattle.std.specs.List.{AllByRecursion, list_any}
use Rattle.std.specs.Prelude.{unwrap_or}
use Rattle.entity_id.specs.declared.entity.Entity.{Entity}
use Rattle.entity_id.specs.FiniteMap as rows
use Rattle.entity_id.specs.Identifiers.{is_same}
use Rattle.entity_id.specs.Matching.{is_in}
use Rattle.entity_id.proofs.ListLemmas.{all_at}
use Rattle.entity_id.proofs.MapLemmas.{same_itself, same_true, same_false, get-put_same, get-put_other, get-put_version}
use Rattle.world_model.specs.declared.command.Command.TheVariants.{Replace}
use Rattle.world_model.specs.declared.component.Row.{Row}
use Rattle.world_model.specs.declared.refusal.Refusal.{Refusal}
use Rattle.world_model.specs.declared.refusal.Refusal.TheVariants as refusal
use Rattle.world_model.specs.declared.world.World.{World}
use Rattle.world_model.specs.Components.{zero_row}
use Rattle.world_model.specs.Contents.{has_row, pool_at, keys_of, with_pool}
use Rattle.world_model.specs.Groups.{are_declared}
use Rattle.world_model.specs.Refusing.{refusal_of, refuse, when_absent, when_no_entry}
use Rattle.world_model.specs.Slots.{is_live}
use Rattle.world_model.specs.Worlds.{IsLawful}
use Rattle.world_model.proofs.AcceptedLemmas.{entry_live}
use Rattle.world_model.proofs.ReplyLemmas.{live_rows}
use Rattle.world_model.proofs.SlotLemmas.{live_once}
use Rattle.registry.proofs.ViewLemmas.{is_in_pool}
use Rattle.registry_uses.specs.declared.beginning.TheConstants.{POSITION, VELOCITY, FROZEN}
use Rattle.registry_uses.specs.Moving.{moved, next_place, is_moving, IsMoved, IsPartlyMoved}
use Rattle.registry_uses.proofs.RowLemmas.{pool_set}
use Rattle.registry_uses.proofs.SceneLemmas.{entry_passes}

-- those of a list are at their next places, and all else is as before
pub record HaveMoved (old new : World) (list : List Entity) : Type 0 where
  pub moving : (e : Entity) → list_any (is_same e) list ≡ true → rows.get (pool_at new POSITION) e ≡ Some (next_place old e)
  pub standing : (e : Entity) → list_any (is_same e) list ≡ false → rows.get (pool_at new POSITION) e ≡ rows.get (pool_at old POSITION) e
  pub pools : (pool : ℕ) → pool ≢ POSITION → pool_at new pool ≡ pool_at old pool
  pub rest : new ≡ record old { pools = new.pools }

pub none_moved : (w : World) → HaveMoved w w []
none_moved w = record { moving = λ e h. absurd (both_ways _ refl h); standing = λ e _. refl; pools = λ pool _. refl; rest = refl }

-- where those of a list have moved that has just those that move, all that move have
pub all_moved : (old new : World) (list : List Entity) → HaveMoved old new list → ((e : Entity) → list_any (is_same e) list ≡ is_moving old e) → IsMoved old new
all_moved old new list h same = record {
  moving = λ e moves. h.moving e (same e ∙ moves);
  standing = λ e stands. h.standing e (same e ∙ stands);
  pools = h.pools;
  rest = h.rest;
}

-- where some that move have moved, each is at its next place or where it was
pub some_moved : (old new : World) (list : List Entity) → HaveMoved old new list → ((e : Entity) → list_any (is_same e) list ≡ true → is_moving old e ≡ true) → IsPartlyMoved old new
some_moved old new list h moves = record {
  places = λ e. elim (cases_Bool (list_any (is_same e) list)) [
    | inl there ↦ inr (moves e there, h.moving e there)
    | inr none ↦ inl (h.standing e none)
  ];
  pools = h.pools;
  rest = h.rest;
}

pub unmoved : (w : World) → IsPartlyMoved w w
unmoved w = some_moved w w [] (none_moved w) (λ e there. absurd (both_ways _ refl there))

-- what is among the first is among all
pub among_first : (list : List Entity) (k : ℕ) (e : Entity) → list_any (is_same e) (take k list) ≡ true → list_any (is_same e) list ≡ true
among_first list zero e there = absurd (both_ways _ refl there)
among_first [] (suc k) e there = there
among_first (x ∷ xs) (suc k) e there =
    elim (cases_Bool (is_same e x)) [
      | inl same ↦ ap (λ (b : Bool). b || list_any (is_same e) xs) same
      | inr differ ↦
          let later : list_any (is_same e) (take k xs) ≡ true = sym (ap (λ (b : Bool). b || list_any (is_same e) (take k xs)) differ) ∙ there in
          ap (λ (b : Bool). b || list_any (is_same e) xs) differ ∙ among_first xs k e later
    ]

-- an identifier of an ascending list isn't among those before it
pub fresh_at : (list : List Entity) (k : ℕ) (x : Entity) → rows.AreAscending list → slice_get list k ≡ Some x → list_any (is_same x) (take k list) ≡ false
fresh_at list zero x h is = refl
fresh_at [] (suc k) x h is = refl
fresh_at (y ∷ ys) (suc k) x h is =
    let above : y.index < x.index = all_at (λ (z : Entity). y.index < z.index) ys k x h.0 is in
    ap₂ (λ (a b : Bool). a || b) (same_false x y (λ same. omega (arith, above, same))) (fresh_at ys k x h.1 is)

-- a property of each key holds of one that has a value
pub known_key : (P : Entity → Type 0) (entries : List (Entity × Row)) (e : Entity) (row : Row) → AllByRecursion (λ entry. P entry.0) entries → rows.get entries e ≡ Some row → P e
known_key P [] e row all there = absurd (none_is_not_some there)
  where
    none_is_not_some : None ≡ Some row → ⊥
    none_is_not_some h = cc
known_key P (entry ∷ entries) e row all there =
    elim (cases_Bool (is_same e entry.0)) [
      | inl same ↦ subst P (sym (same_true e entry.0 same)) all.0
      | inr differ ↦ known_key P entries e row all.1 (sym (ap (λ (b : Bool). cond b (Some entry.1) (rows.get entries e)) differ) ∙ there)
    ]

-- in a lawful world only one version of a live index has a row
one_version : (limit : ℕ) (w : World) (pool : ℕ) (x e : Entity) → IsLawful limit w → is_live w.slots x ≡ true → e.index ≡ x.index → is_same e x ≡ false → rows.get (pool_at w pool) e ≡ None
one_version limit w pool x e lawful live index differ =
    elim (rows.get (pool_at w pool) e) as (λ o. rows.get (pool_at w pool) e ≡ o → o ≡ None) [
      | None ↦ λ _. refl
      | Some row ↦ λ there.
          let lives : is_live w.slots e ≡ true = known_key (λ q. is_live w.slots q ≡ true) (pool_at w pool) e row (live_rows limit w lawful pool) there in
          absurd (both_ways _ differ (live_once w.slots e x lives live (sym index)))
    ] refl

-- setting the row of a live identifier leaves every other row
pub others_stay : (limit : ℕ) (w : World) (pool : ℕ) (x e : Entity) (row : Row) → IsLawful limit w → is_live w.slots x ≡ true → is_same e x ≡ false → rows.get (rows.put (pool_at w pool) x row) e ≡ rows.get (pool_at w pool) e
others_stay limit w pool x e row lawful live differ =
    elim (cases_eq e.index x.index) [
      | inl index ↦ get-put_version (pool_at w pool) x row e index differ ∙ sym (one_version limit w pool x e lawful live index differ)
      | inr apart ↦ get-put_other (pool_at w pool) x row e apart
    ]

-- one more has moved
pub moved_more : (limit : ℕ) (old now : World) (list : List Entity) (x : Entity) → IsLawful limit now → HaveMoved old now list → list_any (is_same x) list ≡ false
    → refusal_of limit now (Replace x POSITION (next_place now x)) ≡ None → HaveMoved old (with_pool now POSITION (rows.put (pool_at now POSITION) x (next_place now x))) (list ++ x ∷ [])
moved_more limit old now list x lawful h fresh passes =
    let next = next_place now x in
    let place : pool_at (with_pool now POSITION (rows.put (pool_at now POSITION) x next)) POSITION ≡ rows.put (pool_at now POSITION) x next = pool_set limit now POSITION x (when_absent now POSITION x) _ lawful passes in
    let same_next : next ≡ next_place old x = ap₂ moved (ap (λ (o : Option Row). unwrap_or o zero_row) (h.standing x fresh)) (ap (λ (l : List (Entity × Row)). unwrap_or (rows.get l x) zero_row) (h.pools VELOCITY (λ same. omega (arith, same)))) in
    let at_other : (e : Entity) → is_same e x ≡ false → rows.get (pool_at (with_pool now POSITION (rows.put (pool_at now POSITION) x next)) POSITION) e ≡ rows.get (pool_at now POSITION) e = λ e differ. ap (λ (l : List (Entity × Row)). rows.get l e) place ∙ others_stay limit now POSITION x e next lawful (entry_live now POSITION x _ passes) differ in
    let among : (e : Entity) → is_same e x ≡ false → list_any (is_same e) (list ++ x ∷ []) ≡ list_any (is_same e) list = λ e differ. list_any-append (is_same e) list (x ∷ []) ∙ or_last (list_any (is_same e) list) (is_same e x) differ in
    record {
      moving = λ e there. elim (cases_Bool (is_same e x)) [
        | inl same ↦ subst (λ (q : Entity). rows.get (pool_at (with_pool now POSITION (rows.put (pool_at now POSITION) x next)) POSITION) q ≡ Some (next_place old q)) (sym (same_true e x same)) (ap (λ (l : List (Entity × Row)). rows.get l x) place ∙ get-put_same (pool_at now POSITION) x next ∙ ap (λ (r : Row). Some r) same_next)
        | inr differ ↦ at_other e differ ∙ h.moving e (sym (among e differ) ∙ there)
      ];
      standing = λ e none. elim (cases_Bool (is_same e x)) [
        | inl same ↦ absurd (both_ways _ none (list_any-append (is_same e) list (x ∷ []) ∙ or_there (list_any (is_same e) list) (is_same e x) same))
        | inr differ ↦ at_other e differ ∙ h.standing e (sym (among e differ) ∙ none)
      ];
      pools = λ pool apart. get_or-set_other now.pools POSITION pool _ [] apart ∙ h.pools pool apart;
      rest = ap (λ (w : World). record w { pools = (with_pool now POSITION (rows.put (pool_at now POSITION) x next)).pools }) h.rest;
    }
  where
    or_last : (a b : Bool) → b ≡ false → (a || (b || false)) ≡ a
    or_last true b h = refl
    or_last false b h = ap (λ c. c || false) h

    or_there : (a b : Bool) → b ≡ true → (a || (b || false)) ≡ true
    or_there true b h = refl
    or_there false b h = ap (λ c. c || false) h

-- ---- those that move can

-- the identifier at a place of a list is among them
pub among : (list : List Entity) (k : ℕ) (x : Entity) → slice_get list k ≡ Some x → list_any (is_same x) list ≡ true
among [] k x is = absurd (none-some x is)
among (y ∷ ys) zero x is = ap (λ (q : Entity). is_same x q || list_any (is_same x) ys) (same_Some y x is) ∙ ap (λ (b : Bool). b || list_any (is_same x) ys) (same_itself x)
among (y ∷ ys) (suc k) x is = ap (λ (b : Bool). is_same x y || b) (among ys k x is) ∙ always_or (is_same x y)
  where
    always_or : (b : Bool) → (b || true) ≡ true
    always_or true = refl
    always_or false = refl

-- one that moves has a place and a velocity
pub moving_rows : (w : World) (x : Entity) → is_moving w x ≡ true → (has_row w POSITION x ≡ true) × (has_row w VELOCITY x ≡ true)
moving_rows w x moves =
    let both = first_two (is_in (keys_of w) x POSITION) (is_in (keys_of w) x VELOCITY) (not (list_any (is_in (keys_of w) x) (FROZEN ∷ []))) moves in
    (sym (is_in_pool w x POSITION) ∙ both.0, sym (is_in_pool w x VELOCITY) ∙ both.1)
  where
    first_two : (a b c : Bool) → ((a && (b && true)) && c) ≡ true → (a ≡ true) × (b ≡ true)
    first_two true true c h = (refl, refl)
    first_two true false c h = absurd (both_ways _ refl h)
    first_two false b c h = absurd (both_ways _ refl h)

-- so that neither of its rows is refused, before it has moved
pub may_move : (limit : ℕ) (old now : World) (list : List Entity) (x : Entity) (pool : ℕ) → IsLawful limit old → HaveMoved old now list → list_any (is_same x) list ≡ false → is_moving old x ≡ true
    → are_declared (length now.decls) (pool ∷ []) ≡ true → (pool ≡ POSITION) ⊎ (pool ≡ VELOCITY) → when_no_entry now pool x (when_absent now pool x) ≡ None
may_move limit old now list x pool lawful h fresh moves declared which =
    let has = moving_rows old x moves in
    let live : is_live now.slots x ≡ true = ap (λ (w : World). is_live w.slots x) h.rest ∙ live_of limit old POSITION x lawful has.0 in
    let there : has_row now pool x ≡ true = elim which [
      | inl place ↦ ap (λ (p : ℕ). has_row now p x) place ∙ ap is_some (h.standing x fresh) ∙ has.0
      | inr velocity ↦ ap (λ (p : ℕ). has_row now p x) velocity ∙ ap (λ (l : List (Entity × Row)). rows.contains l x) (h.pools VELOCITY (λ same. omega (arith, same))) ∙ has.1
    ] in
    entry_passes now pool x (when_absent now pool x) declared live (ap (λ (b : Bool). refuse (not b) refusal.Absent) there)
  where
    live_of : (limit : ℕ) (w : World) (pool : ℕ) (x : Entity) → IsLawful limit w → has_row w pool x ≡ true → is_live w.slots x ≡ true
    live_of limit w pool x lawful has =
        elim (rows.get (pool_at w pool) x) as (λ o. rows.get (pool_at w pool) x ≡ o → is_live w.slots x ≡ true) [
          | None ↦ λ none. absurd (both_ways _ (ap is_some none) has)
          | Some row ↦ λ is. known_key (λ q. is_live w.slots q ≡ true) (pool_at w pool) x row (live_rows limit w lawful pool) is
        ] refl

-- a cause that can't be another is want of memory
pub only_memory : (cause : Refusal) → ((cause ≢ refusal.OutOfMemory) → ⊥) → cause ≡ refusal.OutOfMemory
only_memory cause h =
    elim (cases_Bool (is_memory cause)) [
      | inl same ↦ memory_is cause same
      | inr other ↦ absurd (h (λ same. both_ways _ other (ap is_memory same)))
    ]
  where
    is_memory : Refusal → Bool
    is_memory refusal.OutOfMemory = true
    is_memory _ = false

    memory_is : (cause : Refusal) → is_memory cause ≡ true → cause ≡ refusal.OutOfMemory
    memory_is refusal.OutOfMemory h = refl
    memory_is _ h = absurd (both_ways _ refl h)
