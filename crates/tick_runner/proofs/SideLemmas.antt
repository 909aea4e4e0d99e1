-- Workers side by side, and what they leave.
use Rattle.std.proofs.Common.{◌≡◌, ℕ, ◌+◌, ◌<◌, ◌≤◌, List, [], ◌∷◌, ◌++◌, drop, take, map, Option, Some, None, length, get_or, sym, refl, ap, ◌∙◌, subst, arith, slice_get}
use Rattle.std.specs.List.{All}
use Rattle.std.specs.Option.{option_map}
use Rattle.std.proofs.lemmas.List.{length-append, length-map}
use Rattle.std.proofs.lemmas.List.Elements.{All-push}
use Rattle.std.proofs.lemmas.Option.{slice_get-get_or, slice_get-map, slice_get_past, slice_get_within, same_Some}
use Rattle.entity_id.specs.FiniteMap as entries
use Rattle.entity_id.proofs.ListLemmas.{equal_by_place, past_end}
use Rattle.storage.specs.Stored.{Stored}
use Rattle.world_model.specs.declared.access.Access.{Access}
use Rattle.world_model.specs.declared.component.Row.{Row}
use Rattle.world_model.specs.Frames.{ChangesOnlyItsRows}
use Rattle.world_model.specs.Ticks.{Maps, System, maps_after_systems, orders_of}
use Rattle.system_api.specs.Emissions.{Emissions}
use Rattle.system_api.specs.Running.{sizes_of}
use Rattle.registry.specs.Layout.{maps_of}
use Rattle.registry.specs.Lending.{shape_of, shapes_of}
use Rattle.pool_slots.specs.declared.held.PoolTag.{PoolTag}
use Rattle.pool_slots.specs.Turns.{HasShapeOf, Turn, rows_of}
use Rattle.pool_slots.specs.Tags.{firsts_of, turns_at}
use Rattle.ready_board.specs.declared.board.Board.{Board}
use Rattle.tick_runner.specs.Running.{orders_in}
use Rattle.tick_runner.specs.declared.versions.fact.TickFact.{TickFact}
use Rattle.tick_runner.specs.declared.worker.Worker.{Worker}
use Rattle.tick_runner.specs.Plans.{AreOfTick, HasNeeds}
use Rattle.tick_runner.specs.Versions.{at, tick_admits, IsAt}
use Rattle.tick_runner.specs.Working.{AreLed, HasWorked, HaveWorked, IsAtWork, IsIdle}
use Rattle.tick_runner.proofs.LentLemmas.{nothing, turn_for, one_found}
use Rattle.tick_runner.proofs.ListLemmas.{push_last, push_before}
use Rattle.tick_runner.proofs.WorkLemmas.{idle_works}
use Rattle.tick_runner.proofs.VersionLemmas.{at-none, at_last, need_all, orders_count}

pub split_last : {A : Type 0} (xs : List A) → 0 < length xs → (init : List A) × (last : A) × (xs ≡ init ++ last ∷ [])
split_last [] h = absurd (omega (arith, h))
split_last (x ∷ []) h = ([], x, refl)
split_last (x ∷ y ∷ xs) h = let rest = split_last (y ∷ xs) (omega arith) in (x ∷ rest.0, rest.1, ap (λ zs. x ∷ zs) rest.2)

take_front : {A : Type 0} (xs ys : List A) → take (length xs) (xs ++ ys) ≡ xs
take_front [] [] = refl
take_front [] (y ∷ ys) = refl
take_front (x ∷ xs) ys = ap (λ zs. x ∷ zs) (take_front xs ys)

-- a list that is written whole
pub written_whole : {A : Type 0} (n : ℕ) (xs old : List A) → n ≡ length xs → take n (xs ++ drop (length xs) old) ≡ xs
written_whole n xs old is = ap (λ m. take m (xs ++ drop (length xs) old)) is ∙ take_front xs (drop (length xs) old)

pub snoc_same : {A : Type 0} (xs ys : List A) (x y : A) → xs ++ x ∷ [] ≡ ys ++ y ∷ [] → (xs ≡ ys) × (x ≡ y)
snoc_same [] [] x y e = (refl, same_Some x y (ap (λ zs. slice_get zs 0) e))
snoc_same [] (b ∷ ys) x y e = absurd (omega (arith, ap length e, length-append ys (y ∷ [])))
snoc_same (a ∷ xs) [] x y e = absurd (omega (arith, ap length e, length-append xs (x ∷ [])))
snoc_same (a ∷ xs) (b ∷ ys) x y e =
    let rest = snoc_same xs ys x y (ap (drop 1) e) in
    let head : a ≡ b = same_Some a b (ap (λ zs. slice_get zs 0) e) in
    ((λ i. head i ∷ rest.0 i), rest.1)

all_so : {A : Type 0} (P Q : A → Type 0) (xs : List A) → ((x : A) → P x → Q x) → All P xs → All Q xs
all_so P Q xs so all = λ k d low. so (get_or xs k d) (all k d low)

pub led_all : (Is : Worker → Type 0) (workers : List Worker) → AreLed Is workers → All Is workers
led_all Is workers led = subst (λ ws. All Is ws) (sym led.all) (All-push Is led.others led.first led.others_are led.first_is)

-- workers that have claimed nothing are all at work
pub all_at_work : (IsRight : ℕ → Emissions → Type 0) (count : ℕ) (board : Board) (workers : List Worker) → AreLed (IsIdle count board) workers → All (IsAtWork IsRight count board) workers
all_at_work IsRight count board workers led = all_so (IsIdle count board) (IsAtWork IsRight count board) workers (idle_works IsRight count board) (led_all (IsIdle count board) workers led)

-- workers that have all worked are led as before
pub have_worked : (IsRight : ℕ → Emissions → Type 0) (count : ℕ) (board : Board) (Is : Worker → Type 0) (olds news : List Worker) → AreLed Is olds → length news ≡ length olds
    → ((k : ℕ) (before after : Worker) → slice_get olds k ≡ Some before → slice_get news k ≡ Some after → HasWorked IsRight count board before after)
    → HaveWorked IsRight count board news
have_worked IsRight count board Is olds news led long worked =
    let count_olds : length olds ≡ length led.others + 1 = ap length led.all ∙ length-append led.others (led.first ∷ []) in
    let some : 0 < length news = omega (arith, long, count_olds) in
    let parts = split_last news some in
    let count_news : length news ≡ length parts.0 + 1 = ap length parts.2 ∙ length-append parts.0 (parts.1 ∷ []) in
    let same : length parts.0 ≡ length led.others = omega (arith, long, count_olds, count_news) in
    let last = worked (length led.others) led.first parts.1
    (ap (λ ws. slice_get ws (length led.others)) led.all ∙ push_last led.others led.first (length led.others) refl)
    (ap (λ ws. slice_get ws (length led.others)) parts.2 ∙ push_last parts.0 parts.1 (length led.others) same) in
    let other : (k : ℕ) (d : Worker) → k < length parts.0 → HasWorked IsRight count board (get_or led.others k d) (get_or parts.0 k d) = λ k d h.
    let low : k < length led.others = subst (λ n. k < n) same h in
    worked k (get_or led.others k d) (get_or parts.0 k d)
    (ap (λ ws. slice_get ws k) led.all ∙ push_before led.others led.first k low ∙ slice_get-get_or led.others k d low)
    (ap (λ ws. slice_get ws k) parts.2 ∙ push_before parts.0 parts.1 k h ∙ slice_get-get_or parts.0 k d h) in
    record {
      led = record {
        others = parts.0;
        first = parts.1;
        all = parts.2;
        others_are = λ k d h. (other k d h).at_work;
        others_later = λ k d h. (other k d h).role.is_first ∙ led.others_later k d (subst (λ n. k < n) same h);
        first_is = last.at_work;
        leads = last.role.is_first ∙ led.leads;
        out = last.role.out ∙ led.out ∙ sym same;
      };
      seen = last.all;
    }

-- ---- orders and rows in the end

pub all_orders : {S : Type 0} (lists : S → Access) (effect : S → System) (systems : List S) (tick : ℕ) (maps : Maps) (buffers : List Emissions) → length buffers ≡ length systems
    → ((place : ℕ) (b : Emissions) → slice_get buffers place ≡ Some b → slice_get (orders_of (map effect systems) tick maps) place ≡ Some (orders_in b))
    → map orders_in buffers ≡ orders_of (map effect systems) tick maps
all_orders {S = S} lists effect systems tick maps buffers each right = equal_by_place _ _ (λ k. by k (slice_get buffers k) refl)
  where
    by : (k : ℕ) (o : Option Emissions) → slice_get buffers k ≡ o → slice_get (map orders_in buffers) k ≡ slice_get (orders_of (map effect systems) tick maps) k
    by k (Some b) e = slice_get-map orders_in buffers k ∙ ap (option_map orders_in) e ∙ sym (right k b e)
    by k None e = slice_get-map orders_in buffers k ∙ ap (option_map orders_in) e
        ∙ sym (slice_get_past (orders_of (map effect systems) tick maps) k (subst (λ n. n ≤ k) (each ∙ sym (orders_count lists effect tick systems maps)) (past_end buffers k e)))

same_shape : (first stored : Stored Row) → HasShapeOf first stored → shape_of stored ≡ shape_of first
same_shape first stored is = λ i. record { identifiers = is.identifiers i; room = record { spare = is.spare i; index_bound = is.bound i } }

map_at : (pools : List (Stored Row)) (n : ℕ) → slice_get (maps_of pools) n ≡ option_map (λ stored. entries.map_of stored.pairs) (slice_get pools n)
map_at pools n = slice_get-map (λ stored. entries.map_of stored.pairs) pools n

-- a pool is admitted at version 0 as it is
pub admitted_first : {S : Type 0} (lists : S → Access) (effect : S → System) (frame : (s : S) → ChangesOnlyItsRows (lists s) (effect s)) (systems : List S) (tick : ℕ) (pools : List (Stored Row)) (pool : ℕ) (stored : Stored Row)
    → slice_get pools pool ≡ Some stored → IsAt lists effect systems tick (maps_of pools) pool 0 (rows_of stored)
admitted_first lists effect frame systems tick pools pool stored is = record {
  within = omega arith;
  rows_are = at-none lists effect frame tick pool systems (maps_of pools) ∙ map_at pools pool ∙ ap (option_map (λ (s : Stored Row). entries.map_of s.pairs)) is;
}

module _ {S : Type 0} (lists : S → Access) (effect : S → System) (frame : (s : S) → ChangesOnlyItsRows (lists s) (effect s)) (fact : TickFact S) (tags : List (PoolTag (TickFact S))) (slots : AreOfTick fact tags) (lasts : List ℕ)
    (has : HasNeeds (map lists fact.systems.value.now) (length fact.systems.value.now) (length tags) lasts) (news : List (Stored Row)) (each : length news ≡ length tags)
    (back : (pool : ℕ) (turn : Turn (TickFact S)) (stored : Stored Row) → slice_get (turns_at (get_or lasts pool 0) tags) pool ≡ Some turn → slice_get news pool ≡ Some stored
    → tick_admits lists effect turn.fact turn.pool turn.version (rows_of stored) × HasShapeOf turn.first stored) where
  abbrev systems : List S
  systems = fact.systems.value.now

  abbrev tick : ℕ
  tick = fact.tick

  abbrev firsts : List (Stored Row)
  firsts = fact.pools.value.items

  abbrev fold : Maps
  fold = maps_after_systems (map effect systems) tick (maps_of firsts)

  turned : (pool : ℕ) (stored : Stored Row) → slice_get news pool ≡ Some stored → (slice_get fold pool ≡ Some (rows_of stored)) × HasShapeOf (get_or firsts pool nothing) stored
  turned pool stored is =
      let low : pool < length tags = subst (λ n. pool < n) each (slice_get_within news pool stored is) in
      let found = one_found fact tags (map lists systems) (length systems) (get_or lasts pool 0) pool slots.slots low (has.each pool low) in
      let got = back pool (turn_for fact (firsts_of tags) (map lists systems) (length systems) pool) stored found is in (
        sym (at_last lists effect frame tick pool systems (maps_of firsts)) ∙ ap (at lists effect systems tick (maps_of firsts) pool) (sym (need_all lists effect frame tick pool systems)) ∙ got.0.rows_are,
        subst (λ (list : List (Stored Row)). HasShapeOf (get_or list pool nothing) stored) slots.pools got.1,
      )

  fold_count : length fold ≡ length firsts
  fold_count =
      sym (length-map fold entries.keys) ∙ ap length keys_same ∙ length-map (maps_of firsts) entries.keys ∙ length-map firsts (λ stored. entries.map_of stored.pairs)
    where
      keys_same : map entries.keys fold ≡ map entries.keys (maps_of firsts)
      keys_same = all_keys systems (maps_of firsts)
        where
          all_keys : (systems : List S) (maps : Maps) → map entries.keys (maps_after_systems (map effect systems) tick maps) ≡ map entries.keys maps
          all_keys [] maps = refl
          all_keys (s ∷ systems) maps = all_keys systems (effect s tick maps).maps ∙ (frame s).identifiers tick maps

  firsts_count : length firsts ≡ length news
  firsts_count = ap length (sym slots.pools) ∙ length-map tags (λ t. t.first.value) ∙ sym each

  pub rows_back : maps_of news ≡ fold
  rows_back = equal_by_place _ _ (λ k. by k (slice_get news k) refl)
    where
      by : (k : ℕ) (o : Option (Stored Row)) → slice_get news k ≡ o → slice_get (maps_of news) k ≡ slice_get fold k
      by k (Some stored) e = map_at news k ∙ ap (option_map (λ (s : Stored Row). entries.map_of s.pairs)) e ∙ sym (turned k stored e).0
      by k None e = map_at news k ∙ ap (option_map (λ (s : Stored Row). entries.map_of s.pairs)) e ∙ sym (slice_get_past fold k (subst (λ n. n ≤ k) (sym (fold_count ∙ firsts_count)) (past_end news k e)))

  pub shapes_back : shapes_of news ≡ shapes_of firsts
  shapes_back = equal_by_place _ _ (λ k. by k (slice_get news k) refl)
    where
      by : (k : ℕ) (o : Option (Stored Row)) → slice_get news k ≡ o → slice_get (shapes_of news) k ≡ slice_get (shapes_of firsts) k
      by k (Some stored) e =
          let low : k < length firsts = subst (λ n. k < n) (sym firsts_count) (slice_get_within news k stored e) in
          slice_get-map shape_of news k ∙ ap (option_map shape_of) e ∙ ap Some (same_shape (get_or firsts k nothing) stored (turned k stored e).1)
          ∙ sym (slice_get-map shape_of firsts k ∙ ap (option_map shape_of) (slice_get-get_or firsts k nothing low))
      by k None e = slice_get-map shape_of news k ∙ ap (option_map shape_of) e
          ∙ sym (slice_get-map shape_of firsts k ∙ ap (option_map shape_of) (slice_get_past firsts k (subst (λ n. n ≤ k) (sym firsts_count) (past_end news k e))))

-- there are as many sizes as pools
pub sizes_count : (pools : List (Stored Row)) → length (sizes_of (maps_of pools)) ≡ length pools
sizes_count pools = length-map (maps_of pools) length ∙ length-map pools (λ stored. entries.map_of stored.pairs)
