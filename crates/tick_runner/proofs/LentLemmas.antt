-- One system on pools that were lent by turns.
use Rattle.std.proofs.Common.{◌≡◌, ℕ, zero, suc, ◌<◌, ◌≤◌, true, ◌||◌, ◌&&◌, List, [], ◌∷◌, ◌++◌, map, length, take, drop, get_or, Option, Some, slice_get, refl, sym, ap, ap₂, ◌∙◌, subst, arith}
use Rattle.std.specs.Prelude.{IfSome}
use Rattle.std.specs.List.{AllByRecursion, AllZip}
use Rattle.std.specs.List.Sorted.{IsPermutation}
use Rattle.std.specs.Option.{option_map}
use Rattle.std.proofs.lemmas.List.{map-append, length-map, length-append}
use Rattle.std.proofs.lemmas.Option.{none-some, same_Some, slice_get-map}
use Rattle.entity_id.specs.declared.entity.Entity.{Entity}
use Rattle.entity_id.specs.FiniteMap as entries
use Rattle.entity_id.specs.Matching.{matches}
use Rattle.entity_id.proofs.ListLemmas.{all-append}
use Rattle.storage.specs.Stored.{Stored}
use Rattle.world_model.specs.declared.access.Access.{Access}
use Rattle.world_model.specs.declared.component.Row.{Row}
use Rattle.world_model.specs.Frames.{own_pools, members, ChangesOnlyItsRows, IsLawfulAccess}
use Rattle.world_model.specs.Groups.{has_pool, packed_at, are_declared}
use Rattle.world_model.specs.Ticks.{Maps, System}
use Rattle.group_engine.specs.Grouped.{packed_of}
use Rattle.system_api.specs.declared.lent.LentPool.{LentPool}
use Rattle.system_api.specs.Registers.{Register, Shows, StandsFor, HasMembersFirst, MayWalkPrefix, HasOtherRows, numbers, pool_of, pool_at}
use Rattle.system_api.specs.Running.{AreLentFor, read_pools, sizes_of}
use Rattle.registry.specs.Layout.{maps_of}
use Rattle.registry.specs.Lending.{BeginsWithMembers}
use Rattle.access_graph.specs.Conflicts.{writers, need}
use Rattle.pool_slots.specs.declared.held.PoolTag.{PoolTag}
use Rattle.pool_slots.specs.Turns.{Turn, HasShapeOf}
use Rattle.pool_slots.specs.Tags.{AreSlots, firsts_of, turn_of, turns_at}
use Rattle.tick_runner.specs.Walking.{IsPrefixFor}
use Rattle.tick_runner.proofs.ListLemmas.{and-right, declared-append, declared_first, declared_left, declared_right, named-append, named_first, named_later, all_named}
use Rattle.tick_runner.proofs.RunLemmas.{same_sizes}
use Rattle.tick_runner.proofs.WalkLemmas.{lent_at, same_members, own_lent, out_lent, some_weaker}
use Rattle.tick_runner.specs.declared.versions.fact.TickFact.{TickFact}
use Rattle.tick_runner.specs.Plans.{AreOfTick, HasNeeds}
use Rattle.tick_runner.specs.Turns.{found_at, turn_found, IsOf, MayComeBack}
use Rattle.tick_runner.specs.Versions.{maps_before, tick_admits}
use Rattle.tick_runner.proofs.VersionLemmas.{at_need, need_after, need_within, raised, writers_few}

-- a pool without rows
abbrev pub nothing : Stored Row
nothing = record { pairs = []; spare = 0; index_bound = 0 }

-- a lent pool has the rows of these maps, and the shape of the pool of its number
pub record IsFrom (maps : Maps) (firsts : List (Stored Row)) (pool : LentPool) : Type 0 where
  pub stands : StandsFor maps pool
  pub shape : HasShapeOf (get_or firsts pool.number nothing) pool.storage

key_list : (firsts : List (Stored Row)) (n : ℕ) → entries.keys (get_or firsts n nothing).pairs ≡ packed_at (packed_of firsts) n
key_list [] n = refl
key_list (p ∷ firsts) zero = refl
key_list (p ∷ firsts) (suc n) = key_list firsts n

stand_all : (maps : Maps) (firsts : List (Stored Row)) (ws : List LentPool) → AllByRecursion (IsFrom maps firsts) ws → AllByRecursion (StandsFor maps) ws
stand_all maps firsts [] all = tt
stand_all maps firsts (w ∷ ws) all = (all.0.stands, stand_all maps firsts ws all.1)

agree : (fold maps : Maps) (ws : List LentPool) → AllByRecursion (StandsFor fold) ws → AllByRecursion (StandsFor maps) ws → AllByRecursion (λ (n : ℕ). slice_get fold n ≡ slice_get maps n) (numbers ws)
agree fold maps [] a b = tt
agree fold maps (w ∷ ws) a b = (a.0 ∙ sym b.0, agree fold maps ws a.1 b.1)

-- pools that are lent for a system, each with the rows of these maps and the shape of before
pub record AreLent (access : Access) (maps : Maps) (firsts : List (Stored Row)) (register : Register) : Type 0 where
  pub lent : AreLentFor access register
  pub reads : AllByRecursion (IsFrom maps firsts) register.reads
  pub writes : AllByRecursion (IsFrom maps firsts) register.writes

module _ (access : Access) (fold : Maps) (firsts : List (Stored Row)) (register : Register) (lent : AreLent access fold firsts register) where
  -- they show those maps
  pub shows : Shows register fold
  shows = record { reads = stand_all fold firsts register.reads lent.reads; writes = stand_all fold firsts register.writes lent.writes }

  lent_numbers : numbers (register.writes ++ register.reads) ≡ access.write ++ ((access.read ++ access.look) ++ access.without)
  lent_numbers = map-append (λ (pool : LentPool). pool.number) register.writes register.reads ∙ ap₂ (λ a b. a ++ b) lent.lent.writes lent.lent.reads

  spread : (n : ℕ) → has_pool (numbers (register.writes ++ register.reads)) n ≡ has_pool access.write n || ((has_pool access.read n || has_pool access.look n) || has_pool access.without n)
  spread n =
      ap (λ ns. has_pool ns n) lent_numbers ∙ named-append access.write ((access.read ++ access.look) ++ access.without) n
      ∙ ap (λ b. has_pool access.write n || b) (named-append (access.read ++ access.look) access.without n ∙ ap (λ b. b || has_pool access.without n) (named-append access.read access.look n))

  own_named : (n : ℕ) → has_pool (own_pools access) n ≡ true → has_pool (numbers (register.writes ++ register.reads)) n ≡ true
  own_named n named = spread n ∙ own_lent (has_pool access.read n) (has_pool access.write n) (has_pool access.look n) (has_pool access.without n) (sym (named-append access.read access.write n) ∙ named)

  out_named : (n : ℕ) → has_pool access.without n ≡ true → has_pool (numbers (register.writes ++ register.reads)) n ≡ true
  out_named n named = spread n ∙ out_lent (has_pool access.read n) (has_pool access.write n) (has_pool access.look n) (has_pool access.without n) named

  module _ (keys : map entries.keys fold ≡ map entries.keys (maps_of firsts)) where
    -- where a pool of before begins with the system's entities, so does the lent one
    may_walk : (pool count : ℕ) → BeginsWithMembers access firsts pool count → (maps : Maps) → Shows register maps → HasMembersFirst access maps register pool count
    may_walk pool count begins maps shown =
        let w = pool_of register pool in
        let there = lent_at (IsFrom fold firsts) (register.writes ++ register.reads) pool (all-append (IsFrom fold firsts) register.writes register.reads lent.writes lent.reads) (own_named pool begins.own) in
        let here : packed_at (packed_of firsts) pool ≡ entries.keys w.storage.pairs =
        sym (key_list firsts pool) ∙ ap (λ n. entries.keys (get_or firsts n nothing).pairs) (sym there.1) ∙ sym there.0.shape.identifiers in
        let same : AllByRecursion (λ (n : ℕ). slice_get fold n ≡ slice_get maps n) (numbers (register.writes ++ register.reads)) =
        agree fold maps (register.writes ++ register.reads) (all-append (StandsFor fold) register.writes register.reads shows.writes shows.reads) (all-append (StandsFor maps) register.writes register.reads shown.writes shown.reads) in
        let told : (n : ℕ) → has_pool (numbers (register.writes ++ register.reads)) n ≡ true → slice_get fold n ≡ slice_get maps n
        = λ n named. all_named (λ n. slice_get fold n ≡ slice_get maps n) (numbers (register.writes ++ register.reads)) n same named in
        let entities : members access (maps_of firsts) ≡ members access maps =
        ap (λ (lists : List (List Entity)). matches lists (own_pools access) access.without) (sym keys)
        ∙ same_members access fold maps (λ n named. told n (own_named n named)) (λ n named. told n (out_named n named)) in
        record {
          own = begins.own;
          within = subst (λ n. count ≤ n) (ap length here ∙ length-map w.storage.pairs (λ (entry : Entity × Row). entry.0)) begins.within;
          first = subst (λ (list : List Entity). IsPermutation (take count list) (members access maps)) here (subst (IsPermutation (take count (packed_at (packed_of firsts) pool))) entities begins.first);
        }

    -- a prefix that was known before may be walked
    pub prefix_walks : (prefix : Option (ℕ × ℕ)) → register.prefix ≡ prefix → IsPrefixFor access firsts prefix → (maps : Maps) → Shows register maps → MayWalkPrefix access maps register
    prefix_walks prefix same is maps shown =
        subst (λ (o : Option (ℕ × ℕ)). IfSome o (λ (x : ℕ × ℕ). HasMembersFirst access maps register x.0 x.1)) (sym same)
        (some_weaker (λ (x : ℕ × ℕ). BeginsWithMembers access firsts x.0 x.1) (λ (x : ℕ × ℕ). HasMembersFirst access maps register x.0 x.1) prefix (λ x begins. may_walk x.0 x.1 begins maps shown) is)

    -- room that is enough for the sizes of before is enough
    pub sizes_stay : sizes_of (maps_of firsts) ≡ sizes_of fold
    sizes_stay = same_sizes (maps_of firsts) fold (sym keys)

-- ---- numbers of lawful lists

module _ (count : ℕ) (a : Access) (lawful : IsLawfulAccess count a) where
  without_rest : are_declared count ((a.read ++ a.write) ++ a.look) ≡ true
  without_rest = declared_left count ((a.read ++ a.write) ++ a.look) a.without lawful.declared

  own_declared : are_declared count (a.read ++ a.write) ≡ true
  own_declared = declared_left count (a.read ++ a.write) a.look without_rest

  pub write_declared : are_declared count a.write ≡ true
  write_declared = declared_right count a.read a.write own_declared

  pub read_declared : are_declared count (read_pools a) ≡ true
  read_declared =
      declared-append count (a.read ++ a.look) a.without
      ∙ ap₂ (λ b c. b && c) (declared-append count a.read a.look ∙ ap₂ (λ b c. b && c) (declared_left count a.read a.write own_declared) (declared_right count (a.read ++ a.write) a.look without_rest))
      (declared_right count ((a.read ++ a.write) ++ a.look) a.without lawful.declared)

  pub read_few : length (read_pools a) ≤ 16
  read_few = omega (arith, lawful.few, length-append ((a.read ++ a.write) ++ a.look) a.without, length-append (a.read ++ a.write) a.look, length-append a.read a.write, length-append (a.read ++ a.look) a.without, length-append a.read a.look)

  pub write_few : length a.write ≤ 16
  write_few = omega (arith, lawful.few, length-append ((a.read ++ a.write) ++ a.look) a.without, length-append (a.read ++ a.write) a.look, length-append a.read a.write)

-- ---- by turns

-- the turn at a pool, at the version that the system at a place needs
abbrev pub turn_for : {F : Type 0} → F → List (Stored Row) → List Access → ℕ → ℕ → Turn F
turn_for fact firsts accesses place pool = record { fact = fact; pool = pool; version = need accesses place pool; first = get_or firsts pool nothing }

-- turns at pools of these numbers
abbrev pub turns_for : {F : Type 0} → F → List (Stored Row) → List Access → ℕ → List ℕ → List (Option (Turn F))
turns_for fact firsts accesses place pools = map (λ pool. Some (turn_for fact firsts accesses place pool)) pools

there_is : {A : Type 0} (xs : List A) (k : ℕ) → k < length xs → (x : A) × (slice_get xs k ≡ Some x)
there_is [] k low = absurd (omega (arith, low))
there_is (x ∷ xs) zero low = (x, refl)
there_is (x ∷ xs) (suc k) low = there_is xs k (omega (arith, low))

first_is : {F : Type 0} (tags : List (PoolTag F)) (pool : ℕ) (tag : PoolTag F) → slice_get tags pool ≡ Some tag → tag.first.value ≡ get_or (firsts_of tags) pool nothing
first_is [] pool tag is = absurd (none-some tag is)
first_is (x ∷ tags) zero tag is = ap (λ t. t.first.value) (sym (same_Some x tag is))
first_is (x ∷ tags) (suc pool) tag is = first_is tags pool tag is

-- the turn that slots of a fact give
pub one_found : {F : Type 0} (fact : F) (tags : List (PoolTag F)) (accesses : List Access) (place version pool : ℕ) → AreSlots fact tags → pool < length tags → version ≡ need accesses place pool
    → slice_get (turns_at version tags) pool ≡ Some (turn_for fact (firsts_of tags) accesses place pool)
one_found fact tags accesses place version pool slots low needed =
    let tag = there_is tags pool low in
    let known = slots pool tag.0 tag.1 in
    slice_get-map (λ t. turn_of t version) tags pool ∙ ap (option_map (λ t. turn_of t version)) tag.1
    ∙ ap Some (λ i. record { fact = known.0 i; pool = known.1 i; version = needed i; first = first_is tags pool tag.0 tag.1 i })

module _ {S : Type 0} (lists : S → Access) (effect : S → System) (frame : (s : S) → ChangesOnlyItsRows (lists s) (effect s)) (fact : TickFact S) (tags : List (PoolTag (TickFact S))) (slots : AreOfTick fact tags) (place : ℕ) where
  abbrev systems : List S
  systems = fact.systems.value.now

  abbrev accesses : List Access
  accesses = map lists systems

  abbrev pools : List (Stored Row)
  pools = fact.pools.value.items

  -- the rows of every component before the system
  abbrev pub fold : Maps
  fold = maps_before effect systems fact.tick (maps_of pools) place

  pub slot_count : length pools ≡ length tags
  slot_count = ap length (sym slots.pools) ∙ length-map tags (λ (t : PoolTag _). t.first.value)

  module _ (needs : List ℕ) (has : HasNeeds accesses place (length pools) needs) where
    found_one : (pool : ℕ) → pool < length pools → turn_found tags needs pool ≡ Some (turn_for fact pools accesses place pool)
    found_one pool low =
        one_found fact tags accesses place (get_or needs pool 0) pool slots.slots (subst (λ (n : ℕ). pool < n) slot_count low) (has.each pool low)
        ∙ ap (λ (firsts : List (Stored Row)). Some (turn_for fact firsts accesses place pool)) slots.pools

    -- what the slots give
    pub found_is : (list : List ℕ) → are_declared (length pools) list ≡ true → found_at tags needs list ≡ turns_for fact pools accesses place list
    found_is [] declared = refl
    found_is (n ∷ list) declared =
        ap₂ (λ (o : Option (Turn _)) os. o ∷ os) (found_one n (declared_first (length pools) n list declared)) (found_is list (and-right _ (are_declared (length pools) list) declared))

  -- pools of turns at what the system needs
  pub from_turns : (list : List ℕ) (lent : List LentPool) → AllZip (IsOf (tick_admits lists effect)) (turns_for fact pools accesses place list) lent
      → (numbers lent ≡ list) × AllByRecursion (IsFrom fold pools) lent
  from_turns [] [] all = (refl, tt)
  from_turns [] (p ∷ lent) all = absurd all
  from_turns (n ∷ list) [] all = absurd all
  from_turns (n ∷ list) (p ∷ lent) all =
      let rest = from_turns list lent all.1 in (
        ap₂ (λ (m : ℕ) (ms : List ℕ). m ∷ ms) all.0.number rest.0,
        (
          record {
            stands = ap (slice_get fold) all.0.number ∙ sym (at_need lists effect frame fact.tick n systems place (maps_of pools)) ∙ all.0.admitted.rows_are;
            shape = subst (λ (m : ℕ). HasShapeOf (get_or pools m nothing) p.storage) (sym all.0.number) all.0.shape;
          },
          rest.1,
        ),
      )

  module _ (s : S) (is : slice_get systems place ≡ Some s) where
    -- what the system leaves in the pools that it writes may be put back
    pub may_come_back : length systems ≤ 64 → (list : List ℕ) (ws later : List LentPool) → ((n : ℕ) → has_pool list n ≡ true → has_pool (lists s).write n ≡ true)
        → AllZip (IsOf (tick_admits lists effect)) (turns_for fact pools accesses place list) ws → numbers later ≡ numbers ws → ((k : ℕ) → HasOtherRows (pool_at ws k) (pool_at later k))
        → AllByRecursion (StandsFor (effect s fact.tick fold).maps) later
        → AllZip (MayComeBack (tick_admits lists effect)) (turns_for fact pools accesses place list) later
    may_come_back few [] [] [] named all same other stand = tt
    may_come_back few [] [] (l ∷ later) named all same other stand = absurd (cc)
    may_come_back few [] (w ∷ ws) later named all same other stand = absurd all
    may_come_back few (n ∷ list) [] later named all same other stand = absurd all
    may_come_back few (n ∷ list) (w ∷ ws) [] named all same other stand = absurd (cc)
    may_come_back few (n ∷ list) (w ∷ ws) (l ∷ later) named all same other stand =
        let writes : has_pool (lists s).write n ≡ true = named n (named_first n list) in
        let after = need_after lists effect frame fact.tick n systems place s is writes in
        let within = need_within lists effect frame fact.tick n systems (suc place) in
        let low = need_within lists effect frame fact.tick n systems place in
        let number : l.number ≡ n = (other 0).number ∙ all.0.number in (
          record {
            room = omega (arith, low, writers_few accesses n, length-map systems lists, few);
            admitted = record {
              within = subst (λ (v : ℕ). v ≤ writers accesses n) after within;
              rows_are = raised lists effect fact.tick frame systems place s (maps_of pools) n is writes ∙ ap (slice_get (effect s fact.tick fold).maps) (sym number) ∙ stand.0;
            };
            shape = record {
              identifiers = (other 0).identifiers ∙ all.0.shape.identifiers;
              spare = (other 0).spare ∙ all.0.shape.spare;
              bound = (other 0).bound ∙ all.0.shape.bound;
            };
          },
          may_come_back few list ws later (λ m at. named m (named_later n list m at)) all.1 (ap (drop 1) same) (λ k. other (suc k)) stand.1,
        )

    -- pools that were lent by what the slots gave are lent for the system
    pub lent_by : (needs : List ℕ) → HasNeeds accesses place (length pools) needs → IsLawfulAccess (length pools) (lists s) → (a : Access) → a ≡ lists s → (register : Register)
        → AllZip (IsOf (tick_admits lists effect)) (found_at tags needs (read_pools a)) register.reads → AllZip (IsOf (tick_admits lists effect)) (found_at tags needs a.write) register.writes
        → AreLent (lists s) fold pools register × AllZip (IsOf (tick_admits lists effect)) (turns_for fact pools accesses place (lists s).write) register.writes
    lent_by needs has lawful a found register reads writes =
        let R = IsOf (tick_admits lists effect) in
        let access = lists s in
        let for_reads : found_at tags needs (read_pools a) ≡ turns_for fact pools accesses place (read_pools access) =
        ap (λ (b : Access). found_at tags needs (read_pools b)) found ∙ found_is needs has (read_pools access) (read_declared (length pools) access lawful) in
        let for_writes : found_at tags needs a.write ≡ turns_for fact pools accesses place access.write =
        ap (λ (b : Access). found_at tags needs b.write) found ∙ found_is needs has access.write (write_declared (length pools) access lawful) in
        let read = from_turns (read_pools access) register.reads (subst (λ ts. AllZip R ts register.reads) for_reads reads) in
        let kept = subst (λ ts. AllZip R ts register.writes) for_writes writes in
        let written = from_turns access.write register.writes kept in
        (record { lent = record { reads = read.0; writes = written.0 }; reads = read.1; writes = written.1 }, kept)

    -- the same, as the calls that take turns and lend their pools say it
    pub lent_as : (needs : List ℕ) → HasNeeds accesses place (length pools) needs → IsLawfulAccess (length pools) (lists s) → (a : Access) → a ≡ lists s → (before register : Register)
        → (shown turns places : List (Option (Turn (TickFact S)))) (for_reads for_writes once again written : List ℕ)
        → shown ≡ turns → turns ≡ found_at tags for_reads once → for_reads ≡ needs → once ≡ again
        → ((found : ℕ → Option (Turn (TickFact S))) → shown ≡ map found again → AllZip (IsOf (tick_admits lists effect)) (map found (read_pools a)) before.reads) → register.reads ≡ before.reads
        → places ≡ found_at tags for_writes written → for_writes ≡ needs → written ≡ a.write → AllZip (IsOf (tick_admits lists effect)) places register.writes
        → AreLent (lists s) fold pools register × (AllZip (IsOf (tick_admits lists effect)) (turns_for fact pools accesses place (lists s).write) register.writes × (places ≡ turns_for fact pools accesses place (lists s).write))
    lent_as needs has lawful a found before register shown turns places for_reads for_writes once again written seen taken same_reads named reads same put same_writes list writes =
        let R = IsOf (tick_admits lists effect) in
        let shown_are : shown ≡ map (turn_found tags needs) again = seen ∙ taken ∙ ap₂ (found_at tags) same_reads named in
        let places_are : places ≡ found_at tags needs a.write = put ∙ ap₂ (found_at tags) same_writes list in
        let lent = lent_by needs has lawful a found register (subst (λ (ps : List LentPool). AllZip R (found_at tags needs (read_pools a)) ps) (sym same) (reads (turn_found tags needs) shown_are))
        (subst (λ ts. AllZip R ts register.writes) places_are writes) in
        (lent.0, (lent.1, places_are ∙ ap (λ (b : Access). found_at tags needs b.write) found ∙ found_is needs has (lists s).write (write_declared (length pools) (lists s) lawful)))
