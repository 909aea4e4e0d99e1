-- What a body does in the lanes of a batch is what the walk does at its places.
use Rattle.std.proofs.Common.{◌≡◌, ◌≢◌, ℕ, zero, suc, ◌+◌, ◌-◌, ◌<◌, ◌≤◌, Bool, true, List, [], ◌∷◌, ◌++◌, length, take, Some, sym, ap, ap₂, ◌∙◌, subst, arith, slice_get}
use Rattle.std.specs.Prelude.{slice_index_or, IsTrue, nat_lt}
use Rattle.std.proofs.lemmas.Bool.{and_parts, and_from, ltb-true, lt-ltb}
use Rattle.std.proofs.lemmas.List.{length-map}
use Rattle.entity_id.specs.declared.entity.Entity.{Entity}
use Rattle.entity_id.specs.declared.entity.Profile.{Profile}
use Rattle.entity_id.specs.FiniteMap as entries
use Rattle.entity_id.specs.PackedLists.{place_of}
use Rattle.world_model.specs.declared.access.Access.{Access}
use Rattle.world_model.specs.declared.component.Row.{Row}
use Rattle.world_model.specs.Frames.{own_pools}
use Rattle.world_model.specs.Groups.{are_distinct}
use Rattle.row_lang.specs.declared.token.Token.{Token}
use Rattle.row_lang.specs.Bodies.{Done, body_done}
use Rattle.row_lang.specs.Values.{own_row}
use Rattle.system_api.specs.declared.lent.LentPool.{LentPool}
use Rattle.system_api.specs.Batches.{lanes, row_at, entity_at, is_marked}
use Rattle.system_api.specs.Emissions.{Emission}
use Rattle.system_api.specs.Registers.{Register, pool_at}
use Rattle.system_api.specs.Running.{AreLentFor}
use Rattle.system_eval.specs.Lanes.{Scenery, own_at, done_at, given_to, beside, emissions_at, marked_count, AreDistinctMarked}
use Rattle.system_eval.specs.Finding.{IsBatch, AreStored, AreOneEach, AreLocatedIn}
use Rattle.system_eval.specs.Walks.{Task, rows_in, own_lent, is_member_in, setting_in, rows_of_own, done_in, IsTaken, Rewrites, Gives, AreOnce}
use Rattle.system_eval.proofs.CoverLemmas.{pool_at-both, length-taken-pools}
use Rattle.system_eval.proofs.LaneLemmas.{own-loaded, own_row-column, number-at, few-marked}
use Rattle.system_eval.proofs.ToldLemmas.{own-numbers}

-- what a body finds in a batch
abbrev pub scenery_of : Task → Register → List Entity → List Bool → Scenery
scenery_of task register entities marks =
    record { profile = task.profile; tick = task.tick; access = task.system.access; reads = register.reads; entities = entities; marks = marks }

pub same-scenery : (task : Task) (register : Register) (entities : List Entity) (marks : List Bool) (profile : Profile) (tick : ℕ) (access : Access)
    → profile ≡ task.profile → tick ≡ task.tick → access ≡ task.system.access
    → record { profile = profile; tick = tick; access = access; reads = register.reads; entities = entities; marks = marks } ≡ scenery_of task register entities marks
same-scenery task register entities marks profile tick access p t a = cc

-- a body that is told by other names
pub rows-told : (s t : Scenery) (ss ts : List (List Token)) (columns after : List (List Row)) → s ≡ t → ss ≡ ts
    → ((lane : ℕ) → lane < lanes → own_at (own_pools s.access) after lane ≡ (done_at s ss columns lane).rows) → (lane : ℕ) → lane < lanes → own_at (own_pools t.access) after lane ≡ (done_at t ts columns lane).rows
rows-told s t ss ts columns after same also rows lane low =
    ap (λ (x : Scenery). own_at (own_pools x.access) after lane) (sym same) ∙ rows lane low ∙ ap₂ (λ (x : Scenery) (xs : List (List Token)). (done_at x xs columns lane).rows) same also

pub emissions-told : (s t : Scenery) (ss ts : List (List Token)) (columns : List (List Row)) (lane : ℕ) → s ≡ t → ss ≡ ts → emissions_at s ss columns lane ≡ emissions_at t ts columns lane
emissions-told s t ss ts columns lane same also = ap₂ (λ (x : Scenery) (xs : List (List Token)). emissions_at x xs columns lane) same also

-- ---- how many pools there are

module _ (access : Access) (register : Register) (lent : AreLentFor access register) where
  pub own-count : length (own_lent (length access.read) register) ≡ length (own_pools access)
  own-count = sym (length-map (own_lent (length access.read) register) (λ (pool : LentPool). pool.number)) ∙ ap length (own-numbers access register lent)

  pub reads-count : length register.reads ≡ length (access.read ++ access.look ++ access.without)
  reads-count = sym (length-map register.reads (λ (pool : LentPool). pool.number)) ∙ ap length lent.reads

  pub writes-count : length register.writes ≡ length access.write
  writes-count = sym (length-map register.writes (λ (pool : LentPool). pool.number)) ∙ ap length lent.writes

  length-both : (xs ys : List ℕ) → length (xs ++ ys) ≡ length xs + length ys
  length-both [] ys = let none : 0 + length ys ≡ length ys = omega arith in sym none
  length-both (x ∷ xs) ys = let more : suc (length xs) + length ys ≡ suc (length xs + length ys) = omega arith in ap suc (length-both xs ys) ∙ sym more

  pub lists-fit : length access.read + length access.look ≤ length register.reads
  lists-fit = omega (arith, reads-count, length-both (access.read ++ access.look) access.without, length-both access.read access.look)

  pub own-sum : length (own_pools access) ≡ length access.read + length register.writes
  own-sum = length-both access.read access.write ∙ ap (λ (n : ℕ). length access.read + n) (sym writes-count)

  -- the written pools stand behind those that are read
  pub written-at : (at : ℕ) → pool_at (own_lent (length access.read) register) (length access.read + at) ≡ pool_at register.writes at
  written-at at = pool_at-both (take (length access.read) register.reads) register.writes (length access.read) at (sym (length-taken-pools (length access.read) register.reads (omega (arith, lists-fit))))

-- ---- lanes and places

module _ (task : Task) (register : Register) (lent : AreLentFor task.system.access register) (list : List Entity) (from : ℕ) (entities : List Entity) (marks : List Bool)
    (places : List (List ℕ)) (columns : List (List Row)) (batch : IsBatch task.system.access list from register entities marks places columns) where
  -- a marked lane is at a place of the walk
  pub marked-taken : (lane : ℕ) → lane < lanes → IsTrue (is_marked marks lane) → IsTaken task list from (from + lanes) register (from + lane)
  marked-taken lane low marked =
      let parts = and_parts (nat_lt (from + lane) (length list)) (is_member_in task.system.access register (entity_at entities lane)) (sym (batch.marks_are lane low) ∙ marked) in
      let within : from + lane < length list = ltb-true (from + lane) (length list) parts.0 in
      record {
        after = omega arith;
        before = omega (arith, low);
        within = within;
        member = ap (is_member_in task.system.access register) (sym (batch.entities_are lane low within)) ∙ parts.1;
      }

  marked-member : (lane : ℕ) → lane < lanes → IsTrue (is_marked marks lane) → IsTrue (is_member_in task.system.access register (entity_at entities lane))
  marked-member lane low marked = (and_parts (nat_lt (from + lane) (length list)) (is_member_in task.system.access register (entity_at entities lane)) (sym (batch.marks_are lane low) ∙ marked)).1

  pub marked-entity : (lane : ℕ) → lane < lanes → IsTrue (is_marked marks lane) → entity_at entities lane ≡ entity_at list (from + lane)
  marked-entity lane low marked = batch.entities_are lane low (marked-taken lane low marked).within

  -- and a place of the walk has a marked lane
  pub taken-marked : (place : ℕ) → IsTaken task list from (from + lanes) register place → (lane : ℕ) × ((lane < lanes) × (IsTrue (is_marked marks lane) × (entity_at entities lane ≡ entity_at list place)))
  taken-marked place t =
      let lane = place - from in
      let same : from + lane ≡ place = omega (arith, t.after) in
      let low : lane < lanes = omega (arith, t.after, t.before) in
      let within : from + lane < length list = omega (arith, same, t.within) in
      let entity : entity_at entities lane ≡ entity_at list place = batch.entities_are lane low within ∙ ap (entity_at list) same in
      let mark : is_marked marks lane ≡ true = batch.marks_are lane low ∙ and_from (nat_lt (from + lane) (length list)) (is_member_in task.system.access register (entity_at entities lane)) (lt-ltb (from + lane) (length list) within) (ap (is_member_in task.system.access register) entity ∙ t.member) in
      (lane, (low, (mark, entity)))

  pub distinct-marked : AreOnce list → AreDistinctMarked marks entities
  distinct-marked once a b low high here there same =
      let x = marked-taken a low here in
      let y = marked-taken b high there in
      let equal : from + a ≡ from + b = once (from + a) (from + b) x.within y.within (ap (λ (e : Entity). e.index) (sym (marked-entity a low here)) ∙ same ∙ ap (λ (e : Entity). e.index) (marked-entity b high there)) in
      omega (arith, equal)

  pub one-each : AreOnce list → AreOneEach marks entities
  one-each once a b low high here there same = distinct-marked once a b low high here there (ap (λ (e : Entity). e.index) same)

  pub few-lanes : length marks ≤ lanes → marked_count marks ≤ length list - from
  few-lanes long = few-marked marks (length list - from) (λ lane is.
      let low = lane-within marks lane is in
      let t = marked-taken lane (omega (arith, low, long)) is in
      omega (arith, t.within))
    where
      lane-within : (ms : List Bool) (lane : ℕ) → is_marked ms lane ≡ true → lane < length ms
      lane-within [] lane is = absurd (cc)
      lane-within (m ∷ ms) zero is = omega arith
      lane-within (m ∷ ms) (suc lane) is = let rest = lane-within ms lane is in omega (arith, rest)

  -- where marked entities stand in written pools
  pub located : AreLocatedIn entities marks places (length task.system.access.read) register
  located at lane within low marked =
      let access = task.system.access in
      let place = length access.read + at in
      let fits : place < length (own_lent (length access.read) register) = omega (arith, within, own-count access register lent, own-sum access register lent) in
      ap (λ (pool : LentPool). place_of (entries.keys pool.storage.pairs) (entity_at entities lane)) (sym (written-at access register lent at))
      ∙ batch.found.located place fits lane low marked

  -- ---- what the body finds

  own-is : length (own_pools task.system.access) ≤ length columns → (lane : ℕ) → lane < lanes → IsTrue (is_marked marks lane) → own_at (own_pools task.system.access) columns lane ≡ rows_of_own task.system.access register (entity_at entities lane)
  own-is wide lane low marked =
      let access = task.system.access in
      ap (λ (ns : List ℕ). own_at ns columns lane) (sym (own-numbers access register lent))
      ∙ own-loaded (entity_at entities lane) (own_lent (length access.read) register) columns lane (omega (arith, wide, own-count access register lent))
      (λ at fits. batch.found.loaded at fits lane low marked)

  pub done-is : length (own_pools task.system.access) ≤ length columns → (lane : ℕ) → lane < lanes → IsTrue (is_marked marks lane)
      → done_at (scenery_of task register entities marks) task.system.statements columns lane ≡ done_in task register (entity_at entities lane)
  done-is wide lane low marked = ap (λ rows. body_done (setting_in task register (entity_at entities lane)) rows task.system.statements) (own-is wide lane low marked)

  -- ---- what it leaves

  module _ (distinct : IsTrue (are_distinct (own_pools task.system.access))) (wide : length (own_pools task.system.access) ≤ length columns) (after : List (List Row)) (long : length after ≡ length columns)
      (rows : (lane : ℕ) → lane < lanes → own_at (own_pools task.system.access) after lane ≡ (done_at (scenery_of task register entities marks) task.system.statements columns lane).rows) where
    row-now : (at lane : ℕ) → at < length register.writes → lane < lanes → IsTrue (is_marked marks lane)
        → row_at (slice_index_or after (length task.system.access.read + at) []) lane ≡ own_row (done_in task register (entity_at entities lane)).rows (pool_at register.writes at).number
    row-now at lane within low marked =
        let access = task.system.access in
        let place = length access.read + at in
        let fits : place < length (own_lent (length access.read) register) = omega (arith, within, own-count access register lent, own-sum access register lent) in
        let number : slice_get (own_pools access) place ≡ Some (pool_at register.writes at).number =
        ap (λ (ns : List ℕ). slice_get ns place) (sym (own-numbers access register lent))
        ∙ number-at (own_lent (length access.read) register) place fits
        ∙ ap (λ (pool : LentPool). Some pool.number) (written-at access register lent at) in
        sym (own_row-column (own_pools access) after lane place (pool_at register.writes at).number distinct number (omega (arith, within, wide, long, own-sum access register lent)))
        ∙ ap (λ own. own_row own (pool_at register.writes at).number) (rows lane low ∙ ap (λ (done : Done). done.rows) (done-is wide lane low marked))

    pub rewrites-batch : (new : Register) → AreStored entities marks after (length task.system.access.read) (length register.writes) register new → Rewrites task list from (from + lanes) register new
    rewrites-batch new stored = record {
      pools = stored.pools;
      taken = λ at place there t.
          let lane = taken-marked place t in
          ap (entries.get (rows_in (pool_at new.writes at))) (sym lane.1.1.1)
          ∙ stored.here at lane.0 there lane.1.0 lane.1.1.0
          ∙ ap Some (row-now at lane.0 there lane.1.0 lane.1.1.0)
          ∙ ap (λ (e : Entity). Some (own_row (done_in task register e).rows (pool_at register.writes at).number)) lane.1.1.1;
      others = λ at e free. stored.others at e (λ lane low marked same. free (from + lane) (marked-taken lane low marked) (sym (marked-entity lane low marked) ∙ same));
    }

  pub gives-batch : (wide : length (own_pools task.system.access) ≤ length columns) (old new : List Emission)
      → ((lane : ℕ) → lane < lanes → IsTrue (is_marked marks lane) → given_to (entity_at entities lane).index new ≡ given_to (entity_at entities lane).index old ++ emissions_at (scenery_of task register entities marks) task.system.statements columns lane)
      → ((index : ℕ) → ((lane : ℕ) → lane < lanes → IsTrue (is_marked marks lane) → (entity_at entities lane).index ≢ index) → given_to index new ≡ given_to index old)
      → Gives task list from (from + lanes) register old new
  gives-batch wide old new orders others = record {
    taken = λ place t.
        let lane = taken-marked place t in
        subst (λ (e : Entity). given_to e.index new ≡ given_to e.index old ++ beside e.index (done_in task register e).orders) lane.1.1.1
        (orders lane.0 lane.1.0 lane.1.1.0
        ∙ ap (λ (done : Done). given_to (entity_at entities lane.0).index old ++ beside (entity_at entities lane.0).index done.orders) (done-is wide lane.0 lane.1.0 lane.1.1.0));
    others = λ index free. others index (λ lane low marked same. free (from + lane) (marked-taken lane low marked) (ap (λ (e : Entity). e.index) (sym (marked-entity lane low marked)) ∙ same));
  }
