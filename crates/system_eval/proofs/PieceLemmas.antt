-- A walk in pieces: what two pieces of it do, one after the other, is what the whole does.
use Rattle.std.proofs.Common.{◌≡◌, ◌≢◌, ℕ, suc, ◌<◌, ◌≤◌, Bool, true, false, ◌&&◌, not, List, [], ◌∷◌, ◌++◌, map, length, take, drop, Some, refl, sym, ap, ap₂, ◌∙◌, arith}
use Rattle.std.specs.Prelude.{unwrap_or}
use Rattle.std.specs.List.{list_all, list_any}
use Rattle.std.proofs.lemmas.Bool.{ltb-true, ltb-false}
use Rattle.std.proofs.lemmas.List.{length-map}
use lib.Dec.{ltb}
use Rattle.entity_id.specs.declared.entity.Entity.{Entity}
use Rattle.entity_id.specs.FiniteMap as entries
use Rattle.world_model.specs.declared.access.Access.{Access}
use Rattle.world_model.specs.declared.component.Row.{Row}
use Rattle.world_model.specs.Components.{zero_row}
use Rattle.row_lang.specs.Bodies.{Done, body_done}
use Rattle.row_lang.specs.Values.{own_row}
use Rattle.system_api.specs.declared.lent.LentPool.{LentPool}
use Rattle.system_api.specs.Batches.{entity_at}
use Rattle.system_api.specs.Emissions.{Emission}
use Rattle.system_api.specs.Registers.{Register, pool_at, HasOtherRows, ChangesRows}
use Rattle.system_eval.specs.Lanes.{looked_at, given_to, beside}
use Rattle.system_eval.specs.Walks.{Task, rows_in, has_row, row_in, own_lent, excluded_from, is_member_in, done_in, IsTaken, Rewrites, Gives, AreOnce}
use Rattle.system_eval.proofs.KeyListLemmas.{contains-keys}

-- ---- what depends on the identifiers alone

-- lists of pools that look the same, pool by pool, are the same to whoever looks
pub map_by_place : {Y : Type 0} (f : LentPool → Y) (xs ys : List LentPool) → length xs ≡ length ys → ((place : ℕ) → place < length xs → f (pool_at xs place) ≡ f (pool_at ys place)) → map f xs ≡ map f ys
map_by_place f [] [] long same = refl
map_by_place f [] (y ∷ ys) long same = absurd (omega arith)
map_by_place f (x ∷ xs) [] long same = absurd (omega arith)
map_by_place f (x ∷ xs) (y ∷ ys) long same = ap₂ (λ a rest. a ∷ rest) (same 0 (omega arith)) (map_by_place f xs ys (omega arith) (λ place within. same (suc place) (omega arith)))

pub as_many : (old new : Register) → ChangesRows old new → length new.writes ≡ length old.writes
as_many old new changes = sym (length-map new.writes (λ (pool : LentPool). pool.number)) ∙ ap length changes.numbers ∙ length-map old.writes (λ (pool : LentPool). pool.number)

pub has_row-same : (entity : Entity) (old new : LentPool) → HasOtherRows old new → has_row entity new ≡ has_row entity old
has_row-same entity old new other = contains-keys new.storage.pairs old.storage.pairs entity other.identifiers

all-map : (f : LentPool → Bool) (xs : List LentPool) → list_all f xs ≡ list_all (λ b. b) (map f xs)
all-map f [] = refl
all-map f (x ∷ xs) = ap (λ b. f x && b) (all-map f xs)

map-both : {Y : Type 0} (f : LentPool → Y) (xs ys : List LentPool) → map f (xs ++ ys) ≡ map f xs ++ map f ys
map-both f [] ys = refl
map-both f (x ∷ xs) ys = ap (λ rest. f x ∷ rest) (map-both f xs ys)

-- whoever looks at own pools sees the same where the written ones look the same
pub own-same : {Y : Type 0} (f : LentPool → Y) (count : ℕ) (old new : Register) → ChangesRows old new → ((place : ℕ) → place < length old.writes → f (pool_at new.writes place) ≡ f (pool_at old.writes place))
    → map f (own_lent count new) ≡ map f (own_lent count old)
own-same f count old new changes same =
    map-both f (take count new.reads) new.writes
    ∙ ap₂ (λ a b. a ++ b) (ap (λ reads. map f (take count reads)) changes.reads) (map_by_place f new.writes old.writes (as_many old new changes) (λ place within. same place (omega (arith, within, as_many old new changes))))
    ∙ sym (map-both f (take count old.reads) old.writes)

pub member-same : (access : Access) (old new : Register) (entity : Entity) → ChangesRows old new → is_member_in access new entity ≡ is_member_in access old entity
member-same access old new entity changes =
    let count = length access.read in
    ap₂ (λ (a b : Bool). a && not b)
    (all-map (has_row entity) (own_lent count new)
    ∙ ap (λ bs. list_all (λ (b : Bool). b) bs) (own-same (has_row entity) count old new changes (λ place within. has_row-same entity (pool_at old.writes place) (pool_at new.writes place) (changes.rows place)))
    ∙ sym (all-map (has_row entity) (own_lent count old)))
    (ap (λ reads. list_any (has_row entity) (drop (excluded_from access) reads)) changes.reads)

-- a body does the same for an entity whose rows are the same
pub done-same : (task : Task) (old new : Register) (entity : Entity) → ChangesRows old new
    → ((at : ℕ) → entries.get (rows_in (pool_at new.writes at)) entity ≡ entries.get (rows_in (pool_at old.writes at)) entity) → done_in task new entity ≡ done_in task old entity
done-same task old new entity changes same =
    ap₂ (λ looked rows. body_done (record { profile = task.profile; tick = task.tick; entity = entity; looked_at = looked }) rows task.system.statements)
    (ap (looked_at task.system.access) changes.reads)
    (own-same (λ (pool : LentPool). (pool.number, row_in entity pool)) (length task.system.access.read) old new changes
    (λ place within. ap₂ (λ (n : ℕ) (row : Row). (n, row)) (changes.rows place).number (ap (λ o. unwrap_or o zero_row) (same place))))

-- ---- changes, one after another

pub other_rows-both : (a b c : LentPool) → HasOtherRows a b → HasOtherRows b c → HasOtherRows a c
other_rows-both a b c first second = record {
  number = second.number ∙ first.number;
  identifiers = second.identifiers ∙ first.identifiers;
  spare = second.spare ∙ first.spare;
  bound = second.bound ∙ first.bound;
}

pub changes-both : (a b c : Register) → ChangesRows a b → ChangesRows b c → ChangesRows a c
changes-both a b c first second = record {
  reads = second.reads ∙ first.reads;
  prefix = second.prefix ∙ first.prefix;
  numbers = second.numbers ∙ first.numbers;
  rows = λ place. other_rows-both (pool_at a.writes place) (pool_at b.writes place) (pool_at c.writes place) (first.rows place) (second.rows place);
}

pub changes-none : (a : Register) → ChangesRows a a
changes-none a = record { reads = refl; prefix = refl; numbers = refl; rows = λ place. record { number = refl; identifiers = refl; spare = refl; bound = refl } }

-- ---- two pieces

module _ (task : Task) (list : List Entity) (once : AreOnce list) (from mid to : ℕ) (up : from ≤ mid) (on : mid ≤ to) (r0 r1 r2 : Register) (changes : ChangesRows r0 r1) where
  same_member : (place : ℕ) → is_member_in task.system.access r1 (entity_at list place) ≡ is_member_in task.system.access r0 (entity_at list place)
  same_member place = member-same task.system.access r0 r1 (entity_at list place) changes

  -- a place of the first piece is one of the whole
  taken-first : (place : ℕ) → IsTaken task list from mid r0 place → IsTaken task list from to r0 place
  taken-first place t = record { after = t.after; before = omega (arith, t.before, on); within = t.within; member = t.member }

  -- and one of the second
  taken-second : (place : ℕ) → IsTaken task list mid to r1 place → IsTaken task list from to r0 place
  taken-second place t = record { after = omega (arith, t.after, up); before = t.before; within = t.within; member = sym (same_member place) ∙ t.member }

  in-first : (place : ℕ) → IsTaken task list from to r0 place → place < mid → IsTaken task list from mid r0 place
  in-first place t low = record { after = t.after; before = low; within = t.within; member = t.member }

  in-second : (place : ℕ) → IsTaken task list from to r0 place → mid ≤ place → IsTaken task list mid to r1 place
  in-second place t high = record { after = high; before = t.before; within = t.within; member = same_member place ∙ t.member }

  -- identifiers of the two pieces differ
  apart-after : (place : ℕ) → place < mid → place < length list → (other : ℕ) → IsTaken task list mid to r1 other → (entity_at list other).index ≢ (entity_at list place).index
  apart-after place low within other t same = let e : other ≡ place = once other place t.within within same in omega (arith, e, low, t.after)

  apart-before : (place : ℕ) → mid ≤ place → place < length list → (other : ℕ) → IsTaken task list from mid r0 other → (entity_at list other).index ≢ (entity_at list place).index
  apart-before place high within other t same = let e : other ≡ place = once other place t.within within same in omega (arith, e, high, t.before)

  done-later : Rewrites task list from mid r0 r1 → (place : ℕ) → mid ≤ place → place < length list → done_in task r1 (entity_at list place) ≡ done_in task r0 (entity_at list place)
  done-later first place high within =
      done-same task r0 r1 (entity_at list place) changes (λ at. first.others at (entity_at list place) (λ other t same. apart-before place high within other t (ap (λ (e : Entity). e.index) same)))

  rows-case : (b : Bool) (at place : ℕ) → ltb place mid ≡ b → Rewrites task list from mid r0 r1 → Rewrites task list mid to r1 r2 → at < length r0.writes → IsTaken task list from to r0 place
      → entries.get (rows_in (pool_at r2.writes at)) (entity_at list place) ≡ Some (own_row (done_in task r0 (entity_at list place)).rows (pool_at r0.writes at).number)
  rows-case true at place is first second there t =
      let low : place < mid = ltb-true place mid is in
      second.others at (entity_at list place) (λ other u same. apart-after place low t.within other u (ap (λ (e : Entity). e.index) same))
      ∙ first.taken at place there (in-first place t low)
  rows-case false at place is first second there t =
      let high : mid ≤ place = ltb-false place mid is in
      second.taken at place (omega (arith, there, as_many r0 r1 changes)) (in-second place t high)
      ∙ ap₂ (λ (done : Done) (n : ℕ). Some (own_row done.rows n)) (done-later first place high t.within) (changes.rows at).number

  pub rewrites-both : Rewrites task list from mid r0 r1 → Rewrites task list mid to r1 r2 → Rewrites task list from to r0 r2
  rewrites-both first second = record {
    pools = changes-both r0 r1 r2 first.pools second.pools;
    taken = λ at place there t. rows-case (ltb place mid) at place refl first second there t;
    others = λ at entity free. second.others at entity (λ place t. free place (taken-second place t)) ∙ first.others at entity (λ place t. free place (taken-first place t));
  }

  gives-case : (b : Bool) (place : ℕ) (g0 g1 g2 : List Emission) → ltb place mid ≡ b → Rewrites task list from mid r0 r1 → Gives task list from mid r0 g0 g1 → Gives task list mid to r1 g1 g2 → IsTaken task list from to r0 place
      → given_to (entity_at list place).index g2 ≡ given_to (entity_at list place).index g0 ++ beside (entity_at list place).index (done_in task r0 (entity_at list place)).orders
  gives-case true place g0 g1 g2 is rows first second t =
      let low : place < mid = ltb-true place mid is in
      second.others (entity_at list place).index (apart-after place low t.within) ∙ first.taken place (in-first place t low)
  gives-case false place g0 g1 g2 is rows first second t =
      let high : mid ≤ place = ltb-false place mid is in
      second.taken place (in-second place t high)
      ∙ ap₂ (λ (before : List Emission) (done : Done). before ++ beside (entity_at list place).index done.orders) (first.others (entity_at list place).index (apart-before place high t.within)) (done-later rows place high t.within)

  pub gives-both : (g0 g1 g2 : List Emission) → Rewrites task list from mid r0 r1 → Gives task list from mid r0 g0 g1 → Gives task list mid to r1 g1 g2 → Gives task list from to r0 g0 g2
  gives-both g0 g1 g2 rows first second = record {
    taken = λ place t. gives-case (ltb place mid) place g0 g1 g2 refl rows first second t;
    others = λ index free. second.others index (λ place t. free place (taken-second place t)) ∙ first.others index (λ place t. free place (taken-first place t));
  }

-- nothing at all is a piece
pub rewrites-none : (task : Task) (list : List Entity) (at : ℕ) (r : Register) → Rewrites task list at at r r
rewrites-none task list at r = record {
  pools = changes-none r;
  taken = λ place k there t. absurd (omega (arith, t.after, t.before));
  others = λ place entity free. refl;
}

pub gives-none : (task : Task) (list : List Entity) (at : ℕ) (r : Register) (g : List Emission) → Gives task list at at r g g
gives-none task list at r g = record {
  taken = λ place t. absurd (omega (arith, t.after, t.before));
  others = λ index free. refl;
}

-- a walk that goes past the end of its list is one up to its end
module _ (task : Task) (list : List Entity) (from to end : ℕ) (whole : length list ≤ end) (past : end ≤ to) (r : Register) where
  taken-end : (place : ℕ) → IsTaken task list from end r place → IsTaken task list from to r place
  taken-end place t = record { after = t.after; before = omega (arith, t.before, past); within = t.within; member = t.member }

  taken-past : (place : ℕ) → IsTaken task list from to r place → IsTaken task list from end r place
  taken-past place t = record { after = t.after; before = omega (arith, t.within, whole); within = t.within; member = t.member }

  pub rewrites-end : (new : Register) → Rewrites task list from to r new → Rewrites task list from end r new
  rewrites-end new walk = record {
    pools = walk.pools;
    taken = λ at place there t. walk.taken at place there (taken-end place t);
    others = λ at entity free. walk.others at entity (λ place t. free place (taken-past place t));
  }

  pub gives-end : (old new : List Emission) → Gives task list from to r old new → Gives task list from end r old new
  gives-end old new walk = record {
    taken = λ place t. walk.taken place (taken-end place t);
    others = λ index free. walk.others index (λ place t. free place (taken-past place t));
  }
