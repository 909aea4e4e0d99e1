-- After a walk that comes to each of a system's entities, the written pools show what the system leaves.
use Rattle.std.proofs.Common.{◌≡◌, ℕ, zero, suc, ◌+◌, ◌<◌, ◌≤◌, ◌==◌, Bool, true, false, cond, ◌||◌, List, [], ◌∷◌, map, length, Option, Some, None, refl, sym, ap, ap₂, ◌∙◌, arith, slice_get, eq-eqb, if◌then◌else◌}
use Rattle.std.specs.Map.{lookup}
use Rattle.std.specs.Option.{option_map}
use Rattle.std.specs.List.{AllByRecursion}
use Rattle.std.proofs.lemmas.Bool.{false≢true}
use Rattle.entity_id.specs.declared.entity.Entity.{Entity}
use Rattle.entity_id.specs.FiniteMap as entries
use Rattle.entity_id.specs.Identifiers.{is_same}
use Rattle.entity_id.proofs.ListLemmas.{ascending-map}
use Rattle.entity_id.proofs.MapLemmas.{same_true, equal_lookups}
use Rattle.entity_id.proofs.PackedMapLemmas.{ascending-map_of}
use Rattle.world_model.specs.declared.component.Row.{Row}
use Rattle.world_model.specs.Frames.{is_member}
use Rattle.world_model.specs.Groups.{has_pool}
use Rattle.world_model.specs.Ticks.{Maps}
use Rattle.row_lang.specs.Bodies.{Done}
use Rattle.row_lang.specs.Effects.{changed_from, done_for, rewritten, system_effect}
use Rattle.row_lang.specs.Values.{own_row}
use Rattle.row_lang.proofs.FrameLemmas.{slice_get-changed_from}
use Rattle.system_api.specs.declared.lent.LentPool.{LentPool}
use Rattle.system_api.specs.Batches.{entity_at}
use Rattle.system_api.specs.Registers.{Register, numbers, pool_at, StandsFor, Shows}
use Rattle.system_api.specs.Running.{AreLentFor}
use Rattle.system_eval.specs.Choices.{HasAllMembers}
use Rattle.system_eval.specs.Walks.{Task, rows_in, is_member_in, done_in, IsTaken, Rewrites}
use Rattle.system_eval.proofs.CoverLemmas.{in-written, row-of}
use Rattle.system_eval.proofs.PieceLemmas.{as_many}
use Rattle.system_eval.proofs.ToldLemmas.{told-member, told-done}

-- ---- places of a list

pub all-at : (P : LentPool → Type 0) (pools : List LentPool) → ((at : ℕ) → at < length pools → P (pool_at pools at)) → AllByRecursion P pools
all-at P [] each = tt
all-at P (p ∷ pools) each = (each 0 (omega arith), all-at P pools (λ at within. each (suc at) (omega arith)))

pub at-all : (P : LentPool → Type 0) (pools : List LentPool) (at : ℕ) → AllByRecursion P pools → at < length pools → P (pool_at pools at)
at-all P [] at all within = absurd (omega arith)
at-all P (p ∷ pools) zero all within = all.0
at-all P (p ∷ pools) (suc at) all within = at-all P pools at all.1 (omega arith)

named-step : (b c : Bool) → c ≡ true → (b || c) ≡ true
named-step true c is = refl
named-step false c is = is

pub named-here : (b c : Bool) → b ≡ true → (b || c) ≡ true
named-here true c is = refl
named-here false c is = absurd (false≢true is)

pub number-named : (pools : List LentPool) (at : ℕ) → at < length pools → has_pool (numbers pools) (pool_at pools at).number ≡ true
number-named [] at within = absurd (omega arith)
number-named (p ∷ pools) zero within = named-here (p.number == p.number) (has_pool (numbers pools) p.number) (eq-eqb p.number p.number refl)
number-named (p ∷ pools) (suc at) within = named-step (p.number == (pool_at pools at).number) (has_pool (numbers pools) (pool_at pools at).number) (number-named pools at (omega arith))

-- ---- rows changed by their identifiers

module _ (test : Entity → Bool) (now : Entity → Row) where
  abbrev change_row : Entity × Row → Entity × Row
  change_row entry = (entry.0, if test entry.0 then now entry.0 else entry.1)

  -- an identifier finds its new row where it passes the test, and else the one that it had
  get-changed : (rows : List (Entity × Row)) (e : Entity) → entries.get (map change_row rows) e ≡ option_map (λ row. if test e then now e else row) (entries.get rows e)
  get-changed [] e = refl
  get-changed (entry ∷ rows) e =
      elim (is_same e entry.0) as (λ b. is_same e entry.0 ≡ b → cond b (Some (if test entry.0 then now entry.0 else entry.1)) (lookup (is_same e) (map change_row rows)) ≡ option_map (λ row. if test e then now e else row) (cond b (Some entry.1) (lookup (is_same e) rows))) [
        | true ↦ λ same. ap (λ it. Some (if test it then now it else entry.1)) (sym (same_true e entry.0 same))
        | false ↦ λ _. get-changed rows e
      ] refl

  ascending-changed : (rows : List (Entity × Row)) → entries.IsAscending rows → entries.IsAscending (map change_row rows)
  ascending-changed rows up = ascending-map (λ (entry : Entity × Row). entry.0.index) change_row rows up

-- a choice of rows, where something was found and where nothing changes
chosen-new : (o : Option Row) (b : Bool) (new x : Row) → b ≡ true → o ≡ Some x → option_map (λ row. if b then new else row) o ≡ Some new
chosen-new o b new x passes is = ap₂ (λ (it : Option Row) (c : Bool). option_map (λ row. if c then new else row) it) is passes

chosen-old : (o : Option Row) (b : Bool) (new : Row) → b ≡ false → option_map (λ row. if b then new else row) o ≡ o
chosen-old None b new fails = refl
chosen-old (Some x) b new fails = ap (λ (c : Bool). Some (if c then new else x)) fails

-- ---- the whole walk

-- a walk over this list comes to each of a system's entities
abbrev pub Covers : Task → Maps → List Entity → Type 0
Covers task maps list = HasAllMembers task.system.access maps list

module _ (task : Task) (old new : Register) (lent : AreLentFor task.system.access old) (maps : Maps) (shows : Shows old maps)
    (list : List Entity) (to : ℕ) (whole : length list ≤ to) (covers : Covers task maps list) where
  abbrev row_now : ℕ → Entity → Row
  row_now pool e = own_row (done_for task.profile task.system task.tick maps e).rows pool

  taken-of : (e : Entity) → is_member task.system.access maps e ≡ true → (k : ℕ) × (IsTaken task list 0 to old k × (entity_at list k ≡ e))
  taken-of e member =
      let at = covers e member in (
        at.0,
        (
          record {
            after = omega arith;
            before = omega (arith, at.1.0, whole);
            within = at.1.0;
            member = ap (is_member_in task.system.access old) at.1.1 ∙ told-member task.system.access old lent maps shows e ∙ member;
          },
          at.1.1,
        ),
      )

  found-case : (b : Bool) (walk : Rewrites task list 0 to old new) (at : ℕ) → at < length old.writes → (e : Entity) → is_member task.system.access maps e ≡ b
      → entries.get (rows_in (pool_at new.writes at)) e ≡ option_map (λ row. if is_member task.system.access maps e then row_now (pool_at old.writes at).number e else row) (entries.get (rows_in (pool_at old.writes at)) e)
  found-case true walk at there e is =
      let t = taken-of e is in
      let before = row-of e (pool_at old.writes at) (in-written task.system.access old e (told-member task.system.access old lent maps shows e ∙ is) at there) in
      ap (entries.get (rows_in (pool_at new.writes at))) (sym t.1.1)
      ∙ walk.taken at t.0 there t.1.0
      ∙ ap (λ (it : Entity). Some (own_row (done_in task old it).rows (pool_at old.writes at).number)) t.1.1
      ∙ ap (λ (done : Done). Some (own_row done.rows (pool_at old.writes at).number)) (told-done task old maps lent shows e)
      ∙ sym (chosen-new (entries.get (rows_in (pool_at old.writes at)) e) (is_member task.system.access maps e) (row_now (pool_at old.writes at).number e) before.0 is before.1)
  found-case false walk at there e is =
      walk.others at e (λ k t same. false≢true (sym is ∙ sym (told-member task.system.access old lent maps shows e) ∙ ap (is_member_in task.system.access old) (sym same) ∙ t.member))
      ∙ sym (chosen-old (entries.get (rows_in (pool_at old.writes at)) e) (is_member task.system.access maps e) (row_now (pool_at old.writes at).number e) is)

  -- the map of a written pool is the rewritten one
  map-now : (walk : Rewrites task list 0 to old new) (at : ℕ) → at < length old.writes → rewritten task.profile task.system task.tick maps (pool_at old.writes at).number (rows_in (pool_at old.writes at)) ≡ rows_in (pool_at new.writes at)
  map-now walk at there =
      let test = is_member task.system.access maps in
      let now = row_now (pool_at old.writes at).number in
      equal_lookups (rewritten task.profile task.system task.tick maps (pool_at old.writes at).number (rows_in (pool_at old.writes at))) (rows_in (pool_at new.writes at))
      (ascending-changed test now (rows_in (pool_at old.writes at)) (ascending-map_of (pool_at old.writes at).storage.pairs))
      (ascending-map_of (pool_at new.writes at).storage.pairs)
      (λ e. get-changed test now (rows_in (pool_at old.writes at)) e ∙ sym (found-case (is_member task.system.access maps e) walk at there e refl))

  abbrev change_pool : ℕ → List (Entity × Row) → List (Entity × Row)
  change_pool pool rows = if has_pool task.system.access.write pool then rewritten task.profile task.system task.tick maps pool rows else rows

  stands-now : (walk : Rewrites task list 0 to old new) (at : ℕ) → at < length old.writes → StandsFor (system_effect task.profile task.system task.tick maps).maps (pool_at new.writes at)
  stands-now walk at there =
      let pool = (pool_at old.writes at).number in
      let rows = rows_in (pool_at old.writes at) in
      let none : 0 + pool ≡ pool = omega arith in
      let named : has_pool task.system.access.write pool ≡ true = ap (λ ns. has_pool ns pool) (sym lent.writes) ∙ number-named old.writes at there in
      ap (slice_get (changed_from 0 change_pool maps)) (walk.pools.rows at).number
      ∙ slice_get-changed_from change_pool 0 maps pool
      ∙ ap (λ (o : Option (List (Entity × Row))). option_map (change_pool (0 + pool)) o) (at-all (StandsFor maps) old.writes at shows.writes there)
      ∙ ap (λ (n : ℕ). Some (change_pool n rows)) none
      ∙ ap (λ (b : Bool). Some (if b then rewritten task.profile task.system task.tick maps pool rows else rows)) named
      ∙ ap Some (map-now walk at there)

  pub rows-now : (walk : Rewrites task list 0 to old new) → AllByRecursion (StandsFor (system_effect task.profile task.system task.tick maps).maps) new.writes
  rows-now walk = all-at (StandsFor (system_effect task.profile task.system task.tick maps).maps) new.writes (λ at within. stands-now walk at (omega (arith, within, as_many old new walk.pools)))
