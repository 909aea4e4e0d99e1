-- One system on the pools of its lists.
use Rattle.std.proofs.Common.{◌≡◌, ℕ, true, false, List, [], ◌∷◌, ◌++◌, map, length, slice_get, refl, sym, ap, ap₂, ◌∙◌, subst}
use Rattle.std.specs.List.{AllByRecursion}
use Rattle.std.proofs.lemmas.List.{length-map}
use Rattle.entity_id.specs.declared.entity.Entity.{Entity}
use Rattle.entity_id.specs.FiniteMap as entries
use Rattle.storage.specs.Stored.{Stored}
use Rattle.world_model.specs.declared.access.Access.{Access}
use Rattle.world_model.specs.declared.component.Row.{Row}
use Rattle.world_model.specs.Frames.{IsLawfulAccess}
use Rattle.world_model.specs.Groups.{are_declared, are_distinct, has_pool}
use Rattle.world_model.specs.Ticks.{Maps}
use Rattle.system_api.specs.Registers.{Register, Shows, StandsFor, ChangesRows, numbers}
use Rattle.system_api.specs.Running.{AreLentFor, read_pools, sizes_of}
use Rattle.registry.specs.Layout.{maps_of}
use Rattle.registry.specs.Lending.{shapes_of}
use Rattle.tick_runner.specs.Putting.{put_back, IsPoolOf}
use Rattle.tick_runner.proofs.ListLemmas.{not_true, clash, declared_left, declared_right, distinct_left, apart_lists}
use Rattle.tick_runner.proofs.PutLemmas.{put_there, read_there, shown, maps_after, shapes_back}

-- pools of a system's lists, lent out of a list: those that are written are taken out of it
pub record AreTaken (access : Access) (register : Register) (pools old : List (Stored Row)) : Type 0 where
  pub lawful : IsLawfulAccess (length old) access
  pub count : length pools ≡ length old
  pub back : put_back register.writes pools ≡ old
  pub lent : AreLentFor access register
  pub reads : AllByRecursion (IsPoolOf pools) register.reads

-- so it is where the calls that lend them say so
pub taken_by : {lists found : Access} {list : List ℕ} (before register : Register) {seen : List (Stored Row)} (pools old : List (Stored Row))
    → IsLawfulAccess (length old) lists → found ≡ lists → list ≡ found.write → length pools ≡ length old → numbers before.writes ≡ list → put_back before.writes pools ≡ old
    → seen ≡ pools → numbers register.reads ≡ read_pools found → AllByRecursion (IsPoolOf seen) register.reads → register.writes ≡ before.writes → AreTaken lists register pools old
taken_by before register pools old lawful found list count numbered back seen numbered_reads reads writes = record {
  lawful = lawful;
  count = count;
  back = ap (λ ws. put_back ws pools) writes ∙ back;
  lent = record { reads = numbered_reads ∙ ap read_pools found; writes = ap numbers writes ∙ numbered ∙ list ∙ ap (λ (access : Access). access.write) found };
  reads = subst (λ (ps : List (Stored Row)). AllByRecursion (IsPoolOf ps) register.reads) seen reads;
}

module _ (access : Access) (register : Register) (pools old : List (Stored Row)) (taken : AreTaken access register pools old) where
  pub written_distinct : are_distinct (numbers register.writes) ≡ true
  written_distinct = ap are_distinct taken.lent.writes ∙ distinct_left access.write access.look taken.lawful.looked_at

  pub written_declared : are_declared (length pools) (numbers register.writes) ≡ true
  written_declared =
      let own = declared_left (length old) (access.read ++ access.write) access.look (declared_left (length old) ((access.read ++ access.write) ++ access.look) access.without taken.lawful.declared) in
      ap (are_declared (length pools)) taken.lent.writes ∙ ap (λ n. are_declared n access.write) taken.count ∙ declared_right (length old) access.read access.write own

  -- no pool is lent for both
  apart : (n : ℕ) → has_pool (numbers register.reads) n ≡ true → has_pool (numbers register.writes) n ≡ false
  apart n named = not_true (has_pool (numbers register.writes) n) (λ written. clash (has_pool (numbers register.reads) n) named
      (ap (λ ns. has_pool ns n) taken.lent.reads ∙ apart_lists access.read access.write access.look access.without taken.lawful.apart taken.lawful.looked_at n (sym (ap (λ ns. has_pool ns n) taken.lent.writes) ∙ written)))

  -- all of them are pools of the list
  pub stand_in : AllByRecursion (IsPoolOf old) register.writes × AllByRecursion (IsPoolOf old) register.reads
  stand_in = (
    subst (λ (ps : List (Stored Row)). AllByRecursion (IsPoolOf ps) register.writes) taken.back (put_there register.writes pools written_distinct written_declared),
    subst (λ (ps : List (Stored Row)). AllByRecursion (IsPoolOf ps) register.reads) taken.back (read_there register.reads register.writes pools apart taken.reads),
  )

  -- they show its maps
  pub shows : Shows register (maps_of old)
  shows = record { reads = shown old register.reads stand_in.1; writes = shown old register.writes stand_in.0 }

  module _ (later : Register) (changed : ChangesRows register later) where
    -- given back with other rows, they have the maps of an effect that leaves all other components
    pub rows_back : (maps : Maps) → AllByRecursion (StandsFor maps) later.writes → ((n : ℕ) → has_pool access.write n ≡ false → slice_get maps n ≡ slice_get (maps_of old) n)
        → maps_of (put_back later.writes pools) ≡ maps
    rows_back maps stand frame = maps_after register.writes later.writes pools old maps taken.back changed.numbers written_distinct written_declared stand
        (λ n absent. frame n (sym (ap (λ ns. has_pool ns n) taken.lent.writes) ∙ absent))

    -- and nothing but rows has changed
    pub shapes_kept : shapes_of (put_back later.writes pools) ≡ shapes_of old
    shapes_kept = shapes_back register.writes later.writes pools changed.numbers changed.rows ∙ ap shapes_of taken.back

sizes_by_keys : (maps : Maps) → sizes_of maps ≡ map length (map entries.keys maps)
sizes_by_keys [] = refl
sizes_by_keys (rows ∷ maps) = ap₂ (λ (n : ℕ) (ns : List ℕ). n ∷ ns) (sym (length-map rows (λ (entry : Entity × Row). entry.0))) (sizes_by_keys maps)

-- sizes are told by identifiers
pub same_sizes : (a b : Maps) → map entries.keys a ≡ map entries.keys b → sizes_of a ≡ sizes_of b
same_sizes a b same = sizes_by_keys a ∙ ap (map length) same ∙ sym (sizes_by_keys b)
