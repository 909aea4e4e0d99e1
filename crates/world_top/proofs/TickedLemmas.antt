-- Documents after ticks of their systems.
use Rattle.std.proofs.Common.{◌≡◌, ◌↔◌, ℕ, zero, suc, ◌+◌, ◌^◌, ◌<◌, ◌≤◌, List, [], ◌∷◌, map, refl, sym, ap, subst, ◌∙◌, arith}
use Rattle.std.specs.List.{AllByRecursion}
use Rattle.entity_id.specs.declared.entity.Profile.{Profile}
use Rattle.row_lang.specs.Effects.{system_effect}
use Rattle.row_lang.specs.Naming.{AreNamedDecls}
use Rattle.row_lang.specs.Systems.{System, IsSystem}
use Rattle.row_lang.proofs.CheckedLemmas.{fit_system}
use Rattle.row_lang.proofs.FrameLemmas.{changes_only_its_rows}
use Rattle.row_lang.proofs.KeepsLemmas.{fit_keeps_lawful}
use Rattle.world_model.specs.declared.component.Decl.{Decl}
use Rattle.world_model.specs.declared.deferred.Deferred.{Deferred}
use Rattle.world_model.specs.declared.world.World.{World}
use Rattle.world_model.specs.Orders.{IsFitting, beginning, apply_all}
use Rattle.world_model.specs.Ticks.{System as AnySystem, orders_of, world_after_orders, world_after_systems, world_after_tick, world_after_ticks}
use Rattle.world_model.specs.Worlds.{IsLawful}
use Rattle.world_model.proofs.OrderLaw.{orders_same, orders_groups}
use Rattle.world_model.proofs.TickLemmas.{tick_lawful, ticks_number, ticks-add}
use Rattle.world_text.specs.declared.document.Document.{Document}
use Rattle.world_text.specs.Documents.{IsDocument, IsLawfulDocument, AreLawfulSystems, HasAscendingLists, text}
use Rattle.world_text.specs.Formats.{tick_limit, version_1}
use Rattle.world_text.proofs.LawfulLemmas.{document_is_lawful, version_1_is_format}
use Rattle.world_text.proofs.PrintedLemmas.{printed_is_document}
use Rattle.world_text.proofs.UniqueLemmas.{one_document}
use Rattle.world_top.specs.Output.{IsRan}
use Rattle.world_top.specs.Ticking.{effects_in, document_after_ticks}

-- ---- what stays

-- the same profile, components and groups
pub record Keeps (w v : World) : Type 0 where
  pub profile : v.profile ≡ w.profile
  pub decls : v.decls ≡ w.decls
  pub groups : v.groups ≡ w.groups

keeps_both : {w v u : World} → Keeps w v → Keeps v u → Keeps w u
keeps_both one next = record { profile = next.profile ∙ one.profile; decls = next.decls ∙ one.decls; groups = next.groups ∙ one.groups }

lists_keep : (limit : ℕ) (w : World) (lists : List (List Deferred)) → Keeps w (world_after_orders limit w lists)
lists_keep limit w [] = record { profile = refl; decls = refl; groups = refl }
lists_keep limit w (orders ∷ lists) =
    let same = orders_same limit (beginning w) orders in
    let one : Keeps w (apply_all limit (beginning w) orders).world = record { profile = same.profile; decls = same.decls; groups = orders_groups limit (beginning w) orders } in
    keeps_both one (lists_keep limit (apply_all limit (beginning w) orders).world lists)

tick_keeps : (limit : ℕ) (systems : List AnySystem) (w : World) → Keeps w (world_after_tick limit systems w)
tick_keeps limit systems w =
    let kept = lists_keep limit (world_after_systems systems w) (orders_of systems w.tick w.pools) in
    record { profile = kept.profile; decls = kept.decls; groups = kept.groups }

pub ticks_keep : (limit : ℕ) (systems : List AnySystem) (n : ℕ) (w : World) → Keeps w (world_after_ticks limit systems n w)
ticks_keep limit systems zero w = record { profile = refl; decls = refl; groups = refl }
ticks_keep limit systems (suc n) w = keeps_both (tick_keeps limit systems w) (ticks_keep limit systems n (world_after_tick limit systems w))

-- ---- lawful worlds

-- a lawful world of this profile and these components, whose tick number a system may be told
record IsReady (limit : ℕ) (profile : Profile) (decls : List Decl) (w : World) : Type 0 where
  pub lawful : IsLawful limit w
  pub profile_is : w.profile ≡ profile
  pub decls_are : w.decls ≡ decls
  pub low : w.tick < 2 ^ 63

module _ (limit : ℕ) (profile : Profile) (decls : List Decl) where
  one_ready : (w : World) (system : System) → IsSystem decls system → IsReady limit profile decls w → IsReady limit profile decls (record w { pools = (system_effect profile system w.tick w.pools).maps })
  one_ready w system is ready = record {
    lawful = fit_keeps_lawful profile decls system.access (system_effect profile system) (fit_system profile decls system is) (changes_only_its_rows profile system) limit w ready.lawful ready.profile_is ready.decls_are ready.low;
    profile_is = ready.profile_is;
    decls_are = ready.decls_are;
    low = ready.low;
  }

  systems_lawful : (w : World) (systems : List System) → AllByRecursion (IsSystem decls) systems → IsReady limit profile decls w → IsLawful limit (world_after_systems (map (system_effect profile) systems) w)
  systems_lawful w [] each ready = ready.lawful
  systems_lawful w (system ∷ systems) each ready =
      systems_lawful (record w { pools = (system_effect profile system w.tick w.pools).maps }) systems each.1 (one_ready w system each.0 ready)

  orders_fit : (w : World) (systems : List System) → AllByRecursion (IsSystem decls) systems → IsReady limit profile decls w
      → AllByRecursion (AllByRecursion (IsFitting profile decls)) (orders_of (map (system_effect profile) systems) w.tick w.pools)
  orders_fit w [] each ready = tt
  orders_fit w (system ∷ systems) each ready = (
    (fit_system profile decls system each.0).orders w (record { limit = limit; lawful = ready.lawful; profile_is = ready.profile_is; decls_are = ready.decls_are; tick = ready.low }),
    orders_fit (record w { pools = (system_effect profile system w.tick w.pools).maps }) systems each.1 (one_ready w system each.0 ready),
  )

  module _ (systems : List System) (each : AllByRecursion (IsSystem decls) systems) where
    tick_stays_lawful : (w : World) → IsReady limit profile decls w → IsLawful limit (world_after_tick limit (map (system_effect profile) systems) w)
    tick_stays_lawful w ready =
        let fit = orders_fit w systems each ready in
        let fit_there = subst (λ (p : Profile). AllByRecursion (AllByRecursion (IsFitting p w.decls)) (orders_of (map (system_effect profile) systems) w.tick w.pools)) (sym ready.profile_is)
        (subst (λ (ds : List Decl). AllByRecursion (AllByRecursion (IsFitting profile ds)) (orders_of (map (system_effect profile) systems) w.tick w.pools)) (sym ready.decls_are) fit) in
        tick_lawful limit (map (system_effect profile) systems) w (systems_lawful w systems each ready) fit_there

    ticks_stay_lawful : (n : ℕ) (w : World) → w.tick + n < 2 ^ 63 → IsReady limit profile decls w → IsLawful limit (world_after_ticks limit (map (system_effect profile) systems) n w)
    ticks_stay_lawful zero w low ready = ready.lawful
    ticks_stay_lawful (suc n) w low ready =
        let after : World = world_after_tick limit (map (system_effect profile) systems) w in
        let number : after.tick ≡ w.tick + 1 = ticks_number limit (map (system_effect profile) systems) 1 w in
        let kept : Keeps w after = tick_keeps limit (map (system_effect profile) systems) w in
        ticks_stay_lawful n after (omega (arith, number, low)) (record {
          lawful = tick_stays_lawful w ready;
          profile_is = kept.profile ∙ ready.profile_is;
          decls_are = kept.decls ∙ ready.decls_are;
          low = omega (arith, number, low);
        })

-- ---- documents

-- the document that ticks leave is lawful
pub ticked_is_lawful : (ticks : ℕ) (document : Document) → IsLawfulDocument document → document.world.tick + ticks ≤ tick_limit → IsLawfulDocument (document_after_ticks ticks document)
ticked_is_lawful ticks document lawful within =
    let w = document.world in
    let kept : Keeps w (document_after_ticks ticks document).world = ticks_keep version_1.slot_limit (effects_in document) ticks w in
    let number : (document_after_ticks ticks document).world.tick ≡ w.tick + ticks = ticks_number version_1.slot_limit (effects_in document) ticks w in
    record {
      world = ticks_stay_lawful version_1.slot_limit w.profile w.decls document.systems lawful.systems.each ticks w (omega (arith, within)) (record { lawful = lawful.world; profile_is = refl; decls_are = refl; low = omega (arith, within) });
      profile = kept.profile ∙ lawful.profile;
      tick = omega (arith, number, within);
      ascending = subst (AllByRecursion HasAscendingLists) (sym kept.groups) lawful.ascending;
      named = subst AreNamedDecls (sym kept.decls) lawful.named;
      systems = subst (λ (decls : List Decl). AreLawfulSystems decls document.systems) (sym kept.decls) lawful.systems;
    }

-- ticks of a document in two parts
pub ticked-add : (first second : ℕ) (document : Document) → document_after_ticks (first + second) document ≡ document_after_ticks second (document_after_ticks first document)
ticked-add first second document =
    let w = document.world in
    let limit = version_1.slot_limit in
    let between : World = world_after_ticks limit (effects_in document) first w in
    let kept : Keeps w between = ticks_keep limit (effects_in document) first w in
    ap (λ (v : World). record document { world = v }) (
    ticks-add limit (effects_in document) first second w
    ∙ ap (λ (p : Profile). world_after_ticks limit (map (system_effect p) document.systems) second between) (sym kept.profile)
    )

-- what was printed is read back as the document that was left
left_is_read : (ticks : ℕ) (input bytes : List ℕ) (ran : IsRan ticks input bytes) → IsDocument bytes (document_after_ticks ticks ran.document)
left_is_read ticks input bytes ran =
    let left = document_after_ticks ticks ran.document in
    let lawful = document_is_lawful version_1 input ran.document version_1_is_format ran.read in
    subst (λ (b : List ℕ). IsDocument b left) (sym ran.printed) (printed_is_document left (ticked_is_lawful ticks ran.document lawful ran.within))

-- a second run prints what one run of both prints
pub ran_in_parts : (first second : ℕ) (input between bytes : List ℕ) → IsRan first input between → IsRan second between bytes ↔ IsRan (first + second) input bytes
ran_in_parts first second input between bytes ran =
    let document = ran.document in
    let left = document_after_ticks first document in
    let read = left_is_read first input between ran in
    let number : left.world.tick ≡ document.world.tick + first = ticks_number version_1.slot_limit (effects_in document) first document.world in (
      λ (later : IsRan second between bytes).
          let same : later.document ≡ left = one_document version_1 version_1_is_format between later.document left later.read read in
          let tick : later.document.world.tick ≡ left.world.tick = ap (λ (d : Document). d.world.tick) same in
          record {
            document = document;
            read = ran.read;
            within = omega (arith, later.within, tick, number);
            printed = later.printed ∙ ap (λ (d : Document). text (document_after_ticks second d)) same ∙ ap text (sym (ticked-add first second document));
          },
      λ (whole : IsRan (first + second) input bytes).
          let same : whole.document ≡ document = one_document version_1 version_1_is_format input whole.document document whole.read ran.read in
          let tick : whole.document.world.tick ≡ document.world.tick = ap (λ (d : Document). d.world.tick) same in
          record {
            document = left;
            read = read;
            within = omega (arith, whole.within, tick, number);
            printed = whole.printed ∙ ap (λ (d : Document). text (document_after_ticks (first + second) d)) same ∙ ap text (ticked-add first second document);
          },
    )
