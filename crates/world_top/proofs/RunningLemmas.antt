-- Registries after ticks.
use Rattle.std.proofs.Common.{◌≡◌, ℕ, ◌+◌, ◌≤◌, ◌++◌, List, [], ◌∷◌, map, refl, sym, ap, subst, ◌∙◌, arith}
use Rattle.std.specs.List.{AllByRecursion}
use Rattle.entity_id.specs.declared.entity.Profile.{Profile}
use Rattle.registry.specs.Held.{Held}
use Rattle.row_lang.specs.Effects.{system_effect}
use Rattle.row_lang.specs.Systems.{System, IsSystem}
use Rattle.row_lang.proofs.CheckedLemmas.{checked_system, fit_system}
use Rattle.system_eval.specs.declared.row_system.RowSystem.{RowSystem}
use Rattle.system_eval.specs.Runs.{IsRunnable}
use Rattle.tick_runner.specs.Ticking.{Ticks, world_with_rows}
use Rattle.world_model.specs.declared.component.Decl.{Decl}
use Rattle.world_model.specs.declared.world.World.{World}
use Rattle.world_model.specs.Components.{IsDecl}
use Rattle.world_model.specs.Frames.{IsFitSystem}
use Rattle.world_model.specs.Ticks.{System as AnySystem, orders_of, world_after_ticks}
use Rattle.world_model.proofs.TickLemmas.{ticks-add}
use Rattle.world_text.specs.declared.document.Document.{Document}
use Rattle.world_text.specs.Documents.{IsLawfulDocument, text}
use Rattle.world_text.specs.Formats.{tick_limit, version_1}
use Rattle.world_top.specs.Running.{AreFit, AreReady, IsAfter, Placed, effects_of, placed, world_at}
use Rattle.world_top.specs.Ticking.{document_after_ticks}
use Rattle.world_top.proofs.OrderTickLemmas.{lists_at_tick}
use Rattle.world_top.proofs.TickedLemmas.{ticks_keep, ticked_is_lawful}

-- ---- systems that are ready to run

pub all_runnable : (decls : List Decl) (systems : List System) → AllByRecursion IsDecl decls → AllByRecursion (IsSystem decls) systems → AllByRecursion (λ system. ∥ IsRunnable system ∥₁) systems
all_runnable decls [] declared each = tt
all_runnable decls (system ∷ systems) declared each =
    (∣ record { decls = decls; declared = declared; checked = checked_system decls system each.0 } ∣₁, all_runnable decls systems declared each.1)

-- what systems do, as what they are tells
effects_placed : (ready : List RowSystem) → effects_of ready ≡ map (λ (p : Placed). system_effect p.profile p.system) (map placed ready)
effects_placed [] = refl
effects_placed (s ∷ ready) = ap (λ (effects : List AnySystem). system_effect s.profile s.system.now ∷ effects) (effects_placed ready)

effects_there : (profile : Profile) (systems : List System) → map (λ (p : Placed). system_effect p.profile p.system) (map (λ system. record { profile = profile; system = system }) systems) ≡ map (system_effect profile) systems
effects_there profile [] = refl
effects_there profile (system ∷ systems) = ap (λ (effects : List AnySystem). system_effect profile system ∷ effects) (effects_there profile systems)

pub ready_effects : (profile : Profile) (systems : List System) (ready : List RowSystem) → AreReady profile systems ready → effects_of ready ≡ map (system_effect profile) systems
ready_effects profile systems ready are = effects_placed ready ∙ ap (map (λ (p : Placed). system_effect p.profile p.system)) are ∙ effects_there profile systems

-- a system is fit in a profile
abbrev IsFitHere : Profile → List Decl → Placed → Type 0
IsFitHere profile decls p = IsFitSystem profile decls p.system.access (system_effect p.profile p.system)

all_fit : (profile : Profile) (decls : List Decl) (systems : List System) → AllByRecursion (IsSystem decls) systems → AllByRecursion (IsFitHere profile decls) (map (λ system. record { profile = profile; system = system }) systems)
all_fit profile decls [] each = tt
all_fit profile decls (system ∷ systems) each = (fit_system profile decls system each.0, all_fit profile decls systems each.1)

fit_placed : (profile : Profile) (decls : List Decl) (ready : List RowSystem) → AllByRecursion (IsFitHere profile decls) (map placed ready) → AreFit profile decls ready
fit_placed profile decls [] each = tt
fit_placed profile decls (s ∷ ready) each = (each.0, fit_placed profile decls ready each.1)

pub ready_fit : (profile : Profile) (decls : List Decl) (systems : List System) (ready : List RowSystem) → AllByRecursion (IsSystem decls) systems → AreReady profile systems ready → AreFit profile decls ready
ready_fit profile decls systems ready each are = fit_placed profile decls ready (subst (AllByRecursion (IsFitHere profile decls)) (sym are) (all_fit profile decls systems each))

-- ---- one tick more

-- no tick was run yet
pub none_yet : (old : Held) (systems : List AnySystem) (tick : ℕ) → IsAfter old old systems tick 0
none_yet old systems tick = record {
  limit = refl;
  world = let same : tick + 0 ≡ tick = omega arith in ap (λ (t : ℕ). world_at t old) same;
}

-- one tick was run
pub ticked : (old new : Held) (systems : List AnySystem) (tick : ℕ) → Ticks old new systems tick → IsAfter old new systems tick 1
ticked old new systems tick becomes = record {
  limit = becomes.limit;
  world = ap (λ (w : World). record w { tick = tick + 1 }) becomes.world
      ∙ sym (ap (λ (w : World). record w { tick = w.tick + 1 }) (lists_at_tick old.limit tick (world_with_rows old systems tick) (orders_of systems tick old.world.pools)));
}

module _ (old now new : Held) (systems : List AnySystem) (tick ticks : ℕ) (after : IsAfter old now systems tick ticks) where
  -- its systems are fit as before
  pub still_fit : (ready : List RowSystem) → AreFit old.world.profile old.world.decls ready → AreFit now.world.profile now.world.decls ready
  still_fit ready fit =
      let kept = ticks_keep old.limit systems ticks (world_at tick old) in
      let profile : now.world.profile ≡ old.world.profile = ap (λ (w : World). w.profile) after.world ∙ kept.profile in
      let decls : now.world.decls ≡ old.world.decls = ap (λ (w : World). w.decls) after.world ∙ kept.decls in
      subst (λ (p : Profile). AreFit p now.world.decls ready) (sym profile) (subst (λ (ds : List Decl). AreFit old.world.profile ds ready) (sym decls) fit)

  pub one_more : IsAfter now new systems (tick + ticks) 1 → IsAfter old new systems tick (ticks + 1)
  one_more next =
      let number : tick + (ticks + 1) ≡ (tick + ticks) + 1 = omega arith in
      record {
        limit = next.limit ∙ after.limit;
        world = ap (λ (t : ℕ). world_at t new) number
            ∙ next.world
            ∙ (λ i. world_after_ticks (after.limit i) systems 1 (after.world i))
            ∙ sym (ticks-add old.limit systems ticks 1 (world_at tick old));
      }

-- ---- documents

-- a registry that stands for the world of a document, and after it one that its systems were run on
module _ (document : Document) (held new : Held) (ticks : ℕ) (limit_is : held.limit ≡ version_1.slot_limit) (world_is : world_at document.world.tick held ≡ document.world) (after : IsAfter held new (map (system_effect document.world.profile) document.systems) document.world.tick ticks) where
  left_document : record { world = world_at (document.world.tick + ticks) new; systems = document.systems } ≡ document_after_ticks ticks document
  left_document =
      ap (λ (v : World). record document { world = v }) (
      after.world
      ∙ (λ i. world_after_ticks (limit_is i) (map (system_effect document.world.profile) document.systems) ticks (world_is i))
      )

  -- the world that it stands for now is that of the document after the ticks
  pub left_world : record new.world { tick = document.world.tick + ticks } ≡ (document_after_ticks ticks document).world
  left_world = ap (λ (d : Document). d.world) left_document

  -- its components are the document's
  pub left_decls : new.world.decls ≡ document.world.decls
  left_decls =
      ap (λ (w : World). w.decls) after.world
      ∙ (ticks_keep held.limit (map (system_effect document.world.profile) document.systems) ticks (world_at document.world.tick held)).decls
      ∙ ap (λ (w : World). w.decls) world_is

  -- the document that it stands for now is lawful
  pub left_is_lawful : IsLawfulDocument document → document.world.tick + ticks ≤ tick_limit → IsLawfulDocument (record { world = record new.world { tick = document.world.tick + ticks }; systems = document.systems })
  left_is_lawful lawful within = subst IsLawfulDocument (sym left_document) (ticked_is_lawful ticks document lawful within)

  -- and has the text of the document after the ticks
  pub left_text : text (record { world = record new.world { tick = document.world.tick + ticks }; systems = document.systems }) ≡ text (document_after_ticks ticks document)
  left_text = ap text left_document

  -- so what was printed behind nothing is that text
  pub left_printed : (before whole : List ℕ) → before ≡ [] → whole ≡ before ++ text (record { world = record new.world { tick = document.world.tick + ticks }; systems = document.systems }) → whole ≡ text (document_after_ticks ticks document)
  left_printed before whole nothing printed = printed ∙ ap (λ (b : List ℕ). b ++ text (record { world = record new.world { tick = document.world.tick + ticks }; systems = document.systems })) nothing ∙ left_text
