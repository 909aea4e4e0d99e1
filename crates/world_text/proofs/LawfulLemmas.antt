-- What a document stands for is a lawful document.
use Rattle.std.proofs.Common.{◌≡◌, ℕ, ◌≤◌, true, List, [], ◌∷◌, ◌++◌, get_or, refl, sym, subst, append_assoc, arith}
use Rattle.std.specs.List.{AllByRecursion, flat_map}
use Rattle.std.proofs.lemmas.List.{append-nil}
use Rattle.std.proofs.lemmas.Bool.{and_parts}
use Rattle.entity_id.proofs.ListLemmas.{all_weaker}
use Rattle.world_model.specs.Components.{IsDecl}
use Rattle.world_model.specs.Worlds.{AreLawfulRows}
use Rattle.world_text.specs.declared.document.Document.{Document}
use Rattle.world_text.specs.declared.format.Format.{Format}
use Rattle.world_text.specs.declared.section.Section.TheVariants as section
use Rattle.world_text.specs.LineKinds.{Line}
use Rattle.world_text.specs.Formats.{version_1, IsFormat}
use Rattle.row_lang.specs.Naming.{IsNamedDecl}
use Rattle.world_text.specs.Lines.{IsLine}
use Rattle.world_text.specs.Meaning.{decl_in, tick_in, slot_in, next_in, pools_in, world_of}
use Rattle.world_text.specs.Fitting.{last_section, fits, fit_after}
use Rattle.world_text.specs.Documents.{AreAdmissible, IsDocumentOf, IsFrontOf, IsLawfulDocumentOf}
use Rattle.world_text.specs.SystemLines.{systems_in}
use Rattle.world_text.proofs.LawfulSystems.{AreSoundSystems, no_systems_sound, systems_after, sound_is_lawful}
use Rattle.world_text.proofs.LawfulSlots.{all_listed}
use Rattle.world_text.proofs.LawfulPools.{beside_all}
use Rattle.world_text.proofs.LawfulParts.{nothing_sound}
use Rattle.world_text.proofs.LawfulLines.{IsSoundAfter, line_after, IsWhole, whole_after}

-- what these lines stand for is lawful as far as it goes, and whole if they end
record IsSound (format : Format) (lines : List Line) : Type 0 where
  pub parts : IsSoundAfter format lines
  pub systems : AreSoundSystems (flat_map decl_in lines) (systems_in lines)
  pub whole : last_section lines ≡ section.End → IsWhole format lines

lines_after : (format : Format) (before lines : List Line) → IsFormat format → AllByRecursion (IsLine format) lines → fit_after format before lines ≡ true → IsSound format before → IsSound format (before ++ lines)
lines_after format before [] is_format each fit sound = subst (IsSound format) (sym (append-nil before)) sound
lines_after format before (l ∷ lines) is_format each fit sound =
    let tests = and_parts (fits format before l) (fit_after format (before ++ l ∷ []) lines) fit in
    subst (IsSound format) (append_assoc before (l ∷ []) lines)
    (lines_after format (before ++ l ∷ []) lines is_format each.1 tests.1
    (record {
      parts = line_after format before l is_format each.0 tests.0 sound.parts;
      systems = systems_after format before l each.0 tests.0 sound.systems;
      whole = whole_after format before l tests.0;
    }))

nothing_ended : section.Start ≡ section.End → ⊥
nothing_ended e = cc

first_tick : (ticks : List ℕ) (limit : ℕ) → AllByRecursion (λ tick. tick ≤ limit) ticks → get_or ticks 0 0 ≤ limit
first_tick [] limit low = omega arith
first_tick (tick ∷ ticks) limit low = low.0

-- whole lawful parts are a lawful document
whole_is_lawful : (format : Format) (lines : List Line) → IsFormat format → IsSoundAfter format lines → AreSoundSystems (flat_map decl_in lines) (systems_in lines) → IsWhole format lines → IsLawfulDocumentOf format (record { world = world_of format lines; systems = (systems_in lines).closed })
whole_is_lawful format lines is_format sound systems whole = record {
  world = record {
    profile = is_format.profile;
    few_decls = sound.decls.few;
    decls = all_weaker IsNamedDecl IsDecl (λ decl named. named.fields) (flat_map decl_in lines) sound.decls.named;
    slots = record {
      few = sound.slots.few;
      addressable = is_format.addressable;
      versions = sound.slots.versions;
      listed = all_listed (flat_map slot_in lines) (flat_map next_in lines) whole.settled_all sound.listed;
    };
    pools = beside_all (AreLawfulRows format.profile (flat_map slot_in lines)) (pools_in format.profile lines) (flat_map decl_in lines) whole.pools_all sound.pools;
    groups = sound.groups.lawful;
  };
  profile = refl;
  tick = first_tick (flat_map tick_in lines) 1000000000000 sound.ticks;
  ascending = sound.groups.ascending;
  named = record { few = sound.decls.few; each = sound.decls.named; apart = sound.decls.apart };
  systems = sound_is_lawful (flat_map decl_in lines) (systems_in lines) systems;
}

-- what admissible lines up to the end stand for is lawful
lines_are_lawful : (format : Format) (lines : List Line) (document : Document) → IsFormat format → AreAdmissible format lines → last_section lines ≡ section.End → document.world ≡ world_of format lines → document.systems ≡ (systems_in lines).closed → IsLawfulDocumentOf format document
lines_are_lawful format lines document is_format admissible ended world_is systems_are =
    let start : IsSound format [] = record { parts = nothing_sound format; systems = no_systems_sound []; whole = λ over. absurd (nothing_ended over) } in
    let sound = lines_after format [] lines is_format admissible.each admissible.fit start in
    subst (λ (d : Document). IsLawfulDocumentOf format d) (λ i. record { world = sym world_is i; systems = sym systems_are i })
    (whole_is_lawful format lines is_format sound.parts sound.systems (sound.whole ended))

-- what the bytes of a document of any format stand for is lawful
pub document_is_lawful : (format : Format) (bytes : List ℕ) (document : Document) → IsFormat format → IsDocumentOf format bytes document → IsLawfulDocumentOf format document
document_is_lawful format bytes document is_format d = lines_are_lawful format d.lines document is_format d.admissible d.ended d.world_is d.systems_are

-- and so is what a document at the front of a text stands for
pub front_is_lawful : (format : Format) (bytes : List ℕ) (document : Document) (count : ℕ) (rest : List ℕ) → IsFormat format → IsFrontOf format bytes document count rest → IsLawfulDocumentOf format document
front_is_lawful format bytes document count rest is_format d = lines_are_lawful format d.lines document is_format d.admissible d.ended d.world_is d.systems_are

-- version 1 is a format
pub version_1_is_format : IsFormat version_1
version_1_is_format = record { number = omega arith; profile = refl; addressable = omega arith }
