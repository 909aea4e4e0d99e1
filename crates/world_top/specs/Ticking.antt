-- A document, after ticks of its systems.
use Rattle.std.specs.Prelude.{ℕ, List, map}
use Rattle.row_lang.specs.Effects.{system_effect}
use Rattle.world_model.specs.Ticks.{System, world_after_ticks}
use Rattle.world_text.specs.declared.document.Document.{Document}
use Rattle.world_text.specs.Formats.{version_1}

-- what the systems of a document do, in their order
abbrev pub effects_in : Document → List System
effects_in document = map (system_effect document.world.profile) document.systems

-- a document after so many ticks of its systems, which stay
abbrev pub document_after_ticks : ℕ → Document → Document
document_after_ticks ticks document =
    record document { world = world_after_ticks version_1.slot_limit (effects_in document) ticks document.world }
