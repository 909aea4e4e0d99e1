-- Header lines: those of a document's components, groups and systems, behind its first line.
use Rattle.std.specs.Prelude.{◌≡◌, ℕ, ◌≤◌, false, true, List, ◌∷◌, [], ◌++◌}
use Rattle.std.specs.List.{flat_map, AllByRecursion}
use Rattle.entity_id.specs.Cuts.{Lacks}
use Rattle.world_model.specs.declared.component.Decl.{Decl}
use Rattle.world_model.specs.declared.group.GroupDecl.{GroupDecl}
use Rattle.world_text.specs.declared.draft.Draft.{Draft}
use Rattle.world_text.specs.declared.section.Section.{Section}
use Rattle.world_text.specs.LineKinds.{Line}
use Rattle.world_text.specs.LineKinds as line
use Rattle.world_text.specs.Formats.{version_1}
use Rattle.world_text.specs.Lines.{IsLine, line_text}
use Rattle.world_text.specs.Sections.{order}
use Rattle.world_text.specs.Meaning.{decl_in, groups_in}
use Rattle.world_text.specs.SystemLines.{SystemsSoFar, systems_in}
use Rattle.world_text.specs.Fitting.{last_section, fits}
use Rattle.world_text.specs.Drafts.{systems_so_far, Refuses}

-- a component line, a group line, or a line of a system
abbrev pub IsHeaderLine : Line → Type 0
IsHeaderLine (line.Component decl) = Unit {0}
IsHeaderLine (line.Group named) = Unit {0}
IsHeaderLine (line.System name) = Unit {0}
IsHeaderLine (line.Body names body) = Unit {0}
IsHeaderLine _ = ⊥

-- what header lines stand for so far, and the latest part of the document that they have reached
pub record HeaderSoFar : Type 0 where
  pub decls : List Decl
  pub groups : List GroupDecl
  pub systems : SystemsSoFar
  pub last : Section

-- what these stand for, behind line 1
abbrev pub header_so_far : List Line → HeaderSoFar
header_so_far lines = record {
  decls = flat_map decl_in lines;
  groups = groups_in lines;
  systems = systems_in lines;
  last = last_section (line.Version ∷ lines);
}

-- behind these header lines the next one is admissible, and the new header stands for it too
pub record IsHeaderWith (before : List Line) (l : Line) (new : HeaderSoFar) : Type 0 where
  pub header : IsHeaderLine l
  pub fit : fits version_1 (line.Version ∷ before) l ≡ true
  pub stands : new ≡ header_so_far (before ++ l ∷ [])

-- a text is a header line that is admissible, whichever lines the old header stands for, and the new one stands for it too
pub record TakesHeaderLine (old : HeaderSoFar) (text : List ℕ) (new : HeaderSoFar) : Type 0 where
  pub line : Line
  pub is : IsLine version_1 line
  pub spelled : text ≡ line_text version_1 line
  pub taken : (before : List Line) → old ≡ header_so_far before → IsHeaderWith before line new

-- no header line of this text is admissible, whichever lines the header stands for
abbrev pub RefusesHeaderLine : HeaderSoFar → List ℕ → Type 0
RefusesHeaderLine old text =
    (l : Line) → IsHeaderLine l → IsLine version_1 l → text ≡ line_text version_1 l
    → (before : List Line) → old ≡ header_so_far before → fits version_1 (line.Version ∷ before) l ≡ false

-- ---- how a draft reads them

-- what a draft's header lines stand for
abbrev pub header_in : Draft → HeaderSoFar
header_in draft = record { decls = draft.decls.items; groups = draft.groups.items; systems = systems_so_far draft; last = draft.section }

-- two drafts differ in nothing but their header, and the new one is no further than the systems where the old one isn't
pub record KeepsOthers (old new : Draft) : Type 0 where
  pub format : new.format ≡ old.format
  pub tick : new.tick ≡ old.tick
  pub slots : new.slots.items ≡ old.slots.items
  pub free : new.free.items ≡ old.free.items
  pub settled : new.settled.items ≡ old.settled.items
  pub pools : new.pools.items ≡ old.pools.items
  pub early : order old.section ≤ 4 → order new.section ≤ 4

-- a draft of header lines alone
pub record IsHeaderDraft (draft : Draft) : Type 0 where
  pub format : draft.format ≡ version_1
  pub tick : draft.tick ≡ 0
  pub slots : draft.slots.items ≡ []
  pub free : draft.free.items ≡ []
  pub settled : draft.settled.items ≡ []
  pub pools : draft.pools.items ≡ []
  pub early : order draft.section ≤ 4

-- no header line begins a text that fits
abbrev pub RefusesHeaders : Draft → List ℕ → Type 0
RefusesHeaders draft bytes =
    (l : Line) (more : List ℕ) → IsHeaderLine l → IsLine draft.format l → bytes ≡ line_text draft.format l ++ 10 ∷ more → Refuses draft l

-- ---- lines of a text

-- a text is these lines, each with its end, a line feed (10), and behind them a rest without one
pub record AreLinesOf (text : List ℕ) (lines : List (List ℕ)) : Type 0 where
  pub rest : List ℕ
  pub whole : text ≡ flat_map (λ l. l ++ 10 ∷ []) lines ++ rest
  pub each : AllByRecursion (Lacks 10) lines
  pub last : Lacks 10 rest
