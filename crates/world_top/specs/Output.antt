-- What a command puts out for its input.
use Rattle.std.specs.Prelude.{◌≡◌, ℕ, ◌+◌, ◌<◌, ◌≤◌, List}
use Rattle.access_graph.specs.declared.edge.Edge.{Edge}
use Rattle.access_graph.specs.Graphs.{AreEdges}
use Rattle.snapshot.specs.declared.refusal.PackRefused.{PackRefused}
use Rattle.snapshot.specs.declared.refusal.PackRefused.TheVariants as unread
use Rattle.snapshot.specs.Packing.{snapshot}
use Rattle.snapshot.specs.Snapshots.{IsSnapshot, IsBadField}
use Rattle.world_maker.specs.MadeWorlds.{IsMade}
use Rattle.world_maker.specs.Summaries.{summary_text}
use Rattle.world_text.specs.declared.document.Document.{Document}
use Rattle.world_text.specs.declared.fault.TextRefused.{TextRefused}
use Rattle.world_text.specs.declared.fault.TextRefused.TheVariants as refused
use Rattle.world_text.specs.declared.script.ScriptLine.{ScriptLine}
use Rattle.world_text.specs.Documents.{IsDocument, IsBadLine, text}
use Rattle.world_text.specs.Formats.{tick_limit}
use Rattle.world_text.specs.Scripts.{IsScripted, IsBadScriptedLine}
use Rattle.world_text.specs.Playing.{scripted_text}
use Rattle.world_top.specs.declared.outcome.FaultAt.{FaultAt}
use Rattle.world_top.specs.declared.outcome.FaultAt.TheVariants as place
use Rattle.world_top.specs.declared.refused.InputRefused.{InputRefused}
use Rattle.world_top.specs.declared.refused.InputRefused.TheVariants as cause
use Rattle.world_top.specs.declared.verb.Verb.{Verb}
use Rattle.world_top.specs.declared.verb.Verb.TheVariants.{Snapshot, Apply, Run, Graph, Pack, Unpack, Gen}
use Rattle.world_top.specs.Graphed.{accesses_of, graph_text}
use Rattle.world_top.specs.Ticking.{document_after_ticks}

-- these bytes are what `snapshot` prints: the canonical text of the document that the input is
pub record IsCanonical (input bytes : List ℕ) : Type 0 where
  pub document : Document
  pub read : IsDocument input document
  pub printed : bytes ≡ text document

-- these bytes are what `apply` prints: what the script prints that stands behind the document, and the canonical text of the
-- document that it leaves
pub record IsApplied (input bytes : List ℕ) : Type 0 where
  pub document : Document
  pub script : List ScriptLine
  pub read : IsScripted input document script
  pub printed : bytes ≡ scripted_text document script

-- these bytes are what `run` prints for so many ticks: the canonical text of the document that the input is, after these ticks of its
-- systems. Its tick number stays within the limit
pub record IsRan (ticks : ℕ) (input bytes : List ℕ) : Type 0 where
  pub document : Document
  pub read : IsDocument input document
  pub within : document.world.tick + ticks ≤ tick_limit
  pub printed : bytes ≡ text (document_after_ticks ticks document)

-- these bytes are what `graph` prints: each system of the document that the input is, with those from which an edge leads to it. The
-- edges are the fewest by which each system is reached from all that it must wait for
pub record IsGraphed (input bytes : List ℕ) : Type 0 where
  pub document : Document
  pub edges : List Edge
  pub read : IsDocument input document
  pub fewest : AreEdges (accesses_of document.systems) edges
  pub printed : bytes ≡ graph_text document.systems edges

-- these bytes are what `pack` prints: the binary snapshot of the document that the input is
pub record IsPacked (input bytes : List ℕ) : Type 0 where
  pub document : Document
  pub read : IsDocument input document
  pub printed : bytes ≡ snapshot document

-- these bytes are what `unpack` prints: the canonical text of the document that the input is a binary snapshot of
pub record IsUnpacked (input bytes : List ℕ) : Type 0 where
  pub document : Document
  pub read : IsSnapshot input document
  pub printed : bytes ≡ text document

-- these bytes are what `gen` prints: the summary of a made world after so many ticks of its systems
pub record IsGenerated (number count ticks : ℕ) (bytes : List ℕ) : Type 0 where
  pub document : Document
  pub made : IsMade number count document
  pub printed : bytes ≡ summary_text (document_after_ticks ticks document).world

-- the input is a document whose tick number passes the limit in so many ticks
pub record PassesLimit (ticks : ℕ) (input : List ℕ) : Type 0 where
  pub document : Document
  pub read : IsDocument input document
  pub past : tick_limit < document.world.tick + ticks

-- these bytes are what a command prints for this input. The number of workers plays no part, nor does the input of `gen`
abbrev pub IsOutput : Verb → List ℕ → List ℕ → Type 0
IsOutput Snapshot input bytes = IsCanonical input bytes
IsOutput Apply input bytes = IsApplied input bytes
IsOutput (Run ticks workers) input bytes = IsRan ticks input bytes
IsOutput Graph input bytes = IsGraphed input bytes
IsOutput Pack input bytes = IsPacked input bytes
IsOutput Unpack input bytes = IsUnpacked input bytes
IsOutput (Gen number count ticks) input bytes = IsGenerated number count ticks bytes

-- this line of the input is the first that the command does not admit, or that is missing
abbrev pub IsBadLineFor : Verb → List ℕ → ℕ → Type 0
IsBadLineFor Snapshot input line = IsBadLine input line
IsBadLineFor Apply input line = IsBadScriptedLine input line
IsBadLineFor (Run ticks workers) input line = IsBadLine input line
IsBadLineFor Graph input line = IsBadLine input line
IsBadLineFor Pack input line = IsBadLine input line
IsBadLineFor Unpack input line = ⊥
IsBadLineFor (Gen number count ticks) input line = ⊥

-- at this byte of the input starts the first field that the command does not admit, or that is missing. Only `unpack` reads fields
abbrev pub IsBadOffsetFor : Verb → List ℕ → ℕ → Type 0
IsBadOffsetFor Snapshot input offset = ⊥
IsBadOffsetFor Apply input offset = ⊥
IsBadOffsetFor (Run ticks workers) input offset = ⊥
IsBadOffsetFor Graph input offset = ⊥
IsBadOffsetFor Pack input offset = ⊥
IsBadOffsetFor Unpack input offset = IsBadField input offset
IsBadOffsetFor (Gen number count ticks) input offset = ⊥

-- here is the first part of the input that the command does not admit, or that is missing
abbrev pub IsBadInput : Verb → List ℕ → FaultAt → Type 0
IsBadInput verb input (place.Line line) = IsBadLineFor verb input line
IsBadInput verb input (place.Offset offset) = IsBadOffsetFor verb input offset

-- the command would take the input's tick number past the limit, which only `run` can
abbrev pub IsPastLimit : Verb → List ℕ → Type 0
IsPastLimit Snapshot input = ⊥
IsPastLimit Apply input = ⊥
IsPastLimit (Run ticks workers) input = PassesLimit ticks input
IsPastLimit Graph input = ⊥
IsPastLimit Pack input = ⊥
IsPastLimit Unpack input = ⊥
IsPastLimit (Gen number count ticks) input = ⊥

-- why a command does not admit this input as a text
abbrev pub IsInputCause : Verb → List ℕ → TextRefused → Type 0
IsInputCause verb input (refused.BadLine line) = IsBadLineFor verb input line
IsInputCause verb input refused.OutOfMemory = Unit {0}

-- why a command has no output for this input
abbrev pub IsOutputCause : Verb → List ℕ → InputRefused → Type 0
IsOutputCause verb input (cause.BadInput at) = IsBadInput verb input at
IsOutputCause verb input cause.OutOfMemory = Unit {0}
IsOutputCause verb input cause.TickLimit = IsPastLimit verb input

-- the cause that a refusal of a text is
abbrev pub cause_of_text : TextRefused → InputRefused
cause_of_text (refused.BadLine line) = cause.BadInput (place.Line line)
cause_of_text refused.OutOfMemory = cause.OutOfMemory

-- the cause that a refusal of a binary snapshot is
abbrev pub cause_of_snapshot : PackRefused → InputRefused
cause_of_snapshot (unread.BadAt offset) = cause.BadInput (place.Offset offset)
cause_of_snapshot unread.OutOfMemory = cause.OutOfMemory
