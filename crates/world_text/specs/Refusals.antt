-- What a refusal of the reader says.
use Rattle.std.specs.Prelude.{ℕ, ◌≤◌, List}
use Rattle.world_text.specs.declared.fault.TextRefused.{TextRefused}
use Rattle.world_text.specs.declared.fault.TextRefused.TheVariants.{BadLine, OutOfMemory}
use Rattle.entity_id.specs.declared.entity.Profile.{Profile}
use Rattle.world_model.specs.declared.component.Decl.{Decl}
use Rattle.world_text.specs.Documents.{IsBadLine, IsBadFront}
use Rattle.world_text.specs.Scripts.{IsBadScriptLine, IsBadScriptedLine}

-- what a refusal says of a text: the line that it names is the first bad one, and want of memory says nothing
abbrev pub IsCause : List ℕ → TextRefused → Type 0
IsCause bytes (BadLine number) = IsBadLine bytes number
IsCause bytes OutOfMemory = Unit {0}

-- what a refusal says of a text that should begin with a document
abbrev pub IsFrontCause : List ℕ → TextRefused → Type 0
IsFrontCause bytes (BadLine number) = IsBadFront bytes number
IsFrontCause bytes OutOfMemory = Unit {0}

-- what a refusal says of a text that should be a script
abbrev pub IsScriptCause : Profile → List Decl → List ℕ → TextRefused → Type 0
IsScriptCause profile decls text (BadLine number) = IsBadScriptLine profile decls text number
IsScriptCause profile decls text OutOfMemory = Unit {0}

-- what a refusal says of a text that should be a document with a script behind it
abbrev pub IsScriptedCause : List ℕ → TextRefused → Type 0
IsScriptedCause text (BadLine number) = IsBadScriptedLine text number
IsScriptedCause text OutOfMemory = Unit {0}

-- a refusal names no line behind this one
abbrev pub IsFarAtMost : ℕ → TextRefused → Type 0
IsFarAtMost most (BadLine line) = line ≤ most
IsFarAtMost most OutOfMemory = Unit {0}
