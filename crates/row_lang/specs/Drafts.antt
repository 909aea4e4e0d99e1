-- What readers of the lines of a system say.
use Rattle.std.specs.Prelude.{◌≡◌, ℕ, ◌<◌, true, false, if◌then◌else◌, List}
use Rattle.world_model.specs.declared.component.Decl.{Decl}
use Rattle.world_model.specs.Names.{is_name}
use Rattle.row_lang.specs.declared.added.Added.{Added}
use Rattle.row_lang.specs.declared.added.Added.TheVariants.{More, Closed}
use Rattle.row_lang.specs.BodyLines.{BodyLine}
use Rattle.row_lang.specs.Naming.{names_of}
use Rattle.row_lang.specs.Spelling.{IsBodyLine, first_line_text, body_line_text}
use Rattle.row_lang.specs.Systems.{Draft, begun, admits, after_line, is_closed, command_count}

-- a text is the first line of a system, and the draft stands for that line alone
pub record IsFirstLine (text : List ℕ) (draft : Draft) : Type 0 where
  pub name : List ℕ
  pub named : is_name name ≡ true
  pub spelled : text ≡ first_line_text name
  pub stands : draft ≡ begun name

-- a text is a line that is admissible behind those of the old draft, and the new one stands for it too
pub record TakesLine (decls : List Decl) (old : Draft) (text : List ℕ) (new : Draft) : Type 0 where
  pub line : BodyLine
  pub is : IsBodyLine (names_of decls) line
  pub spelled : text ≡ body_line_text (names_of decls) line
  pub admitted : admits decls old line ≡ true
  pub stands : new ≡ after_line decls old line

-- no line of this text is admissible behind those of a draft
abbrev pub RefusesLine : List Decl → Draft → List ℕ → Type 0
RefusesLine decls draft text =
    (line : BodyLine) → IsBodyLine (names_of decls) line → text ≡ body_line_text (names_of decls) line → admits decls draft line ≡ false

-- or one is, but it would be a command statement too many for the document
abbrev pub RefusesLineWithin : List Decl → ℕ → Draft → List ℕ → Type 0
RefusesLineWithin decls commands draft text =
    (line : BodyLine) → IsBodyLine (names_of decls) line → text ≡ body_line_text (names_of decls) line → admits decls draft line ≡ true
    → commands < command_count (after_line decls draft line).system.statements

-- what is said of a line that was taken: whether it closed the system
abbrev pub added_of : Draft → Added
added_of draft = if is_closed draft then Closed else More
