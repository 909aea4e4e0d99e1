-- Kinds of lines, told apart by the first word of their text.
use Rattle.std.proofs.Common.{◌≡◌, ◌⊎◌, inl, inr, ℕ, Bool, true, false, List, [], ◌∷◌, ◌++◌, codes, if◌then◌else◌, refl, sym, ap, ◌∙◌}
use Rattle.std.specs.Prelude.{◌==◌}
use Rattle.std.specs.Fmt.{decimal}
use Rattle.std.specs.Str.{bytes_eq}
use Rattle.row_lang.specs.declared.access_list.AccessList.TheVariants as list
use Rattle.row_lang.specs.BodyLines.{BodyLine, Lists, Do, Close}
use Rattle.row_lang.specs.Spelling.{body_line_text}
use Rattle.world_text.specs.declared.format.Format.{Format}
use Rattle.world_text.specs.LineKinds.{Line}
use Rattle.world_text.specs.LineKinds as line
use Rattle.world_text.specs.Lines.{line_text}

-- a number for each kind of line, one for the last line of a system and of the document
abbrev pub body_tag : BodyLine → ℕ
body_tag Close = 8
body_tag _ = 11

abbrev pub tag : Line → ℕ
tag line.Version = 1
tag (line.Component decl) = 2
tag (line.Tick tick) = 3
tag (line.Slot slot) = 4
tag (line.Next index) = 5
tag (line.Pool name) = 6
tag (line.Row entity values) = 7
tag line.End = 8
tag (line.Group named) = 9
tag (line.System name) = 10
tag (line.Body names body) = body_tag body

pub body_tags : (body : BodyLine) → (body_tag body ≡ 8) ⊎ (body_tag body ≡ 11)
body_tags Close = inl refl
body_tags (Lists of pools) = inr refl
body_tags (Do tokens) = inr refl

-- the kind of line that begins with a word, and 0 where no line does
abbrev pub tag_of_word : List ℕ → ℕ
tag_of_word word =
    if bytes_eq word (codes "world") then 1 else
    if bytes_eq word (codes "component") then 2 else
    if bytes_eq word (codes "tick") then 3 else
    if bytes_eq word (codes "live") then 4 else
    if bytes_eq word (codes "free") then 4 else
    if bytes_eq word (codes "next") then 5 else
    if bytes_eq word (codes "pool") then 6 else
    if bytes_eq word (codes "row") then 7 else
    if bytes_eq word (codes "end") then 8 else
    if bytes_eq word (codes "group") then 9 else
    if bytes_eq word (codes "system") then 10 else
    if bytes_eq word (codes "read") then 11 else
    if bytes_eq word (codes "write") then 11 else
    if bytes_eq word (codes "look") then 11 else
    if bytes_eq word (codes "not") then 11 else
    if bytes_eq word (codes "do") then 11 else 0

-- what stands before the first space (32)
abbrev pub first_word : List ℕ → List ℕ
first_word [] = []
first_word (byte ∷ bytes) = if byte == 32 then [] else byte ∷ first_word bytes

abbrev pub tag_of_text : List ℕ → ℕ
tag_of_text text = tag_of_word (first_word text)

tag_of_slot : (live : Bool) (rest : List ℕ) → tag_of_text ((if live then codes "live " else codes "free ") ++ rest) ≡ 4
tag_of_slot true rest = refl
tag_of_slot false rest = refl

tag_of_body : (names : List (List ℕ)) (body : BodyLine) → tag_of_text (body_line_text names body) ≡ body_tag body
tag_of_body names (Lists list.Read []) = refl
tag_of_body names (Lists list.Read (pool ∷ pools)) = refl
tag_of_body names (Lists list.Write []) = refl
tag_of_body names (Lists list.Write (pool ∷ pools)) = refl
tag_of_body names (Lists list.Look []) = refl
tag_of_body names (Lists list.Look (pool ∷ pools)) = refl
tag_of_body names (Lists list.Without []) = refl
tag_of_body names (Lists list.Without (pool ∷ pools)) = refl
tag_of_body names (Do []) = refl
tag_of_body names (Do (token ∷ tokens)) = refl
tag_of_body names Close = refl

-- a line's kind is read off its text
pub tag_of_line : (format : Format) (l : Line) → tag_of_text (line_text format l) ≡ tag l
tag_of_line format line.Version = refl
tag_of_line format (line.Component decl) = refl
tag_of_line format (line.Group named) = refl
tag_of_line format (line.System name) = refl
tag_of_line format (line.Body names body) = tag_of_body names body
tag_of_line format (line.Tick tick) = refl
tag_of_line format (line.Slot slot) = tag_of_slot slot.live (decimal slot.version)
tag_of_line format (line.Next index) = refl
tag_of_line format (line.Pool name) = refl
tag_of_line format (line.Row entity values) = refl
tag_of_line format line.End = refl

-- lines of one text are of one kind
pub same_tag : (format : Format) (a b : Line) → line_text format a ≡ line_text format b → tag a ≡ tag b
same_tag format a b e = sym (tag_of_line format a) ∙ ap tag_of_text e ∙ tag_of_line format b
