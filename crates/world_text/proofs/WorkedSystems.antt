-- Worked documents with systems: what their lines stand for, where a line of a system fits, and how they are printed.
use Rattle.std.proofs.Common.{◌≡◌, ℕ, true, false, List, [], ◌∷◌, ◌++◌, replicate, codes, refl}
use Rattle.std.specs.Prelude.{None}
use Rattle.std.specs.Fmt.{digits}
use Rattle.std.specs.List.{flat_map}
use Rattle.world_model.specs.declared.tokens.FieldAt.{FieldAt}
use Rattle.row_lang.specs.declared.access_list.AccessList.TheVariants as list
use Rattle.row_lang.specs.declared.token.Keyword.TheVariants as key
use Rattle.row_lang.specs.declared.token.Token.{Token}
use Rattle.row_lang.specs.declared.token.Token.TheVariants.{Word, Own, Field}
use Rattle.row_lang.specs.BodyLines.{BodyLine, Lists, Do, Close}
use Rattle.row_lang.specs.Systems.{System}
use Rattle.world_text.specs.Documents.{lines_of}
use Rattle.world_text.specs.Fitting.{fits, fit_after}
use Rattle.world_text.specs.Formats.{version_1}
use Rattle.world_text.specs.LineKinds.{Line}
use Rattle.world_text.specs.LineKinds as line
use Rattle.world_text.specs.Lines.{text_of}
use Rattle.world_text.specs.SystemLines.{systems_in}
use Rattle.world_text.proofs.WorkedScripts.{ints, of}

abbrev body : BodyLine → Line
body l = line.Body (codes "a" ∷ codes "b" ∷ []) l

-- `do set a.0 + a.0 b.0`
abbrev first_field : ℕ → FieldAt
first_field pool = record { pool = pool; field = 0 }

abbrev adds : List Token
adds = Word key.Set ∷ Field (first_field 0) ∷ Word key.Plus ∷ Own (first_field 0) ∷ Own (first_field 1) ∷ []

abbrev move : System
move = record { name = codes "move"; access = record { read = 1 ∷ []; write = 0 ∷ []; look = []; without = [] }; statements = adds ∷ [] }

abbrev before : List Line
before = line.Version ∷ line.Component (ints (codes "a") 1) ∷ line.Component (ints (codes "b") 1) ∷ []

abbrev begun : List Line
begun = before ++ line.System (codes "move") ∷ []

abbrev reading : List Line
reading = begun ++ body (Lists list.Read (1 ∷ [])) ∷ body (Lists list.Write (0 ∷ [])) ∷ body (Do adds) ∷ []

abbrev closed : List Line
closed = reading ++ body Close ∷ []

pub lines_of_a_system_stand_for_it : systems_in closed ≡ record { closed = move ∷ []; unfinished = None }
lines_of_a_system_stand_for_it = refl

pub they_fit_one_behind_another : fit_after version_1 [] closed ≡ true
they_fit_one_behind_another = refl

pub a_look_line_is_not_the_first : fits version_1 begun (body (Lists list.Look (0 ∷ []))) ≡ false
a_look_line_is_not_the_first = refl

pub a_pool_is_not_both_read_and_written : fits version_1 (begun ++ body (Lists list.Read (0 ∷ [])) ∷ []) (body (Lists list.Write (0 ∷ []))) ≡ false
a_pool_is_not_both_read_and_written = refl

pub other_names_are_refused : fits version_1 begun (line.Body (codes "b" ∷ codes "a" ∷ []) (Lists list.Read (1 ∷ []))) ≡ false
other_names_are_refused = refl

pub a_tick_line_waits_for_the_last_line : (fits version_1 reading (line.Tick 0) ≡ false) × (fits version_1 closed (line.Tick 0) ≡ true)
a_tick_line_waits_for_the_last_line = (refl, refl)

pub no_line_of_a_system_stands_behind_its_last : fits version_1 closed (body Close) ≡ false
no_line_of_a_system_stands_behind_its_last = refl

pub a_name_serves_once : (fits version_1 closed (line.System (codes "move")) ≡ false) × (fits version_1 closed (line.System (codes "a")) ≡ true)
a_name_serves_once = (refl, refl)

pub systems_are_printed_before_the_tick : text_of version_1 (lines_of (record (of (ints (codes "a") 1 ∷ ints (codes "b") 1 ∷ []) []) { systems = move ∷ [] })) ≡
    codes "world 1\ncomponent a int\ncomponent b int\nsystem move\nread b\nwrite a\ndo set a.0 + a.0 b.0\nend\ntick 0\npool a\npool b\nend\n"
unfolding digits
systems_are_printed_before_the_tick = refl

-- ---- command statements of a document

-- a system of this name with so many statements `spawn`
abbrev spawning : List ℕ → ℕ → List Line
spawning name count = line.System name ∷ body (Lists list.Read (0 ∷ [])) ∷ (replicate count (body (Do (Word key.Spawn ∷ []))) ++ body Close ∷ [])

-- eight systems with eight each
abbrev eight_times_eight : List Line
eight_times_eight = before ++ flat_map (λ letter. spawning (letter ∷ []) 8) (97 ∷ 98 ∷ 99 ∷ 100 ∷ 101 ∷ 102 ∷ 103 ∷ 104 ∷ [])

pub a_document_has_64_command_statements : fit_after version_1 [] eight_times_eight ≡ true
a_document_has_64_command_statements = refl

pub a_65th_is_refused : fits version_1 (eight_times_eight ++ line.System (codes "i") ∷ body (Lists list.Read (0 ∷ [])) ∷ []) (body (Do (Word key.Spawn ∷ []))) ≡ false
a_65th_is_refused = refl
