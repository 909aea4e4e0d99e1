-- The text of the frame is a document, which stands for the frame's value alone.
use Rattle.std.proofs.Common.{◌≡◌, ℕ, ◌<◌, ◌≤◌, ◌^◌, Bool, true, ◌&&◌, List, [], ◌∷◌, ◌-◌, false, ℤ, pos, negsuc, length, map, take, drop, replicate, nat_lt, nat_le, lit<, lit≤, refl, arith}
use Rattle.std.specs.Fmt.{digits}
use Rattle.std.specs.List.{list_all, AllByRecursion}
use Rattle.std.proofs.lemmas.Bool.{and_parts}
use Rattle.std.proofs.lemmas.Bool.Decides.{nat_tests}
use Rattle.entity_id.proofs.ListLemmas.{all-append}
use Rattle.world_model.specs.declared.component.Decl.{Decl}
use Rattle.world_model.specs.declared.component.Kind.TheVariants.{Int}
use Rattle.world_model.specs.Names.{is_name}
use Rattle.row_lang.specs.declared.token.Token.{Token}
use Rattle.row_lang.specs.declared.token.Token.TheVariants.{Word, Number, Own, Pool, Field}
use Rattle.row_lang.specs.BodyLines.{BodyLine, Lists, Do, Close}
use Rattle.row_lang.specs.Naming.{IsNamedDecl}
use Rattle.row_lang.specs.Spelling.{IsToken, IsSpelled, IsBodyLine, body_line_text}
use Rattle.world_text.specs.declared.document.Document.{Document}
use Rattle.world_text.specs.Documents.{IsDocument, IsLawfulDocument, header_of, lines_of, text}
use Rattle.world_text.specs.Fitting.{fit_after}
use Rattle.world_text.specs.Formats.{version_1}
use Rattle.world_text.specs.LineKinds.{Line}
use Rattle.world_text.specs.LineKinds as line
use Rattle.world_text.specs.Lines.{IsLine, IsSystemLine, line_text}
use Rattle.world_text.proofs.LawfulLemmas.{document_is_lawful, version_1_is_format}
use Rattle.world_text.proofs.UniqueLemmas.{one_document}
use Rattle.world_maker.specs.declared.frame.TheConstants.{FRAME}
use Rattle.world_maker.specs.MadeWorlds.{made_header}
use Rattle.world_maker.proofs.FrameValue.{frame}

-- ---- tests of lines that compute

abbrev is_wide : ℤ → Bool
is_wide (pos n) = nat_lt n (2 ^ 63)
is_wide (negsuc n) = nat_lt n (2 ^ 63)

abbrev is_spelled_token : ℕ → Token → Bool
is_spelled_token count (Word word) = true
is_spelled_token count (Number z) = is_wide z
is_spelled_token count (Own at) = nat_lt at.pool count
is_spelled_token count (Pool pool) = nat_lt pool count
is_spelled_token count (Field at) = nat_lt at.pool count

abbrev is_spelled : ℕ → BodyLine → Bool
is_spelled count (Lists list pools) = list_all (λ pool. nat_lt pool count) pools
is_spelled count (Do tokens) = list_all (is_spelled_token count) tokens
is_spelled count Close = true

below : (m n : ℕ) → nat_lt m n ≡ true → m < n
below m n h = grind (arith, nat_tests)

token_spelled : (names : List (List ℕ)) (token : Token) → is_spelled_token (length names) token ≡ true → IsToken names token
token_spelled names (Word word) h = tt
token_spelled names (Number (pos n)) h = below n (2 ^ 63) h
token_spelled names (Number (negsuc n)) h = below n (2 ^ 63) h
token_spelled names (Own at) h = below at.pool (length names) h
token_spelled names (Pool pool) h = below pool (length names) h
token_spelled names (Field at) h = below at.pool (length names) h

each_holds : {X : Type 0} (P : X → Type 0) (p : X → Bool) → ((x : X) → p x ≡ true → P x) → (xs : List X) → list_all p xs ≡ true → AllByRecursion P xs
each_holds P p holds [] h = tt
each_holds P p holds (x ∷ xs) h = let parts = and_parts (p x) (list_all p xs) h in (holds x parts.0, each_holds P p holds xs parts.1)

line_spelled : (names : List (List ℕ)) (l : BodyLine) → is_spelled (length names) l ≡ true → IsSpelled names l
line_spelled names (Lists list pools) h = each_holds (λ pool. pool < length names) (λ pool. nat_lt pool (length names)) (λ pool. below pool (length names)) pools h
line_spelled names (Do tokens) h = each_holds (IsToken names) (is_spelled_token (length names)) (token_spelled names) tokens h
line_spelled names Close h = tt

abbrev is_body_line : List (List ℕ) → BodyLine → Bool
is_body_line names l = is_spelled (length names) l && nat_le (length (body_line_text names l)) 4096

body_line : (names : List (List ℕ)) (l : BodyLine) → is_body_line names l ≡ true → IsBodyLine names l
body_line names l h =
    let parts = and_parts (is_spelled (length names) l) (nat_le (length (body_line_text names l)) 4096) h in
    let short : length (body_line_text names l) ≤ 4096 = grind (arith, nat_tests, parts.1) in
    record { spelled = line_spelled names l parts.0; short = short }

-- whether a line that is neither that of a component nor of a group is one of the format
abbrev is_plain_line : Line → Bool
is_plain_line (line.System name) = is_name name
is_plain_line (line.Body names body) = list_all is_name names && is_body_line names body
is_plain_line (line.Tick tick) = nat_le tick 1000000000000
is_plain_line (line.Pool name) = is_name name
is_plain_line line.End = true
is_plain_line _ = false

system_line : (names : List (List ℕ)) (body : BodyLine) → (list_all is_name names && is_body_line names body) ≡ true → IsSystemLine names body
system_line names body h =
    let parts = and_parts (list_all is_name names) (is_body_line names body) h in
    record { named = each_holds (λ name. is_name name ≡ true) is_name (λ name e. e) names parts.0; is = body_line names body parts.1 }

tick_within : (tick : ℕ) → nat_le tick 1000000000000 ≡ true → tick ≤ 1000000000000
tick_within tick h = grind (arith, nat_tests)

plain_line : (l : Line) → is_plain_line l ≡ true → IsLine version_1 l
plain_line line.Version h = tt
plain_line (line.Component decl) h = absurd cc
plain_line (line.Group named) h = absurd cc
plain_line (line.System name) h = h
plain_line (line.Body names body) h = system_line names body h
plain_line (line.Tick tick) h = tick_within tick h
plain_line (line.Slot slot) h = absurd cc
plain_line (line.Next index) h = absurd cc
plain_line (line.Pool name) h = h
plain_line (line.Row entity values) h = absurd cc
plain_line line.End h = tt

-- ---- the frame's lines

named : (decl : Decl) → is_name decl.name ≡ true → decl.count ≤ 4 → length decl.kinds ≡ 4 → drop decl.count decl.kinds ≡ replicate (4 - decl.count) Int → IsNamedDecl decl
named decl name few long padded = record { name = name; fields = record { few = few; long = long; padded = padded } }

-- the lines up to the groups, and those behind them
abbrev first_lines : List Line
first_lines = take 13 (lines_of frame)

abbrev last_lines : List Line
last_lines = drop 13 (lines_of frame)

first_are_lines : AllByRecursion (IsLine version_1) first_lines
first_are_lines = (
  tt,
  (
    named _ refl (lit≤ tt) refl refl,
    (
      named _ refl (lit≤ tt) refl refl,
      (
        named _ refl (lit≤ tt) refl refl,
        (
          named _ refl (lit≤ tt) refl refl,
          (
            named _ refl (lit≤ tt) refl refl,
            (
              named _ refl (lit≤ tt) refl refl,
              (
                named _ refl (lit≤ tt) refl refl,
                (
                  named _ refl (lit≤ tt) refl refl,
                  (
                    named _ refl (lit≤ tt) refl refl,
                    (
                      record { own = (refl, (refl, tt)); get = tt; without = (refl, tt); some = lit< tt },
                      (
                        record { own = (refl, (refl, tt)); get = (refl, tt); without = (refl, tt); some = lit< tt },
                        (record { own = (refl, tt); get = (refl, tt); without = tt; some = lit< tt }, tt),
                      ),
                    ),
                  ),
                ),
              ),
            ),
          ),
        ),
      ),
    ),
  ),
)

last_are_plain : list_all is_plain_line last_lines ≡ true
unfolding digits
last_are_plain = refl

frame_fits : fit_after version_1 [] (lines_of frame) ≡ true
frame_fits = refl

frame_spelled : FRAME.now ≡ text frame
unfolding digits
frame_spelled = refl

pub frame_is_document : IsDocument FRAME.now frame
frame_is_document = record {
  lines = lines_of frame;
  admissible = record { each = all-append (IsLine version_1) first_lines last_lines first_are_lines (each_holds (IsLine version_1) is_plain_line plain_line last_lines last_are_plain); fit = frame_fits };
  ended = refl;
  spelled = frame_spelled;
  world_is = refl;
  systems_are = refl;
}

pub frame_is_lawful : IsLawfulDocument frame
frame_is_lawful = document_is_lawful version_1 FRAME.now frame version_1_is_format frame_is_document

-- and it is the only one
pub the_frame : (document : Document) → IsDocument FRAME.now document → document ≡ frame
the_frame document is = one_document version_1 version_1_is_format FRAME.now document frame is frame_is_document

pub header_spelled : map (line_text version_1) (header_of frame) ≡ made_header
unfolding digits
header_spelled = refl
