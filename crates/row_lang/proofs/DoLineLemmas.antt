-- `do` lines: which are admissible, and how many command statements they make.
use Rattle.std.proofs.Common.{◌≡◌, ◌≢◌, inl, inr, ℕ, ◌+◌, ◌<◌, ◌≤◌, ltb, Bool, true, cond, not, ◌&&◌, ◌||◌, List, [], ◌∷◌, ◌++◌, map, length, codes, min, refl, sym, ap, subst, ◌∙◌, arith}
use Rattle.std.proofs.lemmas.Bool.{and_parts, and_from, cases_Bool, ltb-true, ltb-false, lt-ltb}
use Rattle.std.proofs.lemmas.List.Sums.{sum_by-append}
use Rattle.std.proofs.Math.Nat.{le-min}
use Rattle.world_model.specs.declared.component.Decl.{Decl}
use Rattle.row_lang.specs.declared.access_list.AccessList.{AccessList}
use Rattle.row_lang.specs.declared.part.Part.TheVariants as part
use Rattle.row_lang.specs.declared.token.Place.TheVariants.{Statement}
use Rattle.row_lang.specs.declared.token.Token.{Token}
use Rattle.row_lang.specs.BodyLines.{BodyLine, Lists, Do, Close}
use Rattle.row_lang.specs.Drafts.{TakesLine, RefusesLineWithin}
use Rattle.row_lang.specs.Naming.{names_of}
use Rattle.row_lang.specs.NameLists.{spaced_names}
use Rattle.row_lang.specs.Places.{is_statement}
use Rattle.row_lang.specs.Spelling.{IsBodyLine, body_line_text, line_limit, list_word, name_in}
use Rattle.row_lang.specs.Systems.{Draft, admits, after_line, command_count, is_command, may_do, may_do_behind}
use Rattle.row_lang.specs.TokenReading.{IsDoLine}
use Rattle.row_lang.proofs.DeclaredLemmas.{all_declared, in_table}

-- ---- how many are command statements

abbrev pub bit : Bool → ℕ
bit b = cond b 1 0

abbrev pub one_command : List Token → ℕ
one_command tokens = bit (is_command tokens)

pub count_more : (statements : List (List Token)) (tokens : List Token) → command_count (statements ++ tokens ∷ []) ≡ command_count statements + one_command tokens
count_more statements tokens = sum_by-append one_command statements (tokens ∷ []) ∙ omega arith

-- ---- which statements are admissible

-- what makes a `do` line admissible
pub record IsAdmissible (decls : List Decl) (draft : Draft) (tokens : List Token) : Type 0 where
  pub behind : may_do_behind draft.part ≡ true
  pub few : length draft.system.statements < 64
  pub commands : (not (is_command tokens) || ltb (command_count draft.system.statements) 8) ≡ true
  pub statement : is_statement decls draft.system.access tokens ≡ true

pub admissible : (decls : List Decl) (draft : Draft) (tokens : List Token) → admits decls draft (Do tokens) ≡ true → IsAdmissible decls draft tokens
admissible decls draft tokens h =
    let all = and_parts (may_do_behind draft.part && may_do draft.system.statements tokens) (is_statement decls draft.system.access tokens) h in
    let front = and_parts (may_do_behind draft.part) (may_do draft.system.statements tokens) all.0 in
    let may = and_parts (ltb (length draft.system.statements) 64) (not (is_command tokens) || ltb (command_count draft.system.statements) 8) front.1 in
    record { behind = front.0; few = ltb-true (length draft.system.statements) 64 may.0; commands = may.1; statement = all.1 }

pub is_admitted : (decls : List Decl) (draft : Draft) (tokens : List Token) → IsAdmissible decls draft tokens → admits decls draft (Do tokens) ≡ true
is_admitted decls draft tokens h =
    and_from (may_do_behind draft.part && may_do draft.system.statements tokens) (is_statement decls draft.system.access tokens)
    (and_from (may_do_behind draft.part) (may_do draft.system.statements tokens) h.behind
    (and_from (ltb (length draft.system.statements) 64) (not (is_command tokens) || ltb (command_count draft.system.statements) 8) (lt-ltb (length draft.system.statements) 64 h.few) h.commands))
    h.statement

-- ---- what a reader of a `do` line finds

module _ (decls : List Decl) (draft : Draft) (text : List ℕ) (no_list : (of : AccessList) (rest : List ℕ) → text ≢ list_word of ++ rest) (no_end : text ≢ codes "end") where
  -- a line of this text is a `do` line
  do_line : (line : BodyLine) → IsBodyLine (names_of decls) line → text ≡ body_line_text (names_of decls) line → admits decls draft line ≡ true → (tokens : List Token) × (line ≡ Do tokens) × IsAdmissible decls draft tokens × IsDoLine decls draft.system.access text tokens
  do_line (Lists of pools) is e fit = absurd (no_list of (spaced_names (map (name_in (names_of decls)) pools)) e)
  do_line (Do tokens) is e fit =
      let h = admissible decls draft tokens fit in
      (tokens, refl, h, record { are = all_declared decls draft.system.access (Statement ∷ []) tokens h.statement is.spelled; fill = h.statement; whole = e })
  do_line Close is e fit = absurd (no_end e)

  pub refuses_do : (commands : ℕ) → ((tokens : List Token) → IsAdmissible decls draft tokens → IsDoLine decls draft.system.access text tokens → commands < command_count (draft.system.statements ++ tokens ∷ [])) → RefusesLineWithin decls commands draft text
  refuses_do commands over line is e fit =
      let h = do_line line is e fit in
      subst (λ (l : BodyLine). commands < command_count (after_line decls draft l).system.statements) (sym h.1) (over h.0 h.2 h.3)

  -- one command statement too many
  pub refuses_command : (commands : ℕ) (read : List Token) → ((others : List Token) → IsDoLine decls draft.system.access text others → others ≡ read) → is_command read ≡ true → min commands 8 ≤ command_count draft.system.statements → RefusesLineWithin decls commands draft text
  refuses_command commands read only command full = refuses_do commands (λ tokens h line.
      let is : is_command tokens ≡ true = ap is_command (only tokens line) ∙ command in
      let few : ltb (command_count draft.system.statements) 8 ≡ true = sym (ap (λ b. not b || ltb (command_count draft.system.statements) 8) is) ∙ h.commands in
      let low = ltb-true (command_count draft.system.statements) 8 few in
      let more : command_count (draft.system.statements ++ tokens ∷ []) ≡ command_count draft.system.statements + 1 = count_more draft.system.statements tokens ∙ ap (λ b. command_count draft.system.statements + bit b) is in
      least commands (command_count draft.system.statements) _ full low more)
    where
      least : (commands n m : ℕ) → min commands 8 ≤ n → n < 8 → m ≡ n + 1 → commands < m
      least commands n m full low more = elim (cases_Bool (ltb commands m)) [
        | inl over ↦ ltb-true commands m over
        | inr within ↦
            let most = ltb-false commands m within in
            absurd (omega (arith, full, more, le-min {k = n + 1} {a = commands} {b = 8} (omega (arith, more, most)) (omega (arith, low))))
      ]

pub takes_do : (decls : List Decl) (draft : Draft) (text : List ℕ) (tokens : List Token) → length text ≤ line_limit → IsDoLine decls draft.system.access text tokens → IsAdmissible decls draft tokens → (new : Draft)
    → new ≡ record { part = part.Do; system = record draft.system { statements = draft.system.statements ++ tokens ∷ [] } } → TakesLine decls draft text new
takes_do decls draft text tokens short line h new is = record {
  line = Do tokens;
  is = record { spelled = in_table decls tokens line.are; short = subst (λ (t : List ℕ). length t ≤ 4096) line.whole short };
  spelled = line.whole;
  admitted = is_admitted decls draft tokens h;
  stands = is;
}
