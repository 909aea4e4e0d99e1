-- Work on a batch, one statement after another.
use Rattle.std.proofs.Common.{◌≡◌, ℕ, zero, suc, ◌+◌, ◌*◌, ◌<◌, ◌≤◌, Bool, true, false, cond, ℤ, List, [], ◌∷◌, ◌++◌, get_or, length, replicate, take, Some, None, refl, sym, ap, ap₂, ◌∙◌, arith, if◌then◌else◌}
use Rattle.std.proofs.Math.Nat.{mul-le-mul_left}
use Rattle.std.proofs.lemmas.List.{take_more}
use Rattle.std.proofs.lemmas.List.Sums.{count_by_more_no, count_by_more_yes, sum_by-take-drop}
use Rattle.row_lang.specs.Systems.{command_count, is_command}
use Rattle.row_lang.specs.declared.token.Keyword.{Keyword}
use Rattle.row_lang.specs.declared.token.Keyword.TheVariants as key
use Rattle.row_lang.specs.declared.token.Token.{Token}
use Rattle.row_lang.specs.declared.token.Token.TheVariants.{Word, Number, Own, Pool, Field}
use Rattle.row_lang.specs.Arithmetic.{is_zero}
use Rattle.row_lang.specs.Bodies.{Done, after_any_deed, after_body, after_deed, after_statement, deed_of, is_deed}
use Rattle.row_lang.specs.Values.{Setting, Operands, operands_of}
use Rattle.system_api.specs.Batches.{lanes, entity_at, is_marked}
use Rattle.system_eval.specs.Doings.{Work, deed_operands, deed_word, done_in, is_tested, test_of, untested, Does}
use Rattle.system_eval.specs.Lanes.{Scenery, beside, setting_at}

-- ---- the word that says what a statement does

pub deed_skipped : (token : Token) (tokens : List Token) → deed_word token ≡ None → deed_of (token ∷ tokens) ≡ deed_of tokens
deed_skipped (Word word) tokens is = split (is_deed word) is
  where
    split : (b : Bool) → (if b then Some word else None) ≡ None → (if b then Some word else deed_of tokens) ≡ deed_of tokens
    split true is = absurd (cc)
    split false is = refl
deed_skipped (Number z) tokens is = refl
deed_skipped (Own at) tokens is = refl
deed_skipped (Pool pool) tokens is = refl
deed_skipped (Field at) tokens is = refl

pub deed_found : (token : Token) (tokens : List Token) (word : Keyword) → deed_word token ≡ Some word → deed_of (token ∷ tokens) ≡ Some word
deed_found (Word it) tokens word is = split (is_deed it) is
  where
    split : (b : Bool) → (if b then Some it else None) ≡ Some word → (if b then Some it else deed_of tokens) ≡ Some word
    split true is = is
    split false is = absurd (cc)
deed_found (Number z) tokens word is = absurd (cc)
deed_found (Own at) tokens word is = absurd (cc)
deed_found (Pool pool) tokens word is = absurd (cc)
deed_found (Field at) tokens word is = absurd (cc)

-- ---- one statement

statement_is : (s : Setting) (tokens : List Token) (d : Done) → after_statement s tokens d ≡
    (if is_zero (test_of (is_tested tokens) (operands_of s d.rows (untested tokens))) then d
    else after_any_deed s (deed_of (untested tokens)) (deed_operands (is_tested tokens) (operands_of s d.rows (untested tokens))) d)
statement_is s (Word key.When ∷ tokens) d = refl
statement_is s tokens d = refl

pub statement_done : (s : Setting) (tokens rest : List Token) (tested : Bool) (word : Keyword) (d : Done) (t : ℤ) (o given : Operands) → rest ≡ untested tokens → tested ≡ is_tested tokens → deed_of rest ≡ Some word →
    given ≡ operands_of s d.rows rest → t ≡ test_of tested given → o ≡ deed_operands tested given → (if is_zero t then d else after_deed s word o d) ≡ after_statement s tokens d
statement_done s tokens rest tested word d t o given rest_is tested_is found given_is t_is o_is =
    let whole : given ≡ operands_of s d.rows (untested tokens) = given_is ∙ ap (operands_of s d.rows) rest_is in
    let t_whole = t_is ∙ ap₂ test_of tested_is whole in
    let o_whole = o_is ∙ ap₂ deed_operands tested_is whole in
    let found_there : deed_of (untested tokens) ≡ Some word = ap deed_of (sym rest_is) ∙ found in
    ap₂ (λ (z : ℤ) (o : Operands). if is_zero z then d else after_deed s word o d) t_whole o_whole
    ∙ ap (λ w. if is_zero (test_of (is_tested tokens) (operands_of s d.rows (untested tokens))) then d else after_any_deed s w (deed_operands (is_tested tokens) (operands_of s d.rows (untested tokens))) d) (sym found_there)
    ∙ sym (statement_is s tokens d)

either_same : (b : Bool) (d : Done) → d ≡ (if b then d else d)
either_same true d = refl
either_same false d = refl

pub statement_idle : (s : Setting) (tokens rest : List Token) (d : Done) → rest ≡ untested tokens → deed_of rest ≡ None → d ≡ after_statement s tokens d
statement_idle s tokens rest d rest_is none =
    let none_there : deed_of (untested tokens) ≡ None = ap deed_of (sym rest_is) ∙ none in
    either_same (is_zero (test_of (is_tested tokens) (operands_of s d.rows (untested tokens)))) d
    ∙ ap (λ w. if is_zero (test_of (is_tested tokens) (operands_of s d.rows (untested tokens))) then d else after_any_deed s w (deed_operands (is_tested tokens) (operands_of s d.rows (untested tokens))) d) (sym none_there)
    ∙ sym (statement_is s tokens d)

-- ---- work

pub does_same : (s : Scenery) (f g : ℕ → Done → Done) (old new : Work) → ((lane : ℕ) → lane < lanes → (orders : _) → f lane (done_in s old orders lane) ≡ g lane (done_in s old orders lane)) → Does s f old new → Does s g old new
does_same s f g old new same does = record {
  columns = does.columns;
  rows = λ lane h orders. does.rows lane h orders ∙ ap (λ (d : Done). d.rows) (same lane h orders);
  spawned = λ lane h orders. does.spawned lane h orders ∙ ap (λ (d : Done). d.spawned) (same lane h orders);
  orders = λ lane h marked before orders is. does.orders lane h marked before orders is ∙ ap (λ (d : Done). before ++ beside (entity_at s.entities lane).index d.orders) (same lane h orders);
  others = does.others;
}

pub does_nothing : (s : Scenery) (work : Work) → Does s (λ lane d. d) work work
does_nothing s work = record { columns = refl; rows = λ lane h orders. refl; spawned = λ lane h orders. refl; orders = λ lane h marked before orders is. is; others = λ index none. refl }

module _ (s : Scenery) (f g : ℕ → Done → Done) (a b c : Work) (first : Does s f a b) (second : Does s g b c) where
  between : (lane : ℕ) → lane < lanes → (orders : _) → done_in s b (f lane (done_in s a orders lane)).orders lane ≡ f lane (done_in s a orders lane)
  between lane h orders = let rows = first.rows lane h orders in let spawned = first.spawned lane h orders in
      ap₂ (λ rows spawned. record { rows = rows; spawned = spawned; orders = (f lane (done_in s a orders lane)).orders }) rows spawned

  pub does_both : Does s (λ lane d. g lane (f lane d)) a c
  does_both = record {
    columns = second.columns ∙ first.columns;
    rows = λ lane h orders. second.rows lane h (f lane (done_in s a orders lane)).orders ∙ ap (λ (d : Done). (g lane d).rows) (between lane h orders);
    spawned = λ lane h orders. second.spawned lane h (f lane (done_in s a orders lane)).orders ∙ ap (λ (d : Done). (g lane d).spawned) (between lane h orders);
    orders = λ lane h marked before orders is.
        second.orders lane h marked before (f lane (done_in s a orders lane)).orders (first.orders lane h marked before orders is)
        ∙ ap (λ (d : Done). before ++ beside (entity_at s.entities lane).index (g lane d).orders) (between lane h orders);
    others = λ index none. second.others index none ∙ first.others index none;
  }

pub body_more : (s : Setting) (statements : List (List Token)) (tokens : List Token) (d : Done) → after_body s (statements ++ tokens ∷ []) d ≡ after_statement s tokens (after_body s statements d)
body_more s [] tokens d = refl
body_more s (statement ∷ statements) tokens d = body_more s statements tokens (after_statement s statement d)

pub none_spawned : (n lane : ℕ) → is_marked (replicate n false) lane ≡ false
none_spawned zero lane = refl
none_spawned (suc n) zero = refl
none_spawned (suc n) (suc lane) = none_spawned n lane

-- ---- one statement more

module _ (s : Scenery) (statements : List (List Token)) (n : ℕ) (tokens : List Token) (within : n < length statements) (is : tokens ≡ get_or statements n tokens) where
  pub does_more : (a b c : Work) → Does s (λ lane. after_body (setting_at s lane) (take n statements)) a b → Does s (λ lane. after_statement (setting_at s lane) tokens) b c → Does s (λ lane. after_body (setting_at s lane) (take (n + 1) statements)) a c
  does_more a b c first second =
      let more : take (n + 1) statements ≡ take n statements ++ tokens ∷ [] = take_more statements n tokens within ∙ ap (λ t. take n statements ++ t ∷ []) (sym is) in
      does_same s (λ lane d. after_statement (setting_at s lane) tokens (after_body (setting_at s lane) (take n statements) d)) (λ lane. after_body (setting_at s lane) (take (n + 1) statements)) a c
      (λ lane h orders. sym (ap (λ ts. after_body (setting_at s lane) ts (done_in s a orders lane)) more ∙ body_more (setting_at s lane) (take n statements) tokens (done_in s a orders lane)))
      (does_both s (λ lane. after_body (setting_at s lane) (take n statements)) (λ lane. after_statement (setting_at s lane) tokens) a b c first second)

  commands_more : is_command tokens ≡ true → command_count (take (n + 1) statements) ≡ command_count (take n statements) + 1
  commands_more command = count_by_more_yes is_command statements n tokens within (ap is_command (sym is) ∙ command)

  pub few_more : (marked new now before : ℕ) → now ≤ before + command_count (take n statements) * marked → new ≤ now + (if is_command tokens then marked else 0) → new ≤ before + command_count (take (n + 1) statements) * marked
  few_more marked new now before few here = split (is_command tokens) refl here
    where
      split : (b : Bool) → is_command tokens ≡ b → new ≤ now + (if b then marked else 0) → new ≤ before + command_count (take (n + 1) statements) * marked
      split true command here =
          let product = ap (λ k. k * marked) (commands_more command) in
          let apart : (command_count (take n statements) + 1) * marked ≡ command_count (take n statements) * marked + marked = omega arith in
          omega (arith, few, here, product, apart)
      split false none here =
          let product = ap (λ k. k * marked) (count_by_more_no is_command statements n tokens within (ap is_command (sym is) ∙ none)) in
          omega (arith, few, here, product)

  pub room_more : (marked room spare now before : ℕ) → command_count statements * marked ≤ room → spare + now ≡ room + before → now ≤ before + command_count (take n statements) * marked → is_command tokens ≡ true → marked ≤ spare
  room_more marked room spare now before enough same few command =
      let all = sum_by-take-drop (λ it. cond (is_command it) 1 0) statements (n + 1) in
      let fewer : command_count (take n statements) + 1 ≤ command_count statements = omega (arith, all, commands_more command) in
      let product = mul-le-mul_left marked fewer in
      let apart : marked * (command_count (take n statements) + 1) ≡ command_count (take n statements) * marked + marked = omega arith in
      let turned : marked * command_count statements ≡ command_count statements * marked = omega arith in
      omega (arith, enough, same, few, product, apart, turned)
