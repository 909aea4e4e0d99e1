-- Columns on a stack, and what they are in a lane.
use Rattle.std.proofs.Common.{◌≡◌, ◌≢◌, ℕ, zero, suc, ◌+◌, ◌-◌, ◌<◌, ◌≤◌, ℤ, pos, List, [], ◌∷◌, map, drop, length, replicate, refl, sym, ap, ap₂, ◌∙◌, arith, get_or-set_other, get_or-set_same, slice_index_or, slice_set}
use Rattle.system_eval.specs.Stacks.{int_at, tops}

module _ {X : Type 0} (none : X) where
  tops_below : (items : List X) (at height : ℕ) (x : X) → height ≤ at → tops none (slice_set items at x) height ≡ tops none items height
  tops_below items at zero x le = refl
  tops_below items at (suc height) x le =
      let ne : height ≢ at = omega arith in
      ap₂ (λ (a : X) (b : List X). a ∷ b) (get_or-set_other items at height x none ne) (tops_below items at height x (omega arith))

  pub tops_put : (items : List X) (height : ℕ) (x : X) → height < length items → tops none (slice_set items height x) (height + 1) ≡ x ∷ tops none items height
  tops_put items height x within =
      let more : height + 1 ≡ suc height = omega arith in
      ap (tops none (slice_set items height x)) more
      ∙ ap₂ (λ (a : X) (b : List X). a ∷ b) (get_or-set_same items height x none within) (tops_below items height height x (omega arith))

  pub length-tops : (items : List X) (height : ℕ) → length (tops none items height) ≡ height
  length-tops items zero = refl
  length-tops items (suc height) = ap suc (length-tops items height)

  pub tops_dropped : (items : List X) (count height : ℕ) → tops none items (height - count) ≡ drop count (tops none items height)
  tops_dropped items zero height = let e : height - 0 ≡ height = omega arith in ap (tops none items) e
  tops_dropped items (suc count) zero = let e : 0 - suc count ≡ 0 = omega arith in ap (tops none items) e
  tops_dropped items (suc count) (suc height) = let e : suc height - suc count ≡ height - count = omega arith in ap (tops none items) e ∙ tops_dropped items count height

  pub tops_at : (items : List X) (depth height : ℕ) → depth < height → slice_index_or (tops none items height) depth none ≡ slice_index_or items (height - 1 - depth) none
  tops_at items depth zero within = absurd (omega arith)
  tops_at items zero (suc height) within = let e : suc height - 1 - 0 ≡ height = omega arith in ap (λ n. slice_index_or items n none) (sym e)
  tops_at items (suc depth) (suc height) within =
      let e : suc height - 1 - suc depth ≡ height - 1 - depth = omega arith in
      tops_at items depth height (omega arith) ∙ ap (λ n. slice_index_or items n none) (sym e)

  pub tops_past : (items : List X) (depth height : ℕ) → height ≤ depth → slice_index_or (tops none items height) depth none ≡ none
  tops_past items depth zero past = refl
  tops_past items zero (suc height) past = absurd (omega arith)
  tops_past items (suc depth) (suc height) past = tops_past items depth height (omega arith)

-- ---- in a lane

pub operand_of : (columns : List (List ℤ)) (lane depth : ℕ) → slice_index_or (map (λ column. int_at column lane) columns) depth (pos 0) ≡ int_at (slice_index_or columns depth []) lane
operand_of [] lane depth = refl
operand_of (column ∷ columns) lane zero = refl
operand_of (column ∷ columns) lane (suc depth) = operand_of columns lane depth

pub map-drop : {X Y : Type 0} (f : X → Y) (n : ℕ) (xs : List X) → map f (drop n xs) ≡ drop n (map f xs)
map-drop f zero xs = refl
map-drop f (suc n) [] = refl
map-drop f (suc n) (x ∷ xs) = map-drop f n xs

-- columns of which some were taken off and one put on
pub values_replaced : (items : List (List ℤ)) (height count lane : ℕ) (column : List ℤ) → height - count < length items →
    map (λ column. int_at column lane) (tops [] (slice_set items (height - count) column) (height - count + 1)) ≡ int_at column lane ∷ drop count (map (λ column. int_at column lane) (tops [] items height))
values_replaced items height count lane column within =
    ap (map (λ column. int_at column lane)) (tops_put [] items (height - count) column within ∙ ap (λ (cs : List (List ℤ)). column ∷ cs) (tops_dropped [] items count height))
    ∙ ap (λ (vs : List ℤ). int_at column lane ∷ vs) (map-drop (λ column. int_at column lane) count (tops [] items height))

-- the number of a lane, by the place of its column
pub column_there : (columns : List (List ℤ)) (depth height lane : ℕ) → depth < height →
    slice_index_or (map (λ column. int_at column lane) (tops [] columns height)) depth (pos 0) ≡ int_at (slice_index_or columns (height - 1 - depth) []) lane
column_there columns depth height lane within = operand_of (tops [] columns height) lane depth ∙ ap (λ (column : List ℤ). int_at column lane) (tops_at [] columns depth height within)

pub column_past : (columns : List (List ℤ)) (depth height lane : ℕ) → height ≤ depth → slice_index_or (map (λ column. int_at column lane) (tops [] columns height)) depth (pos 0) ≡ pos 0
column_past columns depth height lane past = operand_of (tops [] columns height) lane depth ∙ ap (λ (column : List ℤ). int_at column lane) (tops_past [] columns depth height past)

pub zeros_at : (n lane : ℕ) → int_at (replicate n (pos 0)) lane ≡ pos 0
zeros_at zero lane = refl
zeros_at (suc n) zero = refl
zeros_at (suc n) (suc lane) = zeros_at n lane
