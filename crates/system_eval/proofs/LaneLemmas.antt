-- Lanes of a batch: their own rows in columns, and how many are marked.
use Rattle.std.proofs.Common.{◌≡◌, ℕ, zero, suc, ◌+◌, ◌-◌, ◌*◌, ◌<◌, ◌≤◌, ◌==◌, Bool, true, false, cond, ◌&&◌, ◌||◌, not, eqb, List, [], ◌∷◌, ◌++◌, map, length, take, Some, refl, sym, ap, ap₂, ◌∙◌, arith, slice_get}
use Rattle.std.specs.Prelude.{unwrap_or, slice_index_or}
use Rattle.std.specs.List.{list_all}
use Rattle.std.proofs.lemmas.List.{length-append, take_more}
use Rattle.std.specs.Map.{lookup}
use Rattle.std.proofs.Math.Nat.{mul-le-mul_left}
use Rattle.std.proofs.lemmas.Bool.{and_parts, eq-eqb, eqb-true, false≢true}
use Rattle.std.proofs.lemmas.List.Sums.{sum_by-cons, count_by-le-length}
use Rattle.entity_id.specs.declared.entity.Entity.{Entity}
use Rattle.entity_id.specs.FiniteMap as entries
use Rattle.world_model.specs.declared.component.Row.{Row}
use Rattle.world_model.specs.Components.{zero_row}
use Rattle.world_model.specs.Groups.{has_pool, are_distinct}
use Rattle.row_lang.specs.Values.{own_row}
use Rattle.system_api.specs.declared.lent.LentPool.{LentPool}
use Rattle.system_api.specs.Batches.{row_at, is_marked}
use Rattle.system_api.specs.Registers.{Register, numbers, no_pool, pool_at, ChangesRows}
use Rattle.system_eval.specs.Lanes.{own_at, marked_count}
use Rattle.system_eval.specs.Walks.{rows_in, row_in, has_row, own_lent, walked_in}
use Rattle.system_eval.proofs.CoverLemmas.{length-taken-pools}
use Rattle.system_eval.proofs.PieceLemmas.{own-same}

-- ---- own rows of a lane

-- columns that hold an entity's rows hold its own rows
pub own-loaded : (e : Entity) (pools : List LentPool) (columns : List (List Row)) (lane : ℕ) → length pools ≤ length columns
    → ((at : ℕ) → at < length pools → entries.get (rows_in (pool_at pools at)) e ≡ Some (row_at (slice_index_or columns at []) lane))
    → own_at (numbers pools) columns lane ≡ map (λ (pool : LentPool). (pool.number, row_in e pool)) pools
own-loaded e [] columns lane long loaded = refl
own-loaded e (p ∷ pools) [] lane long loaded = absurd (omega arith)
own-loaded e (p ∷ pools) (c ∷ columns) lane long loaded =
    ap₂ (λ (row : Row) rest. (p.number, row) ∷ rest) (sym (ap (λ o. unwrap_or o zero_row) (loaded 0 (omega arith))))
    (own-loaded e pools columns lane (omega arith) (λ at within. loaded (suc at) (omega arith)))

not-true : (b : Bool) → not b ≡ true → b ≡ false
not-true true is = absurd (false≢true is)
not-true false is = refl

named-at : (b : Bool) (n x : ℕ) (ns : List ℕ) (j : ℕ) → eqb x n ≡ b → has_pool ns n ≡ true → (b || has_pool ns n) ≡ true
named-at true n x ns j is has = refl
named-at false n x ns j is has = has

has-at : (ns : List ℕ) (j n : ℕ) → slice_get ns j ≡ Some n → has_pool ns n ≡ true
has-at [] j n is = absurd (cc)
has-at (x ∷ ns) zero n is = let same : x ≡ n = cc in ap (λ (b : Bool). b || has_pool ns n) (eq-eqb x n same)
has-at (x ∷ ns) (suc j) n is = named-at (eqb x n) n x ns j refl (has-at ns j n is)

own-step : (b : Bool) (n x : ℕ) (row : Row) (rest : List (ℕ × Row)) → eqb x n ≡ b → b ≡ false → own_row ((x, row) ∷ rest) n ≡ own_row rest n
own-step true n x row rest is differs = absurd (false≢true (sym differs))
own-step false n x row rest is differs = ap (λ (c : Bool). unwrap_or (cond c (Some row) (lookup (λ (other : ℕ). other == n) rest)) zero_row) is

other-number : (x n : ℕ) (ns : List ℕ) (j : ℕ) (b : Bool) → eqb x n ≡ b → slice_get ns j ≡ Some n → has_pool ns x ≡ false → eqb x n ≡ false
other-number x n ns j true is at differs = absurd (false≢true (sym differs ∙ ap (has_pool ns) (eqb-true x n is) ∙ has-at ns j n at))
other-number x n ns j false is at differs = is

-- the own row of a number is that of its column, where no number stands twice
pub own_row-column : (ns : List ℕ) (columns : List (List Row)) (lane j n : ℕ) → are_distinct ns ≡ true → slice_get ns j ≡ Some n → j < length columns
    → own_row (own_at ns columns lane) n ≡ row_at (slice_index_or columns j []) lane
own_row-column [] columns lane j n distinct at there = absurd (cc)
own_row-column (x ∷ ns) [] lane j n distinct at there = absurd (omega arith)
own_row-column (x ∷ ns) (c ∷ columns) lane zero n distinct at there =
    let same : x ≡ n = cc in
    ap (λ (b : Bool). unwrap_or (cond b (Some (row_at c lane)) (lookup (λ (other : ℕ). other == n) (own_at ns columns lane))) zero_row) (eq-eqb x n same)
own_row-column (x ∷ ns) (c ∷ columns) lane (suc j) n distinct at there =
    let parts = and_parts (not (has_pool ns x)) (are_distinct ns) distinct in
    own-step (eqb x n) n x (row_at c lane) (own_at ns columns lane) refl (other-number x n ns j (eqb x n) refl at (not-true (has_pool ns x) parts.0))
    ∙ own_row-column ns columns lane j n parts.1 at (omega arith)

pub number-at : (pools : List LentPool) (j : ℕ) → j < length pools → slice_get (numbers pools) j ≡ Some (pool_at pools j).number
number-at [] j within = absurd (omega arith)
number-at (p ∷ pools) zero within = refl
number-at (p ∷ pools) (suc j) within = number-at pools j (omega arith)

-- ---- how many lanes are marked

marked-step : (m : Bool) (marks : List Bool) → marked_count (m ∷ marks) ≡ cond m 1 0 + marked_count marks
marked-step m marks = sum_by-cons (λ (mark : Bool). cond mark 1 0) m marks

abbrev flag : Bool → ℕ
flag b = cond b 1 0

few-step : (b : Bool) (m : Bool) (count n : ℕ) → m ≡ b → (m ≡ true → 0 < n) → count ≤ n - 1 → cond m 1 0 + count ≤ n
few-step true m count n is low rest = let some = low is in let one = ap flag is in omega (arith, one, some, rest)
few-step false m count n is low rest = let none = ap flag is in omega (arith, none, rest)

-- no more than lanes from which marks end
pub few-marked : (marks : List Bool) (n : ℕ) → ((lane : ℕ) → is_marked marks lane ≡ true → lane < n) → marked_count marks ≤ n
few-marked [] n low = omega arith
few-marked (m ∷ marks) n low =
    let rest = few-marked marks (n - 1) (λ lane is. let more = low (suc lane) is in omega (arith, more)) in
    let all = few-step m m (marked_count marks) n refl (low 0) rest in
    omega (arith, all, marked-step m marks)

pub marked-within : (marks : List Bool) → marked_count marks ≤ length marks
marked-within marks = count_by-le-length (λ (mark : Bool). mark) marks

-- room for the orders of a batch, and for those of all that come later
pub room-now : (commands count from end spare : ℕ) → count + from ≤ end → commands * end ≤ spare + commands * from → commands * count ≤ spare
room-now commands count from end spare fits room =
    let product = mul-le-mul_left commands fits in
    let sum : commands * (count + from) ≡ commands * count + commands * from = omega arith in
    omega (arith, product, sum, room)

pub room-later : (commands count from end spare later : ℕ) → count ≤ 64 → commands * end ≤ spare + commands * from → spare ≤ later + commands * count → commands * end ≤ later + commands * (from + 64)
room-later commands count from end spare later few room given =
    let product = mul-le-mul_left commands few in
    let sum : commands * (from + 64) ≡ commands * from + commands * 64 = omega arith in
    omega (arith, product, sum, room, given)

-- ---- the list that is walked

keys-of-at : (pools : List LentPool) (at : ℕ) → entries.keys (pool_at pools at).storage.pairs ≡ slice_index_or (map (λ (pool : LentPool). entries.keys pool.storage.pairs) pools) at []
keys-of-at [] at = refl
keys-of-at (p ∷ pools) zero = refl
keys-of-at (p ∷ pools) (suc at) = keys-of-at pools at

-- a change of rows leaves the identifiers of an own pool
pub keys-same : (count : ℕ) (old new : Register) (at : ℕ) → ChangesRows old new → entries.keys (pool_at (own_lent count new) at).storage.pairs ≡ entries.keys (pool_at (own_lent count old) at).storage.pairs
keys-same count old new at changes =
    keys-of-at (own_lent count new) at
    ∙ ap (λ (all : List (List Entity)). slice_index_or all at []) (own-same (λ (pool : LentPool). entries.keys pool.storage.pairs) count old new changes (λ place within. (changes.rows place).identifiers))
    ∙ sym (keys-of-at (own_lent count old) at)

pub walked-same : (count : ℕ) (old new : Register) (at end : ℕ) → ChangesRows old new → walked_in count new at end ≡ walked_in count old at end
walked-same count old new at end changes = ap (take end) (keys-same count old new at changes)

-- ---- marks

-- a mark that goes with something stays with it
pub and-same : (b h : Bool) → (b ≡ true → h ≡ true) → b ≡ (b && h)
and-same true h goes = sym (goes refl)
and-same false h goes = refl

and-assoc : (a b c : Bool) → ((a && b) && c) ≡ (a && (b && c))
and-assoc true b c = refl
and-assoc false b c = refl

all-more : (test : LentPool → Bool) (pools : List LentPool) (pool : LentPool) → list_all test (pools ++ pool ∷ []) ≡ (list_all test pools && test pool)
all-more test [] pool = elim (test pool) as (λ b. (b && true) ≡ b) [ true ↦ refl | false ↦ refl ]
all-more test (p ∷ pools) pool = ap (λ (b : Bool). test p && b) (all-more test pools pool) ∙ sym (and-assoc (test p) (list_all test pools) (test pool))

pub own-length : (count : ℕ) (register : Register) → count ≤ length register.reads → length (own_lent count register) ≡ count + length register.writes
own-length count register fits =
    length-append (take count register.reads) register.writes ∙ ap (λ (n : ℕ). n + length register.writes) (length-taken-pools count register.reads fits)

-- one own pool more
pub marked-more : (first now later : Bool) (entity : Entity) (count : ℕ) (register : Register) (at : ℕ) → at < length (own_lent count register)
    → later ≡ (now && has_row entity (pool_at (own_lent count register) at)) → now ≡ (first && list_all (has_row entity) (take at (own_lent count register)))
    → later ≡ (first && list_all (has_row entity) (take (at + 1) (own_lent count register)))
marked-more first now later entity count register at within is before =
    let own = own_lent count register in
    is ∙ ap (λ (b : Bool). b && has_row entity (pool_at own at)) before
    ∙ and-assoc first (list_all (has_row entity) (take at own)) (has_row entity (pool_at own at))
    ∙ ap (λ (b : Bool). first && b) (sym (ap (list_all (has_row entity)) (take_more own at no_pool within) ∙ all-more (has_row entity) (take at own) (pool_at own at)))
