-- Lists of pool numbers.
use Rattle.std.proofs.Common.{◌≡◌, ◌≢◌, ℕ, zero, suc, ◌+◌, ◌<◌, Bool, true, false, not, ◌&&◌, ◌||◌, eqb, List, [], ◌∷◌, ◌++◌, get_or, length, set, take, Some, slice_get, refl, sym, ap, ap₂, ◌∙◌, subst, arith, append_assoc, eq-eqb}
use Rattle.std.specs.Prelude.{nat_lt}
use Rattle.std.specs.List.{AllByRecursion, AllZip}
use Rattle.std.proofs.lemmas.Bool.{eqb-true}
use Rattle.std.proofs.lemmas.Bool.Decides.{nat_tests}
use Rattle.std.specs.Prelude.{slice_index}
use Rattle.std.proofs.lemmas.List.{length-append, get_or_push, get_or_append_left}
use Rattle.std.proofs.lemmas.Option.{none-some, same_Some, slice_get_within}
use native.Mathlib.Decide.{ℕ_discrete}
use mathlib.Core.Logic.{dite}
use Rattle.world_model.specs.Groups.{has_pool, are_declared, are_distinct}

pub and-left : (b c : Bool) → (b && c) ≡ true → b ≡ true
and-left true c e = refl
and-left false c e = e

pub and-right : (b c : Bool) → (b && c) ≡ true → c ≡ true
and-right true c e = e
and-right false c e = absurd (cc)

pub or-left : (b c : Bool) → (b || c) ≡ false → b ≡ false
or-left true c e = e
or-left false c e = refl

pub or-right : (b c : Bool) → (b || c) ≡ false → c ≡ false
or-right true c e = absurd (cc)
or-right false c e = e

or-true : (b c : Bool) → c ≡ true → (b || c) ≡ true
or-true true c e = refl
or-true false c e = e

pub or-assoc : (a b c : Bool) → (a || b) || c ≡ a || (b || c)
or-assoc true b c = refl
or-assoc false b c = refl

and-assoc : (a b c : Bool) → (a && b) && c ≡ a && (b && c)
and-assoc true b c = refl
and-assoc false b c = refl

pub not_true : (b : Bool) → (b ≡ true → ⊥) → b ≡ false
not_true true never = absurd (never refl)
not_true false never = refl

pub not-false : (b : Bool) → not b ≡ true → b ≡ false
not-false true e = absurd (cc)
not-false false e = refl

pub clash : (b : Bool) → b ≡ true → b ≡ false → ⊥
clash b e f = cc

less : (m n : ℕ) → nat_lt m n ≡ true → m < n
less m n h = grind (arith, nat_tests)

-- ---- declared ones

pub declared_at : (count : ℕ) (list : List ℕ) (k d : ℕ) → are_declared count list ≡ true → k < length list → get_or list k d < count
declared_at count [] k d all low = absurd (omega arith)
declared_at count (n ∷ list) zero d all low = less n count (and-left (nat_lt n count) (are_declared count list) all)
declared_at count (n ∷ list) (suc k) d all low = declared_at count list k d (and-right (nat_lt n count) (are_declared count list) all) (omega arith)

pub declared-append : (count : ℕ) (a b : List ℕ) → are_declared count (a ++ b) ≡ are_declared count a && are_declared count b
declared-append count [] b = refl
declared-append count (n ∷ a) b = ap (λ all. nat_lt n count && all) (declared-append count a b) ∙ sym (and-assoc (nat_lt n count) (are_declared count a) (are_declared count b))

pub declared_left : (count : ℕ) (a b : List ℕ) → are_declared count (a ++ b) ≡ true → are_declared count a ≡ true
declared_left count a b all = and-left (are_declared count a) (are_declared count b) (sym (declared-append count a b) ∙ all)

pub declared_right : (count : ℕ) (a b : List ℕ) → are_declared count (a ++ b) ≡ true → are_declared count b ≡ true
declared_right count a b all = and-right (are_declared count a) (are_declared count b) (sym (declared-append count a b) ∙ all)

pub declared_first : (count n : ℕ) (list : List ℕ) → are_declared count (n ∷ list) ≡ true → n < count
declared_first count n list all = less n count (and-left (nat_lt n count) (are_declared count list) all)

-- ---- named ones

pub named-append : (a b : List ℕ) (n : ℕ) → has_pool (a ++ b) n ≡ has_pool a n || has_pool b n
named-append [] b n = refl
named-append (x ∷ a) b n = ap (λ rest. eqb x n || rest) (named-append a b n) ∙ sym (or-assoc (eqb x n) (has_pool a n) (has_pool b n))

pub named_first : (n : ℕ) (list : List ℕ) → has_pool (n ∷ list) n ≡ true
named_first n list = ap (λ b. b || has_pool list n) (eq-eqb n n refl)

pub named_later : (x : ℕ) (list : List ℕ) (n : ℕ) → has_pool list n ≡ true → has_pool (x ∷ list) n ≡ true
named_later x list n named = or-true (eqb x n) (has_pool list n) named

-- what holds of each number holds of one that is named
named-step : (b : Bool) (P : ℕ → Type 0) (x n : ℕ) (c : Bool) → eqb x n ≡ b → P x → (c ≡ true → P n) → (b || c) ≡ true → P n
named-step true P x n c e here rest named = subst P (eqb-true x n e) here
named-step false P x n c e here rest named = rest named

pub all_named : (P : ℕ → Type 0) (list : List ℕ) (n : ℕ) → AllByRecursion P list → has_pool list n ≡ true → P n
all_named P [] n all named = absurd (cc)
all_named P (x ∷ list) n all named = named-step (eqb x n) P x n (has_pool list n) refl all.0 (all_named P list n all.1) named

-- ---- distinct ones

distinct-step : (b : Bool) (a c : List ℕ) (x n : ℕ) → eqb x n ≡ b → has_pool (a ++ c) x ≡ false → (has_pool a n ≡ true → has_pool c n ≡ false) → (b || has_pool a n) ≡ true → has_pool c n ≡ false
distinct-step true a c x n e none rest named =
    subst (λ (m : ℕ). has_pool c m ≡ false) (eqb-true x n e) (or-right (has_pool a x) (has_pool c x) (sym (named-append a c x) ∙ none))
distinct-step false a c x n e none rest named = rest named

-- no number of the first list stands in the second
distinct-both : (a b : List ℕ) → are_distinct (a ++ b) ≡ true → (n : ℕ) → has_pool a n ≡ true → has_pool b n ≡ false
distinct-both [] b apart n named = absurd (cc)
distinct-both (x ∷ a) b apart n named =
    let rest : are_distinct (a ++ b) ≡ true = and-right (not (has_pool (a ++ b) x)) (are_distinct (a ++ b)) apart in
    distinct-step (eqb x n) a b x n refl (not-false (has_pool (a ++ b) x) (and-left (not (has_pool (a ++ b) x)) (are_distinct (a ++ b)) apart)) (distinct-both a b rest n) named

pub distinct_left : (a b : List ℕ) → are_distinct (a ++ b) ≡ true → are_distinct a ≡ true
distinct_left [] b apart = refl
distinct_left (x ∷ a) b apart =
    let none : has_pool (a ++ b) x ≡ false = not-false (has_pool (a ++ b) x) (and-left (not (has_pool (a ++ b) x)) (are_distinct (a ++ b)) apart) in
    let here : has_pool a x ≡ false = or-left (has_pool a x) (has_pool b x) (sym (named-append a b x) ∙ none) in
    ap (λ b. not b && are_distinct a) here ∙ distinct_left a b (and-right (not (has_pool (a ++ b) x)) (are_distinct (a ++ b)) apart)

-- what a system writes is in none of its other lists
pub apart_lists : (read write look without : List ℕ) → are_distinct ((read ++ write) ++ without) ≡ true → are_distinct (write ++ look) ≡ true → (n : ℕ) → has_pool write n ≡ true
    → has_pool ((read ++ look) ++ without) n ≡ false
apart_lists read write look without apart looked n named =
    let own : has_pool (read ++ write) n ≡ true = named-append read write n ∙ or-true (has_pool read n) (has_pool write n) named in
    let not_read : has_pool read n ≡ false = not_true (has_pool read n) (λ is. clash (has_pool write n) named
    (or-left (has_pool write n) (has_pool without n) (sym (named-append write without n) ∙ distinct-both read (write ++ without) (ap are_distinct (sym (append_assoc read write without)) ∙ apart) n is))) in
    named-append (read ++ look) without n
    ∙ ap₂ (λ b c. b || c) (named-append read look n ∙ ap₂ (λ b c. b || c) not_read (distinct-both write look looked n named)) (distinct-both (read ++ write) without apart n own)

-- ---- two lists side by side

pub all_zip_more : {X Y : Type 0} (R : X → Y → Type 0) (xs : List X) (ys : List Y) (x : X) (y : Y) → AllZip R xs ys → R x y → AllZip R (xs ++ x ∷ []) (ys ++ y ∷ [])
all_zip_more R [] [] x y all here = (here, tt)
all_zip_more R [] (b ∷ ys) x y all here = absurd all
all_zip_more R (a ∷ xs) [] x y all here = absurd all
all_zip_more R (a ∷ xs) (b ∷ ys) x y all here = (all.0, all_zip_more R xs ys x y all.1 here)

pub all_zip_length : {X Y : Type 0} (R : X → Y → Type 0) (xs : List X) (ys : List Y) → AllZip R xs ys → length ys ≡ length xs
all_zip_length R [] [] all = refl
all_zip_length R [] (b ∷ ys) all = absurd all
all_zip_length R (a ∷ xs) [] all = absurd all
all_zip_length R (a ∷ xs) (b ∷ ys) all = ap suc (all_zip_length R xs ys all.1)

pub all_zip_at : {X Y : Type 0} (R : X → Y → Type 0) (xs : List X) (ys : List Y) (k : ℕ) (x : X) (y : Y) → AllZip R xs ys → slice_get xs k ≡ Some x → slice_get ys k ≡ Some y → R x y
all_zip_at R [] ys k x y all at there = absurd (none-some x at)
all_zip_at R (a ∷ xs) [] k x y all at there = absurd all
all_zip_at R (a ∷ xs) (b ∷ ys) zero x y all at there = subst (λ v. R v y) (same_Some a x at) (subst (λ v. R a v) (same_Some b y there) all.0)
all_zip_at R (a ∷ xs) (b ∷ ys) (suc k) x y all at there = all_zip_at R xs ys k x y all.1 at there

-- ---- an item set

pub take_set : {X : Type 0} (xs : List X) (k : ℕ) (x : X) → k < length xs → take (suc k) (set xs k x) ≡ take k xs ++ x ∷ []
take_set [] k x low = absurd (omega arith)
take_set (y ∷ xs) zero x low = refl
take_set (y ∷ xs) (suc k) x low = ap (λ rest. y ∷ rest) (take_set xs k x (omega arith))

-- ---- an item more

pub push_last : {A : Type 0} (xs : List A) (x : A) (k : ℕ) → length xs ≡ k → slice_get (xs ++ x ∷ []) k ≡ Some x
push_last [] x zero long = refl
push_last [] x (suc k) long = absurd (omega (arith, long))
push_last (y ∷ xs) x zero long = absurd (omega (arith, long))
push_last (y ∷ xs) x (suc k) long = push_last xs x k (omega (arith, long))

pub push_before : {A : Type 0} (xs : List A) (x : A) (k : ℕ) → k < length xs → slice_get (xs ++ x ∷ []) k ≡ slice_get xs k
push_before [] x k low = absurd (omega (arith, low))
push_before (y ∷ xs) x zero low = refl
push_before (y ∷ xs) x (suc k) low = push_before xs x k (omega (arith, low))

below : (i k : ℕ) → i < k + 1 → i ≢ k → i < k
below i k low other = omega arith

-- what holds of each item holds of each after one more of which it holds
pub pushed_at : {A : Type 0} (P : ℕ → A → Type 0) (xs : List A) (y : A) (k : ℕ) → length xs ≡ k → ((i : ℕ) (x : A) → slice_get xs i ≡ Some x → P i x) → P k y
    → (i : ℕ) (x : A) → slice_get (xs ++ y ∷ []) i ≡ Some x → P i x
pushed_at {A = A} P xs y k long each last i x is = dite (ℕ_discrete i k)
    (λ e. subst (λ (n : ℕ). P n x) (sym e) (subst (λ (z : A). P k z) (same_Some y x (sym (push_last xs y k long) ∙ ap (slice_get (xs ++ y ∷ [])) (sym e) ∙ is)) last))
    (λ ne. each i x (sym (push_before xs y i (subst (λ (n : ℕ). i < n) (sym long) (below i k (subst (λ (n : ℕ). i < n) (length-append xs (y ∷ []) ∙ ap (λ n. n + 1) long) (slice_get_within (xs ++ y ∷ []) i x is)) ne))) ∙ is))

-- the same of numbers by their places
pub pushed_each : (P : ℕ → ℕ → Type 0) (xs : List ℕ) (y k : ℕ) → length xs ≡ k → ((i : ℕ) → i < k → P i (slice_index xs i)) → P k y → (i : ℕ) → i < k + 1 → P i (slice_index (xs ++ y ∷ []) i)
pushed_each P xs y k long each last i low = dite (ℕ_discrete i k)
    (λ e. subst (λ (n : ℕ). P n (slice_index (xs ++ y ∷ []) n)) (sym e) (subst (λ (z : ℕ). P k z) (sym (get_or_push xs y 0 k long)) last))
    (λ ne. let lower = below i k low ne in subst (λ (z : ℕ). P i z) (sym (get_or_append_left xs (y ∷ []) 0 i (subst (λ (n : ℕ). i < n) (sym long) lower))) (each i lower))
