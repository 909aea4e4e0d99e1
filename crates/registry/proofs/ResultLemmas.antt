-- What holds where a call was done, and where it was refused.
use Rattle.std.proofs.Common.{◌≡◌, ◌≢◌, Bool, true, false, Result, Ok, Err, OnOk, OnErr, IfOk, IfErr, IsOk, is_ok, is_err, refl, sym}
use Rattle.std.specs.Bool.{OnTrue, OnFalse}

-- from two facts on success
pub both_ok : {A E P Q R : Type 0} (r : Result A E) → OnOk r P → OnOk r Q → (P → Q → R) → OnOk r R
both_ok (Ok x) p q h = h p q
both_ok (Err x) p q h = q

-- from two facts on a refusal
pub both_err : {A E P Q R : Type 0} (r : Result A E) → OnErr r P → OnErr r Q → (P → Q → R) → OnErr r R
both_err (Ok x) p q h = q
both_err (Err x) p q h = h p q

-- where a test held, and where it didn't
pub on_true : {P : Type 0} (b : Bool) → (b ≡ true → P) → OnTrue b P
on_true true h = h refl
on_true false h = tt

pub on_false : {P : Type 0} (b : Bool) → (b ≡ false → P) → OnFalse b P
on_false true h = tt
on_false false h = h refl

-- what holds on success, where it was one
pub on_ok : {A E P : Type 0} (r : Result A E) → is_ok r ≡ true → OnOk r P → P
on_ok (Ok x) h p = p
on_ok (Err x) h p = cc

-- what always holds
pub all_ok : {A E P : Type 0} (r : Result A E) → P → OnOk r P
all_ok (Ok x) h = h
all_ok (Err x) h = tt

-- from a fact of what a call gave
pub if_ok : {A E : Type 0} {P Q : A → Type 0} (r : Result A E) → IfOk r P → ((x : A) → P x → Q x) → IfOk r Q
if_ok (Ok x) p h = h x p
if_ok (Err e) p h = tt

pub ok_by_not_err : {A E : Type 0} (r : Result A E) → is_err r ≡ false → is_ok r ≡ true
ok_by_not_err (Ok x) h = refl
ok_by_not_err (Err x) h = sym h

pub not_ok_by_err : {A E : Type 0} (r : Result A E) → is_err r ≡ true → is_ok r ≡ false
not_ok_by_err (Ok x) h = sym h
not_ok_by_err (Err x) h = refl

pub all_err : {A E P : Type 0} (r : Result A E) → P → OnErr r P
all_err (Ok x) h = tt
all_err (Err x) h = h

-- what follows from a fact on success
pub then_ok : {A E P Q : Type 0} (r : Result A E) → OnOk r P → (P → Q) → OnOk r Q
then_ok (Ok x) p h = h p
then_ok (Err x) p h = tt

-- and from one on a refusal
pub then_err : {A E P Q : Type 0} (r : Result A E) → OnErr r P → (P → Q) → OnErr r Q
then_err (Ok x) p h = tt
then_err (Err x) p h = h p

-- what holds where a test didn't, where it didn't
pub by_false : {P : Type 0} (b : Bool) → b ≡ false → OnFalse b P → P
by_false true h p = cc
by_false false h p = p

-- what was no refusal had none
pub no_err : {A E : Type 0} (P : E → Type 0) (r : Result A E) → IsOk r → IfErr r P
no_err P (Ok x) h = tt
no_err P (Err x) h = let apart : false ≡ true = h in cc

-- refused for one cause alone, and never for that
pub never_err : {A E : Type 0} (cause : E) (r : Result A E) → IfErr r (λ e. e ≡ cause) → IfErr r (λ e. e ≢ cause) → IsOk r
never_err cause (Ok x) h k = refl
never_err cause (Err x) h k = absurd (k h)
