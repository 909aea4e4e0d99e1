-- Kinds of events, counts of watches, and places in lists.
use Rattle.std.proofs.Common.{◌≡◌, ◌≢◌, ◌⊎◌, inl, inr, ℕ, zero, suc, ◌+◌, ◌==◌, Bool, true, false, cond, ◌&&◌, List, [], ◌∷◌, ◌++◌, map, length, Option, Some, slice_get, slice_set, slice_index_or, refl, sym, ap, ap₂, ◌∙◌, arith}
use Rattle.std.specs.Prelude.{count_by}
use Rattle.std.specs.Option.{option_map, option_map_or}
use Rattle.std.proofs.lemmas.Bool.{false≢true}
use Rattle.std.proofs.lemmas.Bool.Decides.{nat_tests}
use Rattle.std.proofs.lemmas.List.{length-map}
use Rattle.std.proofs.lemmas.List.Sums.{sum_by-append}
use Rattle.std.proofs.lemmas.Option.{same_Some}
use Rattle.signal_sink.specs.Hearings.{Hearing, heard_lists}
use Rattle.world_model.specs.declared.event.EventKind.{EventKind}
use Rattle.world_model.specs.declared.event.EventKind.TheVariants.{Construct, Update, Destroy}
use Rattle.world_model.specs.Steps.{is_same_kind}

pub kind_cases : (a b : EventKind) → (a ≡ b) ⊎ ((a ≢ b) × (is_same_kind a b ≡ false))
kind_cases Construct Construct = inl refl
kind_cases Update Update = inl refl
kind_cases Destroy Destroy = inl refl
kind_cases Construct Update = inr ((λ e. false≢true (sym (ap (λ k. is_same_kind k Construct) e))), refl)
kind_cases Construct Destroy = inr ((λ e. false≢true (sym (ap (λ k. is_same_kind k Construct) e))), refl)
kind_cases Update Construct = inr ((λ e. false≢true (sym (ap (λ k. is_same_kind k Update) e))), refl)
kind_cases Update Destroy = inr ((λ e. false≢true (sym (ap (λ k. is_same_kind k Update) e))), refl)
kind_cases Destroy Construct = inr ((λ e. false≢true (sym (ap (λ k. is_same_kind k Destroy) e))), refl)
kind_cases Destroy Update = inr ((λ e. false≢true (sym (ap (λ k. is_same_kind k Destroy) e))), refl)

pub same_kind : (a : EventKind) → is_same_kind a a ≡ true
same_kind Construct = refl
same_kind Update = refl
same_kind Destroy = refl

pub same_either_way : (a b : EventKind) → is_same_kind a b ≡ is_same_kind b a
same_either_way Construct Construct = refl
same_either_way Construct Update = refl
same_either_way Construct Destroy = refl
same_either_way Update Construct = refl
same_either_way Update Update = refl
same_either_way Update Destroy = refl
same_either_way Destroy Construct = refl
same_either_way Destroy Update = refl
same_either_way Destroy Destroy = refl

pub no_both : (b : Bool) → (b && false) ≡ false
no_both true = refl
no_both false = refl

pub differ : (a b : ℕ) → a ≢ b → (b == a) ≡ false
differ a b other = grind (arith, nat_tests, other)

-- ---- counts

abbrev pub bit : Bool → ℕ
bit b = cond b 1 0

pub count-push : {X : Type 0} (p : X → Bool) (xs : List X) (x : X) → count_by p (xs ++ x ∷ []) ≡ count_by p xs + cond (p x) 1 0
count-push p xs x = omega (arith, sum_by-append (λ y. cond (p y) 1 0) xs (x ∷ []))

count-cons : {X : Type 0} (p : X → Bool) (x : X) (xs : List X) → count_by p (x ∷ xs) ≡ cond (p x) 1 0 + count_by p xs
count-cons p x xs = omega (arith, sum_by-append (λ y. cond (p y) 1 0) (x ∷ []) xs)

pub count-map : {X : Type 0} (p : X → Bool) (f : X → X) (xs : List X) → ((x : X) → p (f x) ≡ p x) → count_by p (map f xs) ≡ count_by p xs
count-map p f [] same = refl
count-map p f (x ∷ xs) same = count-cons p (f x) (map f xs) ∙ ap₂ (λ b n. cond b 1 0 + n) (same x) (count-map p f xs same) ∙ sym (count-cons p x xs)

pub count-set : {X : Type 0} (p : X → Bool) (xs : List X) (k : ℕ) (x y : X) → slice_get xs k ≡ Some x → p y ≡ p x → count_by p (slice_set xs k y) ≡ count_by p xs
count-set p [] k x y at same = refl
count-set p (z ∷ xs) zero x y at same = count-cons p y xs ∙ ap (λ b. cond b 1 0 + count_by p xs) (same ∙ ap p (sym (same_Some z x at))) ∙ sym (count-cons p z xs)
count-set p (z ∷ xs) (suc k) x y at same = count-cons p z (slice_set xs k y) ∙ ap (λ n. cond (p z) 1 0 + n) (count-set p xs k x y at same) ∙ sym (count-cons p z xs)

pub length-set : {X : Type 0} (xs : List X) (k : ℕ) (y : X) → length (slice_set xs k y) ≡ length xs
length-set [] k y = refl
length-set (x ∷ xs) zero y = refl
length-set (x ∷ xs) (suc k) y = ap suc (length-set xs k y)

pub map-set : {X Y : Type 0} (f : X → Y) (xs : List X) (k : ℕ) (y : X) → map f (slice_set xs k y) ≡ slice_set (map f xs) k (f y)
map-set f [] k y = refl
map-set f (x ∷ xs) zero y = refl
map-set f (x ∷ xs) (suc k) y = ap (λ ys. f x ∷ ys) (map-set f xs k y)

pub index_map : {X Y : Type 0} (f : X → Y) (xs : List X) (k : ℕ) (d : X) → f (slice_index_or xs k d) ≡ option_map_or (λ y. y) (option_map f (slice_get xs k)) (f d)
index_map f [] k d = refl
index_map f (x ∷ xs) zero d = refl
index_map f (x ∷ xs) (suc k) d = index_map f xs k d

pub heard_each : (xs : List (Option Hearing)) → length (heard_lists xs) ≡ length xs
heard_each xs = length-map xs (option_map (λ (h : Hearing). h.heard))
