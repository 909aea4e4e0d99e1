-- A step of a walk along a chain.
use Rattle.std.proofs.Common.{◌≡◌, ◌≢◌, ℕ, zero, suc, ◌+◌, ◌<◌, ◌≤◌, eqb, List, [], ◌∷◌, ◌++◌, drop, get_or, append_assoc, length, length-append, length-drop, Option, Some, None, slice_get, refl, sym, ap, subst, ◌∙◌, arith}
use Rattle.std.specs.Prelude.{MatchOption, IfSome}
use Rattle.std.specs.Option.{option_map_or}
use Rattle.std.proofs.lemmas.Bool.{ne_eqb}
use Rattle.std.proofs.lemmas.List.{drop-drop}
use Rattle.std.proofs.lemmas.Option.{slice_get_read, slice_get_within, slice_get_past}
use Rattle.entity_id.specs.declared.entity.Entity.{Entity}
use Rattle.world_model.proofs.SlotLemmas.{bit, count_cons}
use Rattle.entity_slots.specs.Threads.{next_at, chain, IsChain, IsRightBefore}
use Rattle.entity_slots.proofs.CountLemmas.{times}
use Rattle.entity_slots.proofs.ThreadLemmas.{length-chain, chain_is}

-- what stands in the identifier that is read
pub next_read : (list : List Entity) (i : ℕ) (e : Entity) → i < length list → e ≡ get_or list i e → next_at list i ≡ e.index
next_read list i e within is = ap (λ o. option_map_or (λ (x : Entity). x.index) o 0) (slice_get_read list (length list) i e refl within is)

-- the first index of a chain, and the chain behind it
pub record IsStep (list : List Entity) (null at : ℕ) (left : List ℕ) : Type 0 where
  pub after : List ℕ
  pub parts : left ≡ at ∷ after
  pub within : at < length list
  pub chained : IsChain list null (next_at list at) after

pub step : (list : List Entity) (null at : ℕ) (left : List ℕ) → IsChain list null at left → left ≢ [] → IsStep list null at left
step list null at [] h some = absurd (some refl)
step list null at (first ∷ rest) h some =
    let start : at ≡ first = h.0 in
    let within : first < length list = h.1 in
    record {
      after = rest;
      parts = ap (λ i. i ∷ rest) (sym start);
      within = omega arith;
      chained = subst (λ i. IsChain list null (next_at list i) rest) (sym start) h.2;
    }

-- before the null index there is one more
pub some_before_null : (list : List Entity) (null at : ℕ) (left : List ℕ) → IsChain list null at left → at ≢ null → left ≢ []
some_before_null list null at left h apart none = apart (subst (IsChain list null at) none h)

-- and where an index is still to come
pub some_to_come : (left : List ℕ) (index : ℕ) → 0 < times left index → left ≢ []
some_to_come left index here none = let same = ap (λ xs. times xs index) none in let zero_times : times [] index ≡ 0 = refl in omega arith

-- at the null index none is left
pub none_at_null : (list : List Entity) (null at : ℕ) (left : List ℕ) → length list ≤ null → IsChain list null at left → at ≡ null → left ≡ []
none_at_null list null at [] ended h same = refl
none_at_null list null at (first ∷ rest) ended h same = let start : at ≡ first = h.0 in let within : first < length list = h.1 in absurd (omega arith)

-- the walk has less before it after a step
pub shorter : (list : List Entity) (null at next : ℕ) (left after : List ℕ) → length list ≤ null → length left ≤ length list → IsChain list null at left → left ≡ at ∷ after
    → IsChain list null next after → length (chain (length list) list next) < length (chain (length list) list at)
shorter list null at next left after ended short h parts rest =
    let long = ap length parts in
    let here = ap length (chain_is (length list) list null at left short ended h) in
    let there = ap length (chain_is (length list) list null next after (omega arith) ended rest) in
    omega arith

-- what is left of a free list is no longer than it
pub left_short : (list : List Entity) (top : ℕ) (passed left : List ℕ) → chain (length list) list top ≡ passed ++ left → length left ≤ length list
left_short list top passed left parts =
    let whole = length-chain (length list) list top in
    let long = ap length parts in
    omega (arith, length-append passed left)

-- an index still to come is behind the first one, where it isn't that
pub still_to_come : (left after : List ℕ) (at index : ℕ) → left ≡ at ∷ after → at ≢ index → 0 < times left index → 0 < times after index
still_to_come left after at index parts apart here =
    let same = ap (λ xs. times xs index) parts in
    let none : bit (eqb at index) ≡ 0 = ap bit (ne_eqb at index apart) in
    omega (arith, count_cons index at after)

-- ---- place by place

-- what is left from a place on, after a step
pub next_left : (list : List Entity) (null at : ℕ) (e : Entity) (whole : List ℕ) (n : ℕ) → length list ≤ null → IsChain list null at (drop n whole) → slice_get list at ≡ Some e
    → IsChain list null e.index (drop (n + 1) whole)
next_left list null at e whole n ended h here =
    let within : at < length list = slice_get_within list at e here in
    let s : IsStep list null at (drop n whole) = step list null at (drop n whole) h (λ none. (let same : at ≡ null = subst (IsChain list null at) none h in omega arith)) in
    let next : next_at list at ≡ e.index = ap (λ o. option_map_or (λ (x : Entity). x.index) o 0) here in
    let rest : drop (n + 1) whole ≡ s.after = sym (drop-drop 1 n whole) ∙ ap (drop 1) s.parts in
    subst (λ (xs : List ℕ). IsChain list null e.index xs) (sym rest) (subst (λ (i : ℕ). IsChain list null i s.after) next s.chained)

-- past the last identifier nothing is left
pub none_past : (list : List Entity) (null at : ℕ) (left : List ℕ) → IsChain list null at left → length list ≤ at → left ≡ []
none_past list null at [] h past = refl
none_past list null at (first ∷ rest) h past = let start : at ≡ first = h.0 in let within : first < length list = h.1 in absurd (omega arith)

-- and then no place from there on has an index
pub none_at : (whole : List ℕ) (n place : ℕ) → drop n whole ≡ [] → n ≤ place → slice_get whole place ≡ None
none_at whole n place none past = slice_get_past whole place (let short = ap length none in omega (arith, length-drop n whole))

found_at : (whole : List ℕ) (place at : ℕ) (after : List ℕ) → drop place whole ≡ at ∷ after → slice_get whole place ≡ Some at
found_at [] zero at after parts = cc
found_at (x ∷ whole) zero at after parts = ap (λ xs. slice_get xs 0) parts
found_at [] (suc n) at after parts = cc
found_at (x ∷ whole) (suc n) at after parts = found_at whole n at after parts

-- the index that a walk has come to stands at its place
pub read_at : (list : List Entity) (null at : ℕ) (whole : List ℕ) (place : ℕ) → IsChain list null at (drop place whole) → at ≢ null → slice_get whole place ≡ Some at
read_at list null at whole place h apart =
    let s : IsStep list null at (drop place whole) = step list null at (drop place whole) h (some_before_null list null at (drop place whole) h apart) in
    found_at whole place at s.after s.parts

-- before an index stands the last one that was passed
pub right_before : (free passed after : List ℕ) (index : ℕ) (before : Option ℕ) → free ≡ passed ++ index ∷ after
    → MatchOption before (passed ≡ []) (λ first. (front : List ℕ) × (passed ≡ front ++ first ∷ [])) → IfSome before (λ first. IsRightBefore free first index)
right_before free passed after index None whole last = tt
right_before free passed after index (Some first) whole last = record {
  before = last.0;
  after = after;
  parts = whole ∙ ap (λ xs. xs ++ index ∷ after) last.1 ∙ append_assoc last.0 (first ∷ []) (index ∷ after);
}
