-- Cuts of lists that reads and writes make.
use Rattle.std.proofs.Common.{◌≡◌, ℕ, ◌+◌, ◌-◌, ◌≤◌, min, List, Option, ◌++◌, take, drop, length, length-append, sym, ap, ◌∙◌, arith}
use Rattle.std.proofs.lemmas.List.{take_at, take_min, drop-drop, take-append-drop, drop-take, take-take}
use Rattle.std.proofs.Math.Seq.{take-append-add}
use Rattle.std.proofs.KnownBytes.{Consumes-trans}
use Rattle.std.specs.Io.KnownBytes.{Consumes}
use Rattle.ecs_io.specs.Streams.{LosesAtMost}

-- what was taken from the front, and the rest
pub front_and_rest : (bytes given rest : List ℕ) (at n m : ℕ)
    → given ≡ take m (drop at bytes) → m ≡ n → length given ≡ n
    → drop at bytes ≡ take n (given ++ rest) ++ drop (at + n) bytes
front_and_rest bytes given rest at n m e same len =
    let left = drop at bytes in
    let front : take n left ≡ take n (given ++ rest) =
    sym (take_at given rest n len ∙ e ∙ ap (λ k. take k left) same) in
    sym (take-append-drop n left)
    ∙ ap (λ x. x ++ drop n left) front
    ∙ ap (λ x. take n (given ++ rest) ++ x) (drop-drop n at bytes)

-- one piece more of a list
pub take_piece : (bytes : List ℕ) (at n : ℕ)
    → take (at + n) bytes ≡ take at bytes ++ take n (drop at bytes)
take_piece bytes at n =
    let both = take (at + n) bytes in
    sym (take-append-drop at both)
    ∙ ap (λ x. x ++ drop at both) (take-take at (at + n) bytes (omega arith))
    ∙ ap (λ x. take at bytes ++ x) (drop-take at n bytes)

-- what two calls lost, one after the other
pub loses_more : (a b c : Option (List ℕ)) (first : List ℕ) (next most : ℕ)
    → Consumes a b first → LosesAtMost b c next → length first + next ≤ most → LosesAtMost a c most
loses_more a b c first next most taken lost few = (
  first ++ lost.0,
  Consumes-trans a b c first lost.0 taken lost.1,
  omega (arith, length-append first lost.0, lost.2),
)

-- as much behind a list as there is room for is the front of the two
pub kept_front : (room n : ℕ) (kept bytes : List ℕ) → length kept ≤ room → n ≡ min (length bytes) (room - length kept)
    → kept ++ take n bytes ≡ take room (kept ++ bytes)
kept_front room n kept bytes within e =
    let left : ℕ = room - length kept in
    let least : n ≡ min left (length bytes) = omega arith in
    let behind : take n bytes ≡ take left bytes = ap (λ k. take k bytes) least ∙ take_min left bytes in
    let whole : length kept + left ≡ room = omega arith in
    ap (λ xs. kept ++ xs) behind ∙ sym (take-append-add kept bytes left) ∙ ap (λ k. take k (kept ++ bytes)) whole
