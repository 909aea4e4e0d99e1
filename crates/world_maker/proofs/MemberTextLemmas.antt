-- The line of the groups, one group more.
use Rattle.std.proofs.Common.{◌≡◌, ℕ, zero, suc, ◌+◌, ◌<◌, List, [], ◌∷◌, ◌++◌, map, length, take, get_or, codes, sym, ap, ◌∙◌, append_assoc, add-one, arith}
use Rattle.std.specs.Fmt.{decimal}
use Rattle.std.specs.List.{flat_map}
use Rattle.std.proofs.lemmas.List.{append-nil}
use Rattle.world_model.specs.declared.group.GroupDecl.{GroupDecl}
use Rattle.world_model.specs.declared.world.World.{World}
use Rattle.world_model.specs.Contents.{group_at, keys_of}
use Rattle.world_model.specs.Groups.{members}

-- one more of a list that is mapped and spread out
mapped_suc : {A B C : Type 0} (s : B → List C) (f : A → B) (xs : List A) (i : ℕ) (d : A) → i < length xs → flat_map s (map f (take (suc i) xs)) ≡ flat_map s (map f (take i xs)) ++ s (f (get_or xs i d))
mapped_suc s f [] i d h = absurd (omega arith)
mapped_suc s f (x ∷ xs) zero d h = append-nil (s (f x))
mapped_suc s f (x ∷ xs) (suc i) d h = ap (λ rest. s (f x) ++ rest) (mapped_suc s f xs i d (omega arith)) ∙ sym (append_assoc (s (f x)) (flat_map s (map f (take i xs))) (s (f (get_or xs i d))))

mapped_more : {A B C : Type 0} (s : B → List C) (f : A → B) (xs : List A) (i : ℕ) (d : A) → i < length xs → flat_map s (map f (take (i + 1) xs)) ≡ flat_map s (map f (take i xs)) ++ s (f (get_or xs i d))
mapped_more s f xs i d h = ap (λ (n : ℕ). flat_map s (map f (take n xs))) (add-one i) ∙ mapped_suc s f xs i d h

-- a text of which a part goes on
goes_on : (old word before next after text new : List ℕ) → text ≡ old ++ (word ++ before) → new ≡ text ++ next → after ≡ before ++ next → new ≡ old ++ (word ++ after)
goes_on old word before next after text new was is more =
    is
    ∙ ap (λ (t : List ℕ). t ++ next) was
    ∙ append_assoc old (word ++ before) next
    ∙ ap (λ (t : List ℕ). old ++ t) (append_assoc word before next ∙ ap (λ (t : List ℕ). word ++ t) (sym more))

-- a number behind a space
abbrev pub spaced : ℕ → List ℕ
spaced number = 32 ∷ decimal number

-- how many members a group has
abbrev pub size_in : World → GroupDecl → ℕ
size_in w group = length (members (keys_of w) group)

-- the sizes of the first so many groups
abbrev pub sizes_of_first : World → ℕ → List ℕ
sizes_of_first w count = flat_map spaced (map (size_in w) (take count w.groups))

pub members_more : (w : World) (group size : ℕ) (old text new : List ℕ) → group < length w.groups → size ≡ size_in w (group_at w group)
    → text ≡ old ++ (codes "members" ++ sizes_of_first w group) → new ≡ text ++ spaced size → new ≡ old ++ (codes "members" ++ sizes_of_first w (group + 1))
members_more w group size old text new within counted was is =
    goes_on old (codes "members") (sizes_of_first w group) (spaced size) (sizes_of_first w (group + 1)) text new was is
    (mapped_more spaced (size_in w) w.groups group (record { own = []; get = []; without = [] }) within ∙ ap (λ (n : ℕ). sizes_of_first w group ++ spaced n) (sym counted))
