-- Turns at the pools of a system.
use Rattle.std.proofs.Common.{◌≡◌, ℕ, zero, suc, ◌+◌, ◌<◌, List, [], ◌∷◌, ◌++◌, length, take, get_or, Some, slice_get, refl, sym, ap, ◌∙◌, subst}
use Rattle.std.specs.List.{AllZip}
use Rattle.std.proofs.lemmas.List.{take_more, map-append}
use Rattle.std.proofs.lemmas.Option.{same_Some, none-some}
use Rattle.pool_slots.specs.Turns.{Turn}
use Rattle.pool_slots.specs.declared.held.PoolTag.{PoolTag}
use Rattle.pool_slots.specs.Tags.{AreNumbered, turn_of, turns_at}
use Rattle.tick_runner.specs.Turns.{found_at, turn_found}

pub found_more : {F : Type 0} (tags : List (PoolTag F)) (needs : List ℕ) (k : ℕ) (list : List ℕ) (t : Turn F) → k < length list → turn_found tags needs (get_or list k 0) ≡ Some t
    → found_at tags needs (take (k + 1) list) ≡ found_at tags needs (take k list) ++ Some t ∷ []
found_more tags needs k list t low found =
    ap (found_at tags needs) (take_more list k 0 low) ∙ map-append (turn_found tags needs) (take k list) (get_or list k 0 ∷ []) ∙ ap (λ o. found_at tags needs (take k list) ++ o ∷ []) found

found : {F : Type 0} (tags : List (PoolTag F)) (pool version : ℕ) (t : Turn F) → slice_get (turns_at version tags) pool ≡ Some t → (tag : PoolTag F) × (slice_get tags pool ≡ Some tag) × (t ≡ turn_of tag version)
found [] pool version t is = absurd (none-some t is)
found (x ∷ tags) zero version t is = (x, refl, sym (same_Some (turn_of x version) t is))
found (x ∷ tags) (suc pool) version t is = found tags pool version t is

-- a turn has its pool's number
pub turn_number : {F : Type 0} (tags : List (PoolTag F)) (pool version : ℕ) (t : Turn F) → AreNumbered tags → slice_get (turns_at version tags) pool ≡ Some t → t.pool ≡ pool
turn_number tags pool version t numbered is = let tag = found tags pool version t is in ap (λ (u : Turn _). u.pool) tag.2 ∙ numbered pool tag.0 tag.1

pub all_zip_pop : {X Y : Type 0} (R : X → Y → Type 0) (xs : List X) (ys : List Y) (x : X) (y : Y) → AllZip R (xs ++ x ∷ []) (ys ++ y ∷ []) → AllZip R xs ys × R x y
all_zip_pop R [] [] x y all = (tt, all.0)
all_zip_pop R [] (b ∷ []) x y all = absurd all.1
all_zip_pop R [] (b ∷ c ∷ ys) x y all = absurd all.1
all_zip_pop R (a ∷ []) [] x y all = absurd all.1
all_zip_pop R (a ∷ c ∷ xs) [] x y all = absurd all.1
all_zip_pop R (a ∷ xs) (b ∷ ys) x y all = let rest = all_zip_pop R xs ys x y all.1 in ((all.0, rest.0), rest.1)

-- the last of two lists side by side
pub last_pair : {X Y : Type 0} (R : X → Y → Type 0) (all xs : List X) (bs ys : List Y) (x : X) (y : Y) → all ≡ xs ++ x ∷ [] → bs ≡ ys ++ y ∷ [] → AllZip R all bs → AllZip R xs ys × R x y
last_pair R all xs bs ys x y a b both = all_zip_pop R xs ys x y (subst (λ (zs : List _). AllZip R zs (ys ++ y ∷ [])) a (subst (λ (zs : List _). AllZip R all zs) b both))
