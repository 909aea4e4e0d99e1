-- Values filled into a row one after another.
use Rattle.std.proofs.Common.{◌≡◌, ℕ, suc, ◌-◌, ◌<◌, ℤ, pos, List, [], ◌∷◌, ◌++◌, map, length, set, replicate, refl, sym, ap, ◌∙◌, arith, length-append}

-- one padding less, and one item more
pub set_padded : {X : Type 0} (xs : List X) (n : ℕ) (d x : X) → set (xs ++ replicate (suc n) d) (length xs) x ≡ (xs ++ x ∷ []) ++ replicate n d
set_padded [] n d x = refl
set_padded (y ∷ xs) n d x = ap (λ rest. y ∷ rest) (set_padded xs n d x)

map_push : {X Y : Type 0} (f : X → Y) (xs : List X) (x : X) → map f (xs ++ x ∷ []) ≡ map f xs ++ f x ∷ []
map_push f [] x = refl
map_push f (y ∷ xs) x = ap (λ rest. f y ∷ rest) (map_push f xs x)

length-map : {X Y : Type 0} (f : X → Y) (xs : List X) → length (map f xs) ≡ length xs
length-map f [] = refl
length-map f (x ∷ xs) = ap suc (length-map f xs)

-- the row of one value more
pub row_more : {X : Type 0} (f : X → ℤ) (values : List X) (v : X) → length values < 4 → set (map f values ++ replicate (4 - length values) (pos 0)) (length values) (f v) ≡ map f (values ++ v ∷ []) ++ replicate (4 - length (values ++ v ∷ [])) (pos 0)
row_more f values v few =
    let room : 4 - length values ≡ suc (4 - length (values ++ v ∷ [])) = omega (arith, length-append values (v ∷ [])) in
    ap (λ n. set (map f values ++ replicate n (pos 0)) (length values) (f v)) room
    ∙ ap (λ i. set (map f values ++ replicate (suc (4 - length (values ++ v ∷ []))) (pos 0)) i (f v)) (sym (length-map f values))
    ∙ set_padded (map f values) (4 - length (values ++ v ∷ [])) (pos 0) (f v)
    ∙ ap (λ xs. xs ++ replicate (4 - length (values ++ v ∷ [])) (pos 0)) (sym (map_push f values v))
