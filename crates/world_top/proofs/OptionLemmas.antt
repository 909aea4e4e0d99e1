-- Words that are options, one by one.
use Rattle.std.proofs.Common.{◌≡◌, ℕ, ◌+◌, ◌<◌, ◌≤◌, true, false, Bool, List, [], ◌∷◌, length, take, drop, codes, string_bytes, ap, arith, if◌then◌else◌}
use Rattle.std.specs.Str.{bytes_eq}
use Rattle.std.specs.declared.string.String.{String}
use Rattle.std.proofs.Math.ListN.{get_or}
use Rattle.std.proofs.lemmas.List.Folds.{length-flat_map-take}
use Rattle.world_top.specs.Words.{apart, options_apart}

one_or_two : (first second : Bool) (a b c d word : List ℕ) → 0 < length (if first then a ∷ b ∷ [] else if second then c ∷ d ∷ [] else word ∷ [])
one_or_two true second a b c d word = omega arith
one_or_two false true a b c d word = omega arith
one_or_two false false a b c d word = omega arith

-- a word is one or two
pub apart_some : (word : List ℕ) → 0 < length (apart word)
apart_some word = one_or_two (bytes_eq (take 8 word) (codes "--ticks=")) (bytes_eq (take 10 word) (codes "--workers=")) (codes "--ticks") (drop 8 word) (codes "--workers") (drop 10 word) word

-- the words up to an option and those of it are among all
pub apart_upto : {A : Type 0} (options : List (String A)) (i : ℕ) (option : String A) → i < length options → option ≡ get_or options i option →
    length (options_apart (take i options)) + length (apart (string_bytes option)) ≤ length (options_apart options)
apart_upto options i option within same =
    let most = length-flat_map-take (λ o. apart (string_bytes o)) options i option within in
    let at : length (apart (string_bytes option)) ≡ length (apart (string_bytes (get_or options i option))) = ap (λ o. length (apart (string_bytes o))) same in
    omega (arith, most, at)
