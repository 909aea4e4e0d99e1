-- Worked draws, computed.
use Rattle.std.proofs.Common.{◌≡◌, [], ◌∷◌, map, refl}
use Rattle.std.specs.List.{range_with_len}
use Rattle.world_maker.specs.Draws.{draw, draw_of}

pub the_first_twenty_of_1 : map (draw 1) (range_with_len 1 20)
    ≡ 149 ∷ 11249 ∷ 57305 ∷ 38044 ∷ 35283 ∷ 24819 ∷ 26463 ∷ 18689 ∷ 25472 ∷ 9901
    ∷ 21742 ∷ 57836 ∷ 12332 ∷ 7456 ∷ 34978 ∷ 1944 ∷ 14800 ∷ 61482 ∷ 23634 ∷ 3125 ∷ []
the_first_twenty_of_1 = refl

-- the second entity takes the second ten
pub the_first_of_the_second_entity : draw_of 1 1 1 ≡ 21742
the_first_of_the_second_entity = refl

-- a number that is equal modulo 65537 draws the same
pub numbers_are_taken_modulo_65537 : map (draw 65538) (range_with_len 1 3) ≡ 149 ∷ 11249 ∷ 57305 ∷ []
numbers_are_taken_modulo_65537 = refl
