-- What a name is.
use Rattle.std.specs.Prelude.{ℕ, Bool, false, ◌&&◌, ◌||◌, not, List, [], ◌∷◌, length, nat_le, ◌==◌, codes}
use Rattle.std.specs.List.{list_all}
use Rattle.std.specs.Str.{bytes_eq}

-- a to z
abbrev pub is_letter : ℕ → Bool
is_letter byte = nat_le 97 byte && nat_le byte 122

-- a to z, 0 to 9 and _
abbrev pub is_name_byte : ℕ → Bool
is_name_byte byte = is_letter byte || (nat_le 48 byte && nat_le byte 57) || (byte == 95)

-- whether the first byte is a letter
abbrev pub begins_with_letter : List ℕ → Bool
begins_with_letter [] = false
begins_with_letter (byte ∷ bytes) = is_letter byte

-- the words of a group's declaration, which name nothing
abbrev pub is_reserved : List ℕ → Bool
is_reserved bytes = bytes_eq bytes (codes "own") || bytes_eq bytes (codes "get") || bytes_eq bytes (codes "not")

-- 1 to 32 bytes of a to z, 0 to 9 and _, the first a letter, and no reserved word
abbrev pub is_name : List ℕ → Bool
is_name bytes = begins_with_letter bytes && nat_le (length bytes) 32 && list_all is_name_byte bytes && not (is_reserved bytes)
