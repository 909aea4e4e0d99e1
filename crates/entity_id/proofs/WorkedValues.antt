-- Worked values of the definitions.
use Rattle.std.proofs.Common.{◌≡◌, ℕ, List, [], ◌∷◌, codes, refl, Some, None}
use Rattle.std.specs.Prelude.{pos, negsuc}
use Rattle.std.specs.Fmt.{digits}
use Rattle.entity_id.specs.declared.entity.TheConstants.{P20_12, P32_32}
use Rattle.entity_id.specs.declared.entity.Entity.{Entity}
use Rattle.entity_id.specs.Identifiers.{p20_12, p32_32, null}
use Rattle.entity_id.specs.Fields.{field_of, entity_in}
use Rattle.entity_id.specs.Texts.{entity_text}
use Rattle.entity_id.specs.FiniteMap.{get, put, remove}

abbrev id : ℕ → ℕ → Entity
id index version = record { index = index; version = version }

-- the constants of the code
pub constant-p20_12 : P20_12 ≡ p20_12
constant-p20_12 = refl

pub constant-p32_32 : P32_32 ≡ p32_32
constant-p32_32 = refl

-- the null identifier has both limits
pub null-limits : null p20_12 ≡ id 1048575 4095
null-limits = refl

-- an identifier that has the null index alone is printed by its parts
pub text-index_limit : entity_text p20_12 (id 1048575 7) ≡ codes "1048575:7"
unfolding digits
text-index_limit = refl

pub text-null : entity_text p20_12 (null p20_12) ≡ codes "null"
text-null = refl

pub field-version : field_of p20_12 (id 0 1) ≡ pos 4294967296
field-version = refl

pub field-null : field_of p20_12 (null p20_12) ≡ negsuc 0
field-null = refl

pub entity-null : entity_in p20_12 (negsuc 0) ≡ null p20_12
entity-null = refl

-- three entries, at the indices 1, 4 and 9
abbrev three : List (Entity × ℕ)
three = (id 1 0, 10) ∷ (id 4 2, 40) ∷ (id 9 0, 90) ∷ []

pub get-there : get three (id 4 2) ≡ Some 40
get-there = refl

pub get-other_version : get three (id 4 3) ≡ None
get-other_version = refl

pub put-between : put three (id 5 0) 50 ≡ (id 1 0, 10) ∷ (id 4 2, 40) ∷ (id 5 0, 50) ∷ (id 9 0, 90) ∷ []
put-between = refl

pub put-over : put three (id 4 2) 41 ≡ (id 1 0, 10) ∷ (id 4 2, 41) ∷ (id 9 0, 90) ∷ []
put-over = refl

-- a put drops the other version of its index
pub put-other_version : put three (id 4 3) 43 ≡ (id 1 0, 10) ∷ (id 4 3, 43) ∷ (id 9 0, 90) ∷ []
put-other_version = refl

pub remove-there : remove three (id 4 2) ≡ (id 1 0, 10) ∷ (id 9 0, 90) ∷ []
remove-there = refl

-- a removal of another version changes nothing
pub remove-other_version : remove three (id 4 3) ≡ three
remove-other_version = refl
