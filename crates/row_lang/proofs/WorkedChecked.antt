-- A worked system that lines stand for, and so is checked.
use Rattle.std.proofs.Common.{List, [], ◌∷◌, codes, refl, arith}
use Rattle.world_model.specs.declared.component.Decl.{Decl}
use Rattle.world_model.specs.declared.component.Kind.TheVariants.{Int}
use Rattle.row_lang.specs.declared.access_list.AccessList.TheVariants as list
use Rattle.row_lang.specs.declared.token.Keyword.TheVariants as key
use Rattle.row_lang.specs.declared.token.Token.TheVariants.{Word}
use Rattle.row_lang.specs.BodyLines.{Lists, Do, Close}
use Rattle.row_lang.specs.Effects.{IsChecked}
use Rattle.row_lang.specs.Systems.{IsSystem, System}
use Rattle.row_lang.proofs.CheckedLemmas.{checked_system}

abbrev decls : List Decl
decls =
    record { name = codes "egg"; count = 0; kinds = Int ∷ Int ∷ Int ∷ Int ∷ [] }
    ∷ record { name = codes "nest"; count = 0; kinds = Int ∷ Int ∷ Int ∷ Int ∷ [] }
    ∷ []

-- the lines system hatch, read nest egg, do spawn and end stand for this system
abbrev hatch : System
hatch = record { name = codes "hatch"; access = record { read = 0 ∷ 1 ∷ []; write = []; look = []; without = [] }; statements = (Word key.Spawn ∷ []) ∷ [] }

lines_stand_for_it : IsSystem decls hatch
lines_stand_for_it = (
  codes "hatch",
  Lists list.Read (1 ∷ 0 ∷ []) ∷ Do (Word key.Spawn ∷ []) ∷ Close ∷ [],
  record {
    named = refl;
    each = (
      record { spelled = (omega arith, (omega arith, tt)); short = omega arith },
      (record { spelled = (tt, tt); short = omega arith }, (record { spelled = tt; short = omega arith }, tt)),
    );
    admitted = refl;
    closed = refl;
    stands = refl;
  },
)

pub it_is_checked : IsChecked decls hatch
it_is_checked = checked_system decls hatch lines_stand_for_it
