-- What a turn to write ends as, where a `&mut` to its rows is returned.
use Rattle.std.specs.Prelude.{List, []}
use Rattle.std.specs.Borrow.{Lends, Fml, RattleType, MutBor, Array}
use Rattle.storage.specs.Changed.{with_values}
use Rattle.world_model.specs.contracts.component.Row.{the_row as row}
use mir.Syntax.{named}
use denote.Ref.{NamedLft}
use Rattle.pool_slots.specs.declared.fact.PoolFact.{Ghosts}
use Rattle.pool_slots.specs.contracts.place.WriteTurn.{the_row}

-- the turn's own lifetime, by its place in the signature
abbrev own_lifetime : NamedLft
own_lifetime = record { mir = named 0; lft = [] }

module _ (F : RattleType) (fact : Ghosts F.Denot) (s : MutBor (the_row own_lifetime F fact).Denot) where
  -- the turn as it was, with the rows of its pool as the slice leaves them
  abbrev pub lends_rows : MutBor (List row.Denot) → Fml
  lends_rows r = Lends (the_row own_lifetime F fact) (Array row 0) s r (λ rows. record { place = s.now.place; storage = with_values s.now.storage rows })
