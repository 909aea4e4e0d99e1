-- What a storage ends as, where a `&mut` to its values is returned.
use Rattle.std.specs.Prelude.{List, Option}
use Rattle.std.specs.Borrow.{Lends, LendsIf, Fml, RattleType, MutBor, Array}
use Rattle.entity_id.specs.declared.entity.Entity.{Entity}
use Rattle.storage.specs.Stored.{Stored}
use Rattle.storage.specs.Changed.{with_value, with_values}
use Rattle.storage.specs.contracts.storage.Storage.{the_row}

module _ (T : RattleType) (s : MutBor (Stored T.Denot)) where
  -- the storage as it was, with the value of this identifier as the reference leaves it
  abbrev pub lends_value : Entity → MutBor T.Denot → Fml
  lends_value entity r = Lends (the_row T) T s r (with_value s.now entity)

  -- the same where there is a reference, and else the storage as it was
  abbrev pub lends_get : Entity → Option (MutBor T.Denot) → Fml
  lends_get entity r = LendsIf (the_row T) T s r (with_value s.now entity) s.now

  -- the storage as it was, with the values as the slice leaves them
  abbrev pub lends_values : MutBor (List T.Denot) → Fml
  lends_values r = Lends (the_row T) (Array T 0) s r (with_values s.now)
