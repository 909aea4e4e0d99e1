use Rattle.std.proofs.Common.{◌≡◌, ◌++◌, take, map}
use Rattle.snapshot.specs.Fields.{bytes_of}
use Rattle.snapshot.specs.Fields as field
use Rattle.snapshot.proofs.packing.push_free.Given as goal

abbrev pub invariant-loop-index : goal.invariant-loop-index
invariant-loop-index l = l.out.items ≡ l.fn.out.items ++ bytes_of (map field.Next (take l.index-index l.free))
