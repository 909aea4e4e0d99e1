use Rattle.std.proofs.Common.{◌≡◌, ◌++◌, ◌<◌, ◌^◌, length}
use Rattle.std.specs.List.{flat_map, zip, AllByRecursion}
use Rattle.std.specs.Iterator.Adapters.{zip_first, zip_second}
use Rattle.std.specs.Slice.Iter.{iter_rest}
use Rattle.snapshot.specs.Fields.{bytes_of}
use Rattle.snapshot.specs.Packing.{pool_fields}
use Rattle.snapshot.proofs.packing.push_pools.Given as goal

-- what is written, with the bytes of the pools that are left, is the whole, and each of these has few rows
abbrev pub invariant-loop-decl : goal.invariant-loop-decl
invariant-loop-decl l = record {
  whole : l.out.items ++ bytes_of (flat_map pool_fields (zip (iter_rest (zip_first l.decl-iterator)) (iter_rest (zip_second l.decl-iterator))))
      ≡ l.fn.out.items ++ bytes_of (flat_map pool_fields (zip l.decls l.pools));
  few : AllByRecursion (λ rows. length rows < 2 ^ 32) (iter_rest (zip_second l.decl-iterator));
}
