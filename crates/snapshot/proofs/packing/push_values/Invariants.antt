use Rattle.std.proofs.Common.{◌≡◌, ◌++◌, map}
use Rattle.std.specs.List.{flat_map, zip}
use Rattle.std.specs.Iterator.Adapters.{zip_first, zip_second}
use Rattle.std.specs.Slice.Iter.{iter_rest}
use Rattle.world_text.specs.Formats.{version_1}
use Rattle.world_text.specs.Documents.{value_in}
use Rattle.snapshot.specs.Fields.{value_bytes}
use Rattle.snapshot.proofs.packing.push_values.Given as goal

-- what is written, with the bytes of the values that are left, is the whole
abbrev pub invariant-loop-kind : goal.invariant-loop-kind
invariant-loop-kind l =
    l.out.items ++ flat_map value_bytes (map (λ pair. value_in version_1.profile pair.0 pair.1) (zip (iter_rest (zip_first l.kind-iterator)) (iter_rest (zip_second l.kind-iterator))))
    ≡ l.fn.out.items ++ flat_map value_bytes (map (λ pair. value_in version_1.profile pair.0 pair.1) (zip l.kinds l.fields))
