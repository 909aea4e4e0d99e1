use Rattle.std.proofs.Common.{◌≡◌, ◌++◌, length, take}
use Rattle.std.specs.List.{flat_map, zip}
use Rattle.std.specs.Iterator.Adapters.{zip_first, zip_second}
use Rattle.std.specs.Slice.Iter.{iter_rest}
use Rattle.world_text.specs.Formats.{version_1}
use Rattle.world_text.specs.Lines.{text_of}
use Rattle.world_text.specs.Documents.{pool_lines}
use Rattle.world_text.proofs.printing.push_pools.Given as goal

-- what is printed, with the text of the pools that are left, is the whole text, and begins with what was there before
abbrev pub invariant-loop-decl : goal.invariant-loop-decl
invariant-loop-decl l = record {
  whole : l.out.items ++ text_of version_1 (flat_map (pool_lines version_1.profile) (zip (iter_rest (zip_first l.decl-iterator)) (iter_rest (zip_second l.decl-iterator))))
      ≡ l.fn.out.items ++ text_of version_1 (flat_map (pool_lines version_1.profile) (zip l.decls l.pools));
  front : take (length l.fn.out.items) l.out.items ≡ l.fn.out.items;
}
