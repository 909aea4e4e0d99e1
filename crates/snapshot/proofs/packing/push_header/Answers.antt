use Rattle.std.proofs.Common.{length, codes}
use Rattle.std.specs.List.{flat_map}
use Rattle.std.proofs.lemmas.Result.{on_ok_weaker}
use Rattle.snapshot.specs.Fields.{u32_bytes, line_bytes}
use Rattle.snapshot.proofs.PackLemmas.{four_parts}
use Rattle.snapshot.proofs.packing.push_header.Goals as goal

pub returns : goal.returns
returns c =
    let lines = c.args.lines.now in
    on_ok_weaker c.push_lines.result (λ pushed.
    four_parts c.args.out.now.items c.extend_from_slice.new.self.items c.push_u32.new.out.items c.push_u32-2.new.out.items c.push_lines.new.out.items
    (codes "WORLDSNP") (u32_bytes 1) (u32_bytes (length lines)) (flat_map line_bytes lines)
    c.in_ok-extend_from_slice.ensures.items c.in_ok-push_u32.ensures c.in_ok-push_u32-2.ensures pushed) c.push_lines.ensures
