use Rattle.std.proofs.Common.{◌++◌, drop, map, sym, ap, arith}
use Rattle.world_text.specs.Formats.{version_1}
use Rattle.world_text.specs.Lines.{values_text}
use Rattle.world_text.specs.Documents.{value_in}
use Rattle.world_text.proofs.PrintingLemmas.{none_past}
use Rattle.world_text.proofs.row_printing.write_values.Goals as goal

pub loop-place-init : goal.loop-place-init
loop-place-init c = record {
  kinds = omega (arith, c.min-count.ensures);
  fields = omega (arith, c.min-count.ensures);
  within = omega arith;
  room = omega arith;
  written = sym (ap (λ pairs. values_text version_1.profile (map (λ pair. value_in version_1.profile pair.0 pair.1) pairs) ++ drop c.args.end c.args.buf.now) (none_past c.min-count.result c.args.kinds.now c.args.fields.now c.min-count.ensures));
}
