use Rattle.std.proofs.Common.{◌≡◌, ◌+◌, ◌-◌, ◌*◌, ◌≤◌, ◌++◌, length, drop, map}
use Rattle.std.specs.List.{zip}
use Rattle.world_text.specs.Formats.{version_1}
use Rattle.world_text.specs.Lines.{values_text}
use Rattle.world_text.specs.Documents.{value_in}
use Rattle.world_text.proofs.row_printing.write_values.Given as goal

-- what is written from `at` on is the text of the values from `place` on
abbrev pub invariant-loop-place : goal.invariant-loop-place
invariant-loop-place l = record {
  kinds : l.place ≤ length l.kinds;
  fields : l.place ≤ length l.fields;
  within : l.at ≤ l.end;
  room : l.end ≤ l.at + 22 * (length l.fields - l.place);
  written : drop l.at l.buf ≡ values_text version_1.profile (map (λ pair. value_in version_1.profile pair.0 pair.1) (zip (drop l.place l.kinds) (drop l.place l.fields))) ++ drop l.end l.fn.buf;
}
