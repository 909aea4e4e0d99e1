use Rattle.std.proofs.Common.{◌≡◌, ◌-◌, ◌++◌, take, drop, replicate, length}
use Rattle.std.specs.List.{flat_map}
use Rattle.world_model.specs.declared.component.Kind.TheVariants.{Int}
use Rattle.world_text.specs.Lines.{kind_text}
use Rattle.world_text.proofs.name_lines.read_kinds.Given as goal

abbrev pub invariant-loop-count : goal.invariant-loop-count
invariant-loop-count l = record {
  long : length l.kinds ≡ 4;
  padded : drop l.count l.kinds ≡ replicate (4 - l.count) Int;
  whole : l.text ≡ flat_map kind_text (take l.count l.kinds) ++ l.rest;
}
