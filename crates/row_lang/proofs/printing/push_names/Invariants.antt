use Rattle.std.proofs.Common.{◌≡◌, ◌++◌, map, take}
use Rattle.row_lang.specs.Naming.{names_of}
use Rattle.row_lang.specs.NameLists.{spaced_names}
use Rattle.row_lang.specs.Spelling.{name_in}
use Rattle.row_lang.proofs.printing.push_names.Given as goal

abbrev pub invariant-loop-pool : goal.invariant-loop-pool
invariant-loop-pool l = l.out.items ≡ l.fn.out.items ++ spaced_names (map (name_in (names_of l.decls)) (take l.pool-index l.pools))
