use Rattle.std.proofs.Common.{◌≡◌, ◌++◌, take}
use Rattle.row_lang.specs.NameLists.{names_text}
use Rattle.world_text.proofs.group_printing.push_names.Given as goal

abbrev pub invariant-loop-pool : goal.invariant-loop-pool
invariant-loop-pool l = l.out.items ≡ l.fn.out.items ++ names_text l.decls (take l.pool-index l.pools)
