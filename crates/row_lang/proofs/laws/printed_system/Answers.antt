use Rattle.std.proofs.Common.{sym, subst, List, ℕ}
use Rattle.row_lang.specs.Systems.{IsSystemOf, body_lines}
use Rattle.row_lang.proofs.CanonicalLemmas.{printed_system, system_name}
use Rattle.row_lang.proofs.laws.printed_system.Goals as goal

pub returns : goal.returns
returns c = λ decls name lines system h.
    subst (λ (n : List ℕ). IsSystemOf decls n (body_lines system) system) (sym (system_name decls name lines system h)) (printed_system decls name lines system h)
