use Rattle.std.proofs.Common.{List, sym, ap, ◌∙◌}
use Rattle.row_lang.specs.BodyLines.{BodyLine}
use Rattle.row_lang.specs.Systems.{after_lines, begun}
use Rattle.row_lang.proofs.OneLineLemmas.{one_line, one_lines}
use Rattle.row_lang.proofs.laws.one_system.Goals as goal

pub returns-clause-line : goal.returns-clause-line
returns-clause-line c = one_line

pub returns-clause-system : goal.returns-clause-system
returns-clause-system c = λ decls name lines others system other named p q e.
    p.stands ∙ ap (λ (ls : List BodyLine). (after_lines decls (begun name) ls).system) (one_lines decls (begun name) lines others named p.each q.each p.admitted q.admitted e) ∙ sym q.stands
