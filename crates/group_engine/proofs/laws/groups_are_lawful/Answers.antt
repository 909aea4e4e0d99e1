use Rattle.group_engine.proofs.LawfulLemmas.{lawful_family}
use Rattle.group_engine.proofs.PackedLemmas.{grouped_is_packed, grouped_is_lawful}
use Rattle.group_engine.proofs.laws.groups_are_lawful.Goals as goal

pub returns-clause-packed : goal.returns-clause-packed
returns-clause-packed c = grouped_is_packed

pub returns-clause-lawful : goal.returns-clause-lawful
returns-clause-lawful c = grouped_is_lawful

pub returns-clause-each : goal.returns-clause-each
returns-clause-each c pools maps packed decls lens group decl count lawful lists grouped here long =
    grouped_is_lawful maps packed decl count lists ((lawful_family pools decls lawful).some group decl here) (grouped.each group decl count here long)
