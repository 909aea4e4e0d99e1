use Rattle.group_rules.proofs.laws.families_are_those_of_worlds.Goals as goal

pub returns-clause-family : goal.returns-clause-family
returns-clause-family c = λ count groups h. record { few = h.few; well_formed = h.well_formed; coexist = h.coexist }

pub returns-clause-world : goal.returns-clause-world
returns-clause-world c = λ count groups h named. record { few = h.few; declared = named; well_formed = h.well_formed; coexist = h.coexist }
