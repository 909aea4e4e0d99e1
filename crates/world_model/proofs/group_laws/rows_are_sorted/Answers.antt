use Rattle.world_model.proofs.FieldOrderLemmas.{permutation-sorted, in_order-sorted, ascending-sorted}
use Rattle.world_model.proofs.group_laws.rows_are_sorted.Goals as goal

pub returns-clause-permuted : goal.returns-clause-permuted
returns-clause-permuted c = permutation-sorted

pub returns-clause-in_order : goal.returns-clause-in_order
returns-clause-in_order c = in_order-sorted

pub returns-clause-ascending : goal.returns-clause-ascending
returns-clause-ascending c = ascending-sorted
