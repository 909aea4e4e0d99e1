use Rattle.std.proofs.lemmas.List.Sorted.{IsNonDecreasingBy-from_sort}
use Rattle.row_lang.proofs.name_lists.kept.Goals as goal

pub returns : goal.returns
returns c =
    rw c.from_vec.ensures (record {
      same = c.sort_unstable.ensures.permutation;
      ascending = IsNonDecreasingBy-from_sort (λ x. x) c.sort_unstable.new.self.items c.sort_unstable.ensures.sorted;
    })
