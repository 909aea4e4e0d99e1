use Rattle.std.proofs.Common.{map, length}
use Rattle.std.specs.Prelude.{nat_lt}
use Rattle.std.specs.List.{IsFirstBest}
use Rattle.std.proofs.lemmas.List.{length-map}
use Rattle.pool_view.specs.HeldSets.{lists_of}
use Rattle.pool_view.proofs.LeadingLemmas.{is_leading}
use Rattle.pool_view.proofs.sets.leading.Goals as goal

pub returns-clause-place : goal.returns-clause-place
returns-clause-place c =
    let lists = lists_of c.args.sets.now in
    let first : IsFirstBest nat_lt (map length lists) (length (map length lists)) c.first_least.result = rw (c.as_slice.ensures.value, c.sizes_of.ensures) at c.first_least.ensures.first in
    is_leading lists (length (map length lists)) c.first_least.result first (length-map lists length)
