use Rattle.std.proofs.Common.{ap, ◌∙◌}
use Rattle.std.specs.Vec.Iter.{into_iter_items, into_iter_len}
use Rattle.std.proofs.lemmas.Iterator.{items_from_collect}
use Rattle.std.proofs.lemmas.Iterator.Adapters.{YieldsList-from_skip, YieldsList-from_vec}
use Rattle.world_top.proofs.starting.words_of.Goals as goal

-- the list that an iterator of a vector holds is as long as the iterator says
pub returns : goal.returns
returns c =
    let from = c.skip.ensures.source in
    let all = YieldsList-from_vec (into_iter_items c.args.arguments) (ap into_iter_items from) (ap into_iter_len from ∙ c.args.arguments.rest.ok.0) in
    items_from_collect _ c.collect.ensures.ran (YieldsList-from_skip 1 all c.skip.ensures.count)
