use Rattle.std.proofs.Common.{length, ap, ◌∙◌}
use Rattle.std.proofs.lemmas.List.{length-map}
use Rattle.storage.proofs.PairLemmas.{arranged_pairs}
use Rattle.storage.proofs.storage.Storage.arrange.Goals as goal

pub bring_all-requires-clause-len : goal.bring_all-requires-clause-len
bring_all-requires-clause-len g c = c.len-len.ensures ∙ ap length c.index.ensures.list ∙ length-map c.args.self.now.pairs (λ pair. pair.0)

pub returns-clause-pairs : goal.returns-clause-pairs
returns-clause-pairs g c = arranged_pairs c.args.self.now.pairs c.bring_all.new.storage.pairs c.args.order.now c.index.ensures.once c.bring_all.ensures.once c.bring_all.ensures.map c.bring_all.ensures.keys
