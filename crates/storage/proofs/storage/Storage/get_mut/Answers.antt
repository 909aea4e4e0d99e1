use Rattle.std.proofs.Common.{sym, refl, ap, ◌∙◌}
use Rattle.entity_id.specs.FiniteMap as entries
use Rattle.entity_id.specs.PackedLists.{place_of}
use Rattle.entity_id.proofs.PackedMapLemmas.{get_none}
use Rattle.entity_id.proofs.MapChangeLemmas.{key_at}
use Rattle.entity_id.specs.Identifiers.{is_same}
use Rattle.entity_id.proofs.MapLemmas.{same_itself}
use Rattle.entity_id.proofs.PackedListLemmas.{position_gone}
use Rattle.std.proofs.lemmas.Bool.{both_ways}
use Rattle.storage.proofs.storage.Storage.get_mut.Goals as goal

pub returns-in-None : goal.returns-in-None
returns-in-None g c = (refl, record { writes_back = tt; value = sym (get_none c.args.self.now.pairs c.args.entity (λ k x h. both_ways (is_same c.args.entity c.args.entity) (position_gone (is_same c.args.entity) (entries.keys c.args.self.now.pairs) 0 (ap (λ l. place_of l c.args.entity) (sym c.index.ensures.list) ∙ sym c.in-None.ensures.place) k c.args.entity (key_at c.args.self.now.pairs k (c.args.entity, x) h)) (same_itself c.args.entity))) })
