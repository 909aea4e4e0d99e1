use Rattle.std.proofs.Common.{◌≡◌, length, ap, sym, ◌∙◌}
use Rattle.entity_id.proofs.ZipLemmas.{length-zip_same}
use Rattle.storage.proofs.storage.Storage.reserve.Goals as goal

pub returns-clause-few : goal.returns-clause-few
returns-clause-few g c =
    let one_each : length c.reserve.new.self.items ≡ length c.reserve-2.new.self.list = ap length c.reserve.ensures.items ∙ c.self.invariant.one_each ∙ sym (ap length c.reserve-2.ensures.list) in
    rw (length-zip_same c.reserve-2.new.self.list c.reserve.new.self.items one_each) c.reserve-2.ensures.few
