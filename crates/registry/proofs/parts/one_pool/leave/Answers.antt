use Rattle.std.proofs.Common.{◌≡◌, ◌+◌, length, sym, ap, subst, rules, arith}
use Rattle.std.proofs.lemmas.Grind.{common_steps}
use Rattle.signal_sink.specs.Hearings.{HaveSpare}
use Rattle.storage.specs.Stored.{Stored}
use Rattle.world_model.specs.declared.component.Row.{Row}
use Rattle.registry.proofs.PackingLemmas.{keys_popped}
use Rattle.registry.proofs.ResultLemmas.{then_err}
use Rattle.registry.proofs.SpendLemmas.{spare_less}
use Rattle.registry.proofs.parts.one_pool.leave.Goals as goal

pub returns-clause-room : goal.returns-clause-room
returns-clause-room g c =
    let len : length c.erase.new.self.pairs + 1 ≡ length c.args.pool.now.pairs = search (rules, common_steps) in
    c.publish.ensures.spare (length c.erase.new.self.pairs) (subst (λ n. HaveSpare n c.args.destroy.now) (sym len) c.requires)

pub returns-then-is_err-clause-keys : goal.returns-then-is_err-clause-keys
returns-then-is_err-clause-keys g c =
    keys_popped c.args.pool.now.pairs c.erase.new.self.pairs c.args.entity c.erase.result c.erase.ensures.value c.erase.ensures.keys (then_err c.erase.result c.erase.ensures.err (ap (λ (s : Stored Row). s.pairs)))

pub returns-clause-keys : goal.returns-clause-keys
returns-clause-keys g c =
    keys_popped c.args.pool.now.pairs c.erase.new.self.pairs c.args.entity c.erase.result c.erase.ensures.value c.erase.ensures.keys (then_err c.erase.result c.erase.ensures.err (ap (λ (s : Stored Row). s.pairs)))

pub returns-clause-destroy_room : goal.returns-clause-destroy_room
returns-clause-destroy_room g c m h =
    let len : length c.erase.new.self.pairs + 1 ≡ length c.args.pool.now.pairs = search (rules, common_steps) in
    c.publish.ensures.spare (m + length c.erase.new.self.pairs) (spare_less ((m + length c.erase.new.self.pairs) + 1) (m + length c.args.pool.now.pairs) c.args.destroy.now (omega (arith, len)) h)
