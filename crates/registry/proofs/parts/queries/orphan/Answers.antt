use Rattle.std.proofs.Common.{◌≡◌, not, None, sym, ap, ◌∙◌}
use Rattle.std.specs.List.{list_any}
use Rattle.entity_id.specs.FiniteMap as entries
use Rattle.storage.specs.Stored.{Stored}
use Rattle.world_model.specs.declared.command.Command.TheVariants.{Orphan}
use Rattle.world_model.specs.declared.command.Reply.TheVariants.{Truth}
use Rattle.world_model.specs.declared.component.Row.{Row}
use Rattle.world_model.specs.declared.refusal.Refusal.TheVariants as refusal
use Rattle.world_model.specs.Outcomes.{Outcome}
use Rattle.world_model.specs.Refusing.{refuse}
use Rattle.registry.specs.Held.{refusal_to}
use Rattle.registry.specs.Layout.{world_of, held_of}
use Rattle.registry.proofs.DoneLemmas.{accepted}
use Rattle.registry.proofs.QueryLemmas.{any-map}
use Rattle.registry.proofs.parts.queries.orphan.Goals as goal

pub returns-clause-ok : goal.returns-clause-ok
returns-clause-ok g c =
    let parts = c.args.parts.now in
    let e = c.args.entity in
    let passes : refusal_to (held_of parts) (Orphan e) ≡ None = ap (λ b. refuse (not b) refusal.Dead) (sym c.if-not-valid.ensures) in
    ap (λ (o : Outcome). o.reply) (accepted parts.slots.limit (world_of parts) (Orphan e) passes)
    ∙ ap (λ b. Truth (not b)) (any-map (λ (s : Stored Row). entries.map_of s.pairs) (λ rows. entries.contains rows e) parts.pools.items ∙ ap (list_any (λ (s : Stored Row). entries.contains (entries.map_of s.pairs) e)) (sym c.deref.ensures.value) ∙ sym c.is_held.ensures)
