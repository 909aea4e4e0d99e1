use Rattle.std.proofs.Common.{Some, sym, ap, ◌∙◌, subst}
use Rattle.entity_id.specs.FiniteMap as entries
use Rattle.world_model.specs.declared.component.Row.{Row}
use Rattle.storage.specs.Stored.{Stored}
use Rattle.system_api.specs.Batches.{entity_at, place_at}
use Rattle.system_api.specs.Registers.{pool_at}
use Rattle.system_eval.proofs.PackedLemmas.{row-found, one-entity, kept-row, set-row}
use Rattle.system_eval.proofs.walk.store.store_in.Goals as goal

pub scatter_at-requires-clause-there : goal.scatter_at-requires-clause-there
scatter_at-requires-clause-there c = λ lane low marked.
    let stored = (pool_at c.args.lent.now.writes c.args.at).storage in
    let once : entries.HasEachOnce stored.pairs = subst (λ (s : Stored Row). entries.HasEachOnce s.pairs) c.written.ensures c.index-index.ensures.once in
    (row-found stored.pairs (entity_at c.args.entities.now lane) (place_at c.args.places.now lane) once (c.requires.located lane low marked)).0

pub scatter_at-requires-clause-apart : goal.scatter_at-requires-clause-apart
scatter_at-requires-clause-apart c = λ a b low high here there same.
    let list = entries.keys (pool_at c.args.lent.now.writes c.args.at).storage.pairs in
    c.requires.one_each a b low high here there
    (one-entity list (entity_at c.args.entities.now a) (entity_at c.args.entities.now b) (place_at c.args.places.now a) (c.requires.located a low here) (c.requires.located b high there ∙ ap Some (sym same)))

pub returns-clause-here : goal.returns-clause-here
returns-clause-here c = λ lane low marked.
    let stored = (pool_at c.args.lent.now.writes c.args.at).storage in
    let later = (pool_at c.scatter_at.new.self.writes c.args.at).storage in
    let once : entries.HasEachOnce stored.pairs = subst (λ (s : Stored Row). entries.HasEachOnce s.pairs) c.written.ensures c.index-index.ensures.once in
    set-row stored.pairs later.pairs (entity_at c.args.entities.now lane) (place_at c.args.places.now lane) (c.scatter_at.ensures.pools.rows.rows c.args.at).identifiers once (c.requires.located lane low marked)
    ∙ ap Some (c.scatter_at.ensures.rows.here lane low marked)

pub returns-clause-others : goal.returns-clause-others
returns-clause-others c = λ e free.
    let stored = (pool_at c.args.lent.now.writes c.args.at).storage in
    let later = (pool_at c.scatter_at.new.self.writes c.args.at).storage in
    let once : entries.HasEachOnce stored.pairs = subst (λ (s : Stored Row). entries.HasEachOnce s.pairs) c.written.ensures c.index-index.ensures.once in
    kept-row stored.pairs later.pairs e (c.scatter_at.ensures.pools.rows.rows c.args.at).identifiers once
    (λ k is. c.scatter_at.ensures.rows.others k (λ lane low marked same.
    free lane low marked (one-entity (entries.keys stored.pairs) (entity_at c.args.entities.now lane) e k (c.requires.located lane low marked ∙ ap Some same) is)))
