use Rattle.std.proofs.Common.{sym, refl, ap}
use Rattle.std.specs.Prelude.{is_some}
use Rattle.storage.proofs.ChangeLemmas.{are_pairs, unheld, revalued}
use Rattle.storage.proofs.storage.Storage.set.Goals as goal

pub returns-in-Some : goal.returns-in-Some
returns-in-Some g c =
    let all = revalued c.self.inside.index.list c.self.inside.values.items c.args.self.now.pairs c.in-Some.place c.args.entity c.args.value (are_pairs c.self.inside.index.list c.self.inside.values.items c.args.self.now.pairs c.self.invariant.one_each c.self.invariant.distinct (ap (λ s. s.pairs) c.self.view_is)) c.in-Some.ensures.here in
    record {
      pairs = all.pairs;
      keys = all.keys_are;
      map = all.map;
      ok = all.held;
      err = tt;
      spare = ap (λ s. s.spare) c.self.view_is;
      bound = ap (λ s. s.index_bound) c.self.view_is;
    }

pub returns-in-None : goal.returns-in-None
returns-in-None g c =
    let gone = unheld c.self.inside.index.list c.self.inside.values.items c.args.self.now.pairs c.args.entity (are_pairs c.self.inside.index.list c.self.inside.values.items c.args.self.now.pairs c.self.invariant.one_each c.self.invariant.distinct (ap (λ s. s.pairs) c.self.view_is)) (sym c.in-None.ensures.place) in
    record {
      pairs = gone.same c.args.value;
      keys = refl;
      map = tt;
      ok = sym (ap is_some gone.value);
      err = refl;
      spare = refl;
      bound = refl;
    }
