use Rattle.std.proofs.Common.{◌≡◌, List, [], ◌∷◌, ◌++◌, refl, sym, ap, ◌∙◌, subst, arith}
use Rattle.std.specs.List.{AllByRecursion}
use Rattle.entity_id.specs.FiniteMap as entries
use Rattle.system_api.specs.declared.lent.LentPool.{LentPool}
use Rattle.system_api.specs.Registers.{StandsFor}
use Rattle.system_api.proofs.tests.orders_of.Goals as goal

pub run-requires-clause-room : goal.run-requires-clause-room
run-requires-clause-room c =
    let whole = c.args.whole.now in
    let other = c.args.other.now in
    let maps = entries.map_of whole.pairs ∷ entries.map_of other.pairs ∷ [] in
    let none : c.new-lent.result.reads ≡ [] = ap (λ r. r.reads) c.new-lent.ensures in
    let one : c.add_read.new.self.reads ≡ record { number = 0; storage = whole } ∷ [] = c.add_read.ensures.reads ∙ ap (λ (ps : List LentPool). ps ++ record { number = 0; storage = whole } ∷ []) none in
    let two : c.add_read-2.new.self.reads ≡ record { number = 0; storage = whole } ∷ record { number = 1; storage = other } ∷ [] = c.add_read-2.ensures.reads ∙ ap (λ (ps : List LentPool). ps ++ record { number = 1; storage = other } ∷ []) one in
    let written : c.add_read-2.new.self.writes ≡ [] = c.add_read-2.ensures.writes ∙ c.add_read.ensures.writes ∙ ap (λ r. r.writes) c.new-lent.ensures in
    record {
      maps = maps;
      shown = record {
        reads = subst (λ (ps : List LentPool). AllByRecursion (StandsFor maps) ps) (sym two) (refl, (refl, tt));
        writes = subst (λ (ps : List LentPool). AllByRecursion (StandsFor maps) ps) (sym written) tt;
      };
      enough = omega (arith, c.len.ensures.map, c.bound.ensures, c.in_ok-reserve.ensures.ok);
    }
