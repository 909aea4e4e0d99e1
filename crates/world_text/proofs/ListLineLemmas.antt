-- Lines of scripts that list components.
use Rattle.std.proofs.Common.{◌≡◌, ◌≢◌, ℕ, ◌+◌, ◌<◌, List, [], ◌∷◌, ◌++◌, length, codes, ap, subst, sym, arith}
use Rattle.entity_id.specs.declared.entity.Profile.{Profile}
use Rattle.entity_id.specs.declared.entity.Entity.{Entity}
use Rattle.entity_id.specs.Identifiers.{HasLimits}
use Rattle.world_model.specs.declared.component.Decl.{Decl}
use Rattle.row_lang.specs.Reading.{AreSomeNext, IsPartNext}
use Rattle.world_text.specs.ScriptReading.{IsEntityNext, AreNamesLast, AreEntityNames, IsViewLast}
use Rattle.world_text.proofs.LinePartLemmas.{one_entity}
use Rattle.row_lang.proofs.NameListLemmas.{one_some, one_part}

-- ---- names up to the end of a line

-- too many
pub no_few_names : (decls : List Decl) (text pools rest : List ℕ) → AreSomeNext decls [] text pools rest → 16 < length pools → (all more : List ℕ) → AreNamesLast decls text all more → ⊥
no_few_names decls text pools rest first many all more h =
    omega (arith, h.few, ap length (one_some decls [] text pools rest all (10 ∷ more) first h.names).0)

-- names, but not up to the end of a line
pub no_line_end : (decls : List Decl) (text pools rest : List ℕ) → AreSomeNext decls [] text pools rest → ((more : List ℕ) → rest ≢ codes "\n" ++ more) → (all more : List ℕ) → AreNamesLast decls text all more → ⊥
no_line_end decls text pools rest first none all more h = none more (one_some decls [] text pools rest all (10 ∷ more) first h.names).1

pub no_entity_names : (profile : Profile) (decls : List Decl) (text behind : List ℕ) (entity : Entity) → HasLimits profile → IsEntityNext profile text entity behind → ((pools rest : List ℕ) → AreNamesLast decls behind pools rest → ⊥) → (other : Entity) (pools rest : List ℕ) → AreEntityNames profile decls text other pools rest → ⊥
no_entity_names profile decls text behind entity limits first none other pools rest h =
    let same = one_entity profile text behind h.behind entity other limits first h.first in
    none h.order rest (subst (λ (t : List ℕ). AreNamesLast decls t h.order rest) (sym same.1) h.names)

-- ---- views

pub no_view_names : (decls : List Decl) (text : List ℕ) → ((pools rest : List ℕ) → AreSomeNext decls [] text pools rest → ⊥) → (all without rest : List ℕ) → IsViewLast decls text all without rest → ⊥
no_view_names decls text none all without rest h = none h.order h.behind h.names

-- the part behind the names of a view
view_part : (decls : List Decl) (text behind order : List ℕ) → AreSomeNext decls [] text order behind → (all without rest : List ℕ) → (h : IsViewLast decls text all without rest) → (order ≡ h.order) × IsPartNext decls order (codes " not") behind h.excluded (10 ∷ rest)
view_part decls text behind order first all without rest h =
    let same = one_some decls [] text order behind h.order h.behind first h.names in
    (same.0, subst (λ (t : List ℕ). IsPartNext decls order (codes " not") t h.excluded (10 ∷ rest)) (sym same.1) (subst (λ (o : List ℕ). IsPartNext decls o (codes " not") h.behind h.excluded (10 ∷ rest)) (sym same.0) h.out))

pub no_view_without : (decls : List Decl) (text behind order : List ℕ) → AreSomeNext decls [] text order behind → ((pools rest : List ℕ) → IsPartNext decls order (codes " not") behind pools rest → ⊥) → (all without rest : List ℕ) → IsViewLast decls text all without rest → ⊥
no_view_without decls text behind order first none all without rest h = none h.excluded (10 ∷ rest) (view_part decls text behind order first all without rest h).1

-- too many names in all
pub no_few_in_view : (decls : List Decl) (text behind order excluded left : List ℕ) → AreSomeNext decls [] text order behind → IsPartNext decls order (codes " not") behind excluded left → 16 < length order + length excluded → (all without rest : List ℕ) → IsViewLast decls text all without rest → ⊥
no_few_in_view decls text behind order excluded left first second many all without rest h =
    let part = view_part decls text behind order first all without rest h in
    omega (arith, h.few, ap length part.0, ap length (one_part decls order (codes " not") behind excluded left h.excluded (10 ∷ rest) second part.1).0)

pub no_view_end : (decls : List Decl) (text behind order excluded left : List ℕ) → AreSomeNext decls [] text order behind → IsPartNext decls order (codes " not") behind excluded left → ((more : List ℕ) → left ≢ codes "\n" ++ more) → (all without rest : List ℕ) → IsViewLast decls text all without rest → ⊥
no_view_end decls text behind order excluded left first second none all without rest h =
    none rest (one_part decls order (codes " not") behind excluded left h.excluded (10 ∷ rest) second (view_part decls text behind order first all without rest h).1).1
