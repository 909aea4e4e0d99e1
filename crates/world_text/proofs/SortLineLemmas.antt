-- Lines of scripts that sort.
use Rattle.std.proofs.Common.{◌≡◌, ◌≢◌, inl, inr, ℕ, List, ◌∷◌, ◌++◌, codes, sym, subst, ◌∙◌}
use Rattle.std.proofs.lemmas.List.{append_cancel_left}
use Rattle.entity_id.specs.declared.entity.Profile.{Profile}
use Rattle.world_model.specs.declared.component.Decl.{Decl}
use Rattle.world_model.specs.declared.component.Kind.{Kind}
use Rattle.world_model.specs.declared.component.Kind.TheVariants as kind
use Rattle.world_text.specs.declared.script.ScriptLine.{ScriptLine}
use Rattle.world_text.specs.declared.verbs.Verb.TheVariants as verb
use Rattle.world_text.specs.ScriptReading.{HasFewFields, IsFieldNext, IsNumberNext, IsPoolSort, IsGroupSort, IsLineBehind}
use Rattle.world_text.proofs.FieldLemmas.{one_field, one_field_text}
use Rattle.world_text.proofs.LinePartLemmas.{one_number}

kinds_differ : kind.Ref ≡ kind.Int → ⊥
kinds_differ e = cc

-- a field of identifiers is none that a sort goes by
pub no_key_kind : (decls : List Decl) (text rest : List ℕ) (a m : ℕ) (k : Kind) → k ≡ kind.Ref → HasFewFields decls a → IsFieldNext decls text a m k rest → (pool field : ℕ) (more : List ℕ) → IsFieldNext decls text pool field kind.Int (10 ∷ more) → ⊥
no_key_kind decls text rest a m k is few first pool field more h =
    kinds_differ (sym is ∙ (one_field decls text rest (10 ∷ more) a pool m field k kind.Int few first h).2)

-- a field, but not up to the end of a line
pub no_key_end : (decls : List Decl) (text rest : List ℕ) (a m : ℕ) (k : Kind) → IsFieldNext decls text a m k rest → ((more : List ℕ) → rest ≢ codes "\n" ++ more) → (pool field : ℕ) (more : List ℕ) → IsFieldNext decls text pool field kind.Int (10 ∷ more) → ⊥
no_key_end decls text rest a m k first none pool field more h = none more (one_field_text decls text rest (10 ∷ more) a pool m field k kind.Int first h).2

-- the number of a group, and no field behind it
pub no_group_key : (decls : List Decl) (text behind later : List ℕ) (number : ℕ) → text ≡ codes " group" ++ behind → IsNumberNext behind number later → ((pool field : ℕ) (rest : List ℕ) → IsFieldNext decls later pool field kind.Int (10 ∷ rest) → ⊥) → (group pool field : ℕ) (rest : List ℕ) → IsGroupSort decls text group pool field rest → ⊥
no_group_key decls text behind later number begins first none group pool field rest h =
    let same = append_cancel_left (codes " group") h.behind behind (sym h.begins ∙ begins) in
    let one = one_number behind later h.later number group first (subst (λ (t : List ℕ). IsNumberNext t group h.later) same h.number) in
    none pool field rest (subst (λ (t : List ℕ). IsFieldNext decls t pool field kind.Int (10 ∷ rest)) (sym one.1) h.key)

-- neither
pub no_sort : (profile : Profile) (decls : List Decl) (text : List ℕ) → ((pool field : ℕ) (rest : List ℕ) → IsPoolSort decls text pool field rest → ⊥) → ((group pool field : ℕ) (rest : List ℕ) → IsGroupSort decls text group pool field rest → ⊥) → (line : ScriptLine) (rest : List ℕ) → IsLineBehind profile decls verb.Sort text line rest → ⊥
no_sort profile decls text no_pool no_group line rest (inl h) = no_pool h.0 h.1 rest h.2
no_sort profile decls text no_pool no_group line rest (inr h) = no_group h.0 h.1 h.2 rest h.3
