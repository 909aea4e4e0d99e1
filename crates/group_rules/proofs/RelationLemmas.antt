-- The relation of two groups: the one that holds, and no other.
use Rattle.std.proofs.Common.{◌≡◌, ◌<◌, Bool, true, false, not, ◌&&◌, length, refl, sym, ap, subst, ◌∙◌, inl, inr}
use Rattle.std.specs.Prelude.{if◌then◌else◌}
use Rattle.std.proofs.lemmas.Bool.{cases_Bool, false≢true, and_parts, not-true}
use Rattle.world_model.specs.declared.group.GroupDecl.{GroupDecl}
use Rattle.world_model.specs.Groups.{is_inner, is_same_group, is_apart, groups_conflict, may_coexist}
use Rattle.group_rules.specs.declared.relation.Relation.{Relation}
use Rattle.group_rules.specs.declared.relation.Relation.TheVariants.{Same, Apart, Inner, Outer, Conflict}
use Rattle.group_rules.specs.Families.{relation_of, mirrored, Stands, StandsBeside, apart_from, inner_to, outer_to}
use Rattle.group_rules.proofs.PoolLemmas.{apart-turned, inner_shares}

-- ---- the relation, by what it is chosen by

abbrev chosen : Bool → Bool → Bool → Relation
chosen inner outer apart =
    if inner && outer then Same
    else (if apart then Apart
    else (if inner then Inner
    else (if outer then Outer else Conflict)))

mirror_chosen : (inner outer apart : Bool) → chosen outer inner apart ≡ mirrored (chosen inner outer apart)
mirror_chosen true true apart = refl
mirror_chosen true false true = refl
mirror_chosen true false false = refl
mirror_chosen false true true = refl
mirror_chosen false true false = refl
mirror_chosen false false true = refl
mirror_chosen false false false = refl

pub mirror : (a b : GroupDecl) → relation_of b a ≡ mirrored (relation_of a b)
mirror a b = ap (chosen (is_inner b a) (is_inner a b)) (apart-turned b a) ∙ mirror_chosen (is_inner a b) (is_inner b a) (is_apart a b)

-- ---- it holds

abbrev Says : Bool → Bool → Bool → Relation → Type 0
Says inner outer apart Same = (inner && outer) ≡ true
Says inner outer apart Apart = apart ≡ true
Says inner outer apart Inner = (inner ≡ true) × (outer ≡ false)
Says inner outer apart Outer = (outer ≡ true) × (inner ≡ false)
Says inner outer apart Conflict = (not apart && not inner && not outer) ≡ true

says_chosen : (inner outer apart : Bool) → Says inner outer apart (chosen inner outer apart)
says_chosen true true apart = refl
says_chosen true false true = refl
says_chosen true false false = (refl, refl)
says_chosen false true true = refl
says_chosen false true false = (refl, refl)
says_chosen false false true = refl
says_chosen false false false = refl

-- what is said by the three tests is what the relation says
stands_said : (a b : GroupDecl) (relation : Relation) → Stands relation a b ≡ Says (is_inner a b) (is_inner b a) (is_apart a b) relation
stands_said a b Same = refl
stands_said a b Apart = refl
stands_said a b Inner = refl
stands_said a b Outer = refl
stands_said a b Conflict = refl

pub holds : (a b : GroupDecl) → Stands (relation_of a b) a b
holds a b = subst (λ P. P) (sym (stands_said a b (relation_of a b))) (says_chosen (is_inner a b) (is_inner b a) (is_apart a b))

-- ---- and no other does

-- where nested groups are not apart
pub only : (a b : GroupDecl) → 0 < length a.own → 0 < length b.own → (relation : Relation) → Stands relation a b → relation_of a b ≡ relation
only a b owns_a owns_b relation h =
    chosen_only (is_inner a b) (is_inner b a) (is_apart a b)
    (λ within. inner_shares a b within owns_b) (λ around. apart-turned a b ∙ inner_shares b a around owns_a) relation
    (subst (λ P. P) (stands_said a b relation) h)
  where
    chosen_only : (inner outer apart : Bool) → (inner ≡ true → apart ≡ false) → (outer ≡ true → apart ≡ false) → (relation : Relation) → Says inner outer apart relation → chosen inner outer apart ≡ relation
    chosen_only inner outer apart within around Same h = ap (λ same. if same then Same else (if apart then Apart else (if inner then Inner else (if outer then Outer else Conflict)))) h
    chosen_only inner outer apart within around Apart h =
        elim (cases_Bool (inner && outer)) [
          | inl same ↦ absurd (false≢true (sym (within (and_parts inner outer same).0) ∙ h))
          | inr differ ↦ ap (λ same. if same then Same else (if apart then Apart else (if inner then Inner else (if outer then Outer else Conflict)))) differ
              ∙ ap (λ beside. if beside then Apart else (if inner then Inner else (if outer then Outer else Conflict))) h
        ]
    chosen_only inner outer apart within around Inner h = ap (λ b. chosen b outer apart) h.0 ∙ ap (λ b. chosen true b apart) h.1 ∙ ap (chosen true false) (within h.0)
    chosen_only inner outer apart within around Outer h = ap (λ b. chosen b outer apart) h.1 ∙ ap (λ b. chosen false b apart) h.0 ∙ ap (chosen false true) (around h.0)
    chosen_only inner outer apart within around Conflict h =
        let three = and_parts (not apart && not inner) (not outer) h in
        let two = and_parts (not apart) (not inner) three.0 in
        ap (λ b. chosen b outer apart) (not-true inner two.1) ∙ ap (λ b. chosen false b apart) (not-true outer three.1) ∙ ap (chosen false false) (not-true apart two.0)

-- ---- groups that may stand beside each other

pub beside : (a b : GroupDecl) → may_coexist a b ≡ true → StandsBeside a b
beside a b may = by_relation (relation_of a b) (holds a b)
  where
    parts : (not (is_same_group a b) ≡ true) × (not (groups_conflict a b) ≡ true)
    parts = and_parts (not (is_same_group a b)) (not (groups_conflict a b)) may

    by_relation : (relation : Relation) → Stands relation a b → StandsBeside a b
    by_relation Same h = absurd (false≢true (sym (not-true _ parts.0) ∙ h))
    by_relation Apart h = apart_from h
    by_relation Inner h = inner_to h
    by_relation Outer h = outer_to h
    by_relation Conflict h = absurd (false≢true (sym (not-true _ parts.1) ∙ h))

pub beside_turned : (a b : GroupDecl) → StandsBeside a b → StandsBeside b a
beside_turned a b h = elim h [
  | apart_from apart ↦ apart_from (sym (apart-turned a b) ∙ apart)
  | inner_to within ↦ outer_to within
  | outer_to around ↦ inner_to around
]
