-- How far the values of a row have been read.
use Rattle.std.proofs.Common.{◌≡◌, ◌≢◌, ℕ, ◌+◌, ◌-◌, ◌<◌, ◌≤◌, ℤ, pos, true, false, List, [], ◌∷◌, ◌++◌, length, take, drop, map, set, replicate, get_or, refl, sym, ap, subst, ◌∙◌, ◌||◌, inl, arith, append_assoc, eqb, length-take}
use Rattle.std.specs.List.{AllByRecursion, list_all, zip}
use Rattle.std.proofs.lemmas.List.{append-nil, take-append-drop, take_more, drop_more, drop_all, take_all}
use Rattle.std.proofs.lemmas.Bool.{and_parts, eqb-true}
use Rattle.entity_id.specs.declared.entity.Profile.{Profile}
use Rattle.entity_id.specs.declared.entity.Entity.{Entity}
use Rattle.entity_id.specs.Identifiers.{HasLimits, null, is_same}
use Rattle.entity_id.specs.Texts.{EndsNumber, IsEntityFirst}
use Rattle.entity_id.specs.Fields.{field_of}
use Rattle.entity_id.proofs.FrontLemmas.{same_entity}
use Rattle.world_model.specs.declared.component.Kind.{Kind}
use Rattle.world_model.specs.declared.component.Kind.TheVariants as kind
use Rattle.world_model.specs.declared.component.Row.{Row}
use Rattle.world_model.specs.Components.{is_below}
use Rattle.world_model.proofs.IntegerLemmas.{same_integer}
use Rattle.world_model.specs.Integers.{IsIntegerFirst}
use Rattle.world_text.specs.FieldValues.{FieldValue}
use Rattle.world_text.specs.FieldValues as value
use Rattle.world_text.specs.Lines.{IsValue, value_text, values_text}
use Rattle.world_text.specs.Meaning.{field_of_value}
use Rattle.world_text.specs.Fitting.{is_of_kind, are_of_kinds}
use Rattle.world_text.specs.Reading.{IsValueFirst, IsFieldFirst, AreValuesOf, IsRowOf}
use Rattle.world_text.proofs.RowLemmas.{row_more}
use Rattle.world_text.proofs.ValueLemmas.{value_of_profile}
use Rattle.world_text.proofs.AddingLemmas.{and_true, equal_test}

-- ---- kinds, one after another

-- each value is of the kind at its place, and there is one for each kind
abbrev pub OfKinds : List Kind → List FieldValue → Type 0
OfKinds [] [] = Unit {0}
OfKinds [] (v ∷ values) = ⊥
OfKinds (k ∷ kinds) [] = ⊥
OfKinds (k ∷ kinds) (v ∷ values) = (is_of_kind k v ≡ true) × OfKinds kinds values

of_kinds_from : (kinds : List Kind) (values : List FieldValue) → length kinds ≡ length values → list_all (λ pair. is_of_kind pair.0 pair.1) (zip kinds values) ≡ true → OfKinds kinds values
of_kinds_from [] [] e h = tt
of_kinds_from [] (v ∷ values) e h = omega arith
of_kinds_from (k ∷ kinds) [] e h = omega arith
of_kinds_from (k ∷ kinds) (v ∷ values) e h =
    let parts = and_parts (is_of_kind k v) (list_all (λ pair. is_of_kind pair.0 pair.1) (zip kinds values)) h in
    (parts.0, of_kinds_from kinds values (omega arith) parts.1)

pub of_kinds : (kinds : List Kind) (values : List FieldValue) → are_of_kinds kinds values ≡ true → OfKinds kinds values
of_kinds kinds values h =
    let parts = and_parts (eqb (length kinds) (length values)) (list_all (λ pair. is_of_kind pair.0 pair.1) (zip kinds values)) h in
    of_kinds_from kinds values (eqb-true (length kinds) (length values) parts.0) parts.1

pub same_length : (kinds : List Kind) (values : List FieldValue) → OfKinds kinds values → length kinds ≡ length values
same_length [] [] h = refl
same_length [] (v ∷ values) h = absurd h
same_length (k ∷ kinds) [] h = absurd h
same_length (k ∷ kinds) (v ∷ values) h = omega (arith, same_length kinds values h.1)

each_of_kind : (kinds : List Kind) (values : List FieldValue) → OfKinds kinds values → list_all (λ pair. is_of_kind pair.0 pair.1) (zip kinds values) ≡ true
each_of_kind [] [] h = refl
each_of_kind [] (v ∷ values) h = absurd h
each_of_kind (k ∷ kinds) [] h = absurd h
each_of_kind (k ∷ kinds) (v ∷ values) h = and_true _ _ h.0 (each_of_kind kinds values h.1)

pub are_of : (kinds : List Kind) (values : List FieldValue) → OfKinds kinds values → are_of_kinds kinds values ≡ true
are_of kinds values h = and_true _ _ (equal_test (length kinds) (length values) (same_length kinds values h)) (each_of_kind kinds values h)

of_kinds_push : (kinds : List Kind) (values : List FieldValue) (k : Kind) (v : FieldValue) → OfKinds kinds values → is_of_kind k v ≡ true → OfKinds (kinds ++ k ∷ []) (values ++ v ∷ [])
of_kinds_push [] [] k v h one = (one, tt)
of_kinds_push [] (w ∷ values) k v h one = absurd h
of_kinds_push (j ∷ kinds) [] k v h one = absurd h
of_kinds_push (j ∷ kinds) (w ∷ values) k v h one = (h.0, of_kinds_push kinds values k v h.1 one)

each_push : (profile : Profile) (values : List FieldValue) (v : FieldValue) → AllByRecursion (IsValue profile) values → IsValue profile v → AllByRecursion (IsValue profile) (values ++ v ∷ [])
each_push profile [] v each is = (is, tt)
each_push profile (w ∷ values) v each is = (each.0, each_push profile values v each.1 is)

text_push : (profile : Profile) (values : List FieldValue) (v : FieldValue) (rest : List ℕ) → values_text profile values ++ (32 ∷ (value_text profile v ++ rest)) ≡ values_text profile (values ++ v ∷ []) ++ rest
text_push profile [] v rest = ap (λ (x : List ℕ). 32 ∷ (x ++ rest)) (sym (append-nil (value_text profile v)))
text_push profile (w ∷ values) v rest =
    append_assoc (32 ∷ value_text profile w) (values_text profile values) (32 ∷ (value_text profile v ++ rest))
    ∙ ap (λ (x : List ℕ). 32 ∷ (value_text profile w ++ x)) (text_push profile values v rest)
    ∙ sym (append_assoc (32 ∷ value_text profile w) (values_text profile (values ++ v ∷ [])) rest)

-- ---- one field

-- where the identifier at the front of a text is none that a field may hold, no other one is
pub no_target : (profile : Profile) (text : List ℕ) (a b : Entity) (x y : List ℕ) → HasLimits profile → IsEntityFirst profile text a x → (is_same a (null profile) || is_below profile a) ≡ false → IsEntityFirst profile text b y → (is_same b (null profile) || is_below profile b) ≡ true → ⊥
no_target profile text a b x y limits p other q is =
    let same = same_entity profile a b x y limits p.of_profile q.of_profile p.ended q.ended (sym p.whole ∙ q.whole) in
    let fits : (is_same a (null profile) || is_below profile a) ≡ true = subst (λ (e : Entity). IsValue profile (value.Ref e)) (sym same.0) is in
    absurd cc

-- a whole number behind a space is the field of its value
pub number_field : (profile : Profile) (text behind : List ℕ) (z : ℤ) (rest : List ℕ) → text ≡ 32 ∷ behind → IsIntegerFirst behind z rest → IsFieldFirst profile kind.Int text z rest
number_field profile text behind z rest space first = record {
  value = value.Int z;
  first = record { is = first.is; of_kind = refl; whole = space ∙ ap (λ (x : List ℕ). 32 ∷ x) first.whole; ended = first.ended };
  held = refl;
}

-- an identifier behind a space is held in the field that stands for it
pub target_field : (profile : Profile) (text behind : List ℕ) (entity : Entity) (field : ℤ) (rest : List ℕ) → text ≡ 32 ∷ behind → IsEntityFirst profile behind entity rest → (is_same entity (null profile) || is_below profile entity) ≡ true → field ≡ field_of profile entity → IsFieldFirst profile kind.Ref text field rest
target_field profile text behind entity field rest space first is held = record {
  value = value.Ref entity;
  first = record { is = is; of_kind = refl; whole = space ∙ ap (λ (x : List ℕ). 32 ∷ x) first.whole; ended = first.ended };
  held = held;
}

-- ---- one reading

-- behind the last of the values no further digit stands
abbrev pub EndsValues : List FieldValue → List ℕ → Type 0
EndsValues [] rest = Unit {0}
EndsValues (v ∷ values) rest = EndsNumber rest

ends_push : (values : List FieldValue) (v : FieldValue) (rest : List ℕ) → EndsNumber rest → EndsValues (values ++ v ∷ []) rest
ends_push [] v rest ended = ended
ends_push (w ∷ values) v rest ended = ended

pub ends_on : (profile : Profile) (values : List FieldValue) (rest : List ℕ) → EndsNumber rest → EndsNumber (values_text profile values ++ rest)
ends_on profile [] rest ended = ended
ends_on profile (v ∷ values) rest ended = inl (omega arith)

ends_values : (profile : Profile) (v : FieldValue) (values : List FieldValue) (rest : List ℕ) → EndsValues (v ∷ values) rest → EndsNumber (values_text profile values ++ rest)
ends_values profile v values rest ended = ends_on profile values rest ended

-- values of one kind, whole at the front of one text, are one value
pub same_first : (profile : Profile) (k : Kind) (a b : FieldValue) (x y : List ℕ) → HasLimits profile → IsValue profile a → IsValue profile b → is_of_kind k a ≡ true → is_of_kind k b ≡ true → EndsNumber x → EndsNumber y → value_text profile a ++ x ≡ value_text profile b ++ y → (a ≡ b) × (x ≡ y)
same_first profile kind.Int (value.Int m) (value.Int n) x y limits p q of_a of_b ends_a ends_b e =
    let same = same_integer m n x y p q ends_a ends_b e in
    (ap value.Int same.0, same.1)
same_first profile kind.Ref (value.Ref a) (value.Ref b) x y limits p q of_a of_b ends_a ends_b e =
    let same = same_entity profile a b x y limits (value_of_profile profile a p) (value_of_profile profile b q) ends_a ends_b e in
    (ap value.Ref same.0, same.1)
same_first profile kind.Int (value.Ref a) b x y limits p q of_a of_b ends_a ends_b e = absurd cc
same_first profile kind.Int (value.Int m) (value.Ref b) x y limits p q of_a of_b ends_a ends_b e = absurd cc
same_first profile kind.Ref (value.Int m) b x y limits p q of_a of_b ends_a ends_b e = absurd cc
same_first profile kind.Ref (value.Ref a) (value.Int n) x y limits p q of_a of_b ends_a ends_b e = absurd cc

-- what stands behind values of the first of these kinds: values of the others, up to the end of the line
pub record AreLeft (profile : Profile) (kinds : List Kind) (rest more : List ℕ) : Type 0 where
  pub back : List FieldValue
  pub of : OfKinds kinds back
  pub each : AllByRecursion (IsValue profile) back
  pub whole : rest ≡ values_text profile back ++ 10 ∷ more

left : (profile : Profile) (first last : List Kind) (front all : List FieldValue) (rest more : List ℕ) → HasLimits profile → OfKinds first front → OfKinds (first ++ last) all → AllByRecursion (IsValue profile) front → AllByRecursion (IsValue profile) all → EndsValues front rest → values_text profile front ++ rest ≡ values_text profile all ++ 10 ∷ more → AreLeft profile last rest more
left profile [] last [] all rest more limits f a p q ended e = record { back = all; of = a; each = q; whole = e }
left profile [] last (v ∷ front) all rest more limits f a p q ended e = absurd f
left profile (k ∷ first) last [] all rest more limits f a p q ended e = absurd f
left profile (k ∷ first) last (v ∷ front) [] rest more limits f a p q ended e = absurd a
left profile (k ∷ first) last (v ∷ front) (w ∷ all) rest more limits f a p q ended e =
    let whole : value_text profile v ++ (values_text profile front ++ rest) ≡ value_text profile w ++ (values_text profile all ++ 10 ∷ more) =
    sym (append_assoc (value_text profile v) (values_text profile front) rest) ∙ ap (drop 1) e ∙ append_assoc (value_text profile w) (values_text profile all) (10 ∷ more) in
    let same = same_first profile k v w (values_text profile front ++ rest) (values_text profile all ++ 10 ∷ more) limits p.0 q.0 f.0 a.0 (ends_on profile front rest ended) (ends_on profile all (10 ∷ more) (inl (omega arith))) whole in
    let ended_on : EndsValues front rest = elim front as (λ (vs : List FieldValue). EndsValues vs rest) [ [] ↦ tt | u ∷ us ↦ ended ] in
    let h = left profile first last front all rest more limits f.1 a.1 p.1 q.1 ended_on same.1 in
    record { back = h.back; of = h.of; each = h.each; whole = h.whole }

-- ---- the fields read so far

-- values of the first so many of these kinds at the front of a text, the fields that hold them, and what stands behind them
pub record AreTaken (profile : Profile) (kinds : List Kind) (text : List ℕ) (at : ℕ) (fields : List ℤ) (rest : List ℕ) : Type 0 where
  pub front : List FieldValue
  pub of : OfKinds (take at kinds) front
  pub each : AllByRecursion (IsValue profile) front
  pub whole : text ≡ values_text profile front ++ rest
  pub ended : EndsValues front rest
  pub held : fields ≡ map (field_of_value profile) front ++ replicate (4 - length front) (pos 0)

pub taken_none : (profile : Profile) (kinds : List Kind) (text : List ℕ) → AreTaken profile kinds text 0 (replicate 4 (pos 0)) text
taken_none profile kinds text = record { front = []; of = tt; each = tt; whole = refl; ended = tt; held = refl }

pub taken_more : (profile : Profile) (kinds : List Kind) (text : List ℕ) (at : ℕ) (fields : List ℤ) (rest : List ℕ) (d : Kind) (field : ℤ) (after : List ℕ) → at < length kinds → length kinds ≤ 4 → AreTaken profile kinds text at fields rest → IsFieldFirst profile (get_or kinds at d) rest field after → AreTaken profile kinds text (at + 1) (set fields at field) after
taken_more profile kinds text at fields rest d field after within few t f =
    let k = get_or kinds at d in
    let v = f.value in
    let first = f.first in
    let size : at ≡ length t.front = omega (arith, same_length (take at kinds) t.front t.of, length-take at kinds) in
    record {
      front = t.front ++ v ∷ [];
      of = subst (λ (ks : List Kind). OfKinds ks (t.front ++ v ∷ [])) (sym (take_more kinds at d within)) (of_kinds_push (take at kinds) t.front k v t.of first.of_kind);
      each = each_push profile t.front v t.each first.is;
      whole = t.whole ∙ ap (λ (x : List ℕ). values_text profile t.front ++ x) first.whole ∙ text_push profile t.front v after;
      ended = ends_push t.front v after first.ended;
      held = (λ i. set (t.held i) (size i) (f.held i)) ∙ row_more (field_of_value profile) t.front v (omega arith);
    }

behind_taken : (profile : Profile) (kinds : List Kind) (text : List ℕ) (at : ℕ) (fields : List ℤ) (rest : List ℕ) (values : List FieldValue) (more : List ℕ) → HasLimits profile → AreTaken profile kinds text at fields rest → AreValuesOf profile kinds text values more → AreLeft profile (drop at kinds) rest more
behind_taken profile kinds text at fields rest values more limits t are =
    left profile (take at kinds) (drop at kinds) t.front values rest more limits t.of
    (subst (λ (ks : List Kind). OfKinds ks values) (sym (take-append-drop at kinds)) (of_kinds kinds values are.of_kinds))
    t.each are.each t.ended (sym t.whole ∙ are.whole)

-- where no value of the next kind begins the rest, no values are spelled
pub none_next : (profile : Profile) (kinds : List Kind) (text : List ℕ) (at : ℕ) (fields : List ℤ) (rest : List ℕ) (d : Kind) → HasLimits profile → at < length kinds → AreTaken profile kinds text at fields rest → ((v : FieldValue) (after : List ℕ) → IsValueFirst profile (get_or kinds at d) rest v after → ⊥) → (values : List FieldValue) (more : List ℕ) → AreValuesOf profile kinds text values more → ⊥
none_next profile kinds text at fields rest d limits within t none values more are =
    let h = behind_taken profile kinds text at fields rest values more limits t are in
    elim h.back as (λ (back : List FieldValue). OfKinds (get_or kinds at d ∷ drop (at + 1) kinds) back → AllByRecursion (IsValue profile) back → rest ≡ values_text profile back ++ 10 ∷ more → ⊥) [
      | [] ↦ λ of each whole. of
      | v ∷ back ↦ λ of each whole. none v (values_text profile back ++ 10 ∷ more) (record {
        is = each.0;
        of_kind = of.0;
        whole = whole ∙ ap (λ (x : List ℕ). 32 ∷ x) (append_assoc (value_text profile v) (values_text profile back) (10 ∷ more));
        ended = ends_on profile back (10 ∷ more) (inl (omega arith));
      })
    ] (subst (λ (ks : List Kind). OfKinds ks h.back) (drop_more kinds at d within) h.of) h.each h.whole

-- where the rest behind the last value is no end of a line, no values are spelled
pub none_end : (profile : Profile) (kinds : List Kind) (text : List ℕ) (at : ℕ) (fields : List ℤ) (rest : List ℕ) → HasLimits profile → length kinds ≤ at → AreTaken profile kinds text at fields rest → ((after : List ℕ) → rest ≢ 10 ∷ after) → (values : List FieldValue) (more : List ℕ) → AreValuesOf profile kinds text values more → ⊥
none_end profile kinds text at fields rest limits past t none values more are =
    let h = behind_taken profile kinds text at fields rest values more limits t are in
    elim h.back as (λ (back : List FieldValue). OfKinds [] back → rest ≡ values_text profile back ++ 10 ∷ more → ⊥) [
      | [] ↦ λ of whole. none more whole
      | v ∷ back ↦ λ of whole. of
    ] (subst (λ (ks : List Kind). OfKinds ks h.back) (drop_all at kinds past) h.of) h.whole

-- the row of the values of all kinds, up to the end of the line
pub row_taken : (profile : Profile) (kinds : List Kind) (text : List ℕ) (at : ℕ) (row : Row) (rest after : List ℕ) → length kinds ≤ at → AreTaken profile kinds text at row.f rest → rest ≡ 10 ∷ after → IsRowOf profile kinds text row after
row_taken profile kinds text at row rest after past t end = record {
  values = t.front;
  spelled = record {
    of_kinds = are_of kinds t.front (subst (λ (ks : List Kind). OfKinds ks t.front) (take_all at kinds past) t.of);
    each = t.each;
    whole = t.whole ∙ ap (λ (x : List ℕ). values_text profile t.front ++ x) end;
  };
  held = λ i. record { f = t.held i };
}
