-- How far the values of a row have been read.
use Rattle.std.proofs.Common.{◌≡◌, ℕ, ◌+◌, ◌-◌, ◌*◌, ◌<◌, ◌≤◌, ℤ, pos, true, List, [], ◌∷◌, ◌++◌, length, take, drop, map, set, replicate, get_or, refl, sym, ap, subst, ◌∙◌, arith, append_assoc, length-take, length-append}
use Rattle.std.specs.List.{flat_map, AllByRecursion}
use Rattle.std.proofs.lemmas.List.{append-nil, take-append-drop, take_more, drop_more, take_all}
use Rattle.std.proofs.lemmas.Grind.{flat_map-append}
use Rattle.world_model.specs.declared.component.Kind.{Kind}
use Rattle.world_model.specs.declared.component.Row.{Row}
use Rattle.world_text.specs.FieldValues.{FieldValue}
use Rattle.world_text.specs.Formats.{version_1}
use Rattle.world_text.specs.Lines.{IsValue}
use Rattle.world_text.specs.Meaning.{field_of_value}
use Rattle.world_text.specs.Fitting.{is_of_kind}
use Rattle.world_text.proofs.RowLemmas.{row_more}
use Rattle.world_text.proofs.TakingLemmas.{OfKinds, of_kinds, same_length, are_of}
use Rattle.entity_id.proofs.ListLemmas.{all-append}
use Rattle.snapshot.specs.Fields.{value_bytes}
use Rattle.snapshot.specs.Reading.{IsValueAt, IsNoValueAt, AreValuesAt, AreNoValuesAt}
use Rattle.snapshot.proofs.ValueLemmas.{same_value}
use Rattle.snapshot.proofs.ValueReadLemmas.{value_size}

-- the bytes of values
abbrev pub values_bytes : List FieldValue → List ℕ
values_bytes values = flat_map value_bytes values

-- values of the first so many of these kinds from a place on, the fields that hold them, and the place behind them
pub record AreRead (kinds : List Kind) (bytes : List ℕ) (at count : ℕ) (fields : List ℤ) (to : ℕ) : Type 0 where
  pub front : List FieldValue
  pub of : OfKinds (take count kinds) front
  pub each : AllByRecursion (IsValue version_1.profile) front
  pub spelled : drop at bytes ≡ values_bytes front ++ drop to bytes
  pub size : to ≡ at + 8 * length front
  pub held : fields ≡ map (field_of_value version_1.profile) front ++ replicate (4 - length front) (pos 0)

pub read_none : (kinds : List Kind) (bytes : List ℕ) (at : ℕ) → AreRead kinds bytes at 0 (replicate 4 (pos 0)) at
read_none kinds bytes at = record { front = []; of = tt; each = tt; spelled = refl; size = omega arith; held = refl }

of_kinds_push : (kinds : List Kind) (values : List FieldValue) (k : Kind) (v : FieldValue) → OfKinds kinds values → is_of_kind k v ≡ true → OfKinds (kinds ++ k ∷ []) (values ++ v ∷ [])
of_kinds_push [] [] k v h one = (one, tt)
of_kinds_push [] (w ∷ values) k v h one = absurd h
of_kinds_push (j ∷ kinds) [] k v h one = absurd h
of_kinds_push (j ∷ kinds) (w ∷ values) k v h one = (h.0, of_kinds_push kinds values k v h.1 one)

bytes_push : (values : List FieldValue) (v : FieldValue) (rest : List ℕ) → values_bytes values ++ (value_bytes v ++ rest) ≡ values_bytes (values ++ v ∷ []) ++ rest
bytes_push values v rest =
    sym (append_assoc (values_bytes values) (value_bytes v) rest)
    ∙ ap (λ (x : List ℕ). x ++ rest) (sym (flat_map-append value_bytes values (v ∷ []) ∙ ap (λ (x : List ℕ). values_bytes values ++ x) (append-nil (value_bytes v))))

-- one value more
pub read_next : (kinds : List Kind) (bytes : List ℕ) (at count : ℕ) (fields : List ℤ) (to : ℕ) (d : Kind) (field : ℤ) → count < length kinds → length kinds ≤ 4 → AreRead kinds bytes at count fields to → IsValueAt (get_or kinds count d) bytes to field → AreRead kinds bytes at (count + 1) (set fields count field) (to + 8)
read_next kinds bytes at count fields to d field within few t f =
    let k = get_or kinds count d in
    let v = f.value in
    let size : count ≡ length t.front = omega (arith, same_length (take count kinds) t.front t.of, length-take count kinds) in
    record {
      front = t.front ++ v ∷ [];
      of = subst (λ (ks : List Kind). OfKinds ks (t.front ++ v ∷ [])) (sym (take_more kinds count d within)) (of_kinds_push (take count kinds) t.front k v t.of f.of_kind);
      each = all-append (IsValue version_1.profile) t.front (v ∷ []) t.each (f.is, tt);
      spelled = t.spelled ∙ ap (λ (x : List ℕ). values_bytes t.front ++ x) f.spelled ∙ bytes_push t.front v (drop (to + 8) bytes);
      size = omega (arith, t.size, length-append t.front (v ∷ []));
      held = (λ i. set (t.held i) (size i) (f.held_is i)) ∙ row_more (field_of_value version_1.profile) t.front v (omega arith);
    }

-- what stands behind values of the first of these kinds: values of the others
record AreLeft (kinds : List Kind) (rest more : List ℕ) : Type 0 where
  back : List FieldValue
  of : OfKinds kinds back
  each : AllByRecursion (IsValue version_1.profile) back
  whole : rest ≡ values_bytes back ++ more

left : (first last : List Kind) (front all : List FieldValue) (rest more : List ℕ) → OfKinds first front → OfKinds (first ++ last) all → AllByRecursion (IsValue version_1.profile) front → AllByRecursion (IsValue version_1.profile) all → values_bytes front ++ rest ≡ values_bytes all ++ more → AreLeft last rest more
left [] last [] all rest more f a p q e = record { back = all; of = a; each = q; whole = e }
left [] last (v ∷ front) all rest more f a p q e = absurd f
left (k ∷ first) last [] all rest more f a p q e = absurd f
left (k ∷ first) last (v ∷ front) [] rest more f a p q e = absurd a
left (k ∷ first) last (v ∷ front) (w ∷ all) rest more f a p q e =
    let whole : value_bytes v ++ (values_bytes front ++ rest) ≡ value_bytes w ++ (values_bytes all ++ more) =
    sym (append_assoc (value_bytes v) (values_bytes front) rest) ∙ e ∙ append_assoc (value_bytes w) (values_bytes all) more in
    let same = same_value k v w (values_bytes front ++ rest) (values_bytes all ++ more) f.0 a.0 p.0 q.0 whole in
    left first last front all rest more f.1 a.1 p.1 q.1 same.1

-- where no value of the next kind stands, no values of all kinds do
pub none_next : (kinds : List Kind) (bytes : List ℕ) (at count : ℕ) (fields : List ℤ) (to : ℕ) (d : Kind) → count < length kinds → AreRead kinds bytes at count fields to → IsNoValueAt (get_or kinds count d) bytes to → AreNoValuesAt kinds bytes at
none_next kinds bytes at count fields to d within t none values more of_all each e =
    let h = left (take count kinds) (drop count kinds) t.front values (drop to bytes) more t.of
    (subst (λ (ks : List Kind). OfKinds ks values) (sym (take-append-drop count kinds)) (of_kinds kinds values of_all))
    t.each each (sym t.spelled ∙ e) in
    elim h.back as (λ (back : List FieldValue). OfKinds (get_or kinds count d ∷ drop (count + 1) kinds) back → AllByRecursion (IsValue version_1.profile) back → drop to bytes ≡ values_bytes back ++ more → ⊥) [
      | [] ↦ λ of is whole. of
      | v ∷ back ↦ λ of is whole. none v (values_bytes back ++ more) of.0 is.0 (whole ∙ append_assoc (value_bytes v) (values_bytes back) more)
    ] (subst (λ (ks : List Kind). OfKinds ks h.back) (drop_more kinds count d within) h.of) h.each h.whole

values_size : (values : List FieldValue) → length (values_bytes values) ≡ 8 * length values
values_size [] = refl
values_size (v ∷ values) = omega (arith, length-append (value_bytes v) (values_bytes values), value_size v, values_size values)

-- the row of the values of all kinds
pub row_here : (kinds : List Kind) (bytes : List ℕ) (at count : ℕ) (row : Row) (to : ℕ) → length kinds ≤ count → AreRead kinds bytes at count row.f to → AreValuesAt kinds bytes at row to
row_here kinds bytes at count row to past t =
    let of = subst (λ (ks : List Kind). OfKinds ks t.front) (take_all count kinds past) t.of in
    record {
      values = t.front;
      of_kinds = are_of kinds t.front of;
      each = t.each;
      spelled = t.spelled;
      size = omega (arith, t.size, values_size t.front);
      held = λ i. record { f = t.held i };
    }
