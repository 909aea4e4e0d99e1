-- A text begins with one line of a script at most.
use Rattle.std.proofs.Common.{◌≡◌, inl, inr, ℕ, zero, suc, ◌<◌, Some, slice_get, List, [], ◌∷◌, ◌++◌, drop, get_or, length, codes, refl, sym, ap, subst, ◌∙◌, arith, ℤ}
use Rattle.std.specs.List.{AllByRecursion}
use Rattle.std.specs.Option.{option_map_or}
use Rattle.std.specs.Prelude.{true}
use Rattle.std.proofs.lemmas.List.{append_cancel_left}
use Rattle.entity_id.specs.declared.entity.Profile.{Profile}
use Rattle.entity_id.specs.declared.entity.Entity.{Entity}
use Rattle.entity_id.specs.Identifiers.{HasLimits}
use Rattle.entity_id.proofs.CutLemmas.{same_cut}
use Rattle.world_model.specs.declared.command.Command.TheVariants as command
use Rattle.world_model.specs.declared.component.Decl.{Decl}
use Rattle.world_model.specs.declared.component.Kind.{Kind}
use Rattle.world_model.specs.declared.component.Kind.TheVariants as kind
use Rattle.world_model.specs.declared.component.Row.{Row}
use Rattle.world_model.specs.declared.event.EventKind.{EventKind}
use Rattle.world_model.specs.declared.group.GroupDecl.{GroupDecl}
use Rattle.world_model.specs.declared.event.EventKind.TheVariants as event
use Rattle.world_model.specs.Components.{IsDecl, fits, fits_kind}
use Rattle.world_model.specs.Conditions.{MaySet}
use Rattle.world_text.specs.declared.script.ScriptLine.{ScriptLine}
use Rattle.world_text.specs.declared.script.ScriptLine.TheVariants.{Run, Watch, Unwatch}
use Rattle.world_text.specs.declared.verbs.Verb.{Verb}
use Rattle.world_text.specs.declared.verbs.Verb.TheVariants as verb
use Rattle.world_text.specs.Documents.{value_in, values_in}
use Rattle.world_text.specs.Lines.{IsValue, value_text, values_text}
use Rattle.world_text.specs.Meaning.{row_of, field_of_value}
use Rattle.row_lang.specs.NameLists.{name_at}
use Rattle.row_lang.specs.FieldNames.{field_text}
use Rattle.world_text.specs.Scripts.{row_text, field_value_text, event_word, IsLineFirst}
use Rattle.row_lang.specs.Reading.{AreSomeNext, IsKeptAs, IsPartNext}
use Rattle.world_text.specs.ScriptReading.{IsNumberNext, IsFieldNext, IsPoolSort, IsGroupSort, HasFewFields, IsEntityNext, IsRowLast, IsFieldLast, AreEntityNames, IsViewLast, IsWatchLast, IsLineBehind}
use Rattle.world_text.specs.Verbs.{word_of, entity_command, entry_command, row_command, names_command}
use Rattle.world_text.proofs.GroupLineLemmas.{one_group}
use Rattle.row_lang.proofs.KeptLemmas.{one_kept}
use Rattle.world_text.proofs.FieldLemmas.{few_fields, one_field, one_field_text}
use Rattle.world_text.proofs.LinePartLemmas.{one_entity, one_entry, one_number}
use Rattle.row_lang.proofs.NameLemmas.{IsFree, one_pool, same_name_split}
use Rattle.row_lang.proofs.NameListLemmas.{one_some, one_part}
use Rattle.world_text.proofs.PrintedValues.{few_kinds, row_kept, row_spelled, field_kept}
use Rattle.world_text.proofs.RowCommandLemmas.{decl_at, row_text_at, field_parts}
use Rattle.world_text.proofs.SplitLineLemmas.{split_line, same_verb, word_free}
use Rattle.world_text.proofs.ValueLemmas.{value_lacks, values_lack, same_value, same_values}

-- ---- rows

record IsThere (decls : List Decl) (pool : ℕ) : Type 0 where
  pub decl : Decl
  pub at : slice_get decls pool ≡ Some decl

there : (decls : List Decl) (pool : ℕ) → pool < length decls → IsThere decls pool
there [] pool within = absurd (omega arith)
there (d ∷ decls) zero within = record { decl = d; at = refl }
there (d ∷ decls) (suc pool) within = let h = there decls pool (omega arith) in record { decl = h.decl; at = h.at }

fits_at : (profile : Profile) (decls : List Decl) (pool : ℕ) (decl : Decl) (row : Row) → slice_get decls pool ≡ Some decl → MaySet profile decls pool row → fits profile decl row ≡ true
fits_at profile decls pool decl row at may_set = sym (ap (λ d. option_map_or (λ (decl : Decl). fits profile decl row) d true) at) ∙ may_set.fit

-- the components are as they are to be
abbrev pub AreDecls : List Decl → Type 0
AreDecls decls = AllByRecursion IsDecl decls

same_row : (profile : Profile) (decls : List Decl) (pool : ℕ) (a b : Row) (x y : List ℕ) → HasLimits profile → pool < length decls → MaySet profile decls pool a → MaySet profile decls pool b → row_text profile decls pool a ++ 10 ∷ x ≡ row_text profile decls pool b ++ 10 ∷ y → (x ≡ y) × (AreDecls decls → a ≡ b)
same_row profile decls pool a b x y limits declared may_a may_b e =
    let found = there decls pool declared in
    let decl = found.decl in
    let fit_a = fits_at profile decls pool decl a found.at may_a in
    let fit_b = fits_at profile decls pool decl b found.at may_b in
    let spelled_a = row_spelled profile decl a may_a.wide fit_a in
    let spelled_b = row_spelled profile decl b may_b.wide fit_b in
    let texts : values_text profile (values_in profile decl a) ++ 10 ∷ x ≡ values_text profile (values_in profile decl b) ++ 10 ∷ y =
    ap (λ (t : List ℕ). t ++ 10 ∷ x) (sym (row_text_at profile decls pool decl a found.at)) ∙ e ∙ ap (λ (t : List ℕ). t ++ 10 ∷ y) (row_text_at profile decls pool decl b found.at) in
    let cut = same_cut 10 (values_text profile (values_in profile decl a)) (values_text profile (values_in profile decl b)) x y (values_lack profile (values_in profile decl a) limits spelled_a) (values_lack profile (values_in profile decl b) limits spelled_b) texts in
    let values = same_values profile (values_in profile decl a) (values_in profile decl b) limits spelled_a spelled_b cut.0 in (
      cut.1,
      λ each.
          let is_decl = decl_at decls pool decl each found.at in
          sym (row_kept profile decl a is_decl may_a.wide fit_a) ∙ ap (row_of profile) values ∙ row_kept profile decl b is_decl may_b.wide fit_b,
    )

one_row : (profile : Profile) (decls : List Decl) (text x y : List ℕ) (e f : Entity) (a b : ℕ) (r s : Row) → HasLimits profile → IsRowLast profile decls text e a r x → IsRowLast profile decls text f b s y → (e ≡ f) × (a ≡ b) × (x ≡ y) × (AreDecls decls → r ≡ s)
one_row profile decls text x y e f a b r s limits p q =
    let entry = one_entry profile decls text (row_text profile decls a r ++ 10 ∷ x) (row_text profile decls b s ++ 10 ∷ y) e f a b limits p.entry q.entry in
    let may_s : MaySet profile decls a s = subst (λ (n : ℕ). MaySet profile decls n s) (sym entry.1) q.may_set in
    let row = same_row profile decls a r s x y limits p.entry.is.called.declared p.may_set may_s (entry.2 ∙ ap (λ (n : ℕ). row_text profile decls n s ++ 10 ∷ y) (sym entry.1)) in
    (entry.0, entry.1, row.0, row.1)

-- ---- fields

-- components that are as they are to be have few fields
few_in : (decls : List Decl) (pool : ℕ) → AreDecls decls → pool < length decls → HasFewFields decls pool
few_in decls pool each declared =
    let found = there decls pool declared in
    few_fields decls pool found.decl found.at (few_kinds found.decl (decl_at decls pool found.decl each found.at))

one_value : (profile : Profile) (decls : List Decl) (text x y : List ℕ) (e f : Entity) (a b m n : ℕ) (v w : ℤ) → HasLimits profile → IsFieldLast profile decls text e a m v x → IsFieldLast profile decls text f b n w y → (e ≡ f) × (a ≡ b) × (x ≡ y) × (AreDecls decls → (m ≡ n) × (v ≡ w))
one_value profile decls text x y e f a b m n v w limits p q =
    let behind = 32 ∷ (field_text decls a m ++ 32 ∷ (field_value_text profile decls a m v ++ 10 ∷ x)) in
    let first : IsEntityNext profile text e behind = record { of_profile = p.is.of_profile; whole = p.whole; ended = inl (omega arith) } in
    let entity = one_entity profile text behind (32 ∷ (field_text decls b n ++ 32 ∷ (field_value_text profile decls b n w ++ 10 ∷ y))) e f limits first (record { of_profile = q.is.of_profile; whole = q.whole; ended = inl (omega arith) }) in
    let here = field_parts profile decls text behind e e a m v x limits first p in
    let other = field_parts profile decls text behind e f b n w y limits first q in
    let texts = one_field_text decls behind here.valued other.valued a b m n here.k other.k here.next other.next in
    let lack_v = value_lacks profile (value_in profile here.k v) 10 limits here.first.is (omega arith) in
    let lack_w = value_lacks profile (value_in profile other.k w) 10 limits other.first.is (omega arith) in
    let cut = same_cut 10 (value_text profile (value_in profile here.k v)) (value_text profile (value_in profile other.k w)) x y lack_v lack_w (ap (drop 1) (sym here.first.whole ∙ texts.2 ∙ other.first.whole)) in (
      entity.0,
      texts.0,
      cut.1,
      λ each.
          let field = one_field decls behind here.valued other.valued a b m n here.k other.k (few_in decls a each p.is.called.declared) here.next other.next in
          let passes : fits_kind profile here.k w ≡ true = subst (λ (k : Kind). fits_kind profile k w ≡ true) (sym field.2) other.passes in
          let is_w : IsValue profile (value_in profile here.k w) = subst (λ (k : Kind). IsValue profile (value_in profile k w)) (sym field.2) other.first.is in
          let value = same_value profile (value_in profile here.k v) (value_in profile here.k w) limits here.first.is is_w (cut.0 ∙ ap (λ (k : Kind). value_text profile (value_in profile k w)) (sym field.2)) in
          (field.1, sym (field_kept profile here.k v p.may_set.wide here.passes) ∙ ap (field_of_value profile) value ∙ field_kept profile here.k w q.may_set.wide passes),
    )

-- ---- lists

one_entity_names : (profile : Profile) (decls : List Decl) (text x y : List ℕ) (e f : Entity) (a b : List ℕ) → HasLimits profile → AreEntityNames profile decls text e a x → AreEntityNames profile decls text f b y → (e ≡ f) × (a ≡ b) × (x ≡ y)
one_entity_names profile decls text x y e f a b limits p q =
    let entity = one_entity profile text p.behind q.behind e f limits p.first q.first in
    let names = one_some decls [] p.behind p.order (10 ∷ x) q.order (10 ∷ y) p.names.names (subst (λ (t : List ℕ). AreSomeNext decls [] t q.order (10 ∷ y)) (sym entity.1) q.names.names) in
    (entity.0, one_kept p.order a b p.kept (subst (λ (o : List ℕ). IsKeptAs o b) (sym names.0) q.kept), ap (drop 1) names.1)

one_view : (decls : List Decl) (text x y : List ℕ) (a b u v : List ℕ) → IsViewLast decls text a u x → IsViewLast decls text b v y → (a ≡ b) × (u ≡ v) × (x ≡ y)
one_view decls text x y a b u v p q =
    let names = one_some decls [] text p.order p.behind q.order q.behind p.names q.names in
    let out = one_part decls p.order (codes " not") p.behind p.excluded (10 ∷ x) q.excluded (10 ∷ y) p.out
    (subst (λ (t : List ℕ). IsPartNext decls p.order (codes " not") t q.excluded (10 ∷ y)) (sym names.1) (subst (λ (o : List ℕ). IsPartNext decls o (codes " not") q.behind q.excluded (10 ∷ y)) (sym names.0) q.out)) in
    (one_kept p.order a b p.kept (subst (λ (o : List ℕ). IsKeptAs o b) (sym names.0) q.kept), one_kept p.excluded u v p.kept_out (subst (λ (o : List ℕ). IsKeptAs o v) (sym out.0) q.kept_out), ap (drop 1) out.1)

-- ---- sorts

-- a text begins with one field up to the end of a line
one_key : (decls : List Decl) (text x y : List ℕ) (a b m n : ℕ) → IsFieldNext decls text a m kind.Int (10 ∷ x) → IsFieldNext decls text b n kind.Int (10 ∷ y) → (x ≡ y) × (AreDecls decls → (a ≡ b) × (m ≡ n))
one_key decls text x y a b m n p q = (
  ap (drop 1) (one_field_text decls text (10 ∷ x) (10 ∷ y) a b m n kind.Int kind.Int p q).2,
  λ each. (let same = one_field decls text (10 ∷ x) (10 ∷ y) a b m n kind.Int kind.Int (few_in decls a each p.called.declared) p q in (same.0, same.1)),
)

one_pool_sort : (decls : List Decl) (text x y : List ℕ) (a b m n : ℕ) → IsPoolSort decls text a m x → IsPoolSort decls text b n y → (x ≡ y) × (AreDecls decls → (a ≡ b) × (m ≡ n))
one_pool_sort decls text x y a b m n p q =
    let same = append_cancel_left (codes " pool") q.behind p.behind (sym q.begins ∙ p.begins) in
    one_key decls p.behind x y a b m n p.key (subst (λ (t : List ℕ). IsFieldNext decls t b n kind.Int (10 ∷ y)) same q.key)

one_group_sort : (decls : List Decl) (text x y : List ℕ) (g h a b m n : ℕ) → IsGroupSort decls text g a m x → IsGroupSort decls text h b n y → (g ≡ h) × (x ≡ y) × (AreDecls decls → (a ≡ b) × (m ≡ n))
one_group_sort decls text x y g h a b m n p q =
    let same = append_cancel_left (codes " group") q.behind p.behind (sym q.begins ∙ p.begins) in
    let number = one_number p.behind p.later q.later g h p.number (subst (λ (t : List ℕ). IsNumberNext t h q.later) same q.number) in
    let key = one_key decls p.later x y a b m n p.key (subst (λ (t : List ℕ). IsFieldNext decls t b n kind.Int (10 ∷ y)) (sym number.1) q.key) in
    (number.0, key.0, key.1)

-- ---- watches

event_free : (k : EventKind) → IsFree (event_word k)
event_free event.Construct = (refl, (refl, (refl, (refl, (refl, (refl, (refl, (refl, (refl, tt)))))))))
event_free event.Update = (refl, (refl, (refl, (refl, (refl, (refl, tt))))))
event_free event.Destroy = (refl, (refl, (refl, (refl, (refl, (refl, (refl, tt)))))))

same_event : (a b : EventKind) → event_word a ≡ event_word b → a ≡ b
same_event event.Construct event.Construct e = refl
same_event event.Update event.Update e = refl
same_event event.Destroy event.Destroy e = refl
same_event event.Construct event.Update e = absurd (omega (arith, ap (λ (t : List ℕ). get_or t 0 0) e))
same_event event.Construct event.Destroy e = absurd (omega (arith, ap (λ (t : List ℕ). get_or t 0 0) e))
same_event event.Update event.Construct e = absurd (omega (arith, ap (λ (t : List ℕ). get_or t 0 0) e))
same_event event.Update event.Destroy e = absurd (omega (arith, ap (λ (t : List ℕ). get_or t 0 0) e))
same_event event.Destroy event.Construct e = absurd (omega (arith, ap (λ (t : List ℕ). get_or t 0 0) e))
same_event event.Destroy event.Update e = absurd (omega (arith, ap (λ (t : List ℕ). get_or t 0 0) e))

one_watch : (decls : List Decl) (text x y : List ℕ) (k l : EventKind) (a b : ℕ) → IsWatchLast decls text k a x → IsWatchLast decls text l b y → (k ≡ l) × (a ≡ b) × (x ≡ y)
one_watch decls text x y k l a b p q =
    let behind = 32 ∷ (name_at decls a ++ 10 ∷ x) in
    let kinds = same_name_split (event_word k) (event_word l) behind (32 ∷ (name_at decls b ++ 10 ∷ y)) (event_free k) (event_free l) refl refl (ap (drop 1) (sym p.whole ∙ q.whole)) in
    let pool = one_pool decls behind (10 ∷ x) (10 ∷ y) a b (record { called = p.called; whole = refl; ended = refl }) (record { called = q.called; whole = kinds.1; ended = refl }) in
    (same_event k l kinds.0, pool.0, ap (drop 1) pool.1)

-- ---- lines

-- one line goes on behind one word
one_behind : (profile : Profile) (decls : List Decl) (v : Verb) (text x y : List ℕ) (a b : ScriptLine) → HasLimits profile → IsLineBehind profile decls v text a x → IsLineBehind profile decls v text b y → (x ≡ y) × (AreDecls decls → a ≡ b)
one_behind profile decls (verb.Plain of) text x y a b limits p q = (ap (drop 1) (sym p.0 ∙ q.0), λ _. p.1 ∙ sym q.1)
one_behind profile decls (verb.OfEntity of) text x y a b limits p q =
    let same = one_entity profile text (10 ∷ x) (10 ∷ y) p.0 q.0 limits p.1 q.1 in
    (ap (drop 1) same.1, λ _. p.2 ∙ ap (λ (e : Entity). Run (entity_command of e)) same.0 ∙ sym q.2)
one_behind profile decls (verb.OfEntry of) text x y a b limits p q =
    let same = one_entry profile decls text (10 ∷ x) (10 ∷ y) p.0 q.0 p.1 q.1 limits p.2 q.2 in
    (ap (drop 1) same.2, λ _. p.3 ∙ (λ i. Run (entry_command of (same.0 i) (same.1 i))) ∙ sym q.3)
one_behind profile decls (verb.OfRow of) text x y a b limits p q =
    let same = one_row profile decls text x y p.0 q.0 p.1 q.1 p.2 q.2 limits p.3 q.3 in
    (same.2, λ each. let row = same.3 each in p.4 ∙ (λ i. Run (row_command of (same.0 i) (same.1 i) (row i))) ∙ sym q.4)
one_behind profile decls (verb.OfNames of) text x y a b limits p q =
    let same = one_entity_names profile decls text x y p.0 q.0 p.1 q.1 limits p.2 q.2 in
    (same.2, λ _. p.3 ∙ (λ i. Run (names_command of (same.0 i) (same.1 i))) ∙ sym q.3)
one_behind profile decls verb.Patch text x y a b limits p q =
    let same = one_value profile decls text x y p.0 q.0 p.1 q.1 p.2 q.2 p.3 q.3 limits p.4 q.4 in
    (same.2, λ each. let field = same.3 each in p.5 ∙ (λ i. Run (command.Patch (same.0 i) (same.1 i) (field.0 i) (field.1 i))) ∙ sym q.5)
one_behind profile decls verb.Clear text x y a b limits p q =
    let same = one_pool decls text (10 ∷ x) (10 ∷ y) p.0 q.0 p.1 q.1 in
    (ap (drop 1) same.1, λ _. p.2 ∙ ap (λ (pool : ℕ). Run (command.Clear pool)) same.0 ∙ sym q.2)
one_behind profile decls verb.View text x y a b limits p q =
    let same = one_view decls text x y p.0 q.0 p.1 q.1 p.2 q.2 in
    (same.2, λ _. p.3 ∙ (λ i. Run (command.View (same.0 i) (same.1 i))) ∙ sym q.3)
one_behind profile decls verb.Group text x y a b limits p q =
    let same = one_group decls text p.0 q.0 x y p.1 q.1 in
    (same.1, λ _. p.2 ∙ ap (λ (group : GroupDecl). Run (command.Group group)) same.0 ∙ sym q.2)
one_behind profile decls verb.Members text x y a b limits p q =
    let same = one_number text (10 ∷ x) (10 ∷ y) p.0 q.0 p.1 q.1 in
    (ap (drop 1) same.1, λ _. p.2 ∙ ap (λ (group : ℕ). Run (command.Members group)) same.0 ∙ sym q.2)
one_behind profile decls verb.Sort text x y a b limits (inl p) (inl q) =
    let same = one_pool_sort decls text x y p.0 q.0 p.1 q.1 p.2 q.2 in
    (same.0, λ each. let key = same.1 each in p.3 ∙ (λ i. Run (command.SortPool (key.0 i) (key.1 i))) ∙ sym q.3)
one_behind profile decls verb.Sort text x y a b limits (inl p) (inr q) = absurd (omega (arith, ap (λ (t : List ℕ). get_or t 1 0) (sym p.2.begins ∙ q.3.begins)))
one_behind profile decls verb.Sort text x y a b limits (inr p) (inl q) = absurd (omega (arith, ap (λ (t : List ℕ). get_or t 1 0) (sym p.3.begins ∙ q.2.begins)))
one_behind profile decls verb.Sort text x y a b limits (inr p) (inr q) =
    let same = one_group_sort decls text x y p.0 q.0 p.1 q.1 p.2 q.2 p.3 q.3 in
    (same.1, λ each. let key = same.2 each in p.4 ∙ (λ i. Run (command.SortGroup (same.0 i) (key.0 i) (key.1 i))) ∙ sym q.4)
one_behind profile decls verb.Watch text x y a b limits p q =
    let same = one_watch decls text x y p.0 q.0 p.1 q.1 p.2 q.2 in
    (same.2, λ _. p.3 ∙ (λ i. Watch (same.0 i) (same.1 i)) ∙ sym q.3)
one_behind profile decls verb.Unwatch text x y a b limits p q =
    let same = one_number text (10 ∷ x) (10 ∷ y) p.0 q.0 p.1 q.1 in
    (ap (drop 1) same.1, λ _. p.2 ∙ ap Unwatch same.0 ∙ sym q.2)

-- a text begins with one line
pub one_line : (profile : Profile) (decls : List Decl) (text x y : List ℕ) (a b : ScriptLine) → HasLimits profile → IsLineFirst profile decls text a x → IsLineFirst profile decls text b y → (x ≡ y) × (AreDecls decls → a ≡ b)
one_line profile decls text x y a b limits p q =
    let one = split_line profile decls text a x p in
    let two = split_line profile decls text b y q in
    let same = same_name_split (word_of one.v) (word_of two.v) one.behind two.behind (word_free one.v) (word_free two.v) one.ended two.ended (sym one.whole ∙ two.whole) in
    one_behind profile decls one.v one.behind x y a b limits one.left
    (subst (λ (t : List ℕ). IsLineBehind profile decls one.v t b y) (sym same.1) (subst (λ (v : Verb). IsLineBehind profile decls v two.behind b y) (sym (same_verb one.v two.v same.0)) two.left))
