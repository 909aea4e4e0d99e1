-- Places that are opened leave room on a reader's stack.
use Rattle.std.proofs.Common.{◌≡◌, ◌≢◌, inl, inr, ℕ, zero, suc, ◌+◌, ◌-◌, ◌*◌, ◌<◌, ◌≤◌, Bool, true, false, cond, eqb, List, [], ◌∷◌, ◌++◌, length, length-append, map, reverse, slice_get, Option, Some, None, refl, sym, ap, subst, ◌∙◌, arith}
use Rattle.std.specs.List.{AllByRecursion}
use Rattle.std.specs.Option.{option_map_or, option_to_list}
use Rattle.std.proofs.lemmas.Bool.{both_ways, cases_Bool, eq-eqb}
use Rattle.std.proofs.lemmas.Option.{none-some, same_Some}
use Rattle.std.proofs.lemmas.List.{reverse-append, length-map, length-take}
use Rattle.world_model.specs.declared.access.Access.{Access}
use Rattle.world_model.specs.declared.component.Decl.{Decl}
use Rattle.world_model.specs.declared.component.Kind.{Kind}
use Rattle.world_model.specs.declared.component.Kind.TheVariants.{Int, Ref}
use Rattle.world_model.specs.declared.tokens.FieldAt.{FieldAt}
use Rattle.world_model.specs.Components.{kinds_of}
use Rattle.world_model.specs.Groups.{has_pool}
use Rattle.row_lang.specs.declared.token.Keyword.TheVariants as key
use Rattle.row_lang.specs.declared.token.Token.{Token}
use Rattle.row_lang.specs.declared.token.Token.TheVariants.{Word, Number, Own, Pool, Field}
use Rattle.row_lang.specs.declared.token.Place.{Place}
use Rattle.row_lang.specs.declared.token.Place.TheVariants.{Statement, Deed, Value, Looked, LookedField, Written, Sent, Raised, Named, Given}
use Rattle.row_lang.specs.FieldNames.{kind_at}
use Rattle.row_lang.specs.Naming.{AreNamedDecls, IsNamedDecl}
use Rattle.row_lang.specs.Places.{opened, value_opened, deed_opened, statement_opened, value_of_field, has_kind, is_kind, only_if, whole_value}
use Rattle.row_lang.specs.Stacks.{HaveRoom, room, Opens}

-- the places that were opened are these, where any were
only : (holds : Bool) (places more left : List Place) → HaveRoom (places ++ left) → only_if holds places ≡ Some more → HaveRoom (more ++ left)
only true places more left room e = subst (λ (ps : List Place). HaveRoom (ps ++ left)) (same_Some places more e) room
only false places more left room e = absurd (none-some more e)

field_room : (decls : List Decl) (at : FieldAt) (left more : List Place) → length left + 33 ≤ 48 → HaveRoom left → value_of_field decls at ≡ Some more → HaveRoom (more ++ left)
field_room decls at left more few room e = elim (kind_at decls at.pool at.field) as (λ o. option_map_or (λ kind. Some (whole_value kind ∷ [])) o None ≡ Some more → HaveRoom (more ++ left)) [
  | None ↦ λ none. absurd (none-some more none)
  | Some kind ↦ λ some. subst (λ (ps : List Place). HaveRoom (ps ++ left)) (same_Some (whole_value kind ∷ []) more some) (few, room)
] e

one : (a : Place) (left more : List Place) → length left + room a ≤ 48 → HaveRoom left → Some (a ∷ []) ≡ Some more → HaveRoom (more ++ left)
one a left more p room e = subst (λ (ps : List Place). HaveRoom (ps ++ left)) (same_Some (a ∷ []) more e) (p, room)

two : (a b : Place) (left more : List Place) → length left + 1 + room a ≤ 48 → length left + room b ≤ 48 → HaveRoom left → Some (a ∷ b ∷ []) ≡ Some more → HaveRoom (more ++ left)
two a b left more p q room e = subst (λ (ps : List Place). HaveRoom (ps ++ left)) (same_Some (a ∷ b ∷ []) more e) (omega (arith, p), (q, room))

three : (a b c : Place) (left more : List Place) → length left + 2 + room a ≤ 48 → length left + 1 + room b ≤ 48 → length left + room c ≤ 48 → HaveRoom left → Some (a ∷ b ∷ c ∷ []) ≡ Some more → HaveRoom (more ++ left)
three a b c left more p q r room e = subst (λ (ps : List Place). HaveRoom (ps ++ left)) (same_Some (a ∷ b ∷ c ∷ []) more e) (omega (arith, p), (omega (arith, q), (r, room)))

deed_room : (token : Token) (left more : List Place) → length left + 36 ≤ 48 → HaveRoom left → deed_opened token ≡ Some more → HaveRoom (more ++ left)
deed_room (Word key.Set) left more few room e = one Written left more (omega (arith, few)) room e
deed_room (Word key.Kill) left more few room e = one (Value Ref 16) left more (omega (arith, few)) room e
deed_room (Word key.Give) left more few room e = two (Value Ref 16) Given left more (omega (arith, few)) (omega (arith, few)) room e
deed_room (Word key.Take) left more few room e = two (Value Ref 16) Named left more (omega (arith, few)) (omega (arith, few)) room e
deed_room (Word key.Send) left more few room e = two (Value Ref 16) Sent left more (omega (arith, few)) (omega (arith, few)) room e
deed_room (Word key.Add) left more few room e = two (Value Ref 16) Raised left more (omega (arith, few)) (omega (arith, few)) room e
deed_room (Word key.Spawn) left more few room e = subst (λ (ps : List Place). HaveRoom (ps ++ left)) (same_Some [] more e) room
deed_room (Word key.Bear) left more few room e = one Given left more (omega (arith, few)) room e
deed_room _ left more few room e = absurd (none-some more e)

statement_room : (token : Token) (left more : List Place) → length left + 37 ≤ 48 → HaveRoom left → statement_opened token ≡ Some more → HaveRoom (more ++ left)
statement_room (Word key.When) left more few room e = two (Value Int 16) Deed left more (omega (arith, few)) (omega (arith, few)) room e
statement_room token left more few room e = deed_room token left more (omega (arith, few)) room e

value_room : (decls : List Decl) (access : Access) (kind : Kind) (n : ℕ) (token : Token) (left more : List Place) → length left + (3 + 2 * n) ≤ 48 → HaveRoom left → value_opened decls access kind n token ≡ Some more → HaveRoom (more ++ left)
value_room decls access kind n (Word key.Tick) left more few room e = only (is_kind Int kind) [] more left room e
value_room decls access kind n (Word key.Choice) left more few room e = three (Value Int n) (Value kind n) (Value kind n) left more (omega (arith, few)) (omega (arith, few)) (omega (arith, few)) room e
value_room decls access kind n (Word key.Oneself) left more few room e = only (is_kind Ref kind) [] more left room e
value_room decls access kind n (Word key.Null) left more few room e = only (is_kind Ref kind) [] more left room e
value_room decls access kind n (Word key.Same) left more few room e = only (is_kind Int kind) (Value Ref n ∷ Value Ref n ∷ []) more left (omega (arith, few), (omega (arith, few), room)) e
value_room decls access kind n (Word key.Has) left more few room e = only (is_kind Int kind) (Value Ref n ∷ Looked ∷ []) more left (omega (arith, few), (omega (arith, few), room)) e
value_room decls access kind n (Word key.At) left more few room e = three (Value Ref n) (LookedField kind) (Value kind n) left more (omega (arith, few)) (omega (arith, few)) (omega (arith, few)) room e
value_room decls access kind n (Word key.When) left more few room e = absurd (none-some more e)
value_room decls access kind n (Word key.Set) left more few room e = absurd (none-some more e)
value_room decls access kind n (Word key.Kill) left more few room e = absurd (none-some more e)
value_room decls access kind n (Word key.Give) left more few room e = absurd (none-some more e)
value_room decls access kind n (Word key.Take) left more few room e = absurd (none-some more e)
value_room decls access kind n (Word key.Send) left more few room e = absurd (none-some more e)
value_room decls access kind n (Word key.Add) left more few room e = absurd (none-some more e)
value_room decls access kind n (Word key.Spawn) left more few room e = absurd (none-some more e)
value_room decls access kind n (Word key.Bear) left more few room e = absurd (none-some more e)
value_room decls access kind n (Word _) left more few room e = only (is_kind Int kind) (Value Int n ∷ Value Int n ∷ []) more left (omega (arith, few), (omega (arith, few), room)) e
value_room decls access kind n (Number z) left more few room e = only (is_kind Int kind) [] more left room e
value_room decls access kind n (Own at) left more few room e = only _ [] more left room e
value_room decls access kind n _ left more few room e = absurd (none-some more e)

-- values of the kinds of a component
values_room : (kinds : List Kind) (left : List Place) → length left + length kinds + 32 ≤ 48 → HaveRoom left → HaveRoom (map whole_value kinds ++ left)
values_room [] left few room = room
values_room (kind ∷ kinds) left few room = (omega (arith, length-append (map whole_value kinds) left, length-map kinds whole_value), values_room kinds left (omega arith) room)

kinds_few : (decls : List Decl) (pool : ℕ) (decl : Decl) → AllByRecursion IsNamedDecl decls → slice_get decls pool ≡ Some decl → length (kinds_of decl) ≤ 4
kinds_few [] pool decl each e = absurd (none-some decl e)
kinds_few (d ∷ decls) zero decl each e = subst (λ (d : Decl). length (kinds_of d) ≤ 4) (same_Some d decl e) (omega (arith, each.0.fields.few, length-take d.count d.kinds))
kinds_few (d ∷ decls) (suc pool) decl each e = kinds_few decls pool decl each.1 e

given_room : (decls : List Decl) (pool : ℕ) (left more : List Place) → AreNamedDecls decls → length left + 36 ≤ 48 → HaveRoom left → option_map_or (λ decl. Some (map whole_value (kinds_of decl))) (slice_get decls pool) None ≡ Some more → HaveRoom (more ++ left)
given_room decls pool left more named few room e = elim (slice_get decls pool) as (λ o. slice_get decls pool ≡ o → option_map_or (λ decl. Some (map whole_value (kinds_of decl))) o None ≡ Some more → HaveRoom (more ++ left)) [
  | None ↦ λ at none. absurd (none-some more none)
  | Some decl ↦ λ at some.
      let small = kinds_few decls pool decl named.each at in
      subst (λ (ps : List Place). HaveRoom (ps ++ left)) (same_Some (map whole_value (kinds_of decl)) more some) (values_room (kinds_of decl) left (omega (arith, few, small)) room)
] refl e

pub room_kept : (decls : List Decl) (access : Access) (place : Place) (token : Token) (left more : List Place) → AreNamedDecls decls → length left + room place ≤ 48 → HaveRoom left → opened decls access place token ≡ Some more → HaveRoom (more ++ left)
room_kept decls access Statement token left more named few room e = statement_room token left more few room e
room_kept decls access Deed token left more named few room e = deed_room token left more few room e
room_kept decls access (Value kind levels) token left more named few room e = elim (cases_Bool (eqb levels 0)) [
  | inl none ↦ absurd (none-some more (ap (λ b. cond b None (value_opened decls access kind (levels - 1) token)) (sym none) ∙ e))
  | inr some ↦
      let above : levels ≢ 0 = λ zero. both_ways (eqb levels 0) some (eq-eqb levels 0 zero) in
      value_room decls access kind (levels - 1) token left more (omega (arith, few, above)) room (ap (λ b. cond b None (value_opened decls access kind (levels - 1) token)) (sym some) ∙ e)
]
room_kept decls access Looked (Pool pool) left more named few room e = only _ [] more left room e
room_kept decls access (LookedField kind) (Field at) left more named few room e = only _ [] more left room e
room_kept decls access Written (Field at) left more named few room e = elim (cases_Bool (has_pool access.write at.pool)) [
  | inl is ↦ field_room decls at left more few room (ap (λ b. cond b (value_of_field decls at) None) (sym is) ∙ e)
  | inr other ↦ absurd (none-some more (ap (λ b. cond b (value_of_field decls at) None) (sym other) ∙ e))
]
room_kept decls access Sent (Field at) left more named few room e = field_room decls at left more few room e
room_kept decls access Raised (Field at) left more named few room e = only (has_kind decls at Int) (Value Int 16 ∷ []) more left (omega (arith, few), room) e
room_kept decls access Named (Pool pool) left more named few room e = only _ [] more left room e
room_kept decls access Given (Pool pool) left more named few room e = given_room decls pool left more named few room e
room_kept decls access _ _ left more named few room e = absurd (none-some more e)

-- ---- the stack

pub popped : (before after : List Place) (place : Place) → before ≡ after ++ option_to_list (Some place) → reverse before ≡ place ∷ reverse after
popped before after place e = ap reverse e ∙ reverse-append after (place ∷ [])

pub emptied : (places : List Place) → (0 < length places → ⊥) → reverse places ≡ []
emptied [] none = refl
emptied (place ∷ places) none = absurd (none (omega arith))

pub opens_more : (places : Option (List Place)) (before after : List Place) (result : Bool) → Opens places before after result → result ≡ true → (more : List Place) × (places ≡ Some more) × (after ≡ more ++ before)
opens_more None before after result h e = absurd (both_ways result h e)
opens_more (Some more) before after result h e = (more, refl, h.1)

pub opens_none : (places : Option (List Place)) (before after : List Place) (result : Bool) → Opens places before after result → result ≡ false → places ≡ None
opens_none None before after result h e = refl
opens_none (Some more) before after result h e = absurd (both_ways result e h.0)
