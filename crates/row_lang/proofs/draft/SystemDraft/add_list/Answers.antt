use Rattle.std.proofs.Common.{◌≡◌, [], true, false, length, Err, eqb, sym, ap, ap₂, subst, ◌∙◌, List, ℕ}
use Rattle.std.proofs.lemmas.Bool.{both_ways, eq-eqb, eqb-true}
use Rattle.std.proofs.lemmas.List.{nil_from_length}
use Rattle.std.proofs.lemmas.Result.{err_from_is_err_and}
use Rattle.row_lang.specs.declared.fault.LineFault.TheVariants.{Bad}
use Rattle.row_lang.specs.Reading.{AreSomeNext}
use Rattle.row_lang.specs.Systems.{Draft, has_room, may_list_behind, with_list}
use Rattle.row_lang.proofs.ListLineLemmas.{refuses_names, refuses_rest, refuses_room, takes_list, listed_with}
use Rattle.row_lang.proofs.draft.SystemDraft.add_list.Goals as goal

pub returns-in_err-pools-clause-bad : goal.returns-in_err-pools-clause-bad
returns-in_err-pools-clause-bad c =
    let p = err_from_is_err_and c.from_residual.result c.from_residual.ensures.1 in
    λ bad.
    let fault : c.in_err-pools.field-0.0 ≡ Bad = cc in
    refuses_names c.args.decls.now c.args.self.now c.args.list c.args.names.now c.requires.named (c.in_err-pools.ensures.bad (ap Err fault))

pub returns-then-not-is_empty-clause-bad : goal.returns-then-not-is_empty-clause-bad
returns-then-not-is_empty-clause-bad c = λ _.
    refuses_rest c.args.decls.now c.args.self.now c.args.list c.args.names.now c.requires.named c.in_ok-pools.pools.items c.in_ok-pools.rest.now c.in_ok-pools.ensures.ok
    (λ (e : c.in_ok-pools.rest.now ≡ []). both_ways (eqb (length c.in_ok-pools.rest.now) 0) (sym c.is_empty.ensures ∙ c.if-not-is_empty.true) (eq-eqb (length c.in_ok-pools.rest.now) 0 (ap length e)))

pub returns-then-not-has_room-clause-bad : goal.returns-then-not-has_room-clause-bad
returns-then-not-has_room-clause-bad c = λ _.
    let here : c.args.self.now.system.access ≡ c.self.inside.def.access = sym (ap (λ (d : Draft). d.system.access) c.self.view_is) in
    let full : has_room c.args.self.now.system.access c.args.list c.in_ok-pools.pools.items ≡ false =
    ap₂ (λ a ps. has_room a c.args.list ps) (here ∙ sym c.access.ensures) (sym c.deref.ensures.value) ∙ sym c.has_room.ensures ∙ c.if-not-has_room.true in
    refuses_room c.args.decls.now c.args.self.now c.args.list c.args.names.now c.requires.named c.in_ok-pools.pools.items c.in_ok-pools.rest.now c.in_ok-pools.ensures.ok full

pub invariant_of-self : goal.invariant_of-self
invariant_of-self c =
    let room : has_room c.self.inside.def.access c.args.list c.in_ok-pools.pools.items ≡ true =
    ap₂ (λ a ps. has_room a c.args.list ps) (sym c.access.ensures) (sym c.deref.ensures.value) ∙ sym c.has_room.ensures ∙ c.if-not-has_room.false in
    rw c.set_list.ensures (listed_with c.self.inside.def.access c.args.list c.in_ok-pools.pools.items c.kept.result c.kept.ensures room, c.self.invariant.1)

pub returns-clause-ok : goal.returns-clause-ok
returns-clause-ok c =
    let here : c.args.self.now.system.access ≡ c.self.inside.def.access = sym (ap (λ (d : Draft). d.system.access) c.self.view_is) in
    let room : has_room c.args.self.now.system.access c.args.list c.in_ok-pools.pools.items ≡ true =
    ap₂ (λ a ps. has_room a c.args.list ps) (here ∙ sym c.access.ensures) (sym c.deref.ensures.value) ∙ sym c.has_room.ensures ∙ c.if-not-has_room.false in
    let behind : may_list_behind c.args.self.now.part c.args.list ≡ true =
    sym (ap (λ (d : Draft). may_list_behind d.part c.args.list) c.self.view_is) ∙ sym c.may_list.ensures ∙ c.if-not-may_list.false in
    let ended : c.in_ok-pools.rest.now ≡ [] = nil_from_length c.in_ok-pools.rest.now (eqb-true (length c.in_ok-pools.rest.now) 0 (sym c.is_empty.ensures ∙ c.if-not-is_empty.false)) in
    takes_list c.args.decls.now c.args.self.now c.args.list c.args.names.now c.requires.named c.in_ok-pools.pools.items c.kept.result c.requires.short behind
    (subst (λ (rest : List ℕ). AreSomeNext c.args.decls.now [] c.args.names.now c.in_ok-pools.pools.items rest) ended c.in_ok-pools.ensures.ok) room c.kept.ensures _ (λ i. record {
      part = c.of_list-self-inside.ensures i;
      system = (c.set_list.ensures ∙ ap (λ (d : Draft). record d.system { access = with_list d.system.access c.args.list c.kept.result }) c.self.view_is) i;
    })
