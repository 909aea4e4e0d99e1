use Rattle.std.proofs.Common.{List, subst}
use Rattle.world_model.specs.declared.component.Decl.{Decl}
use Rattle.world_top.proofs.ScriptedLemmas.{WasPlayed, left_is_lawful, printed_whole}
use Rattle.world_top.proofs.apply.scripted.Goals as goal

pub finish-requires : goal.finish-requires
finish-requires g c =
    let script = c.args.script.now in
    let held = c.in_ok-registry.registry in
    let world = c.play.new.registry.world in
    let before = c.new-out.result.items in
    let out = c.play.new.out.items in
    let played = subst (λ (decls : List Decl). WasPlayed decls script held world before out) c.as_slice.ensures c.in_ok-play.ensures.ok in
    left_is_lawful c.args.document script held world before out c.requires c.in_ok-registry.ensures.world played

pub returns-clause-ok : goal.returns-clause-ok
returns-clause-ok g c =
    let script = c.args.script.now in
    let held = c.in_ok-registry.registry in
    let world = c.play.new.registry.world in
    let before = c.new-out.result.items in
    let out = c.play.new.out.items in
    let played = subst (λ (decls : List Decl). WasPlayed decls script held world before out) c.as_slice.ensures c.in_ok-play.ensures.ok in
    printed_whole c.args.document script held world before out c.in_ok-whole.whole.items c.in_ok-registry.ensures.world c.new-out.ensures.items played c.in_ok-whole.ensures
