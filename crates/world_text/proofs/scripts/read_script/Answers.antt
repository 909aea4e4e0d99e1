use Rattle.std.proofs.Common.{◌≡◌, ◌-◌, ℕ, List, take, drop, length, length-drop, refl, subst, inr, arith}
use Rattle.std.proofs.lemmas.List.{take_all}
use Rattle.world_model.specs.declared.component.Decl.{Decl}
use Rattle.world_text.specs.Formats.{version_1}
use Rattle.world_text.specs.Scripts.{IsScript, IsBadScriptLine}
use Rattle.world_text.proofs.scripts.read_script.Goals as goal

pub returns-in-Ok-clause-scripted : goal.returns-in-Ok-clause-scripted
returns-in-Ok-clause-scripted c =
    let rest = drop c.in_ok-front.front.taken c.args.bytes.now in
    let whole : take (length c.args.bytes.now - c.in_ok-front.front.taken) rest ≡ rest = take_all (length c.args.bytes.now - c.in_ok-front.front.taken) rest (omega (arith, length-drop c.in_ok-front.front.taken c.args.bytes.now)) in
    record {
      count = c.in_ok-front.front.lines;
      rest = rest;
      front = c.in_ok-front.ensures.front;
      behind = subst (λ (t : List ℕ). IsScript version_1.profile c.in_ok-front.front.document.world.decls t c.in-Ok.script) whole (subst (λ (decls : List Decl). IsScript version_1.profile decls (take (length c.args.bytes.now - c.in_ok-front.front.taken) rest) c.in-Ok.script) c.as_slice.ensures c.in-Ok.ensures.script);
    }

pub returns-in-Err-BadLine-clause-cause : goal.returns-in-Err-BadLine-clause-cause
returns-in-Err-BadLine-clause-cause c =
    let rest = drop c.in_ok-front.front.taken c.args.bytes.now in
    let whole : take (length c.args.bytes.now - c.in_ok-front.front.taken) rest ≡ rest = take_all (length c.args.bytes.now - c.in_ok-front.front.taken) rest (omega (arith, length-drop c.in_ok-front.front.taken c.args.bytes.now)) in
    inr (record {
      document = c.in_ok-front.front.document;
      count = c.in_ok-front.front.lines;
      rest = rest;
      front = c.in_ok-front.ensures.front;
      number_there = c.in-Err-BadLine.line;
      bad = subst (λ (t : List ℕ). IsBadScriptLine version_1.profile c.in_ok-front.front.document.world.decls t c.in-Err-BadLine.line) whole (subst (λ (decls : List Decl). IsBadScriptLine version_1.profile decls (take (length c.args.bytes.now - c.in_ok-front.front.taken) rest) c.in-Err-BadLine.line) c.as_slice.ensures (rw c.in-Err-BadLine.field-0-is at c.in-Err-BadLine.ensures.cause));
      counted = refl;
    })
