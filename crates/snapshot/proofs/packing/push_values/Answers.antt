use Rattle.std.proofs.Common.{rules, ◌≡◌, ◌++◌, List, ℕ, ℤ, map, refl, ap, ◌∙◌, SFits, w64, to_z-of_z}
use Rattle.std.specs.List.{flat_map}
use Rattle.world_model.specs.declared.component.Kind.{Kind}
use Rattle.world_text.specs.Formats.{version_1}
use Rattle.world_text.specs.Documents.{value_in}
use Rattle.world_text.proofs.PrintingLemmas.{left_more, left_none, printed_more, printed_all}
use Rattle.snapshot.specs.Fields.{value_bytes}
use Rattle.snapshot.proofs.packing.push_values.Goals as goal

abbrev part : Kind × ℤ → List ℕ
part pair = value_bytes (value_in version_1.profile pair.0 pair.1)

abbrev all : List (Kind × ℤ) → List ℕ
all pairs = flat_map value_bytes (map (λ pair. value_in version_1.profile pair.0 pair.1) pairs)

pub loop-kind-preserved : goal.loop-kind-preserved
loop-kind-preserved c =
    let kind = c.in-Some.kind.now in
    let fits : SFits w64 c.in-Some.field.now = search rules in
    let pushed : c.push_value.new.out.items ≡ c.loop-kind.out.items ++ part (kind, c.in-Some.field.now) = c.in_ok-push_value.ensures ∙ ap (λ (field : ℤ). c.loop-kind.out.items ++ part (kind, field)) (to_z-of_z fits) in
    printed_more all part (λ z zs. refl) (c.in-Some.kind.now, c.in-Some.field.now) _ _
    (left_more c.loop-kind.kind-iterator c.next.new.self _ _ c.in-Some.is c.next.ensures.steps) _ _ _ pushed c.loop-kind.invariant

pub returns : goal.returns
returns c = printed_all all _ (left_none c.loop-kind.kind-iterator c.next.new.self _ c.in-None.is c.next.ensures.steps) refl _ _ c.loop-kind.invariant
