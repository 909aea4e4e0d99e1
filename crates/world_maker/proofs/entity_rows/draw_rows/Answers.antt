use Rattle.std.proofs.Common.{◌≡◌, ℕ, ◌+◌, ◌%◌, pos, ℤ, to_z, of_z, w64, SFits, ap, ◌∙◌, eqb, rules}
use Rattle.std.proofs.lemmas.Int.{to_z-of_z}
use Rattle.entity_id.specs.Fields.{field_of}
use Rattle.entity_id.specs.Identifiers.{p20_12}
use Rattle.world_maker.specs.Draws.{draws_behind, next_draw}
use Rattle.world_maker.specs.MadeWorlds.{first_owner, one_field, two_fields, speed}
use Rattle.world_maker.proofs.entity_rows.draw_rows.Goals as goal

pub returns-clause-rows : goal.returns-clause-rows
returns-clause-rows c =
    let s = c.args.draws.now.last in
    let e1 : c.below.new.draws.last ≡ draws_behind s 1 = c.below.ensures.last in
    let e2 : c.below-2.new.draws.last ≡ draws_behind s 2 = c.below-2.ensures.last ∙ ap next_draw e1 in
    let e3 : c.speed.new.draws.last ≡ draws_behind s 3 = c.speed.ensures.last ∙ ap next_draw e2 in
    let e4 : c.speed-2.new.draws.last ≡ draws_behind s 4 = c.speed-2.ensures.last ∙ ap next_draw e3 in
    let e5 : c.health.new.draws.last ≡ draws_behind s 5 = c.health.ensures.last ∙ ap next_draw e4 in
    let e6 : c.below-3.new.draws.last ≡ draws_behind s 6 = c.below-3.ensures.last ∙ ap next_draw e5 in
    let e7 : c.target.new.draws.last ≡ draws_behind s 7 = c.target.ensures.last ∙ ap next_draw e6 in
    let e8 : c.below-4.new.draws.last ≡ draws_behind s 8 = c.below-4.ensures.last ∙ ap next_draw e7 in
    let e9 : c.below-5.new.draws.last ≡ draws_behind s 9 = c.below-5.ensures.last ∙ ap next_draw e8 in
    let kept : (z : ℤ) → SFits w64 z → to_z w64 (of_z w64 z) ≡ z = to_z-of_z w64 in
    let x : to_z w64 (of_z w64 c.below.result) ≡ pos (draws_behind s 1 % 1000) = kept c.below.result (search rules) ∙ c.below.ensures.value in
    let y : to_z w64 (of_z w64 c.below-2.result) ≡ pos (draws_behind s 2 % 1000) = kept c.below-2.result (search rules) ∙ c.below-2.ensures.value ∙ ap (λ (n : ℕ). pos (next_draw n % 1000)) e1 in
    let fast : to_z w64 (of_z w64 c.speed.result) ≡ speed (draws_behind s 3) = kept c.speed.result (search rules) ∙ c.speed.ensures.value ∙ ap (λ (n : ℕ). speed (next_draw n)) e2 in
    let faster : to_z w64 (of_z w64 c.speed-2.result) ≡ speed (draws_behind s 4) = kept c.speed-2.result (search rules) ∙ c.speed-2.ensures.value ∙ ap (λ (n : ℕ). speed (next_draw n)) e3 in
    let well : to_z w64 (of_z w64 c.health.result) ≡ pos (draws_behind s 5 % 100 + 1) = kept c.health.result (search rules) ∙ c.health.ensures.value ∙ ap (λ (n : ℕ). pos (next_draw n % 100 + 1)) e4 in
    let side : to_z w64 (of_z w64 c.below-3.result) ≡ pos (draws_behind s 6 % 4) = kept c.below-3.result (search rules) ∙ c.below-3.ensures.value ∙ ap (λ (n : ℕ). pos (next_draw n % 4)) e5 in
    let aim : to_z w64 (of_z w64 c.target.result) ≡ field_of p20_12 (first_owner (draws_behind s 7 % c.args.count)) =
    kept c.target.result (search rules) ∙ c.target.ensures.value ∙ ap (λ (n : ℕ). field_of p20_12 (first_owner (next_draw n % c.args.count))) e6 in
    let hard : to_z w64 (of_z w64 c.below-4.result) ≡ pos (draws_behind s 8 % 5) = kept c.below-4.result (search rules) ∙ c.below-4.ensures.value ∙ ap (λ (n : ℕ). pos (next_draw n % 5)) e7 in
    let since : to_z w64 (of_z w64 c.below-5.result) ≡ pos (draws_behind s 9 % 50) = kept c.below-5.result (search rules) ∙ c.below-5.ensures.value ∙ ap (λ (n : ℕ). pos (next_draw n % 50)) e8 in
    λ i. record {
      position = (c.two_fields.ensures ∙ (λ j. two_fields (x j) (y j))) i;
      velocity = (c.two_fields-2.ensures ∙ (λ j. two_fields (fast j) (faster j))) i;
      health = (c.one_field.ensures ∙ ap one_field well) i;
      team = (c.one_field-2.ensures ∙ ap one_field side) i;
      target = (c.one_field-3.ensures ∙ ap one_field aim) i;
      damage = (c.one_field-4.ensures ∙ ap one_field hard) i;
      timer = (c.one_field-5.ensures ∙ ap one_field since) i;
      is_frozen = ap (λ (n : ℕ). eqb (n % 8) 0) (c.draw.ensures.next ∙ ap next_draw e9) i;
    }
