use Rattle.std.proofs.Common.{◌≡◌, ℕ, ◌+◌, ◌*◌, ◌/◌, ◌%◌, ◌<◌, ap₂, arith}
use Rattle.std.proofs.lemmas.Nat.{mod-mul-add, div-mul-add}
use Rattle.entity_id.specs.declared.entity.Entity.{Entity}
use Rattle.entity_id.specs.Bits.{index_span}
use Rattle.entity_id.proofs.laws.bits_and_identifiers.Goals as goal

pub returns-clause-read_back : goal.returns-clause-read_back
returns-clause-read_back c = λ profile entity of_profile.
    let span : ℕ = index_span profile in
    let bits : ℕ = entity.index + entity.version * span in
    let low : entity.index < span = omega (arith, of_profile.index) in
    let turned : bits ≡ entity.version * span + entity.index = omega arith in
    let index : bits % span ≡ entity.index = rw turned (mod-mul-add entity.version span entity.index low) in
    let version : bits / span ≡ entity.version = rw turned (div-mul-add entity.version span entity.index low) in
    ap₂ {C = Entity} (λ i v. record { index = i; version = v }) index version
