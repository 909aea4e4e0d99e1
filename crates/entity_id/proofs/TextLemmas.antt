-- Which identifiers a text spells.
use Rattle.std.proofs.Common.{◌≡◌, ◌≢◌, ℕ, ◌<◌, ◌^◌, true, false, List, [], ◌∷◌, ◌++◌, codes, ap, subst, arith, cond, ◌⊎◌, inl, inr}
use Rattle.std.specs.Fmt.{decimal}
use Rattle.std.specs.Str.Parse.{AllDigits}
use Rattle.std.proofs.lemmas.Fmt.{decimal_is_IsNumeral}
use Rattle.std.proofs.lemmas.Str.Parse.{digit_from_value}
use Rattle.entity_id.specs.declared.entity.Profile.{Profile}
use Rattle.entity_id.specs.declared.entity.Entity.{Entity}
use Rattle.entity_id.specs.Identifiers.{HasLimits, IsOfProfile, null, is_same}
use Rattle.entity_id.specs.Cuts.{Lacks}
use Rattle.entity_id.specs.Texts.{entity_text}
use Rattle.entity_id.proofs.CutLemmas.{no_cut, lacks_append}
use Rattle.entity_id.proofs.FrontLemmas.{same_entity}

free_digits : (byte : ℕ) (digits : List ℕ) → AllDigits 10 digits → (byte < 48) ⊎ (57 < byte) → Lacks byte digits
free_digits byte [] h outside = tt
free_digits byte (c ∷ cs) h outside =
    let d = digit_from_value c h.0 in
    (λ e. elim outside [ inl low ↦ omega (arith, d) | inr high ↦ omega (arith, d) ], free_digits byte cs h.1 outside)

-- a number in decimal has no byte but digits
pub decimal_lacks : (byte n : ℕ) → n < 2 ^ 64 → (byte < 48) ⊎ (57 < byte) → Lacks byte (decimal n)
decimal_lacks byte n small outside = free_digits byte (decimal n) (decimal_is_IsNumeral n small).0.1 outside

free_null : (byte : ℕ) → byte < 48 → Lacks byte (codes "null")
free_null byte low = (omega arith, (omega arith, (omega arith, (omega arith, tt))))

-- an identifier's text has no space, comma, or other byte below the digits
pub entity_text_lacks : (profile : Profile) (entity : Entity) (byte : ℕ) → HasLimits profile → IsOfProfile profile entity → byte < 48 → Lacks byte (entity_text profile entity)
entity_text_lacks profile entity byte limits within low =
    elim (is_same entity (null profile)) as (λ b. Lacks byte (cond b (codes "null") (decimal entity.index ++ (58 ∷ decimal entity.version)))) [
      | true ↦ free_null byte low
      | false ↦
          lacks_append byte (decimal entity.index) (58 ∷ decimal entity.version)
          (decimal_lacks byte entity.index (omega arith) (inl low))
          (omega arith, decimal_lacks byte entity.version (omega arith) (inl low))
    ]

-- one text is of one identifier
pub entity_text_injective : (profile : Profile) (a b : Entity) → HasLimits profile → IsOfProfile profile a → IsOfProfile profile b → entity_text profile a ≡ entity_text profile b → a ≡ b
entity_text_injective profile a b limits of_a of_b e = (same_entity profile a b [] [] limits of_a of_b tt tt (ap (λ t. t ++ []) e)).0

-- a text without a colon is of no identifier, except for `null`
pub needs_colon : (profile : Profile) (text : List ℕ) (entity : Entity) → text ≢ codes "null" → Lacks 58 text → text ≢ entity_text profile entity
needs_colon profile text entity not_null free =
    elim (is_same entity (null profile)) as (λ b. text ≢ cond b (codes "null") (decimal entity.index ++ (58 ∷ decimal entity.version))) [
      | true ↦ not_null
      | false ↦ λ e. no_cut 58 (decimal entity.index) (decimal entity.version) (subst (Lacks 58) e free)
    ]
