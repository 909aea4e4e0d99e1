-- Numbers and identifiers at the front of a text.
use Rattle.std.proofs.Common.{◌≡◌, ◌≢◌, ℕ, ◌+◌, ◌^◌, ◌<◌, ◌≤◌, ◌⊎◌, inl, inr, true, false, cond, codes, append_assoc, List, [], ◌∷◌, ◌++◌, length, get_or, take, drop, refl, sym, ap, ap₂, subst, ◌∙◌, arith}
use Rattle.std.specs.Fmt.{decimal}
use Rattle.std.specs.Str.Parse.{AllDigits, digits_value}
use Rattle.std.proofs.lemmas.List.{append-nil, append_cancel_left, get_or_append_left, length-take-le, take_at, take-append-drop, drop_more, drop_all}
use Rattle.std.proofs.lemmas.Bool.{cases_lt, and_from, eq-eqb}
use Rattle.std.proofs.lemmas.Str.Parse.{digit_from_value, digit_at, digits_value-take-le}
use Rattle.std.proofs.lemmas.Fmt.{decimal_is_IsNumeral, decimal_injective, decimal_nonempty}
use Rattle.entity_id.specs.declared.entity.Profile.{Profile}
use Rattle.entity_id.specs.declared.entity.Entity.{Entity}
use Rattle.entity_id.specs.Identifiers.{HasLimits, IsOfProfile, null, is_same}
use Rattle.entity_id.specs.Texts.{entity_text, EndsNumber, IsNumberFirst, ArePartsFirst, IsEntityFirst}
use Rattle.entity_id.proofs.DecimalLemmas.{decimal_from_digits}
use Rattle.entity_id.proofs.MapLemmas.{same_true}

-- no number ends in front of a digit
no_digit_behind : (c : ℕ) (x y : List ℕ) → AllDigits 10 (c ∷ x) → EndsNumber (c ∷ y) → ⊥
no_digit_behind c x y digits ended =
    let d = digit_from_value c digits.0 in
    elim ended [ inl low ↦ omega (arith, d) | inr high ↦ omega (arith, d) ]

-- digits that no further digit follows are told apart by the text that they begin
same_digits : (a b x y : List ℕ) → AllDigits 10 a → AllDigits 10 b → EndsNumber x → EndsNumber y → a ++ x ≡ b ++ y → (a ≡ b) × (x ≡ y)
same_digits [] [] x y g h p q e = (refl, e)
same_digits [] (d ∷ ds) x y g h p q e = absurd (no_digit_behind d ds (ds ++ y) h (subst EndsNumber e p))
same_digits (c ∷ cs) [] x y g h p q e = absurd (no_digit_behind c cs (cs ++ x) g (subst EndsNumber (sym e) q))
same_digits (c ∷ cs) (d ∷ ds) x y g h p q e =
    let head : c ≡ d = cc in
    let tail : cs ++ x ≡ ds ++ y = cc in
    let same = same_digits cs ds x y g.1 h.1 p q tail in
    (ap₂ (λ k ks. k ∷ ks) head same.0, same.1)

-- one text begins with one number
pub same_number : (m n : ℕ) (x y : List ℕ) → m < 2 ^ 64 → n < 2 ^ 64 → EndsNumber x → EndsNumber y → decimal m ++ x ≡ decimal n ++ y → (m ≡ n) × (x ≡ y)
same_number m n x y small_m small_n p q e =
    let same = same_digits (decimal m) (decimal n) x y (decimal_is_IsNumeral m small_m).0.1 (decimal_is_IsNumeral n small_n).0.1 p q e in
    (decimal_injective m n small_m small_n same.0, same.1)

-- digits that begin the text of a number begin the number
digits_first : (a b x y : List ℕ) → AllDigits 10 a → EndsNumber y → a ++ x ≡ b ++ y → (c : List ℕ) × (b ≡ a ++ c)
digits_first [] b x y digits ended e = (b, refl)
digits_first (d ∷ ds) [] x y digits ended e = absurd (no_digit_behind d ds (ds ++ x) digits (subst EndsNumber (sym e) ended))
digits_first (d ∷ ds) (k ∷ ks) x y digits ended e =
    let head : k ≡ d = cc in
    let tail : ds ++ x ≡ ks ++ y = cc in
    let more = digits_first ds ks x y digits.1 ended tail in
    (more.0, ap₂ (λ l ls. l ∷ ls) head more.1)

-- digits that begin the text of a number are worth at most the number
pub front_within : (limit n i : ℕ) (text rest : List ℕ) → limit < 2 ^ 64 → IsNumberFirst limit text n rest → AllDigits 10 (take i text) → digits_value 10 (take i text) ≤ limit
front_within limit n i text rest small first digits =
    let front = take i text in
    let b = decimal n in
    let more = digits_first front b (drop i text) rest digits first.ended (take-append-drop i text ∙ first.whole) in
    let value : digits_value 10 (take (length front) b) ≤ digits_value 10 b = digits_value-take-le 10 b (length front) (omega arith) in
    let same : take (length front) b ≡ front = ap (take (length front)) more.1 ∙ take_at front more.0 (length front) refl in
    omega (arith, value, ap (digits_value 10) same, (decimal_is_IsNumeral n (omega (arith, first.within))).1, first.within)

-- the digits in front of a byte that is none are the number
pub front_is : (limit n i : ℕ) (text rest : List ℕ) → limit < 2 ^ 64 → IsNumberFirst limit text n rest → AllDigits 10 (take i text) → EndsNumber (drop i text) → take i text ≡ decimal n
front_is limit n i text rest small first digits ended =
    (same_digits (take i text) (decimal n) (drop i text) rest digits (decimal_is_IsNumeral n (omega (arith, first.within))).0.1 ended first.ended (take-append-drop i text ∙ first.whole)).0

no_digit_ends : (c : ℕ) (cs : List ℕ) → ((48 ≤ c) × (c ≤ 57) → ⊥) → EndsNumber (c ∷ cs)
no_digit_ends c cs none = elim (cases_lt c 48) [ inl low ↦ inl low | inr high ↦ elim (cases_lt 57 c) [ inl over ↦ inr over | inr within ↦ absurd (none (high, within)) ] ]

-- behind the last digit no digit stands
pub ended_at : (text : List ℕ) (i : ℕ) → ((i < length text) × (48 ≤ get_or text i 0) × (get_or text i 0 ≤ 57) → ⊥) → EndsNumber (drop i text)
ended_at text i none =
    elim (cases_lt i (length text)) [
      | inl within ↦ subst EndsNumber (sym (drop_more text i 0 within)) (no_digit_ends (get_or text i 0) (drop (i + 1) text) (λ h. none (within, h.0, h.1)))
      | inr past ↦ subst EndsNumber (sym (drop_all i text past)) tt
    ]

-- digits with no leading zero in front of a byte that is none are the number
pub number_first : (limit n i : ℕ) (text rest : List ℕ) → limit < 2 ^ 64 → n ≤ limit → (i ≡ 0 → ⊥) → i ≤ length text → AllDigits 10 (take i text) → n ≡ digits_value 10 (take i text) → ((1 < length (take i text)) × (get_or (take i text) 0 0 ≡ 48) → ⊥) → EndsNumber (drop i text) → rest ≡ drop i text → IsNumberFirst limit text n rest
number_first limit n i text rest small within some inside digits value unpadded ended behind =
    let size : length (take i text) ≡ i = length-take-le i text inside in
    let single : get_or (take i text) 0 0 ≡ 48 → length (take i text) ≡ 1 = λ zero_first. elim (cases_lt 1 i) [ inl long ↦ absurd (unpadded (omega (arith, size), zero_first)) | inr short ↦ omega (arith, size) ] in
    let is : take i text ≡ decimal n = decimal_from_digits (take i text) digits (omega (arith, size)) single (omega (arith, value)) ∙ ap decimal (sym value) in
    record {
      within = within;
      whole = sym (take-append-drop i text) ∙ ap₂ (λ a b. a ++ b) is (sym behind);
      ended = subst EndsNumber (sym behind) ended;
    }

-- a text that is a number begins with it, and nothing stands behind
pub number_alone : (limit n : ℕ) (text : List ℕ) → n ≤ limit → text ≡ decimal n → IsNumberFirst limit text n []
number_alone limit n text within e = record { within = within; whole = e ∙ sym (append-nil (decimal n)); ended = tt }

-- what begins with a number begins with a digit
pub digit_first : (n c : ℕ) (cs rest : List ℕ) → n < 2 ^ 64 → c ∷ cs ≡ decimal n ++ rest → (48 ≤ c) × (c ≤ 57)
digit_first n c cs rest small e =
    let some = decimal_nonempty n small in
    let digit = digit_at (decimal n) 0 (decimal_is_IsNumeral n small).0.1 some in
    let same : get_or (decimal n ++ rest) 0 0 ≡ get_or (decimal n) 0 0 = get_or_append_left (decimal n) rest 0 0 some in
    let here : c ≡ get_or (decimal n ++ rest) 0 0 = ap (λ (t : List ℕ). get_or t 0 0) e in
    (omega (arith, digit), omega (arith, digit))

-- the number in front of a colon is the index, and behind the colon stand the version and the rest
pub index_first : (profile : Profile) (limit n : ℕ) (text behind rest : List ℕ) (entity : Entity) → HasLimits profile → limit < 2 ^ 64 → IsNumberFirst limit text n behind → ArePartsFirst profile text entity rest → (n ≡ entity.index) × (behind ≡ 58 ∷ (decimal entity.version ++ rest))
index_first profile limit n text behind rest entity limits small first parts =
    same_number n entity.index behind (58 ∷ (decimal entity.version ++ rest)) (omega (arith, first.within)) (omega (arith, limits.index, parts.of_profile.index)) first.ended (inr (omega arith)) (sym first.whole ∙ parts.whole)

-- the version behind the colon
pub version_first : (profile : Profile) (limit n : ℕ) (text behind version rest : List ℕ) (entity : Entity) → HasLimits profile → limit < 2 ^ 64 → IsNumberFirst limit text n behind → behind ≡ 58 ∷ version → ArePartsFirst profile text entity rest → IsNumberFirst profile.version_limit version entity.version rest
version_first profile limit n text behind version rest entity limits small first colon parts = record {
  within = parts.of_profile.version;
  whole = ap (drop 1) (sym colon ∙ (index_first profile limit n text behind rest entity limits small first parts).1);
  ended = parts.ended;
}

-- one text begins with the two parts of one identifier
pub same_parts : (profile : Profile) (text : List ℕ) (a b : Entity) (x y : List ℕ) → HasLimits profile → ArePartsFirst profile text a x → ArePartsFirst profile text b y → (a ≡ b) × (x ≡ y)
same_parts profile text a b x y limits p q =
    let a_index : a.index ≤ 2 ^ 32 = omega (arith, limits.index, p.of_profile.index) in
    let ends : EndsNumber (58 ∷ (decimal a.version ++ x)) = inr (omega arith) in
    let index = index_first profile (2 ^ 32) a.index text (58 ∷ (decimal a.version ++ x)) y b limits (omega arith) (record { within = a_index; whole = p.whole; ended = ends }) q in
    let version = same_number a.version b.version x y (omega (arith, limits.version, p.of_profile.version)) (omega (arith, limits.version, q.of_profile.version)) p.ended q.ended (ap (drop 1) index.1) in
    (λ i. record { index = index.0 i; version = version.0 i }, version.1)

-- the word `null` begins no number
pub null_is_no_parts : (profile : Profile) (text : List ℕ) (entity : Entity) (x y : List ℕ) → HasLimits profile → ArePartsFirst profile text entity x → text ≢ codes "null" ++ y
null_is_no_parts profile text entity x y limits p e =
    let digit = digit_first entity.index 110 (117 ∷ 108 ∷ 108 ∷ y) (58 ∷ (decimal entity.version ++ x)) (omega (arith, limits.index, p.of_profile.index)) (sym e ∙ p.whole) in
    omega (arith, digit.1)

-- a text that begins with an identifier begins with the word `null`, or with the two parts of another
pub null_or_parts : (profile : Profile) (text : List ℕ) (entity : Entity) (rest : List ℕ) → IsEntityFirst profile text entity rest → ((entity ≡ null profile) × (text ≡ codes "null" ++ rest)) ⊎ ((is_same entity (null profile) ≡ false) × ArePartsFirst profile text entity rest)
null_or_parts profile text entity rest first =
    elim (is_same entity (null profile)) as (λ b. is_same entity (null profile) ≡ b → text ≡ cond b (codes "null") (decimal entity.index ++ (58 ∷ decimal entity.version)) ++ rest → ((entity ≡ null profile) × (text ≡ codes "null" ++ rest)) ⊎ ((b ≡ false) × ArePartsFirst profile text entity rest)) [
      | true ↦ λ same e. inl (same_true entity (null profile) same, e)
      | false ↦ λ other e. inr (refl, record { of_profile = first.of_profile; whole = e ∙ append_assoc (decimal entity.index) (58 ∷ decimal entity.version) rest; ended = first.ended })
    ] refl first.whole

same_first : (profile : Profile) (text : List ℕ) (a b : Entity) (x y : List ℕ) → HasLimits profile → IsEntityFirst profile text a x → IsEntityFirst profile text b y → (a ≡ b) × (x ≡ y)
same_first profile text a b x y limits p q =
    elim (null_or_parts profile text a x p) [
      | inl null_a ↦ elim (null_or_parts profile text b y q) [
        | inl null_b ↦ (null_a.0 ∙ sym null_b.0, append_cancel_left (codes "null") x y (sym null_a.1 ∙ null_b.1))
        | inr parts_b ↦ absurd (null_is_no_parts profile text b y x limits parts_b.1 null_a.1)
      ]
      | inr parts_a ↦ elim (null_or_parts profile text b y q) [
        | inl null_b ↦ absurd (null_is_no_parts profile text a x y limits parts_a.1 null_b.1)
        | inr parts_b ↦ same_parts profile text a b x y limits parts_a.1 parts_b.1
      ]
    ]

-- one text begins with one identifier
pub same_entity : (profile : Profile) (a b : Entity) (x y : List ℕ) → HasLimits profile → IsOfProfile profile a → IsOfProfile profile b → EndsNumber x → EndsNumber y → entity_text profile a ++ x ≡ entity_text profile b ++ y → (a ≡ b) × (x ≡ y)
same_entity profile a b x y limits of_a of_b p q e =
    same_first profile (entity_text profile a ++ x) a b x y limits (record { of_profile = of_a; whole = refl; ended = p }) (record { of_profile = of_b; whole = e; ended = q })

-- a text that is an identifier's begins with it, and nothing stands behind
pub entity_alone : (profile : Profile) (entity : Entity) (text : List ℕ) → IsOfProfile profile entity → text ≡ entity_text profile entity → IsEntityFirst profile text entity []
entity_alone profile entity text within e = record { of_profile = within; whole = e ∙ sym (append-nil (entity_text profile entity)); ended = tt }

-- a text that begins with both limits as numbers begins with no identifier, except where it begins with `null`
pub limits_are_null : (profile : Profile) (text : List ℕ) (a b : Entity) (x y : List ℕ) → HasLimits profile → ArePartsFirst profile text a x → a.index ≡ profile.index_limit → a.version ≡ profile.version_limit → (text ≡ codes "null" ++ y → ⊥) → IsEntityFirst profile text b y → ⊥
limits_are_null profile text a b x y limits parts index version not_null first =
    elim (null_or_parts profile text b y first) [
      | inl null_b ↦ not_null null_b.1
      | inr parts_b ↦
          let same : a ≡ b = (same_parts profile text a b x y limits parts parts_b.1).0 in
          let null_a : is_same a (null profile) ≡ true = and_from _ _ (eq-eqb _ _ index) (eq-eqb _ _ version) in
          let null_b : is_same b (null profile) ≡ true = ap (λ e. is_same e (null profile)) (sym same) ∙ null_a in
          let other = parts_b.0 in
          cc
    ]
