-- Words of a line, and kinds, are read in one way.
use Rattle.std.proofs.Common.{◌≡◌, ℕ, ◌-◌, true, false, List, [], ◌∷◌, ◌++◌, drop, get_or, set, replicate, codes, length, length-take, refl, sym, ap, ap₂, subst, ◌∙◌, arith, append_assoc, ◌<◌, length-append, ◌≢◌, ◌≤◌, ◌+◌, take}
use Rattle.std.specs.Prelude.{◌==◌, not}
use Rattle.std.specs.List.{flat_map, list_all}
use Rattle.std.proofs.lemmas.List.{take-append-drop, nil_from_length, append-nil, take_more_set, drop-set-lt, drop-drop, drop-replicate}
use Rattle.std.proofs.lemmas.Grind.{flat_map-append}
use Rattle.std.proofs.lemmas.Bool.{and_parts}
use Rattle.entity_id.specs.Cuts.{Lacks}
use Rattle.entity_id.proofs.CutLemmas.{lacks_append, lacks_by_test}
use Rattle.world_model.specs.Names.{is_name, is_name_byte}
use Rattle.world_model.specs.Components.{kinds_of}
use Rattle.world_model.specs.declared.component.Decl.{Decl}
use Rattle.world_model.specs.declared.component.Kind.{Kind}
use Rattle.world_model.specs.declared.component.Kind.TheVariants.{Int, Ref}
use Rattle.row_lang.specs.Naming.{IsNamedDecl}
use Rattle.world_text.specs.Lines.{kind_text}
use Rattle.world_text.specs.Reading.{BeginsWithSpace}

-- behind a literal word without a byte stands a text without it
pub lacks_behind : (byte : ℕ) (word rest : List ℕ) → list_all (λ b. not (b == byte)) word ≡ true → Lacks byte rest → Lacks byte (word ++ rest)
lacks_behind byte word rest test free = lacks_append byte word rest (lacks_by_test byte word test) free

-- ---- a text has one cut before its first space

pub same_split : (a b x y : List ℕ) → Lacks 32 a → Lacks 32 b → BeginsWithSpace x → BeginsWithSpace y → a ++ x ≡ b ++ y → (a ≡ b) × (x ≡ y)
same_split [] [] x y pa pb px py e = (refl, e)
same_split [] (b ∷ bs) [] y pa pb px py e = absurd cc
same_split [] (b ∷ bs) (c ∷ x) y pa pb px py e = absurd (pb.0 cc)
same_split (a ∷ heads) [] x [] pa pb px py e = absurd cc
same_split (a ∷ heads) [] x (c ∷ y) pa pb px py e = absurd (pa.0 cc)
same_split (a ∷ heads) (b ∷ bs) x y pa pb px py e =
    let h = same_split heads bs x y pa.1 pb.1 px py cc in
    let head : a ≡ b = cc in
    (ap₂ (λ k ks. k ∷ ks) head h.0, h.1)

-- ---- names

name_bytes_free : (byte : ℕ) → is_name_byte byte ≡ false → (bytes : List ℕ) → list_all is_name_byte bytes ≡ true → Lacks byte bytes
name_bytes_free byte other [] e = tt
name_bytes_free byte other (b ∷ bytes) e =
    let h = and_parts (is_name_byte b) (list_all is_name_byte bytes) e in
    (λ is. let here : is_name_byte byte ≡ true = subst (λ n. is_name_byte n ≡ true) is h.0 in absurd cc, name_bytes_free byte other bytes h.1)

-- a name has no byte that isn't a name's
pub name_lacks : (byte : ℕ) → is_name_byte byte ≡ false → (name : List ℕ) → is_name name ≡ true → Lacks byte name
name_lacks byte other name e = name_bytes_free byte other name (and_parts _ _ (and_parts _ _ e).0).1

-- ---- kinds

-- kinds whose text begins with that of others go on after these
pub kinds_behind : (front kinds : List Kind) (rest : List ℕ) → flat_map kind_text front ++ rest ≡ flat_map kind_text kinds → (more : List Kind) × (kinds ≡ front ++ more) × (rest ≡ flat_map kind_text more)
kinds_behind [] kinds rest e = (kinds, refl, e)
kinds_behind (Int ∷ front) [] rest e = absurd (omega (arith, ap length e))
kinds_behind (Ref ∷ front) [] rest e = absurd (omega (arith, ap length e))
kinds_behind (Int ∷ front) (Int ∷ kinds) rest e = let h = kinds_behind front kinds rest (ap (drop 4) e) in (h.0, ap (λ (x : List Kind). Int ∷ x) h.1, h.2)
kinds_behind (Ref ∷ front) (Ref ∷ kinds) rest e = let h = kinds_behind front kinds rest (ap (drop 7) e) in (h.0, ap (λ (x : List Kind). Ref ∷ x) h.1, h.2)
kinds_behind (Int ∷ front) (Ref ∷ kinds) rest e = absurd (omega (arith, ap (λ (t : List ℕ). get_or t 1 0) e))
kinds_behind (Ref ∷ front) (Int ∷ kinds) rest e = absurd (omega (arith, ap (λ (t : List ℕ). get_or t 1 0) e))

-- where no kind begins what is left, no kinds are spelled
pub no_kind_behind : (front kinds : List Kind) (text rest : List ℕ) → text ≡ flat_map kind_text front ++ rest → 0 < length rest → ((k : Kind) (more : List ℕ) → rest ≢ kind_text k ++ more) → text ≢ flat_map kind_text kinds
no_kind_behind front kinds text rest cut some none e =
    let h = kinds_behind front kinds rest (sym cut ∙ e) in
    elim h.0 as (λ (more : List Kind). rest ≡ flat_map kind_text more → ⊥) [ [] ↦ λ nothing. omega (arith, ap length nothing) | k ∷ more ↦ λ one. none k (flat_map kind_text more) one ] h.2

-- nothing stands behind four kinds
pub no_fifth_kind : (front kinds : List Kind) (text rest : List ℕ) → text ≡ flat_map kind_text front ++ rest → 0 < length rest → length front ≡ 4 → length kinds ≤ 4 → text ≢ flat_map kind_text kinds
no_fifth_kind front kinds text rest cut some four few e =
    let h = kinds_behind front kinds rest (sym cut ∙ e) in
    let none : length h.0 ≡ 0 = omega (arith, ap length h.1, length-append front h.0) in
    omega (arith, ap length (h.2 ∙ ap (flat_map kind_text) (nil_from_length h.0 none)))

-- what stands behind the kinds stays
pub fill_more : (kinds : List Kind) (n : ℕ) (k : Kind) → n < 4 → drop n kinds ≡ replicate (4 - n) Int → drop (n + 1) (set kinds n k) ≡ replicate (4 - (n + 1)) Int
fill_more kinds n k few e =
    drop-set-lt (n + 1) kinds n k (omega arith) ∙ sym (drop-drop 1 n kinds) ∙ ap (drop 1) e ∙ drop-replicate 1 (4 - n) Int ∙ ap (λ m. replicate m Int) (omega arith)

-- one kind more was read
pub kinds_push : (kinds : List Kind) (n : ℕ) (k : Kind) (text rest after : List ℕ) → n < length kinds → text ≡ flat_map kind_text (take n kinds) ++ rest → rest ≡ kind_text k ++ after → text ≡ flat_map kind_text (take (n + 1) (set kinds n k)) ++ after
kinds_push kinds n k text rest after within whole next =
    whole ∙ ap (λ (x : List ℕ). flat_map kind_text (take n kinds) ++ x) next ∙ sym (append_assoc (flat_map kind_text (take n kinds)) (kind_text k) after)
    ∙ ap (λ (x : List ℕ). x ++ after) (sym (ap (flat_map kind_text) (take_more_set kinds n k within) ∙ flat_map-append kind_text (take n kinds) (k ∷ []) ∙ ap (λ (x : List ℕ). flat_map kind_text (take n kinds) ++ x) (append-nil (kind_text k))))

pub kinds_spaced : (kinds : List Kind) → BeginsWithSpace (flat_map kind_text kinds)
kinds_spaced [] = tt
kinds_spaced (Int ∷ kinds) = refl
kinds_spaced (Ref ∷ kinds) = refl

pub kinds_free : (kinds : List Kind) → Lacks 10 (flat_map kind_text kinds)
kinds_free [] = tt
kinds_free (Int ∷ kinds) = lacks_behind 10 (codes " int") _ refl (kinds_free kinds)
kinds_free (Ref ∷ kinds) = lacks_behind 10 (codes " entity") _ refl (kinds_free kinds)

no_kinds : (more : List Kind) → [] ≡ flat_map kind_text more → more ≡ []
no_kinds [] e = refl
no_kinds (Int ∷ more) e = absurd (omega (arith, ap length e))
no_kinds (Ref ∷ more) e = absurd (omega (arith, ap length e))

same_kinds : (a b : List Kind) → flat_map kind_text a ≡ flat_map kind_text b → a ≡ b
same_kinds a b e =
    let h = kinds_behind a b [] (append-nil (flat_map kind_text a) ∙ e) in
    sym (h.1 ∙ ap (λ (x : List Kind). a ++ x) (no_kinds h.0 h.2) ∙ append-nil a)

-- ---- components

-- one text spells one component
pub same_decl : (a b : Decl) → IsNamedDecl a → IsNamedDecl b → a.name ++ flat_map kind_text (kinds_of a) ≡ b.name ++ flat_map kind_text (kinds_of b) → a ≡ b
same_decl a b p q e =
    let h = same_split a.name b.name _ _ (name_lacks 32 refl a.name p.name) (name_lacks 32 refl b.name q.name) (kinds_spaced (kinds_of a)) (kinds_spaced (kinds_of b)) e in
    let same = same_kinds (kinds_of a) (kinds_of b) h.1 in
    let count : a.count ≡ b.count = omega (arith, length-take a.count a.kinds, length-take b.count b.kinds, ap length same, p.fields.long, q.fields.long, p.fields.few, q.fields.few) in
    let padding : drop a.count a.kinds ≡ drop b.count b.kinds = p.fields.padded ∙ ap (λ n. replicate (4 - n) Int) count ∙ sym q.fields.padded in
    let kinds : a.kinds ≡ b.kinds = sym (take-append-drop a.count a.kinds) ∙ ap₂ (λ x y. x ++ y) same padding ∙ take-append-drop b.count b.kinds in
    λ i. record { name = h.0 i; count = count i; kinds = kinds i }
