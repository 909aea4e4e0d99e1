-- The text of a group line: it has no line end in it, and spells one group.
use Rattle.std.proofs.Common.{◌≡◌, ◌≢◌, ℕ, true, false, List, [], ◌∷◌, ◌++◌, drop, get_or, length, codes, refl, sym, ap, ap₂, ◌∙◌, arith, append_assoc}
use Rattle.std.specs.List.{AllByRecursion}
use Rattle.std.proofs.lemmas.Bool.{both_ways}
use Rattle.std.proofs.lemmas.List.{append-nil}
use Rattle.entity_id.specs.Cuts.{Lacks}
use Rattle.entity_id.proofs.CutLemmas.{lacks_append, lacks_by_test}
use Rattle.world_model.specs.Names.{is_name}
use Rattle.world_text.specs.LineKinds.{NamedGroup}
use Rattle.row_lang.specs.NameLists.{spaced_names, names_behind}
use Rattle.world_text.specs.Lines.{IsNamedGroup, lists_text}
use Rattle.world_text.specs.Reading.{BeginsWithSpace}
use Rattle.world_text.proofs.WordLemmas.{lacks_behind, same_split, name_lacks}

-- names of the form of names
abbrev pub AreNames : List (List ℕ) → Type 0
AreNames names = AllByRecursion (λ name. is_name name ≡ true) names

-- ---- no line end (10)

names_lack : (names : List (List ℕ)) → AreNames names → Lacks 10 (spaced_names names)
names_lack [] are = tt
names_lack (name ∷ names) are =
    lacks_behind 10 (32 ∷ []) (name ++ spaced_names names) refl (lacks_append 10 name _ (name_lacks 10 refl name are.0) (names_lack names are.1))

get_lacks : (names : List (List ℕ)) (rest : List ℕ) → AreNames names → Lacks 10 rest → Lacks 10 (names_behind (codes " get") names ++ rest)
get_lacks [] rest are free = free
get_lacks (name ∷ names) rest are free =
    lacks_append 10 (codes " get" ++ spaced_names (name ∷ names)) rest (lacks_behind 10 (codes " get") (spaced_names (name ∷ names)) refl (names_lack (name ∷ names) are)) free

not_lacks : (names : List (List ℕ)) → AreNames names → Lacks 10 (names_behind (codes " not") names)
not_lacks [] are = tt
not_lacks (name ∷ names) are = lacks_behind 10 (codes " not") (spaced_names (name ∷ names)) refl (names_lack (name ∷ names) are)

pub group_lacks : (named : NamedGroup) → IsNamedGroup named → Lacks 10 (lists_text named)
group_lacks named is =
    lacks_behind 10 (codes " own") _ refl (lacks_append 10 (spaced_names named.own) _ (names_lack named.own is.own) (get_lacks named.get _ is.get (not_lacks named.without is.without)))

-- ---- one text, one group

-- nothing, or a space and what is no name
record NoName (text : List ℕ) : Type 0 where
  spaced : BeginsWithSpace text
  none : (name more : List ℕ) → is_name name ≡ true → BeginsWithSpace more → text ≢ 32 ∷ (name ++ more)

no_name_nothing : NoName []
no_name_nothing = record { spaced = tt; none = λ name more is spaced e. omega (arith, ap length e) }

names_spaced : (names : List (List ℕ)) (rest : List ℕ) → BeginsWithSpace rest → BeginsWithSpace (spaced_names names ++ rest)
names_spaced [] rest spaced = spaced
names_spaced (name ∷ names) rest spaced = refl

no_name_word : (word rest : List ℕ) → is_name word ≡ false → Lacks 32 word → BeginsWithSpace rest → NoName (32 ∷ (word ++ rest))
no_name_word word rest barred free spaced = record {
  spaced = refl;
  none = λ name more is beyond e.
      let same = same_split word name rest more free (name_lacks 32 refl name is) spaced beyond (ap (drop 1) e) in
      both_ways (is_name word) barred (ap is_name same.0 ∙ is);
}

not_next : (names : List (List ℕ)) → NoName (names_behind (codes " not") names)
not_next [] = no_name_nothing
not_next (name ∷ names) = no_name_word (codes "not") _ refl (lacks_by_test 32 (codes "not") refl) refl

get_next : (get without : List (List ℕ)) → NoName (names_behind (codes " get") get ++ names_behind (codes " not") without)
get_next [] without = not_next without
get_next (name ∷ get) without = no_name_word (codes "get") _ refl (lacks_by_test 32 (codes "get") refl) refl

-- names up to what is no name are one list
same_names : (a b : List (List ℕ)) (x y : List ℕ) → AreNames a → AreNames b → NoName x → NoName y → spaced_names a ++ x ≡ spaced_names b ++ y → (a ≡ b) × (x ≡ y)
same_names [] [] x y p q ex ey e = (refl, e)
same_names [] (n ∷ b) x y p q ex ey e =
    absurd (ex.none n (spaced_names b ++ y) q.0 (names_spaced b y ey.spaced) (e ∙ ap (λ (t : List ℕ). 32 ∷ t) (append_assoc n (spaced_names b) y)))
same_names (m ∷ a) [] x y p q ex ey e =
    absurd (ey.none m (spaced_names a ++ x) p.0 (names_spaced a x ex.spaced) (sym e ∙ ap (λ (t : List ℕ). 32 ∷ t) (append_assoc m (spaced_names a) x)))
same_names (m ∷ a) (n ∷ b) x y p q ex ey e =
    let whole = sym (append_assoc m (spaced_names a) x) ∙ ap (drop 1) e ∙ append_assoc n (spaced_names b) y in
    let cut = same_split m n (spaced_names a ++ x) (spaced_names b ++ y) (name_lacks 32 refl m p.0) (name_lacks 32 refl n q.0) (names_spaced a x ex.spaced) (names_spaced b y ey.spaced) whole in
    let rest = same_names a b x y p.1 q.1 ex ey cut.1 in
    (ap₂ (λ k ks. k ∷ ks) cut.0 rest.0, rest.1)

same_without : (a b : List (List ℕ)) → AreNames a → AreNames b → names_behind (codes " not") a ≡ names_behind (codes " not") b → a ≡ b
same_without [] [] p q e = refl
same_without [] (n ∷ b) p q e = absurd (omega (arith, ap length e))
same_without (m ∷ a) [] p q e = absurd (omega (arith, ap length e))
same_without (m ∷ a) (n ∷ b) p q e =
    (same_names (m ∷ a) (n ∷ b) [] [] p q no_name_nothing no_name_nothing (append-nil (spaced_names (m ∷ a)) ∙ ap (drop 4) e ∙ sym (append-nil (spaced_names (n ∷ b))))).0

-- what stands behind `not` doesn't begin with the word `get`
no_get : (without : List (List ℕ)) (rest : List ℕ) → names_behind (codes " not") without ≢ codes " get" ++ rest
no_get [] rest e = omega (arith, ap length e)
no_get (name ∷ names) rest e = omega (arith, ap (λ (t : List ℕ). get_or t 1 0) e)

same_parts : (a b x y : List (List ℕ)) → AreNames a → AreNames b → AreNames x → AreNames y → names_behind (codes " get") a ++ names_behind (codes " not") x ≡ names_behind (codes " get") b ++ names_behind (codes " not") y → (a ≡ b) × (x ≡ y)
same_parts [] [] x y p q r s e = (refl, same_without x y r s e)
same_parts [] (n ∷ b) x y p q r s e = absurd (no_get x _ (e ∙ append_assoc (codes " get") (spaced_names (n ∷ b)) (names_behind (codes " not") y)))
same_parts (m ∷ a) [] x y p q r s e = absurd (no_get y _ (sym e ∙ append_assoc (codes " get") (spaced_names (m ∷ a)) (names_behind (codes " not") x)))
same_parts (m ∷ a) (n ∷ b) x y p q r s e =
    let h = same_names (m ∷ a) (n ∷ b) (names_behind (codes " not") x) (names_behind (codes " not") y) p q (not_next x) (not_next y) (ap (drop 4) e) in
    (h.0, same_without x y r s h.1)

-- one text spells one group
pub same_group_text : (a b : NamedGroup) → IsNamedGroup a → IsNamedGroup b → lists_text a ≡ lists_text b → a ≡ b
same_group_text a b p q e =
    let own = same_names a.own b.own _ _ p.own q.own (get_next a.get a.without) (get_next b.get b.without) (ap (drop 4) e) in
    let parts = same_parts a.get b.get a.without b.without p.get q.get p.without q.without own.1 in
    λ i. record { own = own.0 i; get = parts.0 i; without = parts.1 i }
