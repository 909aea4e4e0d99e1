-- Names of components one after another at the front of a text.
use Rattle.std.proofs.Common.{◌≡◌, ◌≢◌, ℕ, ◌+◌, ◌<◌, ◌≤◌, Bool, true, false, cond, ◌||◌, inl, inr, List, [], ◌∷◌, ◌++◌, All, drop, get_or, length, length-append, append_assoc, count_by, refl, sym, ap, ap₂, subst, ◌∙◌, arith, codes}
use Rattle.std.specs.List.{list_any}
use Rattle.std.specs.Prelude.{◌==◌}
use Rattle.std.proofs.lemmas.Bool.{cases_Bool, or_cases, or_parts, false≢true, eqb-true, eq-eqb}
use Rattle.std.proofs.lemmas.List.{append-nil, append_cancel_left}
use Rattle.std.proofs.lemmas.List.Elements.{All-nil, All-cons, All-head, All-tail}
use Rattle.std.proofs.lemmas.List.Sums.{sum_by-append, sum_by-cons}
use Rattle.world_model.specs.declared.component.Decl.{Decl}
use Rattle.world_model.specs.Names.{is_name}
use Rattle.row_lang.specs.NameLists.{AreNamedOnce, IsCalled, name_at, names_text, part_text}
use Rattle.row_lang.specs.Reading.{EndsName, ArePoolsNext, AreNamesNext, AreSomeNext, IsPartNext, IsPoolNext, is_named}
use Rattle.row_lang.proofs.NameLemmas.{IsFree, name_free, one_pool, same_name_split}

-- ---- one after another

pub pools_push : (decls : List Decl) (text : List ℕ) (pools : List ℕ) (rest : List ℕ) (pool : ℕ) (behind : List ℕ) → ArePoolsNext decls text pools rest → IsPoolNext decls rest pool behind → ArePoolsNext decls text (pools ++ pool ∷ []) behind
pools_push decls text [] rest pool behind e p = (behind, subst (λ (t : List ℕ). IsPoolNext decls t pool behind) (sym e) p, refl)
pools_push decls text (q ∷ pools) rest pool behind h p = (h.0, h.1, pools_push decls h.0 pools rest pool behind h.2 p)

-- where further names stand, they follow on those that were read
pub go_on : (decls : List Decl) (text : List ℕ) (pools : List ℕ) (rest : List ℕ) (all : List ℕ) (more : List ℕ) → ArePoolsNext decls text pools rest → ArePoolsNext decls text all more → ((pool : ℕ) (z : List ℕ) → IsPoolNext decls more pool z → ⊥)
    → (left : List ℕ) × (all ≡ pools ++ left) × ArePoolsNext decls rest left more
go_on decls text [] rest all more p q last = (all, refl, subst (λ (t : List ℕ). ArePoolsNext decls t all more) p q)
go_on decls text (a ∷ pools) rest [] more p q last = absurd (last a p.0 (subst (λ (t : List ℕ). IsPoolNext decls t a p.0) q p.1))
go_on decls text (a ∷ pools) rest (b ∷ all) more p q last =
    let same = one_pool decls text p.0 q.0 a b p.1 q.1 in
    let h = go_on decls p.0 pools rest all more p.2 (subst (λ (t : List ℕ). ArePoolsNext decls t all more) (sym same.1) q.2) last in
    (h.0, ap₂ (λ x xs. x ∷ xs) (sym same.0) h.1, h.2)

pub none_left : (decls : List Decl) (rest left more : List ℕ) → ArePoolsNext decls rest left more → ((pool : ℕ) (z : List ℕ) → IsPoolNext decls rest pool z → ⊥) → (left ≡ []) × (rest ≡ more)
none_left decls rest [] more h last = (refl, h)
none_left decls rest (pool ∷ left) more h last = absurd (last pool h.0 h.1)

-- a text begins with one list of names
pub one_names : (decls : List Decl) (others text a x b y : List ℕ) → AreNamesNext decls others text a x → AreNamesNext decls others text b y → (a ≡ b) × (x ≡ y)
one_names decls others text a x b y p q =
    let h = go_on decls text a x b y p.next q.next q.last in
    let none = none_left decls x h.0 y h.2 p.last in
    (sym (h.1 ∙ ap (λ left. a ++ left) none.0 ∙ append-nil a), none.1)

-- ---- how often a component is named

-- how often a component is named
abbrev pub times : ℕ → List ℕ → ℕ
times pool pools = count_by (λ other. other == pool) pools

abbrev pub one_if : Bool → ℕ
one_if b = cond b 1 0

pub times-cons : (pool x : ℕ) (pools : List ℕ) → times pool (x ∷ pools) ≡ one_if (x == pool) + times pool pools
times-cons pool x pools = sum_by-cons (λ other. one_if (other == pool)) x pools

pub times-append : (pool : ℕ) (xs ys : List ℕ) → times pool (xs ++ ys) ≡ times pool xs + times pool ys
times-append pool xs ys = sum_by-append (λ other. one_if (other == pool)) xs ys

pub named_counted : (pool : ℕ) (pools : List ℕ) → list_any (λ other. other == pool) pools ≡ true → 1 ≤ times pool pools
named_counted pool [] h = absurd (false≢true h)
named_counted pool (x ∷ pools) h =
    let whole : times pool (x ∷ pools) ≡ one_if (x == pool) + times pool pools = times-cons pool x pools in
    elim (cases_Bool (x == pool)) [
      | inl here ↦ (let one : one_if (x == pool) ≡ 1 = ap one_if here in omega arith)
      | inr other ↦
          let later : list_any (λ o. o == pool) pools ≡ true = sym (ap (λ b. b || list_any (λ o. o == pool) pools) other) ∙ h in
          let more : 1 ≤ times pool pools = named_counted pool pools later in
          omega arith
    ]

pub unnamed_counted : (pool : ℕ) (pools : List ℕ) → list_any (λ other. other == pool) pools ≡ false → times pool pools ≡ 0
unnamed_counted pool [] h = refl
unnamed_counted pool (x ∷ pools) h =
    let parts = or_parts (x == pool) (list_any (λ other. other == pool) pools) h in
    let none : one_if (x == pool) ≡ 0 = ap one_if parts.0 in
    let later : times pool pools ≡ 0 = unnamed_counted pool pools parts.1 in
    times-cons pool x pools ∙ omega arith

times_three : (pool next : ℕ) (others pools left : List ℕ) → times pool (others ++ (pools ++ next ∷ left)) ≡ times pool others + (times pool pools + (one_if (next == pool) + times pool left))
times_three pool next others pools left =
    times-append pool others (pools ++ next ∷ left)
    ∙ ap (λ n. times pool others + n) (times-append pool pools (next ∷ left) ∙ ap (λ n. times pool pools + n) (times-cons pool next left))

-- a component that was named is named again by no lawful list
is_repeated : (others pools left : List ℕ) (pool : ℕ) → is_named others pools pool ≡ true → AreNamedOnce (others ++ (pools ++ pool ∷ left)) → ⊥
is_repeated others pools left pool named once =
    let total : times pool (others ++ (pools ++ pool ∷ left)) ≡ times pool others + (times pool pools + (one_if (pool == pool) + times pool left)) = times_three pool pool others pools left in
    let here : one_if (pool == pool) ≡ 1 = ap one_if (eq-eqb pool pool refl) in
    let most : times pool (others ++ (pools ++ pool ∷ left)) ≤ 1 = once pool in
    elim (or_cases (list_any (λ other. other == pool) others) (list_any (λ other. other == pool) pools) named) [
      | inl twice ↦ (let more : 1 ≤ times pool others = named_counted pool others twice in omega arith)
      | inr twice ↦ (let more : 1 ≤ times pool pools = named_counted pool pools twice in omega arith)
    ]

-- names that were read from the front of a text
pub record AreNamesTaken (decls : List Decl) (others : List ℕ) (text : List ℕ) (pools rest : List ℕ) : Type 0 where
  pub next : ArePoolsNext decls text pools rest
  pub once : AreNamedOnce (others ++ pools)

-- before the first
pub none_taken : (decls : List Decl) (others text : List ℕ) → AreNamedOnce others → AreNamesTaken decls others text [] text
none_taken decls others text once = record { next = refl; once = subst AreNamedOnce (sym (append-nil others)) once }

-- one more
pub names_push : (decls : List Decl) (others text pools rest : List ℕ) (pool : ℕ) (behind : List ℕ) → AreNamesTaken decls others text pools rest → is_named others pools pool ≡ false → IsPoolNext decls rest pool behind → AreNamesTaken decls others text (pools ++ pool ∷ []) behind
names_push decls others text pools rest pool behind h unnamed next =
    let parts = or_parts (list_any (λ other. other == pool) others) (list_any (λ other. other == pool) pools) unnamed in
    record {
      next = pools_push decls text pools rest pool behind h.next next;
      once = λ k.
          let total : times k (others ++ (pools ++ pool ∷ [])) ≡ times k others + (times k pools + (one_if (pool == k) + 0)) = times_three k pool others pools [] in
          let split : times k (others ++ pools) ≡ times k others + times k pools = times-append k others pools in
          let before : times k (others ++ pools) ≤ 1 = h.once k in
          elim (cases_Bool (pool == k)) [
            | inr other ↦ (let none : one_if (pool == k) ≡ 0 = ap one_if other in omega arith)
            | inl same ↦
                let is : pool ≡ k = eqb-true pool k same in
                let here : one_if (pool == k) ≡ 1 = ap one_if same in
                let none_before : times k others ≡ 0 = subst (λ (q : ℕ). times q others ≡ 0) is (unnamed_counted pool others parts.0) in
                let none_here : times k pools ≡ 0 = subst (λ (q : ℕ). times q pools ≡ 0) is (unnamed_counted pool pools parts.1) in
                omega arith
          ];
    }

-- named twice: no list of names
pub no_names : (decls : List Decl) (others text pools rest : List ℕ) (pool : ℕ) (behind : List ℕ) → AreNamesTaken decls others text pools rest → IsPoolNext decls rest pool behind → is_named others pools pool ≡ true → (all more : List ℕ) → AreNamesNext decls others text all more → ⊥
no_names decls others text pools rest pool behind h next named all more q =
    let g = go_on decls text pools rest all more h.next q.next q.last in
    elim g.0 as (λ left. all ≡ pools ++ left → ArePoolsNext decls rest left more → ⊥) [
      | [] ↦ λ e none. q.last pool behind (subst (λ (t : List ℕ). IsPoolNext decls t pool behind) none next)
      | (p ∷ left) ↦ λ e of.
          let same = one_pool decls rest behind of.0 pool p next of.1 in
          let whole : all ≡ pools ++ pool ∷ left = e ∙ ap (λ (k : ℕ). pools ++ k ∷ left) (sym same.0) in
          is_repeated others pools left pool named (subst (λ (l : List ℕ). AreNamedOnce (others ++ l)) whole q.once)
    ] g.1 g.2

-- behind a name fewer bytes are left
pub shorter : (decls : List Decl) (text : List ℕ) (pool : ℕ) (rest : List ℕ) → IsPoolNext decls text pool rest → length rest < length text
shorter decls text pool rest next = omega (arith, ap length next.whole, length-append (name_at decls pool) rest)

-- a text begins with one list of one name or more
pub one_some : (decls : List Decl) (others text a x b y : List ℕ) → AreSomeNext decls others text a x → AreSomeNext decls others text b y → (a ≡ b) × (x ≡ y)
one_some decls others text a x b y p q = one_names decls others text a x b y p.names q.names

-- no name at all
pub no_first_name : (decls : List Decl) (others text pools rest : List ℕ) → AreNamesNext decls others text pools rest → length pools ≡ 0 → (all more : List ℕ) → AreSomeNext decls others text all more → ⊥
no_first_name decls others text pools rest first empty all more q = omega (arith, q.some, ap length (one_names decls others text pools rest all more first q.names).0)

-- ---- names as text

names_end : (decls : List Decl) (pools rest : List ℕ) → EndsName rest → EndsName (names_text decls pools ++ rest)
names_end decls [] rest ended = ended
names_end decls (pool ∷ pools) rest ended = refl

-- names that a text spells stand one after another at its front
pub pools_of_text : (decls : List Decl) (text pools rest : List ℕ) → All (IsCalled decls) pools → EndsName rest → text ≡ names_text decls pools ++ rest → ArePoolsNext decls text pools rest
pools_of_text decls text [] rest called ended e = e
pools_of_text decls text (pool ∷ pools) rest called ended e =
    let behind = names_text decls pools ++ rest in (
      behind,
      record {
        called = All-head (IsCalled decls) pool pools called;
        whole = e ∙ append_assoc (32 ∷ name_at decls pool) (names_text decls pools) rest;
        ended = names_end decls pools rest ended;
      },
      pools_of_text decls behind pools rest (All-tail (IsCalled decls) pool pools called) ended refl,
    )

pub pools_spelled : (decls : List Decl) (text pools rest : List ℕ) → ArePoolsNext decls text pools rest → text ≡ names_text decls pools ++ rest
pools_spelled decls text [] rest e = e
pools_spelled decls text (pool ∷ pools) rest h =
    h.1.whole ∙ ap (λ (t : List ℕ). 32 ∷ (name_at decls pool ++ t)) (pools_spelled decls h.0 pools rest h.2)
    ∙ sym (append_assoc (32 ∷ name_at decls pool) (names_text decls pools) rest)

pub pools_called : (decls : List Decl) (text pools rest : List ℕ) → ArePoolsNext decls text pools rest → All (IsCalled decls) pools
pools_called decls text [] rest e = All-nil (IsCalled decls)
pools_called decls text (pool ∷ pools) rest h = All-cons (IsCalled decls) pool pools h.1.called (pools_called decls h.0 pools rest h.2)

-- no name stands at a line's end
pub end_is_no_name : (decls : List Decl) (rest : List ℕ) (pool : ℕ) (more : List ℕ) → IsPoolNext decls (10 ∷ rest) pool more → ⊥
end_is_no_name decls rest pool more h = omega (arith, ap (λ (t : List ℕ). get_or t 0 0) h.whole)

-- ---- parts that may be left out

-- names behind the word
pub part_named : (decls : List Decl) (others word text behind pools rest : List ℕ) → text ≡ word ++ behind → AreSomeNext decls others behind pools rest → IsPartNext decls others word text pools rest
part_named decls others word text behind [] rest spelled h = absurd (omega (arith, h.some))
part_named decls others word text behind (pool ∷ pools) rest spelled h = (behind, spelled, h.names)

pub no_part_named : (decls : List Decl) (others word text behind : List ℕ) → text ≡ word ++ behind → ((pools rest : List ℕ) → AreSomeNext decls others behind pools rest → ⊥) → (pools rest : List ℕ) → IsPartNext decls others word text pools rest → ⊥
no_part_named decls others word text behind spelled none [] rest h = h.1 behind spelled
no_part_named decls others word text behind spelled none (pool ∷ pools) rest h =
    none (pool ∷ pools) rest (record {
      names = subst (λ (t : List ℕ). AreNamesNext decls others t (pool ∷ pools) rest) (append_cancel_left word h.0 behind (sym h.1 ∙ spelled)) h.2;
      some = omega arith;
    })

-- a text begins with one part
pub one_part : (decls : List Decl) (others word text a x b y : List ℕ) → IsPartNext decls others word text a x → IsPartNext decls others word text b y → (a ≡ b) × (x ≡ y)
one_part decls others word text [] x [] y p q = (refl, sym p.0 ∙ q.0)
one_part decls others word text [] x (k ∷ b) y p q = absurd (p.1 q.0 q.1)
one_part decls others word text (j ∷ a) x [] y p q = absurd (q.1 p.0 p.1)
one_part decls others word text (j ∷ a) x (k ∷ b) y p q =
    one_names decls others p.0 (j ∷ a) x (k ∷ b) y p.2 (subst (λ (t : List ℕ). AreNamesNext decls others t (k ∷ b) y) (append_cancel_left word q.0 p.0 (sym q.1 ∙ p.1)) q.2)

pub part_spelled : (decls : List Decl) (others word text pools rest : List ℕ) → IsPartNext decls others word text pools rest → text ≡ part_text word decls pools ++ rest
part_spelled decls others word text [] rest h = h.0
part_spelled decls others word text (pool ∷ pools) rest h =
    h.1 ∙ ap (λ (t : List ℕ). word ++ t) (pools_spelled decls h.0 (pool ∷ pools) rest h.2.next) ∙ sym (append_assoc word (names_text decls (pool ∷ pools)) rest)

pub part_called : (decls : List Decl) (others word text pools rest : List ℕ) → IsPartNext decls others word text pools rest → All (IsCalled decls) pools
part_called decls others word text [] rest h = All-nil (IsCalled decls)
part_called decls others word text (pool ∷ pools) rest h = pools_called decls h.0 (pool ∷ pools) rest h.2.next

pub part_once : (decls : List Decl) (others word text pools rest : List ℕ) → AreNamedOnce others → IsPartNext decls others word text pools rest → AreNamedOnce (others ++ pools)
part_once decls others word text [] rest once h = subst AreNamedOnce (sym (append-nil others)) once
part_once decls others word text (pool ∷ pools) rest once h = h.2.once

-- a part that a text spells, where neither its word nor a name follows
pub part_of_text : (decls : List Decl) (others word text pools rest : List ℕ) → All (IsCalled decls) pools → AreNamedOnce (others ++ pools) → EndsName rest → ((more : List ℕ) → rest ≢ word ++ more) → ((pool : ℕ) (more : List ℕ) → IsPoolNext decls rest pool more → ⊥) → text ≡ part_text word decls pools ++ rest
    → IsPartNext decls others word text pools rest
part_of_text decls others word text [] rest called once ended no_word last e = (e, λ more w. no_word more (sym e ∙ w))
part_of_text decls others word text (pool ∷ pools) rest called once ended no_word last e = (
  names_text decls (pool ∷ pools) ++ rest,
  e ∙ append_assoc word (names_text decls (pool ∷ pools)) rest,
  record { next = pools_of_text decls (names_text decls (pool ∷ pools) ++ rest) (pool ∷ pools) rest called ended refl; once = once; last = last },
)

-- ---- what stands behind names and parts in a line

pub end_is_no_not : (rest more : List ℕ) → 10 ∷ rest ≢ codes " not" ++ more
end_is_no_not rest more e = omega (arith, ap (λ (t : List ℕ). get_or t 0 0) e)

-- a word behind a space that begins no name
not_is_no_name : (decls : List Decl) (word t : List ℕ) → IsFree word → is_name word ≡ false → EndsName t → (pool : ℕ) (more : List ℕ) → IsPoolNext decls (32 ∷ (word ++ t)) pool more → ⊥
not_is_no_name decls word t free no_name ended pool more h =
    let name = h.called.named.form in
    let same = same_name_split word (name_at decls pool) t more free (name_free _ name) ended h.ended (ap (drop 1) h.whole) in
    false≢true (sym no_name ∙ subst (λ (n : List ℕ). is_name n ≡ true) (sym same.0) name)

-- what stands behind names does not go on with a name: a part of this word, or what stands behind it
pub part_ends : (decls : List Decl) (word pools rest : List ℕ) → EndsName rest → EndsName (part_text (32 ∷ word) decls pools ++ rest)
part_ends decls word [] rest ended = ended
part_ends decls word (pool ∷ pools) rest ended = refl

pub part_is_no_name : (decls : List Decl) (word pools rest : List ℕ) → IsFree word → is_name word ≡ false → ((pool : ℕ) (more : List ℕ) → IsPoolNext decls rest pool more → ⊥) → (pool : ℕ) (more : List ℕ) → IsPoolNext decls (part_text (32 ∷ word) decls pools ++ rest) pool more → ⊥
part_is_no_name decls word [] rest free no_name last pool more h = last pool more h
part_is_no_name decls word (p ∷ pools) rest free no_name last pool more h =
    not_is_no_name decls word (names_text decls (p ∷ pools) ++ rest) free no_name refl pool more
    (subst (λ (t : List ℕ). IsPoolNext decls (32 ∷ t) pool more) (append_assoc word (names_text decls (p ∷ pools)) rest) h)
