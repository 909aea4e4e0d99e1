-- What stands under the indices after a change of one page, or of how many there are.
use Rattle.std.proofs.Common.{◌≡◌, ◌≢◌, ℕ, zero, suc, ◌+◌, ◌-◌, ◌*◌, ◌<◌, ◌≤◌, ◌/◌, ◌%◌, List, [], ◌∷◌, ◌++◌, set, get_or, length, length-set, Some, slice_get, sym, refl, ap, subst, ◌∙◌, inl, inr, arith}
use Rattle.std.proofs.lemmas.Bool.{cases_eq, cases_lt}
use Rattle.std.proofs.lemmas.List.{get_or-set_same, get_or-set_other, get_or-append_right}
use Rattle.std.proofs.Math.ListN.{get_or-eq_default, get_or-append}
use Rattle.entity_id.proofs.ListLemmas.{slice_get-set_same, slice_get-set_other}
use Rattle.sparse_set.specs.declared.pages.TheConstants.{PAGE}
use Rattle.sparse_set.specs.Pages.{page_of, place_at, HasPlace, IsMade, AreMadeBelow, Puts, Keeps}

-- ---- more pages, that aren't made

pub page_of-push : (pages : List (List ℕ)) (number : ℕ) → page_of (pages ++ [] ∷ []) number ≡ page_of pages number
page_of-push pages number =
    elim (cases_lt number (length pages)) [
      | inl within ↦ get_or-append pages ([] ∷ []) [] number within
      | inr past ↦
          get_or-append_right pages ([] ∷ []) (length pages) number [] refl past
          ∙ only_empty (number - length pages)
          ∙ sym (get_or-eq_default pages [] past)
    ]
  where
    only_empty : (n : ℕ) → page_of ([] ∷ []) n ≡ []
    only_empty zero = refl
    only_empty (suc n) = refl

pub kept_same : (old new : List (List ℕ)) → ((number : ℕ) → page_of new number ≡ page_of old number) → Keeps old new
kept_same old new same = record {
  places = λ index place is. ap (λ page. slice_get page (index % PAGE)) (same (index / PAGE)) ∙ is;
  lengths = λ number. let long = ap length (same number) in omega arith;
}

-- ---- one page changed

-- a page that has a place is none past the last
pub page_within : (pages : List (List ℕ)) (index : ℕ) → HasPlace pages index → index / PAGE < length pages
page_within pages index has =
    elim (cases_lt (index / PAGE) (length pages)) [
      | inl within ↦ within
      | inr past ↦ let none = ap length (get_or-eq_default pages [] past) in absurd (omega arith)
    ]

-- of two indices on a page, the offsets differ where the indices do
apart_on_page : (index other : ℕ) → other ≢ index → other / PAGE ≡ index / PAGE → other % PAGE ≢ index % PAGE
apart_on_page index other apart same offset = apart (omega arith)

pub puts : (pages : List (List ℕ)) (index place : ℕ) (page : List ℕ) → HasPlace pages index → page ≡ set (page_of pages (index / PAGE)) (index % PAGE) place
    → Puts pages (set pages (index / PAGE) page) index place
puts pages index place page has is =
    let number = index / PAGE in
    let within : number < length pages = page_within pages index has in
    let here : page_of (set pages number page) number ≡ page = get_or-set_same pages number page [] within in
    record {
      here = ap (λ list. slice_get list (index % PAGE)) (here ∙ is) ∙ slice_get-set_same (page_of pages number) (index % PAGE) place has;
      others = λ other apart. elim (cases_eq (other / PAGE) number) [
        | inl same ↦
            ap (λ n. slice_get (page_of (set pages number page) n) (other % PAGE)) same
            ∙ ap (λ list. slice_get list (other % PAGE)) (here ∙ is)
            ∙ slice_get-set_other (page_of pages number) (index % PAGE) (other % PAGE) place (apart_on_page index other apart same)
            ∙ ap (λ n. slice_get (page_of pages n) (other % PAGE)) (sym same)
        | inr elsewhere ↦ ap (λ list. slice_get list (other % PAGE)) (get_or-set_other pages number (other / PAGE) page [] elsewhere)
      ];
      lengths = λ n. elim (cases_eq n number) [
        | inl same ↦
            ap (λ m. length (page_of (set pages number page) m)) same
            ∙ ap length (here ∙ is)
            ∙ length-set (page_of pages number) (index % PAGE) place
            ∙ ap (λ m. length (page_of pages m)) (sym same)
        | inr elsewhere ↦ ap length (get_or-set_other pages number n page [] elsewhere)
      ];
    }

-- a page that keeps what stood on it, and has no fewer places
pub kept_by_page : (pages : List (List ℕ)) (number : ℕ) (page : List ℕ) → number < length pages
    → ((offset place : ℕ) → slice_get (page_of pages number) offset ≡ Some place → slice_get page offset ≡ Some place)
    → length (page_of pages number) ≤ length page → Keeps pages (set pages number page)
kept_by_page pages number page within kept longer =
    let here : page_of (set pages number page) number ≡ page = get_or-set_same pages number page [] within in
    record {
      places = λ index place is. elim (cases_eq (index / PAGE) number) [
        | inl same ↦
            ap (λ n. slice_get (page_of (set pages number page) n) (index % PAGE)) same
            ∙ ap (λ list. slice_get list (index % PAGE)) here
            ∙ kept (index % PAGE) place (ap (λ n. slice_get (page_of pages n) (index % PAGE)) (sym same) ∙ is)
        | inr elsewhere ↦ ap (λ list. slice_get list (index % PAGE)) (get_or-set_other pages number (index / PAGE) page [] elsewhere) ∙ is
      ];
      lengths = λ n. elim (cases_eq n number) [
        | inl same ↦
            let before = ap (λ m. length (page_of pages m)) same in
            let after = ap (λ m. length (page_of (set pages number page) m)) same ∙ ap length here in
            omega arith
        | inr elsewhere ↦ let long = ap length (get_or-set_other pages number n page [] elsewhere) in omega arith
      ];
    }

-- ---- what is kept stays kept

pub kept_itself : (pages : List (List ℕ)) → Keeps pages pages
kept_itself pages = record { places = λ index place is. is; lengths = λ number. omega arith }

pub kept_on : (first second third : List (List ℕ)) → Keeps first second → Keeps second third → Keeps first third
kept_on first second third one two = record {
  places = λ index place is. two.places index place (one.places index place is);
  lengths = λ number. let once = one.lengths number in let again = two.lengths number in omega arith;
}

pub made_still : (old new : List (List ℕ)) (number : ℕ) → Keeps old new → IsMade old number → IsMade new number
made_still old new number kept made = let longer = kept.lengths number in omega arith

pub all_made_still : (old new : List (List ℕ)) (bound : ℕ) → Keeps old new → AreMadeBelow old bound → AreMadeBelow new bound
all_made_still old new bound kept made index below = made_still old new (index / PAGE) kept (made index below)

-- a place put makes no page shorter
pub made_after_put : (old new : List (List ℕ)) (index place bound : ℕ) → Puts old new index place → AreMadeBelow old bound → AreMadeBelow new bound
made_after_put old new index place bound put made other below =
    let long = put.lengths (other / PAGE) in let before = made other below in omega arith

-- under an index of a page that is made something stands
pub made_has_place : (pages : List (List ℕ)) (index : ℕ) → IsMade pages (index / PAGE) → HasPlace pages index
made_has_place pages index made = omega arith

-- ---- all pages below a bound

-- each page of which an index is below the bound
pub first_made : (pages : List (List ℕ)) (bound number : ℕ) → AreMadeBelow pages bound → number * PAGE < bound → IsMade pages number
first_made pages bound number made below =
    let same : (number * PAGE) / PAGE ≡ number = omega arith in
    subst (IsMade pages) same (made (number * PAGE) below)
