-- The first three fields: each is read, or it is the first bad one.
use Rattle.std.proofs.Common.{◌≡◌, ◌≢◌, ℕ, ◌<◌, ◌≤◌, ◌^◌, eqb, Bool, false, length, arith, Option, Some, None, List, [], ◌∷◌, ◌++◌, drop, codes, true, refl, sym, ap, subst, ◌∙◌}
use Rattle.std.specs.Option.{IfSome, IfNone, option_eq}
use Rattle.std.specs.List.{starts_with}
use Rattle.std.proofs.lemmas.Bool.Decides.{nat_tests, Decides-eqb}
use Rattle.std.proofs.lemmas.List.{append-nil}
use Rattle.std.proofs.lemmas.Slice.Eq.{starts_is}
use Rattle.world_text.specs.LineKinds.{Line}
use Rattle.world_text.specs.LineKinds as line
use Rattle.world_text.specs.Headers.{header_so_far}
use Rattle.snapshot.specs.Fields.{Field, header_limit, u32_bytes}
use Rattle.snapshot.specs.Fields as field
use Rattle.snapshot.specs.Due as due
use Rattle.snapshot.specs.Snapshots.{admits, IsBadField}
use Rattle.snapshot.specs.Reading.{Reaches, IsBegun, IsHeader, HeadersDue, IsNoFieldAt, IsNumberAt}
use Rattle.snapshot.proofs.DueLemmas.{mark_due, version_due, header_count_due}
use Rattle.snapshot.proofs.PlaceLemmas.{too_short, the_u32}
use Rattle.snapshot.proofs.ReachLemmas.{reach_none, reach_more}
use Rattle.snapshot.proofs.StepLemmas.{missing}

-- line 1 stands alone
abbrev pub IsVersioned : List Line → Type 0
IsVersioned lines = lines ≡ line.Version ∷ []

pub mark_more : (bytes : List ℕ) → bytes ≡ codes "WORLDSNP" ++ drop 8 bytes → Reaches bytes 8 due.Version IsBegun
mark_more bytes e =
    reach_more bytes 0 8 due.Mark IsBegun IsBegun field.Mark (reach_none bytes IsBegun refl) (record { line = tt; within = tt }) refl e refl (λ lines is. refl)
    (λ lines is. append-nil lines ∙ is)

pub mark_missing : (bytes : List ℕ) → ((more : List ℕ) → bytes ≡ codes "WORLDSNP" ++ more → ⊥) → IsBadField bytes 0
mark_missing bytes none =
    missing bytes 0 due.Mark IsBegun (reach_none bytes IsBegun refl) refl (λ f is_next. subst (IsNoFieldAt bytes 0) (sym (mark_due f is_next)) (λ more is e. none more e))

pub version_more : (bytes : List ℕ) → Reaches bytes 8 due.Version IsBegun → drop 8 bytes ≡ u32_bytes 1 ++ drop 12 bytes → Reaches bytes 12 due.HeaderCount IsVersioned
version_more bytes h e =
    reach_more bytes 8 12 due.Version IsBegun IsVersioned field.Version h (record { line = (tt, tt); within = tt }) refl e refl
    (λ lines is. subst (λ (ls : List Line). admits ls field.Version ≡ true) (sym is) refl)
    (λ lines is. ap (λ (ls : List Line). ls ++ line.Version ∷ []) is)

pub version_missing : (bytes : List ℕ) → Reaches bytes 8 due.Version IsBegun → ((more : List ℕ) → drop 8 bytes ≡ u32_bytes 1 ++ more → ⊥) → IsBadField bytes 8
version_missing bytes h none =
    missing bytes 8 due.Version IsBegun h refl (λ f is_next. subst (IsNoFieldAt bytes 8) (sym (version_due f is_next)) (λ more is e. none more e))

-- a number that is 1 is the version, and another, or none, is not
pub version_here : (bytes : List ℕ) (number : Option ℕ) → IfSome number (λ n. IsNumberAt 4 bytes 8 n (u32_bytes n)) → option_eq eqb number (Some 1) ≡ true → drop 8 bytes ≡ u32_bytes 1 ++ drop 12 bytes
version_here bytes None here same = absurd (cc)
version_here bytes (Some n) here same =
    let one : n ≡ 1 = grind (arith, nat_tests) in
    here.spelled ∙ ap (λ (m : ℕ). u32_bytes m ++ drop 12 bytes) one

pub no_version : (bytes : List ℕ) (number : Option ℕ) → IfSome number (λ n. IsNumberAt 4 bytes 8 n (u32_bytes n)) → IfNone number (length bytes < 12) → IfSome number (λ n. n < 2 ^ 32) → option_eq eqb number (Some 1) ≡ false → (more : List ℕ) → drop 8 bytes ≡ u32_bytes 1 ++ more → ⊥
no_version bytes None here short small other more e = too_short 4 8 bytes (u32_bytes 1) more short (omega arith) (omega arith) e
no_version bytes (Some n) here short small other more e =
    let same = the_u32 bytes 8 n 1 more here small (omega arith) e in
    let apart : n ≢ 1 = grind (arith, nat_tests) in
    apart same.0

-- behind the mark and the version
pub start_more : (bytes : List ℕ) (starts : Bool) (number : Option ℕ) → starts ≡ starts_with eqb bytes (codes "WORLDSNP") → starts ≡ true → IfSome number (λ n. IsNumberAt 4 bytes 8 n (u32_bytes n)) → option_eq eqb number (Some 1) ≡ true → Reaches bytes 12 due.HeaderCount IsVersioned
start_more bytes starts number is marked here same =
    version_more bytes (mark_more bytes ((starts_is Decides-eqb bytes (codes "WORLDSNP") starts is).0 marked)) (version_here bytes number here same)

pub count_more : (bytes : List ℕ) (count : ℕ) → Reaches bytes 12 due.HeaderCount IsVersioned → drop 12 bytes ≡ u32_bytes count ++ drop 16 bytes → count ≤ header_limit → HeadersDue bytes 16 (header_so_far []) count
count_more bytes count h e few =
    reach_more bytes 12 16 due.HeaderCount IsVersioned (IsHeader (header_so_far [])) (field.HeaderCount count) h (record { line = tt; within = few }) refl e refl (λ lines is. refl)
    (λ lines is. record { headers = []; behind = append-nil lines ∙ is; is = refl })

pub count_missing : (bytes : List ℕ) → Reaches bytes 12 due.HeaderCount IsVersioned → ((count : ℕ) (more : List ℕ) → count ≤ header_limit → drop 12 bytes ≡ u32_bytes count ++ more → ⊥) → IsBadField bytes 12
count_missing bytes h none =
    missing bytes 12 due.HeaderCount IsVersioned h refl (λ f is_next. let of = header_count_due f is_next in subst (IsNoFieldAt bytes 12) (sym of.1) (λ more is e. none of.0 more is.within e))
