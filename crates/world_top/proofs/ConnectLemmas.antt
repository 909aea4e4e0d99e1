-- A watch that begins: one recorder more.
use Rattle.std.proofs.Common.{◌≡◌, ◌⊎◌, inl, inr, ℕ, ◌+◌, ◌<◌, ◌==◌, true, false, ◌&&◌, List, [], ◌∷◌, ◌++◌, length, length-append, Option, Some, slice_get, slice_index_or, refl, sym, ap, subst, ◌∙◌, arith}
use Rattle.std.specs.Prelude.{count_by}
use Rattle.std.proofs.lemmas.Bool.{cases_eq}
use Rattle.std.proofs.lemmas.Bool.Decides.{nat_tests}
use Rattle.std.proofs.lemmas.Option.{slice_get_within, same_Some}
use Rattle.signal_sink.specs.Hearings.{heard_lists}
use Rattle.registry.specs.Held.{Held}
use Rattle.registry.specs.Listeners.{listeners_at, IsRewired}
use Rattle.world_model.specs.declared.event.Event.{Event}
use Rattle.world_model.specs.declared.event.EventKind.{EventKind}
use Rattle.world_model.specs.declared.world.World.{World}
use Rattle.world_model.specs.Steps.{is_same_kind}
use Rattle.world_model.proofs.ListLemmas.{slice_get-append}
use Rattle.world_model.proofs.SlotLemmas.{slice_get-push}
use Rattle.world_text.specs.Playing.{Watching, new_watch, is_watch_of}
use Rattle.world_top.specs.declared.watching.Watch.{Watch}
use Rattle.world_top.specs.Watched.{heard_at, IsWatch, AreWatched}
use Rattle.world_top.proofs.WatchParts.{bit, count-push, differ, heard_each, kind_cases, no_both, same_either_way, same_kind}

pub record Connects (old new : Held) (kind : EventKind) (pool number : ℕ) : Type 0 where
  pub rewired : IsRewired old new kind pool
  pub number_is : number ≡ length (listeners_at old kind pool)
  pub heard : heard_lists (listeners_at new kind pool) ≡ heard_lists (listeners_at old kind pool) ++ Some [] ∷ []

-- one kind and pool, or another
abbrev Other : EventKind → ℕ → EventKind → ℕ → Type 0
Other kind pool k p = (is_same_kind kind k && (pool == p)) ≡ false

-- listeners of another kind or pool stay
pub elsewhere : (old new : Held) (kind : EventKind) (pool : ℕ) → IsRewired old new kind pool → (k : EventKind) (p : ℕ) → ((k ≡ kind) × (p ≡ pool)) ⊎ (Other kind pool k p × (listeners_at new k p ≡ listeners_at old k p))
elsewhere old new kind pool r k p = elim (kind_cases k kind) as (λ _. ((k ≡ kind) × (p ≡ pool)) ⊎ (Other kind pool k p × (listeners_at new k p ≡ listeners_at old k p))) [
  | inr other ↦ inr (ap (λ b. b && (pool == p)) (same_either_way kind k ∙ other.1), ap (λ l. slice_index_or l p []) (r.other_kinds k other.0))
  | inl same ↦ elim (cases_eq p pool) as (λ _. ((k ≡ kind) × (p ≡ pool)) ⊎ (Other kind pool k p × (listeners_at new k p ≡ listeners_at old k p))) [
    | inl here ↦ inl (same, here)
    | inr other ↦ inr (
      ap (λ b. is_same_kind kind k && b) (differ p pool other) ∙ no_both (is_same_kind kind k),
      subst (λ (x : EventKind). listeners_at new x p ≡ listeners_at old x p) (sym same) (r.other_pools p other),
    )
  ]
]

still_at : (old new : Held) (kind : EventKind) (pool number : ℕ) → Connects old new kind pool number → (k : EventKind) (p n : ℕ) (v : Option (List Event)) → heard_at old k p n ≡ Some v → heard_at new k p n ≡ Some v
still_at old new kind pool number c k p n v h = elim (elsewhere old new kind pool c.rewired k p) as (λ _. heard_at new k p n ≡ Some v) [
  | inr other ↦ ap (λ xs. slice_get (heard_lists xs) n) other.1 ∙ h
  | inl here ↦
      let there : heard_at old kind pool n ≡ Some v = (λ i. heard_at old (sym here.0 i) (sym here.1 i) n) ∙ h in
      (λ i. heard_at new (here.0 i) (here.1 i) n) ∙ ap (λ xs. slice_get xs n) c.heard
      ∙ slice_get-append (heard_lists (listeners_at old kind pool)) (Some [] ∷ []) n (slice_get_within _ n v there) ∙ there
]

more_listeners : (old new : Held) (kind : EventKind) (pool number : ℕ) → Connects old new kind pool number → length (listeners_at new kind pool) ≡ length (listeners_at old kind pool) + 1
more_listeners old new kind pool number c =
    sym (heard_each (listeners_at new kind pool)) ∙ ap length c.heard ∙ length-append (heard_lists (listeners_at old kind pool)) (Some [] ∷ []) ∙ ap (λ n. n + 1) (heard_each (listeners_at old kind pool))

still_below : (old new : Held) (kind : EventKind) (pool number : ℕ) → Connects old new kind pool number → (k : EventKind) (p n : ℕ) → n < length (listeners_at old k p) → n < length (listeners_at new k p)
still_below old new kind pool number c k p n h = elim (elsewhere old new kind pool c.rewired k p) as (λ _. n < length (listeners_at new k p)) [
  | inr other ↦ subst (λ (m : ℕ). n < m) (ap length (sym other.1)) h
  | inl here ↦
      let there : n < length (listeners_at old kind pool) = subst (λ (m : ℕ). n < m) (λ i. length (listeners_at old (here.0 i) (here.1 i))) h in
      let now : n < length (listeners_at new kind pool) = omega (arith, there, more_listeners old new kind pool number c) in
      subst (λ (m : ℕ). n < m) (λ i. length (listeners_at new (sym here.0 i) (sym here.1 i))) now
]

still_watch : (old new : Held) (kind : EventKind) (pool number : ℕ) → Connects old new kind pool number → (w : Watch) (s : Watching) → IsWatch old w s → IsWatch new w s
still_watch old new kind pool number c w s is = record {
  kind = is.kind;
  pool = is.pool;
  stands = is.stands;
  events = is.events;
  place = still_at old new kind pool number c s.kind s.pool w.number _ is.place;
  heard = is.heard;
}

-- an item of a list with one more is the last one, or one of the others
pushed : {X : Type 0} (xs : List X) (x : X) (k : ℕ) (a : X) → slice_get (xs ++ x ∷ []) k ≡ Some a → ((k ≡ length xs) × (x ≡ a)) ⊎ ((k < length xs) × (slice_get xs k ≡ Some a))
pushed {X} xs x k a h = elim (cases_eq k (length xs)) as (λ _. ((k ≡ length xs) × (x ≡ a)) ⊎ ((k < length xs) × (slice_get xs k ≡ Some a))) [
  | inl last ↦ inl (last, same_Some x a (sym (slice_get-push xs x) ∙ ap (slice_get (xs ++ x ∷ [])) (sym last) ∙ h))
  | inr other ↦
      let low : k < length xs = omega (arith, other, slice_get_within (xs ++ x ∷ []) k a h, length-append xs (x ∷ [])) in
      inr (low, sym (slice_get-append xs (x ∷ []) k low) ∙ h)
]

module _ (old new : Held) (watches : List Watch) (its : List Watching) (kind : EventKind) (pool number : ℕ) (h : AreWatched old watches its) (c : Connects old new kind pool number) where
  abbrev added : Watch
  added = record { kind = kind; pool = pool; number = number; stands = true }

  here : length (heard_lists (listeners_at old kind pool)) ≡ number
  here = heard_each (listeners_at old kind pool) ∙ sym c.number_is

  begun : IsWatch new added (new_watch kind pool)
  begun = record {
    kind = refl;
    pool = refl;
    stands = refl;
    events = [];
    place = ap (λ xs. slice_get xs number) c.heard ∙ ap (λ n. slice_get (heard_lists (listeners_at old kind pool) ++ Some [] ∷ []) n) (sym here) ∙ slice_get-push (heard_lists (listeners_at old kind pool)) (Some []);
    heard = refl;
  }

  clash : (b : Watch) → b.number < length (listeners_at old b.kind b.pool) → kind ≡ b.kind → pool ≡ b.pool → number ≡ b.number → ⊥
  clash b below ek ep en =
      let same : length (listeners_at old kind pool) ≡ length (listeners_at old b.kind b.pool) = λ i. length (listeners_at old (ek i) (ep i)) in
      absurd (omega (arith, below, c.number_is, en, same))

  each_one : (k : ℕ) (a : Watch) (b : Watching) → slice_get (watches ++ added ∷ []) k ≡ Some a → slice_get (its ++ new_watch kind pool ∷ []) k ≡ Some b → IsWatch new a b
  each_one k a b ha hb = elim (pushed watches added k a ha) as (λ _. IsWatch new a b) [
    | inl p ↦ elim (pushed its (new_watch kind pool) k b hb) as (λ _. IsWatch new a b) [
      | inl q ↦ subst (λ (x : Watch). IsWatch new x b) p.1 (subst (λ (y : Watching). IsWatch new added y) q.1 begun)
      | inr q ↦ absurd (omega (arith, p.0, q.0, h.counted))
    ]
    | inr p ↦ elim (pushed its (new_watch kind pool) k b hb) as (λ _. IsWatch new a b) [
      | inl q ↦ absurd (omega (arith, p.0, q.0, h.counted))
      | inr q ↦ still_watch old new kind pool number c a b (h.each k a b p.1 q.1)
    ]
  ]

  apart_still : (i j : ℕ) (a b : Watch) → slice_get (watches ++ added ∷ []) i ≡ Some a → slice_get (watches ++ added ∷ []) j ≡ Some b → a.kind ≡ b.kind → a.pool ≡ b.pool → a.number ≡ b.number → i ≡ j
  apart_still i j a b ha hb ek ep en = elim (pushed watches added i a ha) as (λ _. i ≡ j) [
    | inl p ↦ elim (pushed watches added j b hb) as (λ _. i ≡ j) [
      | inl q ↦ p.0 ∙ sym q.0
      | inr q ↦ absurd (clash b (h.below j b q.1) (ap (λ (x : Watch). x.kind) p.1 ∙ ek) (ap (λ (x : Watch). x.pool) p.1 ∙ ep) (ap (λ (x : Watch). x.number) p.1 ∙ en))
    ]
    | inr p ↦ elim (pushed watches added j b hb) as (λ _. i ≡ j) [
      | inl q ↦ absurd (clash a (h.below i a p.1) (ap (λ (x : Watch). x.kind) q.1 ∙ sym ek) (ap (λ (x : Watch). x.pool) q.1 ∙ sym ep) (ap (λ (x : Watch). x.number) q.1 ∙ sym en))
      | inr q ↦ h.apart i j a b p.1 q.1 ek ep en
    ]
  ]

  listeners_still : (k : EventKind) (p : ℕ) → p < length old.world.decls → length (listeners_at new k p) ≡ count_by (is_watch_of k p) (its ++ new_watch kind pool ∷ [])
  listeners_still k p low =
      let count = count-push (is_watch_of k p) its (new_watch kind pool) in
      elim (elsewhere old new kind pool c.rewired k p) as (λ _. length (listeners_at new k p) ≡ count_by (is_watch_of k p) (its ++ new_watch kind pool ∷ [])) [
        | inr other ↦
            let none : bit (is_same_kind kind k && (pool == p)) ≡ 0 = ap bit other.0 in
            omega (arith, ap length other.1, h.listeners k p low, count, none)
        | inl same ↦
            let of : (is_same_kind kind k && (pool == p)) ≡ true = ap (λ (x : EventKind). is_same_kind kind x && (pool == p)) same.0 ∙ ap (λ b. b && (pool == p)) (same_kind kind) ∙ ap (λ n. pool == n) same.1 ∙ grind (arith, nat_tests) in
            let now : length (listeners_at new k p) ≡ length (listeners_at new kind pool) = λ i. length (listeners_at new (same.0 i) (same.1 i)) in
            let before : length (listeners_at old k p) ≡ length (listeners_at old kind pool) = λ i. length (listeners_at old (same.0 i) (same.1 i)) in
            let one : bit (is_same_kind kind k && (pool == p)) ≡ 1 = ap bit of in
            omega (arith, now, before, more_listeners old new kind pool number c, h.listeners k p low, count, one)
      ]

  -- the program's watches, with one more that begins
  pub connected : pool < length old.world.decls → AreWatched new (watches ++ added ∷ []) (its ++ new_watch kind pool ∷ [])
  connected low = record {
    counted = length-append watches (added ∷ []) ∙ ap (λ n. n + 1) h.counted ∙ sym (length-append its (new_watch kind pool ∷ []));
    each = each_one;
    apart = apart_still;
    listeners = λ k p below. listeners_still k p (subst (λ (w : World). p < length w.decls) c.rewired.world below);
    below = λ k a ha. elim (pushed watches added k a ha) as (λ _. a.number < length (listeners_at new a.kind a.pool)) [
      | inl p ↦ subst (λ (x : Watch). x.number < length (listeners_at new x.kind x.pool)) p.1 (omega (arith, c.number_is, more_listeners old new kind pool number c))
      | inr p ↦ still_below old new kind pool number c a.kind a.pool a.number (h.below k a p.1)
    ];
    declared = λ k a ha. subst (λ (w : World). a.pool < length w.decls) (sym c.rewired.world) (elim (pushed watches added k a ha) as (λ _. a.pool < length old.world.decls) [
      | inl p ↦ subst (λ (x : Watch). x.pool < length old.world.decls) p.1 low
      | inr p ↦ h.declared k a p.1
    ]);
  }
