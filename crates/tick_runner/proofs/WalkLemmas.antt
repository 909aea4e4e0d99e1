-- Prefixes of groups, along which systems walk.
use Rattle.std.proofs.Common.{◌≡◌, ℕ, zero, suc, ◌≤◌, Bool, true, false, not, ◌&&◌, ◌||◌, cond, eqb, List, [], ◌∷◌, ◌++◌, map, get_or, take, length, Option, Some, None, slice_get, refl, sym, ap, ap₂, ◌∙◌, subst}
use Rattle.std.specs.Prelude.{filter, find, unwrap_or}
use Rattle.std.specs.List.{AllByRecursion, list_all, list_any}
use Rattle.std.specs.List.Sorted.{IsPermutation}
use Rattle.std.specs.Option.{option_map, option_map_or}
use Rattle.std.proofs.lemmas.Bool.{eqb-true}
use Rattle.std.proofs.lemmas.List.{length-map, map-append}
use Rattle.std.specs.Prelude.{IfSome}
use Rattle.std.proofs.lemmas.Option.{slice_get-map, get_or_from_slice_get}
use Rattle.entity_id.specs.declared.entity.Entity.{Entity}
use Rattle.entity_id.specs.FiniteMap as entries
use Rattle.entity_id.specs.Identifiers.{is_same}
use Rattle.entity_id.specs.Matching.{is_in, is_match, matches}
use Rattle.entity_id.proofs.ListLemmas.{all-append}
use Rattle.storage.specs.Stored.{Stored}
use Rattle.world_model.specs.declared.access.Access.{Access}
use Rattle.world_model.specs.declared.component.Row.{Row}
use Rattle.world_model.specs.Frames.{own_pools, members}
use Rattle.world_model.specs.Groups.{has_pool, packed_at}
use Rattle.world_model.specs.Ticks.{Maps}
use Rattle.group_engine.specs.Grouped.{packed_of}
use Rattle.system_api.specs.declared.lent.LentPool.{LentPool}
use Rattle.system_api.specs.Registers.{Register, Shows, StandsFor, HasMembersFirst, MayWalkPrefix, no_pool, numbers, pool_of}
use Rattle.registry.specs.Lending.{BeginsWithMembers, Shape, shapes_of}
use Rattle.registry.specs.Layout.{maps_of}
use Rattle.tick_runner.specs.Putting.{IsPoolOf}
use Rattle.tick_runner.specs.Walking.{IsPrefixFor}
use Rattle.tick_runner.proofs.ListLemmas.{named-append, named_first, named_later, all_named}
use Rattle.tick_runner.proofs.PutLemmas.{same_maps}
use Rattle.tick_runner.proofs.RunLemmas.{AreTaken, stand_in}

-- ---- the pool of a number

lent-step : (b : Bool) (P : LentPool → Type 0) (w : LentPool) (n : ℕ) (rest : Option LentPool) (c : Bool) → eqb w.number n ≡ b → P w
    → (c ≡ true → P (unwrap_or rest no_pool) × ((unwrap_or rest no_pool).number ≡ n)) → (b || c) ≡ true
    → P (unwrap_or (cond b (Some w) rest) no_pool) × ((unwrap_or (cond b (Some w) rest) no_pool).number ≡ n)
lent-step true P w n rest c e here later named = (here, eqb-true w.number n e)
lent-step false P w n rest c e here later named = later named

pub lent_at : (P : LentPool → Type 0) (ws : List LentPool) (n : ℕ) → AllByRecursion P ws → has_pool (numbers ws) n ≡ true
    → P (unwrap_or (find (λ (pool : LentPool). eqb pool.number n) ws) no_pool) × ((unwrap_or (find (λ (pool : LentPool). eqb pool.number n) ws) no_pool).number ≡ n)
lent_at P [] n all named = absurd (cc)
lent_at P (w ∷ ws) n all named = lent-step (eqb w.number n) P w n (find (λ (pool : LentPool). eqb pool.number n) ws) (has_pool (numbers ws) n) refl all.0 (lent_at P ws n all.1) named

-- ---- members are told by the pools of their lists

filter-step : (b c : Bool) (e : Entity) (xs ys : List Entity) → b ≡ c → xs ≡ ys → cond b (e ∷ xs) xs ≡ cond c (e ∷ ys) ys
filter-step b c e xs ys same rest = ap₂ (λ (d : Bool) (zs : List Entity). cond d (e ∷ zs) zs) same rest

filter_same : (p q : Entity → Bool) (es : List Entity) → ((e : Entity) → p e ≡ q e) → filter p es ≡ filter q es
filter_same p q [] same = refl
filter_same p q (e ∷ es) same = filter-step (p e) (q e) e (filter p es) (filter q es) (same e) (filter_same p q es same)

all_same : (p q : ℕ → Bool) (list : List ℕ) → ((n : ℕ) → has_pool list n ≡ true → p n ≡ q n) → list_all p list ≡ list_all q list
all_same p q [] same = refl
all_same p q (x ∷ list) same = ap₂ (λ b c. b && c) (same x (named_first x list)) (all_same p q list (λ n named. same n (named_later x list n named)))

any_same : (p q : ℕ → Bool) (list : List ℕ) → ((n : ℕ) → has_pool list n ≡ true → p n ≡ q n) → list_any p list ≡ list_any q list
any_same p q [] same = refl
any_same p q (x ∷ list) same = ap₂ (λ b c. b || c) (same x (named_first x list)) (any_same p q list (λ n named. same n (named_later x list n named)))

same_matches : (a b : List (List Entity)) (all none : List ℕ) → ((n : ℕ) → has_pool all n ≡ true → get_or a n [] ≡ get_or b n []) → ((n : ℕ) → has_pool none n ≡ true → get_or a n [] ≡ get_or b n [])
    → matches a all none ≡ matches b all none
same_matches a b [] none in_all in_none = refl
same_matches a b (first ∷ rest) none in_all in_none =
    filter_same (is_match a (first ∷ rest) none) (is_match b (first ∷ rest) none) (get_or a first [])
    (λ e. ap₂ (λ x y. x && not y) (all_same (is_in a e) (is_in b e) (first ∷ rest) (λ n named. ap (list_any (is_same e)) (in_all n named))) (any_same (is_in a e) (is_in b e) none (λ n named. ap (list_any (is_same e)) (in_none n named))))
    ∙ ap (filter (is_match b (first ∷ rest) none)) (in_all first (named_first first rest))

keys_at : (maps : Maps) (n : ℕ) → get_or (map entries.keys maps) n [] ≡ option_map_or entries.keys (slice_get maps n) []
keys_at [] n = refl
keys_at (rows ∷ maps) zero = refl
keys_at (rows ∷ maps) (suc n) = keys_at maps n

pub same_members : (access : Access) (a b : Maps) → ((n : ℕ) → has_pool (own_pools access) n ≡ true → slice_get a n ≡ slice_get b n) → ((n : ℕ) → has_pool access.without n ≡ true → slice_get a n ≡ slice_get b n)
    → members access a ≡ members access b
same_members access a b own out =
    same_matches (map entries.keys a) (map entries.keys b) (own_pools access) access.without
    (λ n named. keys_at a n ∙ ap (λ (o : Option (List (Entity × Row))). option_map_or entries.keys o []) (own n named) ∙ sym (keys_at b n))
    (λ n named. keys_at a n ∙ ap (λ (o : Option (List (Entity × Row))). option_map_or entries.keys o []) (out n named) ∙ sym (keys_at b n))

-- ---- a walk along a prefix

pub own_lent : (r w l x : Bool) → (r || w) ≡ true → (w || ((r || l) || x)) ≡ true
own_lent r true l x named = refl
own_lent true false l x named = refl
own_lent false false l x named = absurd (cc)

pub out_lent : (r w l x : Bool) → x ≡ true → (w || ((r || l) || x)) ≡ true
out_lent r true l x named = refl
out_lent true false l x named = refl
out_lent false false true x named = refl
out_lent false false false x named = named

module _ (access : Access) (register : Register) (pools old : List (Stored Row)) (taken : AreTaken access register pools old) where
  lent_numbers : numbers (register.writes ++ register.reads) ≡ access.write ++ ((access.read ++ access.look) ++ access.without)
  lent_numbers = map-append (λ (pool : LentPool). pool.number) register.writes register.reads ∙ ap₂ (λ a b. a ++ b) taken.lent.writes taken.lent.reads

  spread : (n : ℕ) → has_pool (numbers (register.writes ++ register.reads)) n ≡ has_pool access.write n || ((has_pool access.read n || has_pool access.look n) || has_pool access.without n)
  spread n =
      ap (λ ns. has_pool ns n) lent_numbers ∙ named-append access.write ((access.read ++ access.look) ++ access.without) n
      ∙ ap (λ b. has_pool access.write n || b) (named-append (access.read ++ access.look) access.without n ∙ ap (λ b. b || has_pool access.without n) (named-append access.read access.look n))

  own_named : (n : ℕ) → has_pool (own_pools access) n ≡ true → has_pool (numbers (register.writes ++ register.reads)) n ≡ true
  own_named n named = spread n ∙ own_lent (has_pool access.read n) (has_pool access.write n) (has_pool access.look n) (has_pool access.without n) (sym (named-append access.read access.write n) ∙ named)

  out_named : (n : ℕ) → has_pool access.without n ≡ true → has_pool (numbers (register.writes ++ register.reads)) n ≡ true
  out_named n named = spread n ∙ out_lent (has_pool access.read n) (has_pool access.write n) (has_pool access.look n) (has_pool access.without n) named

  there : AllByRecursion (IsPoolOf old) (register.writes ++ register.reads)
  there = let both = stand_in access register pools old taken in all-append (IsPoolOf old) register.writes register.reads both.0 both.1

  -- where a pool of the list begins with the system's entities, so does the lent one
  pub may_walk : (pool count : ℕ) → BeginsWithMembers access old pool count → (maps : Maps) → Shows register maps → HasMembersFirst access maps register pool count
  may_walk pool count begins maps shows =
      let w = pool_of register pool in
      let at = lent_at (IsPoolOf old) (register.writes ++ register.reads) pool there (own_named pool begins.own) in
      let here : packed_at (packed_of old) pool ≡ entries.keys w.storage.pairs =
      get_or_from_slice_get (packed_of old) pool (entries.keys w.storage.pairs) [] (slice_get-map (λ (s : Stored Row). entries.keys s.pairs) old pool ∙ ap (option_map (λ (s : Stored Row). entries.keys s.pairs)) (ap (slice_get old) (sym at.1) ∙ at.0)) in
      let stand = all-append (StandsFor maps) register.writes register.reads shows.writes shows.reads in
      let agree = same_maps old maps (register.writes ++ register.reads) there stand in
      let told : (n : ℕ) → has_pool (numbers (register.writes ++ register.reads)) n ≡ true → slice_get (maps_of old) n ≡ slice_get maps n
      = λ n named. all_named (λ n. slice_get (maps_of old) n ≡ slice_get maps n) (numbers (register.writes ++ register.reads)) n agree named in
      record {
        own = begins.own;
        within = subst (λ n. count ≤ n) (ap length here ∙ length-map w.storage.pairs (λ (entry : Entity × Row). entry.0)) begins.within;
        first = subst (λ (list : List Entity). IsPermutation (take count list) (members access maps)) here
            (subst (IsPermutation (take count (packed_at (packed_of old) pool))) (same_members access (maps_of old) maps (λ n named. told n (own_named n named)) (λ n named. told n (out_named n named))) begins.first);
      }

pub some_weaker : (P Q : ℕ × ℕ → Type 0) (o : Option (ℕ × ℕ)) → ((x : ℕ × ℕ) → P x → Q x) → IfSome o P → IfSome o Q
some_weaker P Q None weaker is = is
some_weaker P Q (Some x) weaker is = weaker x is

-- a prefix that is known may be walked
pub prefix_walks : (access : Access) (register : Register) (pools old : List (Stored Row)) → AreTaken access register pools old → (prefix : Option (ℕ × ℕ)) → register.prefix ≡ prefix → IsPrefixFor access old prefix
    → (maps : Maps) → Shows register maps → MayWalkPrefix access maps register
prefix_walks access register pools old taken prefix same is maps shows =
    subst (λ (o : Option (ℕ × ℕ)). IfSome o (λ (x : ℕ × ℕ). HasMembersFirst access maps register x.0 x.1)) (sym same)
    (some_weaker (λ (x : ℕ × ℕ). BeginsWithMembers access old x.0 x.1) (λ (x : ℕ × ℕ). HasMembersFirst access maps register x.0 x.1) prefix (λ x begins. may_walk access register pools old taken x.0 x.1 begins maps shows) is)

-- ---- prefixes stay while nothing but rows changes

packed_by_shape : (pools : List (Stored Row)) → packed_of pools ≡ map (λ (s : Shape). s.identifiers) (shapes_of pools)
packed_by_shape [] = refl
packed_by_shape (p ∷ pools) = ap (λ rest. entries.keys p.pairs ∷ rest) (packed_by_shape pools)

begins_again : (access : Access) (new old : List (Stored Row)) (pool count : ℕ) → packed_of new ≡ packed_of old → map entries.keys (maps_of new) ≡ map entries.keys (maps_of old) → BeginsWithMembers access old pool count → BeginsWithMembers access new pool count
begins_again access new old pool count packed keys begins = record {
  own = begins.own;
  within = subst (λ (lists : List (List Entity)). count ≤ length (packed_at lists pool)) (sym packed) begins.within;
  first = subst (λ (lists : List (List Entity)). IsPermutation (take count (packed_at lists pool)) (members access (maps_of new))) (sym packed)
      (subst (λ (maps : List (List Entity)). IsPermutation (take count (packed_at (packed_of old) pool)) (matches maps (own_pools access) access.without)) (sym keys) begins.first);
}

pub prefix_again : (access : Access) (new old : List (Stored Row)) (prefix : Option (ℕ × ℕ)) → shapes_of new ≡ shapes_of old → map entries.keys (maps_of new) ≡ map entries.keys (maps_of old) → IsPrefixFor access old prefix → IsPrefixFor access new prefix
prefix_again access new old prefix shapes keys is =
    let packed : packed_of new ≡ packed_of old = packed_by_shape new ∙ ap (map (λ (s : Shape). s.identifiers)) shapes ∙ sym (packed_by_shape old) in
    some_weaker (λ (x : ℕ × ℕ). BeginsWithMembers access old x.0 x.1) (λ (x : ℕ × ℕ). BeginsWithMembers access new x.0 x.1) prefix (λ x begins. begins_again access new old x.0 x.1 packed keys begins) is
