-- A checked statement gives few operands at once, and it is a command statement where it does anything but `set`.
use Rattle.std.proofs.Common.{◌≡◌, ℕ, zero, suc, ◌+◌, ◌<◌, ◌≤◌, Bool, true, false, not, IsTrue, get_or, ◌||◌, List, [], ◌∷◌, ◌++◌, drop, length, Option, Some, None, refl, sym, ap, ◌∙◌, subst, arith, append_assoc, if◌then◌else◌}
use Rattle.std.proofs.Math.Bool.{Bool-set}
use Rattle.std.proofs.Math.Bridge.{le_prop}
use Rattle.std.proofs.Math.Logic.{∥∥₁_elim, ∥∥₁_map}
use Rattle.std.proofs.lemmas.Option.{slice_get-get_or}
use Rattle.std.specs.List.{list_all, list_any, AllByRecursion}
use Rattle.std.specs.Option.{option_map_or}
use Rattle.std.proofs.lemmas.Bool.{and_parts, and_from, false≢true}
use Rattle.world_model.specs.declared.access.Access.{Access}
use Rattle.world_model.specs.declared.component.Decl.{Decl}
use Rattle.world_model.specs.declared.component.Kind.TheVariants.{Int, Ref}
use Rattle.world_model.specs.declared.component.Row.{Row}
use Rattle.world_model.specs.Components.{IsDecl}
use Rattle.world_model.specs.Frames.{own_pools}
use Rattle.world_model.specs.Groups.{are_distinct}
use Rattle.entity_id.proofs.ListLemmas.{all_at}
use Rattle.row_lang.specs.declared.token.Keyword.{Keyword}
use Rattle.row_lang.specs.declared.token.Keyword.TheVariants as key
use Rattle.row_lang.specs.declared.token.Place.{Place}
use Rattle.row_lang.specs.declared.token.Place.TheVariants.{Statement, Deed, Sent, Raised, Named, Given}
use Rattle.row_lang.specs.declared.token.Token.{Token}
use Rattle.row_lang.specs.declared.token.Token.TheVariants.{Word, Number, Own, Pool, Field}
use Rattle.row_lang.specs.Bodies.{deed_of}
use Rattle.row_lang.specs.Places.{fills, is_statement, opened, whole_value}
use Rattle.row_lang.specs.Systems.{is_command, is_set}
use Rattle.row_lang.specs.Values.{Setting, operands_of, operands_with}
use Rattle.system_eval.specs.Doings.{is_set_word, untested, IsReady}
use Rattle.system_eval.specs.Lanes.{AreReady}
use Rattle.system_eval.specs.Stacks.{AreFew, IsShallow}
use Rattle.system_eval.proofs.OpeningLemmas.{Opens, open_sound}
use Rattle.system_eval.proofs.WeightLemmas.{HaveReach, Within, added, added-append, all_light, bounded, fields_of, is_deed_token, is_quiet, light, pools_of, reach, values_of}

module _ (decls : List Decl) (declared : AllByRecursion IsDecl decls) (access : Access) (s : Setting) (rows : List (ℕ × Row)) where
  -- ---- how many operands

  few : (tokens : List Token) (places : List Place) → fills decls access places tokens ≡ true → Within (added values_of places) (added pools_of places) (added fields_of places) (operands_of s rows tokens)
  few [] [] filled = record { values = omega arith; pools = omega arith; fields = omega arith }
  few [] (place ∷ places) filled = absurd (false≢true filled)
  few (token ∷ tokens) [] filled = absurd (false≢true filled)
  few (token ∷ tokens) (place ∷ places) filled = step (opened decls access place token) (open_sound decls declared access s rows place token) filled (λ more fill. few tokens (more ++ places) fill)
    where
      step : (o : Option (List Place)) → Opens decls declared access s rows (is_quiet place) (values_of place) (pools_of place) (fields_of place) (reach place) token o →
          option_map_or (λ more. fills decls access (more ++ places) tokens) o false ≡ true →
          ((more : List Place) → fills decls access (more ++ places) tokens ≡ true → Within (added values_of (more ++ places)) (added pools_of (more ++ places)) (added fields_of (more ++ places)) (operands_of s rows tokens)) →
          Within (values_of place + added values_of places) (pools_of place + added pools_of places) (fields_of place + added fields_of places) (operands_with s rows token (operands_of s rows tokens))
      step None is filled behind = absurd (false≢true filled)
      step (Some more) is filled behind =
          let w = behind more filled in
          is.counts (added values_of places) (added pools_of places) (added fields_of places) (operands_of s rows tokens) (record {
            values = omega (arith, w.values, added-append values_of more places);
            pools = omega (arith, w.pools, added-append pools_of more places);
            fields = omega (arith, w.fields, added-append fields_of more places);
          })

  shallow : (tokens : List Token) (places : List Place) (n : ℕ) → HaveReach places → fills decls access places tokens ≡ true → AreFew 47 (operands_of s rows (drop n tokens))
  shallow tokens places zero have filled =
      let w = few tokens places filled in
      let low = bounded places have in
      record {
        values = omega (arith, w.values, low, all_light values_of (λ place. (light place).0) places);
        pools = omega (arith, w.pools, low, all_light pools_of (λ place. (light place).1) places);
        fields = omega (arith, w.fields, low, all_light fields_of (λ place. (light place).2) places);
      }
  shallow [] [] (suc n) have filled = record { values = omega arith; pools = omega arith; fields = omega arith }
  shallow [] (place ∷ places) (suc n) have filled = absurd (false≢true filled)
  shallow (token ∷ tokens) [] (suc n) have filled = absurd (false≢true filled)
  shallow (token ∷ tokens) (place ∷ places) (suc n) have filled =
      step (opened decls access place token) (open_sound decls declared access s rows place token) filled (λ more reached fill. shallow tokens (more ++ places) n reached fill)
    where
      step : (o : Option (List Place)) → Opens decls declared access s rows (is_quiet place) (values_of place) (pools_of place) (fields_of place) (reach place) token o →
          option_map_or (λ more. fills decls access (more ++ places) tokens) o false ≡ true →
          ((more : List Place) → HaveReach (more ++ places) → fills decls access (more ++ places) tokens ≡ true → AreFew 47 (operands_of s rows (drop n tokens))) → AreFew 47 (operands_of s rows (drop n tokens))
      step None is filled behind = absurd (false≢true filled)
      step (Some more) is filled behind = behind more (is.room places have.0 have.1) filled

  -- ---- where the word `set` stands

  quiet_more : (more places : List Place) → list_all is_quiet more ≡ true → list_all is_quiet places ≡ true → list_all is_quiet (more ++ places) ≡ true
  quiet_more [] places first behind = behind
  quiet_more (place ∷ more) places first behind = let parts = and_parts (is_quiet place) (list_all is_quiet more) first in and_from _ _ parts.0 (quiet_more more places parts.1 behind)

  unset : (tokens : List Token) (places : List Place) → list_all is_quiet places ≡ true → fills decls access places tokens ≡ true → list_any is_set tokens ≡ false
  unset [] places quiet filled = refl
  unset (token ∷ tokens) [] quiet filled = absurd (false≢true filled)
  unset (token ∷ tokens) (place ∷ places) quiet filled =
      let parts = and_parts (is_quiet place) (list_all is_quiet places) quiet in
      step (opened decls access place token) (open_sound decls declared access s rows place token) parts.0 filled (λ more first fill. unset tokens (more ++ places) (quiet_more more places first parts.1) fill)
    where
      step : (o : Option (List Place)) → Opens decls declared access s rows (is_quiet place) (values_of place) (pools_of place) (fields_of place) (reach place) token o → is_quiet place ≡ true →
          option_map_or (λ more. fills decls access (more ++ places) tokens) o false ≡ true →
          ((more : List Place) → list_all is_quiet more ≡ true → fills decls access (more ++ places) tokens ≡ true → list_any is_set tokens ≡ false) → (is_set token || list_any is_set tokens) ≡ false
      step None is quiet filled behind = absurd (false≢true filled)
      step (Some more) is quiet filled behind = let hush = is.hush quiet in rw (hush.0, behind more hush.2 filled) refl

  skipped : (token : Token) (tokens : List Token) → is_deed_token token ≡ false → deed_of (token ∷ tokens) ≡ deed_of tokens
  skipped (Word word) tokens is = rw is refl
  skipped (Number z) tokens is = refl
  skipped (Own at) tokens is = refl
  skipped (Pool pool) tokens is = refl
  skipped (Field at) tokens is = refl

  is_no_set : (word : Keyword) → Some key.Set ≡ Some word → is_set_word word ≡ false → ⊥
  is_no_set word found other = let same : key.Set ≡ word = cc in false≢true (sym other ∙ sym (ap is_set_word same))

  -- a deed that isn't `set`, behind places for no word of a statement
  commanding : (tokens : List Token) (places : List Place) (word : Keyword) → list_all is_quiet places ≡ true → fills decls access (places ++ Deed ∷ []) tokens ≡ true → deed_of tokens ≡ Some word → is_set_word word ≡ false → list_any is_set tokens ≡ false
  commanding [] [] word quiet filled found other = refl
  commanding [] (place ∷ places) word quiet filled found other = refl
  commanding (Word key.Set ∷ tokens) [] word quiet filled found other = absurd (is_no_set word found other)
  commanding (Word key.Kill ∷ tokens) [] word quiet filled found other = unset tokens (whole_value Ref ∷ []) refl filled
  commanding (Word key.Give ∷ tokens) [] word quiet filled found other = unset tokens (whole_value Ref ∷ Given ∷ []) refl filled
  commanding (Word key.Take ∷ tokens) [] word quiet filled found other = unset tokens (whole_value Ref ∷ Named ∷ []) refl filled
  commanding (Word key.Send ∷ tokens) [] word quiet filled found other = unset tokens (whole_value Ref ∷ Sent ∷ []) refl filled
  commanding (Word key.Add ∷ tokens) [] word quiet filled found other = unset tokens (whole_value Ref ∷ Raised ∷ []) refl filled
  commanding (Word key.Spawn ∷ tokens) [] word quiet filled found other = unset tokens [] refl filled
  commanding (Word key.Bear ∷ tokens) [] word quiet filled found other = unset tokens (Given ∷ []) refl filled
  commanding (_ ∷ tokens) [] word quiet filled found other = absurd (false≢true filled)
  commanding (token ∷ tokens) (place ∷ places) word quiet filled found other =
      let parts = and_parts (is_quiet place) (list_all is_quiet places) quiet in
      step (opened decls access place token) (open_sound decls declared access s rows place token) parts.0 filled
      (λ more first fill deed. commanding tokens (more ++ places) word (quiet_more more places first parts.1) (subst (λ all. fills decls access all tokens ≡ true) (sym (append_assoc more places (Deed ∷ []))) fill) deed other)
    where
      step : (o : Option (List Place)) → Opens decls declared access s rows (is_quiet place) (values_of place) (pools_of place) (fields_of place) (reach place) token o → is_quiet place ≡ true →
          option_map_or (λ more. fills decls access (more ++ (places ++ Deed ∷ [])) tokens) o false ≡ true →
          ((more : List Place) → list_all is_quiet more ≡ true → fills decls access (more ++ (places ++ Deed ∷ [])) tokens ≡ true → deed_of tokens ≡ Some word → list_any is_set tokens ≡ false) → (is_set token || list_any is_set tokens) ≡ false
      step None is quiet filled behind = absurd (false≢true filled)
      step (Some more) is quiet filled behind = let hush = is.hush quiet in rw (hush.0, behind more hush.2 filled (sym (skipped token tokens hush.1) ∙ found)) refl

  -- ---- statements

  statement_shallow : (tokens : List Token) (n : ℕ) → fills decls access (Statement ∷ []) tokens ≡ true → AreFew 47 (operands_of s rows (drop n (untested tokens)))
  statement_shallow (Word key.When ∷ tokens) n filled = shallow tokens (whole_value Int ∷ Deed ∷ []) n (omega arith, (omega arith, tt)) filled
  statement_shallow tokens n filled = shallow tokens (Statement ∷ []) n (omega arith, tt) filled

  statement_commands : (tokens : List Token) (word : Keyword) → fills decls access (Statement ∷ []) tokens ≡ true → deed_of (untested tokens) ≡ Some word → is_set_word word ≡ false → list_any is_set tokens ≡ false
  statement_commands [] word filled found other = refl
  statement_commands (Word key.When ∷ tokens) word filled found other = commanding tokens (whole_value Int ∷ []) word refl filled found other
  statement_commands (Word key.Set ∷ tokens) word filled found other = absurd (is_no_set word found other)
  statement_commands (Word key.Kill ∷ tokens) word filled found other = unset tokens (whole_value Ref ∷ []) refl filled
  statement_commands (Word key.Give ∷ tokens) word filled found other = unset tokens (whole_value Ref ∷ Given ∷ []) refl filled
  statement_commands (Word key.Take ∷ tokens) word filled found other = unset tokens (whole_value Ref ∷ Named ∷ []) refl filled
  statement_commands (Word key.Send ∷ tokens) word filled found other = unset tokens (whole_value Ref ∷ Sent ∷ []) refl filled
  statement_commands (Word key.Add ∷ tokens) word filled found other = unset tokens (whole_value Ref ∷ Raised ∷ []) refl filled
  statement_commands (Word key.Spawn ∷ tokens) word filled found other = unset tokens [] refl filled
  statement_commands (Word key.Bear ∷ tokens) word filled found other = unset tokens (Given ∷ []) refl filled
  statement_commands (_ ∷ tokens) word filled found other = absurd (false≢true filled)

-- ---- ready statements

pub ready_shallow : (access : Access) (tokens : List Token) → ∥ IsReady access tokens ∥₁ → IsShallow (untested tokens)
ready_shallow access tokens ready s rows n = record {
  values = ∥∥₁_elim ready le_prop (λ (r : IsReady access tokens). (statement_shallow r.decls r.declared access s rows tokens n r.is).values);
  pools = ∥∥₁_elim ready le_prop (λ (r : IsReady access tokens). (statement_shallow r.decls r.declared access s rows tokens n r.is).pools);
  fields = ∥∥₁_elim ready le_prop (λ (r : IsReady access tokens). (statement_shallow r.decls r.declared access s rows tokens n r.is).fields);
}

pub ready_commands : (access : Access) (tokens : List Token) (s : Setting) (word : Keyword) → ∥ IsReady access tokens ∥₁ → deed_of (untested tokens) ≡ Some word → is_set_word word ≡ false → is_command tokens ≡ true
ready_commands access tokens s word ready found other =
    ∥∥₁_elim ready (Bool-set _ _) (λ (r : IsReady access tokens). ap not (statement_commands r.decls r.declared access s [] tokens word r.is found other))

module _ (access : Access) (statements : List (List Token)) (ready : ∥ AreReady access statements ∥₁) where
  pub ready_apart : IsTrue (are_distinct (own_pools access))
  ready_apart = ∥∥₁_elim ready (Bool-set _ _) (λ (r : AreReady access statements). r.apart)

  pub ready_at : (n : ℕ) (tokens : List Token) → n < length statements → tokens ≡ get_or statements n tokens → ∥ IsReady access tokens ∥₁
  ready_at n tokens within is = ∥∥₁_map ready (λ (r : AreReady access statements). record {
    decls = r.decls;
    declared = r.declared;
    is = all_at (λ ts. is_statement r.decls access ts ≡ true) statements n tokens r.each (slice_get-get_or statements n tokens within ∙ ap Some (sym is));
  })

-- what is emitted where only commands emit
pub few_either : (set command : Bool) (new old count : ℕ) → (set ≡ false → command ≡ true) → new ≤ old + (if set then 0 else count) → new ≤ old + (if command then count else 0)
few_either set true new old count commands few = split set few
  where
    split : (set : Bool) → new ≤ old + (if set then 0 else count) → new ≤ old + count
    split true few = omega (arith, few)
    split false few = few
few_either true false new old count commands few = few
few_either false false new old count commands few = absurd (false≢true (commands refl))
