-- The lists of a system behind each of its lines: each names declared components and none twice, and none names what another bars.
use Rattle.std.proofs.Common.{◌≡◌, inl, inr, ℕ, ◌+◌, ◌<◌, ◌≤◌, true, eqb, leb, ltb, not, List, [], ◌++◌, length, length-append, refl, sym, ◌∙◌, arith}
use Rattle.std.specs.List.{list_any}
use Rattle.std.proofs.lemmas.Bool.{and_parts, and_from, leb-true, not-true, or_cases}
use Rattle.std.proofs.lemmas.List.Folds.{list_all-append, list_any-append}
use Rattle.world_model.specs.declared.access.Access.{Access}
use Rattle.world_model.specs.declared.component.Decl.{Decl}
use Rattle.world_model.specs.Groups.{has_pool, are_declared, are_distinct}
use Rattle.row_lang.specs.declared.access_list.AccessList.{AccessList}
use Rattle.row_lang.specs.declared.access_list.AccessList.TheVariants as list
use Rattle.row_lang.specs.declared.part.Part.{Part}
use Rattle.row_lang.specs.declared.part.Part.TheVariants as part
use Rattle.world_model.specs.Frames.{IsLawfulAccess, own_pools}
use Rattle.row_lang.specs.Systems.{Draft, ascending, barred, is_between, listed, may_do_behind, may_list_behind, order, part_of, with_list}
use Rattle.row_lang.proofs.CanonicalLemmas.{IsOrdered, before_list}
use Rattle.row_lang.proofs.ListLineLemmas.{IsAdmissible}
use Rattle.row_lang.proofs.ListedLemmas.{AreApart, apart_none, apart_of_none, declared-ascending, distinct-ascending, distinct-join, few-ascending, has-ascending, some-ascending}
use Rattle.row_lang.proofs.LocalLemmas.{named_before, named_behind}

-- a list of declared components, none named twice
pub record IsList (count : ℕ) (pools : List ℕ) : Type 0 where
  pub declared : are_declared count pools ≡ true
  pub distinct : are_distinct pools ≡ true

-- lists as they are behind lines that have reached a part
pub record AreListsBehind (count : ℕ) (behind : Part) (access : Access) : Type 0 where
  pub read : IsList count access.read
  pub write : IsList count access.write
  pub look : IsList count access.look
  pub without : IsList count access.without
  pub read_write : AreApart access.read access.write
  pub read_without : AreApart access.read access.without
  pub write_without : AreApart access.write access.without
  pub write_look : AreApart access.write access.look
  pub few : listed access ≤ 16
  pub some : 0 < order behind → 0 < length (own_pools access)

-- what is known of the components that a list's line adds, in ascending number
pub record IsAdded (count : ℕ) (behind : Part) (access : Access) (of : AccessList) (pools : List ℕ) : Type 0 where
  pub list : IsList count pools
  pub some : 0 < length pools
  pub apart : AreApart pools (barred access of)
  pub few : listed access + length pools ≤ 16
  pub low : order behind < order (part_of of)
  pub may : may_list_behind behind of ≡ true

pub low_behind : (first last behind : Part) → is_between first last behind ≡ true → (order first ≤ order behind) × (order behind ≤ order last)
low_behind first last behind h =
    let parts = and_parts (leb (order first) (order behind)) (leb (order behind) (order last)) h in
    (leb-true (order first) (order behind) parts.0, leb-true (order behind) (order last) parts.1)

pub added : (decls : List Decl) (draft : Draft) (of : AccessList) (pools : List ℕ) → IsAdmissible decls draft of pools → IsAdded (length decls) draft.part draft.system.access of (ascending (length decls) pools)
added decls draft of pools h =
    let room = and_parts (not (list_any (has_pool (barred draft.system.access of)) pools)) (leb (listed draft.system.access + length pools) 16) h.room in
    let none = not-true (list_any (has_pool (barred draft.system.access of)) pools) room.0 in
    record {
      list = record { declared = declared-ascending (length decls) pools; distinct = distinct-ascending (length decls) pools h.declared };
      some = some-ascending (length decls) pools h.declared h.some;
      apart = λ pool has. apart_of_none pools (barred draft.system.access of) none pool (has-ascending (length decls) pools h.declared pool has);
      few = omega (arith, leb-true (listed draft.system.access + length pools) 16 room.1, few-ascending (length decls) pools h.declared);
      low = before_list draft.part of h.behind;
      may = h.behind;
    }

some_own : (read write : List ℕ) → 0 < length read + length write → 0 < length (read ++ write)
some_own read write some = omega (arith, length-append read write, some)

-- the lists with one more
pub lists_with : (count : ℕ) (draft : Draft) (of : AccessList) (pools : List ℕ) → IsOrdered draft → AreListsBehind count draft.part draft.system.access → IsAdded count draft.part draft.system.access of pools → AreListsBehind count (part_of of) (with_list draft.system.access of pools)
lists_with count draft list.Read pools ordered h is = record {
  read = is.list;
  write = h.write;
  look = h.look;
  without = h.without;
  read_write = apart_none pools draft.system.access.write (ordered.write (omega (arith, is.low)));
  read_without = apart_none pools draft.system.access.without (ordered.without (omega (arith, is.low)));
  write_without = h.write_without;
  write_look = h.write_look;
  few = omega (arith, is.few);
  some = λ _. some_own pools draft.system.access.write (omega (arith, is.some));
}
lists_with count draft list.Write pools ordered h is = record {
  read = h.read;
  write = is.list;
  look = h.look;
  without = h.without;
  read_write = λ pool has other. is.apart pool other has;
  read_without = h.read_without;
  write_without = apart_none pools draft.system.access.without (ordered.without (omega (arith, is.low)));
  write_look = apart_none pools draft.system.access.look (ordered.look (omega (arith, is.low)));
  few = omega (arith, is.few);
  some = λ _. some_own draft.system.access.read pools (omega (arith, is.some));
}
lists_with count draft list.Look pools ordered h is = record {
  read = h.read;
  write = h.write;
  look = is.list;
  without = h.without;
  read_write = h.read_write;
  read_without = h.read_without;
  write_without = h.write_without;
  write_look = λ pool has other. is.apart pool other has;
  few = omega (arith, is.few);
  some = λ _. h.some (omega (arith, (low_behind part.Read part.Write draft.part is.may).0));
}
lists_with count draft list.Without pools ordered h is = record {
  read = h.read;
  write = h.write;
  look = h.look;
  without = is.list;
  read_write = h.read_write;
  write_look = h.write_look;
  read_without = λ pool has other. is.apart pool other (named_before draft.system.access.read draft.system.access.write pool has);
  write_without = λ pool has other. is.apart pool other (named_behind draft.system.access.read draft.system.access.write pool has);
  few = omega (arith, is.few);
  some = λ _. h.some (omega (arith, (low_behind part.Read part.Look draft.part is.may).0));
}

-- past the lists they stay, and one is read or written
pub lists_past : (count : ℕ) (behind past : Part) (access : Access) → AreListsBehind count behind access → may_do_behind behind ≡ true → 4 < order past → AreListsBehind count past access
lists_past count behind past access h may high = record {
  read = h.read;
  write = h.write;
  look = h.look;
  without = h.without;
  read_write = h.read_write;
  read_without = h.read_without;
  write_without = h.write_without;
  write_look = h.write_look;
  few = h.few;
  some = λ _. h.some (omega (arith, (low_behind part.Read part.Do behind may).0));
}

-- and they are lawful
pub lawful_lists : (count : ℕ) (behind : Part) (access : Access) → AreListsBehind count behind access → 0 < order behind → IsLawfulAccess count access
lawful_lists count behind access h some = record {
  declared = joined (own_pools access ++ access.look) access.without
      (joined (own_pools access) access.look (joined access.read access.write h.read.declared h.write.declared) h.look.declared)
      h.without.declared;
  few = omega (
    arith,
    h.few,
    length-append (own_pools access ++ access.look) access.without,
    length-append (own_pools access) access.look,
    length-append access.read access.write,
  );
  some = h.some some;
  apart = distinct-join (own_pools access) access.without
      (distinct-join access.read access.write h.read.distinct h.write.distinct h.read_write)
      h.without.distinct
      (λ pool has other. elim (or_cases (has_pool access.read pool) (has_pool access.write pool) (sym (list_any-append (λ o. eqb o pool) access.read access.write) ∙ has)) [
        | inl read ↦ h.read_without pool read other
        | inr write ↦ h.write_without pool write other
      ]);
  looked_at = distinct-join access.write access.look h.write.distinct h.look.distinct h.write_look;
}
  where
    joined : (pools more : List ℕ) → are_declared count pools ≡ true → are_declared count more ≡ true → are_declared count (pools ++ more) ≡ true
    joined pools more one two = list_all-append (λ pool. ltb pool count) pools more ∙ and_from (are_declared count pools) (are_declared count more) one two

-- no list, before any line of one
pub no_lists : (count : ℕ) → AreListsBehind count part.Begun (record { read = []; write = []; look = []; without = [] })
no_lists count = record {
  read = none;
  write = none;
  look = none;
  without = none;
  read_write = apart_none [] [] refl;
  read_without = apart_none [] [] refl;
  write_without = apart_none [] [] refl;
  write_look = apart_none [] [] refl;
  few = omega arith;
  some = λ high. absurd (omega (arith, high));
}
  where
    none : IsList count []
    none = record { declared = refl; distinct = refl }
