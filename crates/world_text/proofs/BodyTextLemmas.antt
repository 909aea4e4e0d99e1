-- The text of a line of a system has no line end in it; and the canonical lines of a system stand for it.
use Rattle.std.proofs.Common.{◌≡◌, ℕ, zero, suc, true, List, [], ◌∷◌, map, codes, refl, sym, subst, arith}
use Rattle.std.specs.List.{AllByRecursion}
use Rattle.std.proofs.lemmas.Bool.{both_ways}
use Rattle.entity_id.specs.Cuts.{Lacks}
use Rattle.entity_id.proofs.CutLemmas.{lacks_append, lacks_by_test}
use Rattle.world_model.specs.declared.component.Decl.{Decl}
use Rattle.world_model.specs.declared.tokens.FieldAt.{FieldAt}
use Rattle.world_model.specs.Names.{is_name}
use Rattle.row_lang.specs.declared.access_list.AccessList.{AccessList}
use Rattle.row_lang.specs.declared.access_list.AccessList.TheVariants as list
use Rattle.row_lang.specs.declared.token.Token.{Token}
use Rattle.row_lang.specs.declared.token.Token.TheVariants.{Word, Number, Own, Pool, Field}
use Rattle.row_lang.specs.BodyLines.{BodyLine, Lists, Do, Close}
use Rattle.row_lang.specs.NameLists.{spaced_names}
use Rattle.row_lang.specs.Naming.{IsNamedDecl, names_of}
use Rattle.row_lang.specs.Reading.{ends_name}
use Rattle.row_lang.specs.Spelling.{list_word, name_in, field_in, token_text, tokens_text, body_line_text}
use Rattle.row_lang.specs.Systems.{System, IsSystem, IsSystemOf, body_lines}
use Rattle.row_lang.proofs.CanonicalLemmas.{printed_system, system_name}
use Rattle.row_lang.proofs.FieldLemmas.{decimal_free, number_free}
use Rattle.row_lang.proofs.KeywordLemmas.{free_keyword}
use Rattle.row_lang.proofs.NameLemmas.{IsFree, name_free}

-- ---- no line end (10)

-- names of the form of names
abbrev pub AreNames : List (List ℕ) → Type 0
AreNames names = AllByRecursion (λ name. is_name name ≡ true) names

free_lacks : (text : List ℕ) → IsFree text → Lacks 10 text
free_lacks [] free = tt
free_lacks (byte ∷ text) free = ((λ is. both_ways (ends_name byte) free.0 (subst (λ (b : ℕ). ends_name b ≡ true) (sym is) refl)), free_lacks text free.1)

name_lacks : (names : List (List ℕ)) (pool : ℕ) → AreNames names → Lacks 10 (name_in names pool)
name_lacks [] pool named = tt
name_lacks (name ∷ names) zero named = free_lacks name (name_free name named.0)
name_lacks (name ∷ names) (suc pool) named = name_lacks names pool named.1

field_lacks : (names : List (List ℕ)) (at : FieldAt) → AreNames names → Lacks 10 (field_in names at)
field_lacks names at named = lacks_append 10 (name_in names at.pool) _ (name_lacks names at.pool named) (omega arith, free_lacks _ (decimal_free at.field))

token_lacks : (names : List (List ℕ)) (token : Token) → AreNames names → Lacks 10 (token_text names token)
token_lacks names (Word word) named = free_lacks _ (free_keyword word)
token_lacks names (Number z) named = free_lacks _ (number_free z)
token_lacks names (Own at) named = field_lacks names at named
token_lacks names (Pool pool) named = name_lacks names pool named
token_lacks names (Field at) named = field_lacks names at named

tokens_lack : (names : List (List ℕ)) (tokens : List Token) → AreNames names → Lacks 10 (tokens_text names tokens)
tokens_lack names [] named = tt
tokens_lack names (token ∷ tokens) named = lacks_append 10 (32 ∷ token_text names token) _ (omega arith, token_lacks names token named) (tokens_lack names tokens named)

pools_lack : (names : List (List ℕ)) (pools : List ℕ) → AreNames names → Lacks 10 (spaced_names (map (name_in names) pools))
pools_lack names [] named = tt
pools_lack names (pool ∷ pools) named = lacks_append 10 (32 ∷ name_in names pool) _ (omega arith, name_lacks names pool named) (pools_lack names pools named)

word_lacks : (of : AccessList) → Lacks 10 (list_word of)
word_lacks list.Read = lacks_by_test 10 (codes "read") refl
word_lacks list.Write = lacks_by_test 10 (codes "write") refl
word_lacks list.Look = lacks_by_test 10 (codes "look") refl
word_lacks list.Without = lacks_by_test 10 (codes "not") refl

pub body_lacks : (names : List (List ℕ)) (body : BodyLine) → AreNames names → Lacks 10 (body_line_text names body)
body_lacks names (Lists of pools) named = lacks_append 10 (list_word of) _ (word_lacks of) (pools_lack names pools named)
body_lacks names (Do tokens) named = lacks_append 10 (codes "do") _ (lacks_by_test 10 (codes "do") refl) (tokens_lack names tokens named)
body_lacks names Close named = lacks_by_test 10 (codes "end") refl

-- the names of components have the form of names
pub decls_names : (decls : List Decl) → AllByRecursion IsNamedDecl decls → AreNames (names_of decls)
decls_names [] each = tt
decls_names (decl ∷ decls) each = (each.0.name, decls_names decls each.1)

-- ---- canonical lines

pub canonical_lines : (decls : List Decl) (system : System) → IsSystem decls system → IsSystemOf decls system.name (body_lines system) system
canonical_lines decls system is =
    subst (λ (name : List ℕ). IsSystemOf decls name (body_lines system) system) (sym (system_name decls is.0 is.1 system is.2)) (printed_system decls is.0 is.1 system is.2)
