-- Components that their names tell apart: a line that fits keeps them so.
use Rattle.std.proofs.Common.{◌≡◌, ◌<◌, true, false, not, ◌&&◌, ltb, List, [], ◌∷◌, ◌++◌, length, refl, subst, arith}
use Rattle.std.specs.Prelude.{nat_lt}
use Rattle.std.specs.List.{flat_map, list_any}
use Rattle.std.proofs.lemmas.List.{length-append}
use Rattle.std.proofs.lemmas.Bool.{and_parts, ltb-true, not-true}
use Rattle.entity_id.proofs.ListLemmas.{all-append}
use Rattle.world_model.specs.declared.component.Decl.{Decl}
use Rattle.world_model.specs.Components.{has_name}
use Rattle.row_lang.specs.Naming.{IsNamedDecl, AreNamedDecls}
use Rattle.row_lang.proofs.NameLemmas.{apart_push}
use Rattle.world_text.specs.declared.format.Format.{Format}
use Rattle.world_text.specs.LineKinds.{Line}
use Rattle.world_text.specs.LineKinds as line
use Rattle.world_text.specs.Lines.{IsLine}
use Rattle.world_text.specs.Meaning.{decl_in}
use Rattle.world_text.specs.Fitting.{fits}
use Rattle.world_text.proofs.MeaningLemmas.{keeps, gains}

pub none_named : AreNamedDecls []
none_named = record { few = omega arith; each = tt; apart = refl }

-- a component more, of a new name
pub named_with : (decls : List Decl) (decl : Decl) → IsNamedDecl decl → length decls < 64 → list_any (has_name decl.name) decls ≡ false → AreNamedDecls decls → AreNamedDecls (decls ++ decl ∷ [])
named_with decls decl is room is_new named = record {
  few = omega (arith, length-append decls (decl ∷ []));
  each = all-append IsNamedDecl decls (decl ∷ []) named.each (is, tt);
  apart = apart_push decls decl named.apart is_new;
}

one_more : (decls : List Decl) (decl : Decl) → IsNamedDecl decl → (nat_lt (length decls) 64 && not (list_any (has_name decl.name) decls)) ≡ true → AreNamedDecls decls → AreNamedDecls (decls ++ decl ∷ [])
one_more decls decl is fit named =
    let tests = and_parts (ltb (length decls) 64) (not (list_any (has_name decl.name) decls)) fit in
    named_with decls decl is (ltb-true _ _ tests.0) (not-true _ tests.1) named

same_decls : (before : List Line) (l : Line) → decl_in l ≡ [] → AreNamedDecls (flat_map decl_in before) → AreNamedDecls (flat_map decl_in (before ++ l ∷ []))
same_decls before l none named = subst AreNamedDecls (keeps decl_in before l _ none refl) named

pub named_push : (format : Format) (before : List Line) (l : Line) → IsLine format l → fits format before l ≡ true → AreNamedDecls (flat_map decl_in before) → AreNamedDecls (flat_map decl_in (before ++ l ∷ []))
named_push format before (line.Component decl) is fit named =
    subst AreNamedDecls (gains decl_in before (line.Component decl) _ refl) (one_more (flat_map decl_in before) decl is (and_parts _ _ fit).1 named)
named_push format before line.End is fit named = same_decls before line.End refl named
named_push format before l is fit named = same_decls before l refl named
