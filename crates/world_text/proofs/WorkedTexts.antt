-- Worked texts: documents of their worlds, texts and their first bad lines, and numbers at their limits.
use Rattle.std.proofs.Common.{◌≡◌, ◌≢◌, ℕ, ◌+◌, false, true, List, [], ◌∷◌, ◌++◌, length, codes, refl, sym, subst, ap, arith, length-append}
use Rattle.std.proofs.lemmas.List.{append-nil}
use Rattle.std.specs.Fmt.{digits}
use Rattle.entity_id.specs.declared.entity.Entity.{Entity}
use Rattle.entity_id.specs.Identifiers.{p20_12, null}
use Rattle.entity_id.proofs.CutLemmas.{same_cut}
use Rattle.world_model.specs.declared.component.Decl.{Decl}
use Rattle.world_model.specs.declared.component.Kind.TheVariants as kind
use Rattle.world_text.specs.FieldValues as value
use Rattle.world_text.specs.LineKinds.{Line}
use Rattle.world_text.specs.LineKinds as line
use Rattle.world_text.specs.declared.section.Section.TheVariants as section
use Rattle.world_text.specs.Formats.{version_1}
use Rattle.row_lang.specs.Naming.{IsNamedDecl}
use Rattle.world_text.specs.Lines.{IsLine, IsValue, line_text, text_of}
use Rattle.world_text.specs.Meaning.{world_of}
use Rattle.world_text.specs.Fitting.{last_section, fits}
use Rattle.world_text.specs.Documents.{AreAdmissible, IsBadLine, IsDocument}
use Rattle.world_text.proofs.LawfulLemmas.{version_1_is_format}
use Rattle.world_text.specs.Drafts.{IsNoBody}
use Rattle.world_text.specs.Sections.{is_between}
use Rattle.std.proofs.lemmas.Bool.{and_left}
use Rattle.world_text.proofs.LineLemmas.{line_lacks, same_line_text}

-- ---- what makes a line the first bad one

-- where no line of a system may stand, no line of the text of one that is refused fits
no_other : (lines : List Line) (l m : Line) → IsLine version_1 l → IsLine version_1 m → IsNoBody l → is_between section.Systems section.Systems (last_section lines) ≡ false → fits version_1 lines l ≡ false → line_text version_1 l ≡ line_text version_1 m → fits version_1 lines m ≡ false
no_other lines l (line.Body names body) is is_m no_body no_system refused e = and_left _ _ no_system
no_other lines l line.End is is_m no_body no_system refused e = subst (λ k. fits version_1 lines k ≡ false) (same_line_text version_1 l line.End version_1_is_format no_body tt is is_m e) refused
no_other lines l m is is_m no_body no_system refused e = subst (λ k. fits version_1 lines k ≡ false) (same_line_text version_1 l m version_1_is_format no_body tt is is_m e) refused

-- a line that has a spelling and is refused after admissible ones, none of which stands among the systems
pub first_bad : (lines : List Line) (l : Line) (more : List ℕ) → AreAdmissible version_1 lines → IsLine version_1 l → IsNoBody l → fits version_1 lines l ≡ false → is_between section.Systems section.Systems (last_section lines) ≡ false → IsBadLine (text_of version_1 lines ++ (line_text version_1 l ++ 10 ∷ more)) (length lines + 1)
first_bad lines l more admissible is no_body refused no_system =
    record {
      lines = lines;
      rest = line_text version_1 l ++ 10 ∷ more;
      counted = refl;
      admissible = admissible;
      spelled = refl;
      no_line = λ m after is_m e.
          let cut = same_cut 10 (line_text version_1 l) (line_text version_1 m) more after (line_lacks version_1 l version_1_is_format is) (line_lacks version_1 m version_1_is_format is_m) e in
          no_other lines l m is is_m no_body no_system refused cut.0;
      no_end = λ e. absurd (omega (arith, ap length e, length-append (line_text version_1 l) (10 ∷ more)));
    }

-- a line that is missing after admissible ones
pub missing : (lines : List Line) → AreAdmissible version_1 lines → last_section lines ≢ section.End → IsBadLine (text_of version_1 lines) (length lines + 1)
missing lines admissible open_end =
    record {
      lines = lines;
      rest = [];
      counted = refl;
      admissible = admissible;
      spelled = sym (append-nil (text_of version_1 lines));
      no_line = λ m after is_m e. absurd (omega (arith, ap length e, length-append (line_text version_1 m) (10 ∷ after)));
      no_end = λ _. open_end;
    }

-- ---- texts

abbrev id : ℕ → ℕ → Entity
id index version = record { index = index; version = version }

abbrev tag : Decl
tag = record { name = codes "a"; count = 0; kinds = kind.Int ∷ kind.Int ∷ kind.Int ∷ kind.Int ∷ [] }

tag_is_named : IsNamedDecl tag
tag_is_named = record { name = refl; fields = record { few = omega arith; long = refl; padded = refl } }

abbrev free : Line
free = line.Slot (record { version = 0; live = false })

pub the_smallest_document : IsDocument (codes "world 1\ntick 0\nend\n") (record { world = world_of version_1 (line.Version ∷ line.Tick 0 ∷ line.End ∷ []); systems = [] })
unfolding digits
the_smallest_document =
    record {
      lines = line.Version ∷ line.Tick 0 ∷ line.End ∷ [];
      admissible = record { each = (tt, (omega arith, (tt, tt))); fit = refl };
      ended = refl;
      spelled = refl;
      world_is = refl;
      systems_are = refl;
    }

pub of_no_bytes_line_1_is_missing : IsBadLine [] 1
of_no_bytes_line_1_is_missing = missing [] (record { each = tt; fit = refl }) (λ e. cc)

pub without_an_end_line_3_is_missing : IsBadLine (codes "world 1\ntick 0\n") 3
unfolding digits
without_an_end_line_3_is_missing = missing (line.Version ∷ line.Tick 0 ∷ []) (record { each = (tt, (omega arith, tt)); fit = refl }) (λ e. cc)

pub an_end_before_a_free_slot_is_named_is_line_4 : IsBadLine (codes "world 1\ntick 0\nfree 0\nend\n") 4
unfolding digits
an_end_before_a_free_slot_is_named_is_line_4 =
    first_bad (line.Version ∷ line.Tick 0 ∷ free ∷ []) line.End [] (record { each = (tt, (omega arith, (omega arith, tt))); fit = refl }) tt tt refl refl

pub a_second_end_is_line_4 : IsBadLine (codes "world 1\ntick 0\nend\nend\n") 4
unfolding digits
a_second_end_is_line_4 =
    first_bad (line.Version ∷ line.Tick 0 ∷ line.End ∷ []) line.End [] (record { each = (tt, (omega arith, (tt, tt))); fit = refl }) tt tt refl refl

pub a_second_next_of_one_slot_is_line_6 : IsBadLine (codes "world 1\ntick 0\nfree 0\nfree 0\nnext 1\nnext 1\nend\n") 6
unfolding digits
a_second_next_of_one_slot_is_line_6 =
    first_bad (line.Version ∷ line.Tick 0 ∷ free ∷ free ∷ line.Next 1 ∷ []) (line.Next 1) (codes "end\n") (record { each = (tt, (omega arith, (omega arith, (omega arith, (omega arith, tt))))); fit = refl }) (omega arith) tt refl refl

pub a_row_of_a_free_slot_is_line_7 : IsBadLine (codes "world 1\ncomponent a\ntick 0\nfree 0\nnext 0\npool a\nrow 0:0\nend\n") 7
unfolding digits
a_row_of_a_free_slot_is_line_7 =
    first_bad (line.Version ∷ line.Component tag ∷ line.Tick 0 ∷ free ∷ line.Next 0 ∷ line.Pool (codes "a") ∷ []) (line.Row (id 0 0) []) (codes "end\n") (record { each = (tt, (tag_is_named, (omega arith, (omega arith, (omega arith, (refl, tt)))))); fit = refl }) (record { of_profile = record { index = omega arith; version = omega arith }; few = omega arith; each = tt }) tt refl refl

-- ---- numbers at their limits

pub the_greatest_tick_has_a_spelling : IsLine version_1 (line.Tick 1000000000000)
the_greatest_tick_has_a_spelling = omega arith

pub a_greater_tick_has_none : IsLine version_1 (line.Tick 1000000000001) → ⊥
a_greater_tick_has_none h = omega (arith, h)

pub the_greatest_version_has_a_spelling : IsLine version_1 (line.Slot (record { version = 4094; live = true }))
the_greatest_version_has_a_spelling = omega arith

pub a_greater_version_has_none : IsLine version_1 (line.Slot (record { version = 4095; live = true })) → ⊥
a_greater_version_has_none h = omega (arith, h)

pub the_greatest_index_has_a_spelling : IsLine version_1 (line.Next 1048574)
the_greatest_index_has_a_spelling = omega arith

pub a_greater_index_has_none : IsLine version_1 (line.Next 1048575) → ⊥
a_greater_index_has_none h = omega (arith, h)

pub null_is_a_value : IsValue p20_12 (value.Ref (null p20_12))
null_is_a_value = refl

pub a_value_below_the_limits_is_one : IsValue p20_12 (value.Ref (id 1048574 4094))
a_value_below_the_limits_is_one = refl

pub a_value_of_the_index_limit_is_none : IsValue p20_12 (value.Ref (id 1048575 4094)) → ⊥
a_value_of_the_index_limit_is_none h = cc

pub a_value_of_the_version_limit_is_none : IsValue p20_12 (value.Ref (id 1048574 4095)) → ⊥
a_value_of_the_version_limit_is_none h = cc
