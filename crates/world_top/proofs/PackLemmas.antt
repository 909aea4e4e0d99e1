-- What `pack` prints, as `unpack` reads it.
use Rattle.std.proofs.Common.{◌↔◌, ℕ, List, sym, ap, subst, ◌∙◌}
use Rattle.snapshot.specs.Snapshots.{IsSnapshot}
use Rattle.snapshot.proofs.PackedLemmas.{packed_is_snapshot}
use Rattle.snapshot.proofs.UniqueLemmas.{one_document as one_unpacked}
use Rattle.world_text.specs.Documents.{text}
use Rattle.world_text.specs.Formats.{version_1}
use Rattle.world_text.proofs.LawfulLemmas.{document_is_lawful, version_1_is_format}
use Rattle.world_text.proofs.UniqueLemmas.{one_document}
use Rattle.world_top.specs.Output.{IsCanonical, IsPacked, IsUnpacked}

-- what `pack` prints is a snapshot of the document that the input is
packed_is_read : (input packed : List ℕ) (p : IsPacked input packed) → IsSnapshot packed p.document
packed_is_read input packed p =
    subst (λ (bytes : List ℕ). IsSnapshot bytes p.document) (sym p.printed)
    (packed_is_snapshot p.document (document_is_lawful version_1 input p.document version_1_is_format p.read))

pub packed_is_unpacked : (input packed bytes : List ℕ) → IsPacked input packed → (IsUnpacked packed bytes ↔ IsCanonical input bytes)
packed_is_unpacked input packed bytes p = (
  λ (u : IsUnpacked packed bytes). record {
    document = p.document;
    read = p.read;
    printed = u.printed ∙ ap text (one_unpacked packed u.document p.document u.read (packed_is_read input packed p));
  },
  λ (c : IsCanonical input bytes). record {
    document = p.document;
    read = packed_is_read input packed p;
    printed = c.printed ∙ ap text (one_document version_1 version_1_is_format input c.document p.document c.read p.read);
  },
)
