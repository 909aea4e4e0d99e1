-- Owning groups in a line: what stands behind the word `group`, in a document and in a script.
use Rattle.std.specs.Prelude.{◌≡◌, ℕ, ◌<◌, ◌≤◌, List, ◌∷◌, ◌++◌, length, codes, IsPermutation}
use Rattle.world_model.specs.declared.component.Decl.{Decl}
use Rattle.world_model.specs.declared.group.GroupDecl.{GroupDecl}
use Rattle.world_text.specs.Documents.{named_of}
use Rattle.row_lang.specs.Spelling.{line_limit}
use Rattle.world_text.specs.Lines.{lists_text}
use Rattle.row_lang.specs.NameLists.{AreKept, AreNamedOnce}

-- a group whose components are named in the order in which it lists them: behind `own` those that it owns, behind `get` those that it
-- observes, behind `not` those that it excludes; either of the last two parts is left out where it lists nothing
abbrev pub group_text : List Decl → GroupDecl → List ℕ
group_text decls group = lists_text (named_of decls group)

-- components that one list of a group may name: each is one that its name tells, in ascending number, none twice
pub record IsGroupList (decls : List Decl) (pools : List ℕ) : Type 0 where
  pub kept : AreKept decls pools
  pub once : AreNamedOnce pools

-- the groups that a line can have: one that owns a component or more, none twice in a list; a component may stand in two of the lists. Three
-- lists of 64 names of 32 bytes would make a line of 6,353 bytes, so that the limit of bytes is one here, as for no other line
pub record IsGroupLine (decls : List Decl) (group : GroupDecl) : Type 0 where
  pub some : 0 < length group.own
  pub own : IsGroupList decls group.own
  pub get : IsGroupList decls group.get
  pub without : IsGroupList decls group.without
  pub short : length (codes "group" ++ group_text decls group) ≤ line_limit

-- a group as a line may write it: the components of each list in any order
pub record IsGroupWrittenAs (group written : GroupDecl) : Type 0 where
  pub own : IsPermutation written.own group.own
  pub get : IsPermutation written.get group.get
  pub without : IsPermutation written.without group.without

-- a text begins with what stands behind the word `group`, up to the end of its line, a line feed (10), and this is the rest
pub record IsGroupFirst (decls : List Decl) (text : List ℕ) (group : GroupDecl) (rest : List ℕ) : Type 0 where
  pub is : IsGroupLine decls group
  pub written : GroupDecl
  pub same : IsGroupWrittenAs group written
  pub spelled : text ≡ group_text decls written ++ 10 ∷ rest
