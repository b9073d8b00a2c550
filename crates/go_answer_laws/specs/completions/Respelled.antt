-- A name that is put in place of an identifier: in a file, and in the package that a part is made of.
--
-- docs/RULES.md, "Occurrences".
use Rattle.std.specs.Prelude.{◌≡◌, ℕ, Bool, true, false, List, [], ◌∷◌, ◌++◌, length, slice_get, Option, Some, None}
use Rattle.go_site_core.specs.text_core.Text.{is_blank}
use Rattle.go_graph_core.specs.Packages.{Trees, trees_of}
use Rattle.go_graph_core.specs.Sources.{SourceModel}
use Rattle.go_tree_nodes.specs.declared.names.Ident.{Ident}
use Rattle.go_tree_nodes.specs.Rules.{Wf_file}
use Rattle.go_tree_nodes.specs.Spelling.{IsPlaced}
use Rattle.go_tree_nodes.specs.Trees.{FileTree}
use Rattle.go_tree_core.specs.copies.Respelled.{respelled_file}
use Rattle.go_tree_core.specs.declared.occurrence.Occ.{Occ}
use Rattle.go_tree_core.specs.Occurrences.{is_identifier, file_occs}
use Rattle.go_query_core.specs.candidate_core.ContextLaws.{is_declared}
use Rattle.go_query_core.specs.complete_core.SpellingFiles.{with_decls}
use Rattle.go_query_core.specs.complete_core.SpellingSpellings.{RespellsTops}
use Rattle.go_query_core.specs.body_core.Notes.{TheUse}
use Rattle.go_query_core.specs.package_core.PackagePartInputs.{InputModel, input_with, path_in}
use Rattle.go_query_core.specs.package_core.PackagePartParts.{ContentOf, FileOf}

-- the identifier that an occurrence is
abbrev pub ident_of : Occ → Ident
ident_of o = record { name = o.spelling; span = o.span }

-- the file with a name in place of the identifier of an occurrence; each span stays, and all else
abbrev pub put_in_place : List ℕ → Occ → FileTree → FileTree
put_in_place name o f = respelled_file o.span.start name f

-- the second file is the first with a name in place of the identifier of an occurrence, in the one place of its declarations where it stands
pub record IsPutInPlace (name : List ℕ) (o : Occ) (f g : FileTree) : Type 0 where
  pub respells : RespellsTops (ident_of o) name f.decls g.decls
  pub rest : g ≡ with_decls f g.decls

-- the occurrence of a number of a file of the grammar, whose tokens follow one another, is an identifier; and a name that is not `_` may be put in
-- its place
pub record MayBePut (name : List ℕ) (f : FileTree) (k : ℕ) (o : Occ) : Type 0 where
  pub well : Wf_file f
  pub follows : IsPlaced f
  pub there : slice_get (file_occs f) k ≡ Some o
  pub identifier : is_identifier o.role ≡ true
  pub plain : is_blank name ≡ false

-- files of a package, of which that of a number among those with a tree, in order of name from 0, has another tree
pub record HaveOtherTree (n : ℕ) (f g : FileTree) (before after : List SourceModel) : Type 0 where
  pub front : Trees
  pub back : Trees
  pub file : List ℕ
  pub number : n ≡ length front
  pub old : trees_of before ≡ front ++ (file, f) ∷ back
  pub new : trees_of after ≡ front ++ (file, g) ∷ back

-- an input with other files: what their imports come to, and what the packages tell that it reaches, is as it was
abbrev pub with_files : InputModel → List SourceModel → InputModel
with_files i files = input_with (path_in i, files) i.imports i.reached

-- whether what a part answers for the occurrence of a number, of the file of a number, is a declaration

abbrev pub uses_of : Option FileOf → List TheUse
uses_of None = []
uses_of (Some m) = m.answers.uses

abbrev pub use_declared : Option TheUse → Bool
use_declared None = false
use_declared (Some u) = is_declared u.outcome

abbrev pub is_declared_at : ContentOf → ℕ → ℕ → Bool
is_declared_at c n k = use_declared (slice_get (uses_of (slice_get c.files n)) k)
