-- What the doc comments of files that are read once are read from.
use Rattle.std.specs.Prelude.{◌≡◌, ◌⊎◌, ℕ, List, [], ◌∷◌, Some, map, slice_get}
use Rattle.std.specs.Borrow.{Bor}
use Rattle.go_doc_core.specs.DocComments.{IsDocComment}
use Rattle.go_term_core.specs.decl_core.Shown.{decl_shown}
use Rattle.go_term_core.specs.decl_core.TopDecls.{TopDeclTree}
use Rattle.go_term_core.specs.decl_core.declared.anchoring.Anchor.{Anchor}
use Rattle.go_doc_core.specs.symbol.mirrors.Docs.{AreDocsOf, DocsOf, HasNumber}
use Rattle.go_package_core.specs.package_part.Parts.{PartModel}
use Rattle.go_snap_core.specs.Snapshots.{IsPartAt, SnapshotModel}
use Rattle.go_type_doc_core.specs.declared.reading.FileDocs.{FileDocs}

abbrev pub read_shown : FileDocs → DocsOf
read_shown d = record { file = d.file; text = d.text.now; decls = map decl_shown d.outline.decls.items; anchors = d.anchors.items; comments = d.comments.items }

-- the declaration of a number with its doc comment
pub record IsDocThere (d : DocsOf) (number : ℕ) (doc : List ℕ) : Type 0 where
  pub place : ℕ
  pub there : TopDeclTree
  pub at : slice_get d.decls place ≡ Some there
  pub numbered : there.number ≡ number
  pub anchor : Anchor
  pub anchored : slice_get d.anchors place ≡ Some anchor
  pub comment : IsDocComment d.text d.comments anchor.at anchor.behind doc

abbrev pub IsDocIn : DocsOf → ℕ → List ℕ → Type 0
IsDocIn d number doc = IsDocThere d number doc ⊎ ((HasNumber d.decls number → ⊥) × (doc ≡ []))

-- it is read from the file of a number in the package of a path
pub record IsRead (s : SnapshotModel) (path : List ℕ) (file : ℕ) (d : DocsOf) : Type 0 where
  pub of_part : PartModel
  pub in_workspace : IsPartAt s.sources s.parts path of_part
  pub docs : AreDocsOf of_part.input.source.1 d
  pub of_file : d.file ≡ file

-- files that are read, by their keys
abbrev pub Key : Type 0
Key = Bor (List ℕ) × ℕ

abbrev pub AreRead : SnapshotModel → List (Key × FileDocs) → Type 0
AreRead s [] = Unit {0}
AreRead s (e ∷ es) = IsRead s e.0.0.now e.0.1 (read_shown e.1) × AreRead s es
