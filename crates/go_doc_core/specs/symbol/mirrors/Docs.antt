-- What the doc comments of a file are read from.
use Rattle.std.specs.Prelude.{◌≡◌, ◌<◌, ℕ, List, Ok, Some, All, AllPairs, length, map, slice_get}
use Rattle.go_tree_nodes.specs.token_core.declared.token.Comment.{Comment}
use Rattle.go_scan_core.specs.Texts.{CommentHasItsText}
use Rattle.go_scan_core.specs.Tokens.{CommentsInOrder}
use Rattle.go_doc_core.specs.DocComments.{IsDocComment}
use Rattle.go_tree_nodes.specs.Trees.{FileTree}
use Rattle.go_block_core.specs.decl_core.Anchors.{anchors_of}
use Rattle.go_block_core.specs.decl_core.Shown.{decl_shown}
use Rattle.go_block_core.specs.decl_core.TopDecls.{TopDeclTree, top_decls}
use Rattle.go_block_core.specs.decl_core.declared.anchoring.Anchor.{Anchor}
use Rattle.go_block_core.specs.decl_core.declared.keys.DeclRef.{DeclRef}
use Rattle.go_block_core.specs.graph_core.Sources.{SourceModel}
use Rattle.go_doc_core.specs.declared.symbol.docs.FileDocs.{FileDocs}
use Rattle.go_doc_core.specs.symbol.Symbols.{SymbolOf, comments_found}

pub record DocsOf : Type 0 where
  pub file : ℕ
  pub text : List ℕ
  pub decls : List TopDeclTree
  pub anchors : List Anchor
  pub comments : List Comment

abbrev pub docs_shown : FileDocs → DocsOf
docs_shown d = record { file = d.file; text = d.text.now; decls = map decl_shown d.outline.decls.items; anchors = d.anchors.items; comments = d.comments.items }

-- these are those of a file
pub record AreDocsOf (files : List SourceModel) (d : DocsOf) : Type 0 where
  pub source : SourceModel
  pub in_files : slice_get files d.file ≡ Some source
  pub tree : FileTree
  pub content : source.content ≡ Ok tree
  pub text : d.text ≡ source.text
  pub decls : d.decls ≡ top_decls tree
  pub anchors : d.anchors ≡ anchors_of tree
  pub comments : d.comments ≡ comments_found source.text
  pub order : CommentsInOrder 0 d.comments (length d.text)
  pub texts : All (CommentHasItsText d.text) d.comments

-- declarations stand in order of number
abbrev pub AreRising : List TopDeclTree → Type 0
AreRising ds = AllPairs (λ d e. d.number < e.number) ds

-- the declaration at a place has this number
abbrev pub HasNumberAt : List TopDeclTree → ℕ → ℕ → Type 0
HasNumberAt ds place number = (d : TopDeclTree) × (slice_get ds place ≡ Some d) × (d.number ≡ number)

abbrev pub HasNumber : List TopDeclTree → ℕ → Type 0
HasNumber ds number = (place : ℕ) × HasNumberAt ds place number

-- a declaration of the file, with its doc comment
pub record IsShownIn (d : DocsOf) (decl : DeclRef) (s : SymbolOf) : Type 0 where
  pub place : ℕ
  pub there : TopDeclTree
  pub at : slice_get d.decls place ≡ Some there
  pub numbered : there.number ≡ decl.number
  pub name : s.name ≡ there.ident.name
  pub kind : s.kind ≡ decl.kind
  pub anchor : Anchor
  pub anchored : slice_get d.anchors place ≡ Some anchor
  pub comment : IsDocComment d.text d.comments anchor.at anchor.behind s.doc

-- a name's declaration stands in its file, under that name
pub record IsDeclaredIn (files : List SourceModel) (e : List ℕ × DeclRef) : Type 0 where
  pub source : SourceModel
  pub in_files : slice_get files e.1.file ≡ Some source
  pub tree : FileTree
  pub content : source.content ≡ Ok tree
  pub place : ℕ
  pub decl : TopDeclTree
  pub there : slice_get (top_decls tree) place ≡ Some decl
  pub numbered : decl.number ≡ e.1.number
  pub named : decl.ident.name ≡ e.0

abbrev pub AreDeclaredIn : List SourceModel → List (List ℕ × DeclRef) → Type 0
AreDeclaredIn files names = All (IsDeclaredIn files) names
