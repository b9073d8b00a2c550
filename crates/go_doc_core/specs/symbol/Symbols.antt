-- The names that a package declares, each with what it is and its doc comment.
--
-- The Go specification, "Declarations and scope"; "Go Doc Comments".
use Rattle.std.specs.Prelude.{◌≡◌, ℕ, List, [], Result, Ok, Err, Some, All, Contains, map, slice_get}
use Rattle.std.specs.List.Sorted.{IsStrictlySortedBy}
use Rattle.go_tree_nodes.specs.token_core.declared.token.Comment.{Comment}
use Rattle.go_tree_nodes.specs.token_core.declared.token.LexFault.{LexFault}
use Rattle.go_scan_core.specs.Cutting.{comments_of}
use Rattle.go_doc_core.specs.DocComments.{IsDocComment}
use Rattle.go_tree_nodes.specs.Trees.{FileTree}
use Rattle.go_block_core.specs.decl_core.Anchors.{anchors_of}
use Rattle.go_block_core.specs.decl_core.TopDecls.{TopDeclTree, top_decls}
use Rattle.go_block_core.specs.decl_core.declared.anchoring.Anchor.{Anchor}
use Rattle.go_block_core.specs.decl_core.declared.keys.DeclRef.{DeclRef}
use Rattle.go_block_core.specs.decl_core.declared.places.DeclKind.{DeclKind}
use Rattle.go_block_core.specs.graph_core.Sources.{SourceModel}
use Rattle.go_block_core.specs.graph_core.Workspaces.{by_bytes}
use Rattle.go_doc_core.specs.declared.symbol.symbols.Symbol.{Symbol}

-- a name, what it is, and its doc comment: empty where there is none
pub record SymbolOf : Type 0 where
  pub name : List ℕ
  pub kind : DeclKind
  pub doc : List ℕ

abbrev pub symbol_shown : Symbol → SymbolOf
symbol_shown s = record { name = s.name.now; kind = s.kind; doc = s.doc.now }

-- the comments of a text; none where it has a fault
abbrev pub if_read : Result (List Comment) LexFault → List Comment
if_read (Ok comments) = comments
if_read (Err fault) = []

abbrev pub comments_found : List ℕ → List Comment
comments_found text = if_read (comments_of text)

-- the doc comment of the declaration of a number among the identifiers that a file declares outside function bodies
pub record IsDocOf (source : SourceModel) (number : ℕ) (doc : List ℕ) : Type 0 where
  pub tree : FileTree
  pub content : source.content ≡ Ok tree
  pub place : ℕ
  pub decl : TopDeclTree
  pub declared_there : slice_get (top_decls tree) place ≡ Some decl
  pub numbered : decl.number ≡ number
  pub anchor : Anchor
  pub anchored : slice_get (anchors_of tree) place ≡ Some anchor
  pub comment : IsDocComment source.text (comments_found source.text) anchor.at anchor.behind doc

-- a name with its declaration is shown so
pub record IsSymbolOf (files : List SourceModel) (e : List ℕ × DeclRef) (s : SymbolOf) : Type 0 where
  pub name : s.name ≡ e.0
  pub kind : s.kind ≡ e.1.kind
  pub source : SourceModel
  pub in_files : slice_get files e.1.file ≡ Some source
  pub doc : IsDocOf source e.1.number s.doc

-- each of these names once, in byte order, and no other
pub record AreSymbols (files : List SourceModel) (names : List (List ℕ × DeclRef)) (symbols : List SymbolOf) : Type 0 where
  pub order : IsStrictlySortedBy by_bytes (map (λ s. s.name) symbols)
  pub each : All (λ e. (s : SymbolOf) × Contains symbols s × IsSymbolOf files e s) names
  pub only : All (λ s. (e : List ℕ × DeclRef) × Contains names e × IsSymbolOf files e s) symbols
