-- The doc comments of methods.
--
-- "Go Doc Comments".
use Rattle.std.specs.Prelude.{◌≡◌, ◌⊎◌, ℕ, List, [], Option, Some, None, Ok, slice_get}
use Rattle.go_tree_nodes.specs.Trees.{FileTree}
use Rattle.go_term_core.specs.decl_core.TopDecls.{TopDeclTree, top_decls}
use Rattle.go_term_core.specs.decl_core.declared.keys.DeclRef.{DeclRef}
use Rattle.go_graph_core.specs.Sources.{SourceModel}
use Rattle.go_doc_core.specs.symbol.Symbols.{IsDocOf}
use Rattle.go_package_core.specs.package_part.Parts.{PartModel}
use Rattle.go_snap_core.specs.Snapshots.{IsPartAt, SnapshotModel}
use Rattle.go_query_core.specs.Defining.{HasNoPart}

-- none of the declarations of a file outside functions has a number
abbrev pub HasNoDecl : SourceModel → ℕ → Type 0
HasNoDecl source number = (tree : FileTree) (place : ℕ) (decl : TopDeclTree) → source.content ≡ Ok tree → slice_get (top_decls tree) place ≡ Some decl → decl.number ≡ number → ⊥

-- the doc comment of the declaration of a number; empty where there is none
abbrev pub IsSourceDoc : SourceModel → ℕ → List ℕ → Type 0
IsSourceDoc source number doc = IsDocOf source number doc ⊎ (HasNoDecl source number × (doc ≡ []))

-- the same of a declaration of the package of a part
abbrev pub IsPartDoc : PartModel → DeclRef → List ℕ → Type 0
IsPartDoc p d doc =
    ((source : SourceModel) × (slice_get p.input.source.1 d.file ≡ Some source) × IsSourceDoc source d.number doc) ⊎ ((slice_get p.input.source.1 d.file ≡ None) × (doc ≡ []))

-- of a declaration of the package of a path
abbrev pub IsMethodDoc : SnapshotModel → List ℕ × DeclRef → List ℕ → Type 0
IsMethodDoc s m doc = ((p : PartModel) × IsPartAt s.sources s.parts m.0 p × IsPartDoc p m.1 doc) ⊎ (HasNoPart s m.0 × (doc ≡ []))

-- of a member: fields and the methods of interface types have none
abbrev pub IsMemberDoc : SnapshotModel → Option (List ℕ × DeclRef) → List ℕ → Type 0
IsMemberDoc s None doc = doc ≡ []
IsMemberDoc s (Some m) doc = IsMethodDoc s m doc
