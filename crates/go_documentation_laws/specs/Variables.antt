-- What documentation tells of a type of another package, by a variable that a file declares which imports that package.
--
-- docs/RULES.md, "Names, selectors and calls in expressions", "Faces of declarations", "Whole workspaces". The Go specification, "Variable declarations",
-- "Selectors", "Qualified identifiers", "Import declarations".
use Rattle.std.specs.Prelude.{◌≡◌, ◌↔◌, ◌++◌, ℕ, true, false, List, [], ◌∷◌, Some, None, Contains, length, slice_get}
use Rattle.go_path_core.specs.text_core.Text.{is_blank}
use Rattle.go_path_core.specs.text_core.declared.span.Span.{Span}
use Rattle.go_tree_nodes.specs.declared.decls.ValueKind.TheVariants as value_kinds
use Rattle.go_tree_nodes.specs.declared.files.ImportName.TheVariants as written
use Rattle.go_tree_nodes.specs.declared.names.Ident.{Ident}
use Rattle.go_tree_nodes.specs.declared.types.TypeName.TheVariants as type_names
use Rattle.go_tree_nodes.specs.Trees.{FileTree, ImportSpecTree, NamedType, ValueSpecTree}
use Rattle.go_graph_core.specs.Packages.{trees_of}
use Rattle.go_graph_core.specs.Sources.{SourceModel}
use Rattle.go_graph_core.specs.Workspaces.{IsReadWorkspace, IsWorkspace, PackageModel}
use Rattle.go_block_core.specs.Declarations.{decl_ref}
use Rattle.go_block_core.specs.Holding.{package_block}
use Rattle.go_block_core.specs.Naming.{file_specs}
use Rattle.go_block_core.specs.Tables.{in_block}
use Rattle.go_term_core.specs.decl_core.declared.places.DeclKind.TheVariants as kinds
use Rattle.go_term_core.specs.decl_core.TopDecls.{TopDeclTree, ValueForm, top_decls}
use Rattle.go_expr_core.specs.denote_core.declared.things.Outcome.TheVariants as outcomes
use Rattle.go_expr_core.specs.denote_core.declared.things.Outcome.{Outcome}
use Rattle.go_expr_core.specs.denote_core.declared.things.Stand.TheVariants as stands
use Rattle.go_expr_core.specs.denote_core.Answers.{name_answer}
use Rattle.go_expr_core.specs.denote_core.Selectors.{dot_of, selector_answer}
use Rattle.go_summary_core.specs.handle_core.Declarations.{Declaration}
use Rattle.go_package_core.specs.package_part.Parts.{PartModel}
use Rattle.go_snap_core.specs.Snapshots.{SnapshotModel}
use Rattle.go_submit_core.specs.Published.{IsOneWorker}
use Rattle.go_type_doc_core.specs.declared.members.listing.MemberKind.{MemberKind}
use Rattle.go_type_doc_core.specs.members.Members.{TheLook, usage_of}
use Rattle.go_type_doc_core.specs.TypeDocs.{IsOtherTypeDoc, TypeDocOf}
use Rattle.go_documentation_laws.specs.Types.{AddsFile, TellsMember, look_in_file}

-- the file of a number and a tree, of a package of these files, has one import, which is written with a name, and declares a variable, whose type is written as a
-- name behind that of the import; the package block has this variable under its name, and nothing under that of the import
pub record DeclaresVariable (files : List SourceModel) (file : ℕ) (tree : FileTree) (type_name variable : List ℕ) : Type 0 where
  -- the import
  pub spec : ImportSpecTree
  pub imports : file_specs tree ≡ spec ∷ []
  pub import_name : Ident
  pub is_named : spec.name ≡ written.Named import_name
  pub import_plain : is_blank import_name.name ≡ false
  pub free : in_block (package_block (trees_of files)) import_name.name ≡ None
  -- the variable
  pub decl : TopDeclTree
  pub there : Contains (top_decls tree) decl
  pub value : ValueSpecTree
  pub place : ℕ
  pub form : decl.form ≡ ValueForm value_kinds.Var value place
  pub plain : is_blank variable ≡ false
  pub bound : in_block (package_block (trees_of files)) variable ≡ Some (decl_ref file decl.number kinds.Var)
  -- its type
  pub qualifier : Ident
  pub dot : Span
  pub ident : Ident
  pub type_is : value.type_expr ≡ Some (NamedType (type_names.Qualified qualifier dot ident))
  pub behind : qualifier.name ≡ import_name.name
  pub names : ident.name ≡ type_name

-- what a selector has behind the name of a variable: a field as an operand, a method as what is called
abbrev pub behind_name : TheLook → List ℕ → MemberKind → List ℕ → Outcome Declaration (List ℕ)
behind_name look variable kind name = (selector_answer look (usage_of kind) (dot_of true (name_answer look stands.BeforeDot variable).denoted) name).outcome

-- in a snapshot, outside the functions of the file of a number and a tree of the package of a number, it has a declaration
pub record SelectsBehindName (w : SnapshotModel) (own file : ℕ) (tree : FileTree) (variable : List ℕ) (kind : MemberKind) (name : List ℕ) : Type 0 where
  pub of_part : PartModel
  pub there : slice_get w.parts own ≡ Some (Some of_part)
  pub declaration : Declaration
  pub through : List ℕ
  pub selected : behind_name (look_in_file of_part file tree) variable kind name ≡ outcomes.Selected declaration through

-- the members that are told of a type of another package are those that one worker gives behind a variable that is declared with this type in a file that is
-- added to the package that asks
abbrev pub VariablesExactly : List PackageModel → SnapshotModel → Type 0
VariablesExactly ps s =
    (from path type_name variable : List ℕ) (d : TypeDocOf) (told : IsOtherTypeDoc s from path type_name d) (more : List PackageModel) (h : AddsFile ps told.number path more) → IsReadWorkspace more
    → DeclaresVariable (h.adds.files ++ h.adds.file ∷ []) (length h.adds.files) h.tree type_name variable → (kind : MemberKind) (name : List ℕ)
    → TellsMember d kind name ↔ ((w : SnapshotModel) × IsOneWorker more w × SelectsBehindName w told.number (length h.adds.files) h.tree variable kind name)

-- so it is of the snapshot of each workspace
abbrev pub VariablesAreExact : Type 0
VariablesAreExact = (ps : List PackageModel) (s : SnapshotModel) → IsWorkspace ps → IsOneWorker ps s → VariablesExactly ps s
