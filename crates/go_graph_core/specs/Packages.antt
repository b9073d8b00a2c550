-- Which files make a package.
use Rattle.std.specs.Prelude.{◌≡◌, ◌≢◌, ◌<◌, ◌⊎◌, ℕ, List, [], ◌∷◌, length, Result, Ok, Err, Some, None, All, slice_get, codes}
use Rattle.go_collections_core.specs.text_core.declared.rule.Rule.TheVariants.{K2, K3, K4}
use Rattle.go_tree_nodes.specs.declared.names.Ident.{Ident}
use Rattle.go_tree_nodes.specs.Trees.{FileTree}
use Rattle.go_parse_core.specs.declared.error.SynFault.{SynFault}
use Rattle.go_graph_core.specs.declared.assembly.KFault.{KFault}
use Rattle.go_graph_core.specs.Sources.{SourceModel, clause_of}
use Rattle.go_graph_core.specs.Workspaces.{PackageModel}

-- the trees of a package's files, each with the name of its file
abbrev pub Trees : Type 0
Trees = List (List ℕ × FileTree)

-- a file's tree before those of others
abbrev tree_before : List ℕ → Result FileTree SynFault → Trees → Trees
tree_before name (Ok f) rest = (name, f) ∷ rest
tree_before name (Err fault) rest = rest

-- the trees of files, of those that have one
abbrev pub trees_of : List SourceModel → Trees
trees_of [] = []
trees_of (s ∷ ss) = tree_before s.name s.content (trees_of ss)

-- a tree of these, without its file's name
abbrev pub tree_shown : List ℕ × FileTree → FileTree
tree_shown t = t.1

-- the file of this number has this tree
abbrev pub IsTreeAt : List SourceModel → ℕ → FileTree → Type 0
IsTreeAt files i f = (s : SourceModel) × (slice_get files i ≡ Some s) × (s.content ≡ Ok f)

-- the file has no tree
abbrev pub HasNoClause : SourceModel → Type 0
HasNoClause s = clause_of s ≡ None

-- the name in the file's package clause
abbrev pub IsClause : SourceModel → Ident → Type 0
IsClause s id = clause_of s ≡ Some id

-- the blank identifier
abbrev pub blank : List ℕ
blank = codes "_"

-- the file's package clause has the blank name, here
abbrev pub IsBlankAt : SourceModel → ℕ → Type 0
IsBlankAt s at = (id : Ident) × IsClause s id × (id.name ≡ blank) × (at ≡ id.span.start)

abbrev pub IsBlank : SourceModel → Type 0
IsBlank s = (at : ℕ) × IsBlankAt s at

-- the file's package clause has another name than this, here
abbrev pub DiffersAt : List ℕ → SourceModel → ℕ → Type 0
DiffersAt name s at = (id : Ident) × IsClause s id × (id.name ≢ name) × (at ≡ id.span.start)

abbrev pub Differs : List ℕ → SourceModel → Type 0
Differs name s = (at : ℕ) × DiffersAt name s at

-- the first of the files that P holds of, by its number
pub record IsFirst (P : SourceModel → Type 0) (files : List SourceModel) (i : ℕ) (s : SourceModel) : Type 0 where
  pub at : slice_get files i ≡ Some s
  pub holds : P s
  pub before : (j : ℕ) (o : SourceModel) → j < i → slice_get files j ≡ Some o → P o → ⊥

-- each file has a tree
abbrev pub AllHaveTrees : List SourceModel → Type 0
AllHaveTrees files = All (λ s. HasNoClause s → ⊥) files

-- no clause has the blank name
abbrev pub NoneIsBlank : List SourceModel → Type 0
NoneIsBlank files = All (λ s. IsBlank s → ⊥) files

-- the name in the first file's clause
abbrev pub IsNameOf : List ℕ → List SourceModel → Type 0
IsNameOf name files = (s : SourceModel) × (id : Ident) × (slice_get files 0 ≡ Some s) × IsClause s id × (name ≡ id.name)

-- K4: a file has no tree; at the first such file, whose own fault has the place
pub record IsK4 (files : List SourceModel) (fault : KFault) : Type 0 where
  pub rule : fault.rule ≡ K4
  pub file : SourceModel
  pub first : IsFirst HasNoClause files fault.file file
  pub offset : fault.offset ≡ 0

-- K3: each file has a tree, and a clause has the blank name; at the first such clause
pub record IsK3 (files : List SourceModel) (fault : KFault) : Type 0 where
  pub rule : fault.rule ≡ K3
  pub trees : AllHaveTrees files
  pub file : SourceModel
  pub first : IsFirst IsBlank files fault.file file
  pub offset : IsBlankAt file fault.offset

-- K2: each file has a tree, no name is blank, and a clause has another name than the first; at the first such clause
pub record IsK2 (files : List SourceModel) (fault : KFault) : Type 0 where
  pub rule : fault.rule ≡ K2
  pub trees : AllHaveTrees files
  pub named : NoneIsBlank files
  pub name : List ℕ
  pub is_name : IsNameOf name files
  pub file : SourceModel
  pub first : IsFirst (Differs name) files fault.file file
  pub offset : DiffersAt name file fault.offset

-- each file has a tree, and one name that is not blank stands in all clauses
pub record IsAssembled (files : List SourceModel) : Type 0 where
  pub trees : AllHaveTrees files
  pub named : NoneIsBlank files
  pub name : List ℕ
  pub is_name : IsNameOf name files
  pub same : All (λ s. Differs name s → ⊥) files

-- what the assembly of files answers: their trees, or the first of the rules K4, K3 and K2 that they break
abbrev pub IsAssembly : List SourceModel → Result Trees KFault → Type 0
IsAssembly files (Ok trees) = (trees ≡ trees_of files) × IsAssembled files
IsAssembly files (Err fault) = IsK4 files fault ⊎ (IsK3 files fault ⊎ IsK2 files fault)

-- the trees of the package that files are assembled to, or why they are none
abbrev pub assembly_shown : Result PackageModel KFault → Result Trees KFault
assembly_shown (Ok p) = Ok (trees_of p.1)
assembly_shown (Err fault) = Err fault

-- files have an assembly
abbrev pub HasAssembly : Type 0
HasAssembly = (files : List SourceModel) → 0 < length files → (answer : Result Trees KFault) × IsAssembly files answer

-- and no other
abbrev pub HasNoOtherAssembly : Type 0
HasNoOtherAssembly = (files : List SourceModel) (one other : Result Trees KFault) → IsAssembly files one → IsAssembly files other → one ≡ other

-- the name of an assembled package, which is in each of its clauses
pub record IsPackageName (trees : Trees) (name : List ℕ) : Type 0 where
  pub some : 0 < length trees
  pub named : name ≢ blank
  pub same : All (λ t. t.1.name.name ≡ name) trees
