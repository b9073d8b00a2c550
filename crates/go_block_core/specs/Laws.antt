-- Laws of what holds in blocks, and of the faults in them.
use Rattle.std.specs.Prelude.{◌≡◌, ℕ, ◌<◌, ◌≤◌, map, AllPairs, Bool, true, false, ◌⊎◌, ◌↔◌, List, ◌∷◌, ◌++◌, Some, None, All, Any, Contains, slice_get}
use Rattle.std.specs.List.Sorted.{IsStrictlyIncreasing}
use Rattle.go_graph_core.specs.Packages.{Trees}
use Rattle.go_decl_core.specs.declared.keys.DeclRef.{DeclRef}
use Rattle.go_block_core.specs.declared.binding.Binding.{Binding}
use Rattle.go_block_core.specs.declared.imports.NamedImport.{NamedImport}
use Rattle.go_block_core.specs.declared.fault.BlockRule.TheVariants.{B1, B2, B3}
use Rattle.go_block_core.specs.declared.fault.BlockFault.{BlockFault}
use Rattle.go_block_core.specs.Bindings.{Bound, file_bound}
use Rattle.go_block_core.specs.Blocks.{BlocksModel, AreBlocks, file_binding}
use Rattle.go_block_core.specs.Declarations.{PackageDeclaration, package_declared, is_bindable, has_fixed_form, is_main_package}
use Rattle.go_block_core.specs.Faults.{block_fault, all_block_faults}
use Rattle.go_block_core.specs.Holding.{package_block, file_block}
use Rattle.go_block_core.specs.Tables.{in_block}
use Rattle.go_tree_nodes.specs.Spelling.{IsPlaced}

-- the first of a list that P holds of has this value
pub record IsFirstOf {T V : Type 0} (P : T → Type 0) (value : T → V) (xs : List T) (v : V) : Type 0 where
  pub before : List T
  pub first : T
  pub after : List T
  pub split : xs ≡ before ++ first ∷ after
  pub holds : P first
  pub none : All (λ x. P x → ⊥) before
  pub is : value first ≡ v

-- a declaration binds this name
abbrev pub Declares : List ℕ → PackageDeclaration → Type 0
Declares name d = (is_bindable d.name ≡ true) × (name ≡ d.name)

-- a binding is of this name
abbrev pub IsOfName : List ℕ → Bound → Type 0
IsOfName name b = name ≡ b.name

-- the package block has at a name the first declaration that binds it
abbrev pub PackageHolds : Type 0
PackageHolds = (trees : Trees) (name : List ℕ) (d : DeclRef) → (in_block (package_block trees) name ≡ Some d) ↔ IsFirstOf (Declares name) (λ x. x.decl) (package_declared trees) d

-- a file's block has at a name the first binding of it
abbrev pub FileHolds : Type 0
FileHolds = (imports : List NamedImport) (name : List ℕ) (b : Binding) → (in_block (file_block imports) name ≡ Some b) ↔ IsFirstOf (IsOfName name) (λ x. x.binding) (file_bound imports) b

-- the block of a file has this binding at a name
pub record HasBinding (files : List (List (List ℕ × Binding))) (file : ℕ) (name : List ℕ) (x : Binding) : Type 0 where
  pub block : List (List ℕ × Binding)
  pub of_file : slice_get files file ≡ Some block
  pub holds : in_block block name ≡ Some x

-- a name of the package block is never hidden by a binding of a file
abbrev pub NeverHidden : Type 0
NeverHidden = (b : BlocksModel) (file : ℕ) (name : List ℕ) (d : DeclRef) → in_block b.names name ≡ Some d → file_binding b file name ≡ None

-- a file's number and a name are answered by what the file's block has there, where the package block has none
abbrev pub FileAnswers : Type 0
FileAnswers = (b : BlocksModel) (file : ℕ) (name : List ℕ) (x : Binding) → (file_binding b file name ≡ Some x) ↔ ((in_block b.names name ≡ None) × HasBinding b.files file name x)

-- B1: a declaration of a name that an earlier one binds
pub record IsSecondDecl (ds : List PackageDeclaration) (f : BlockFault) : Type 0 where
  pub before : List PackageDeclaration
  pub decl : PackageDeclaration
  pub after : List PackageDeclaration
  pub split : ds ≡ before ++ decl ∷ after
  pub binds_name : is_bindable decl.name ≡ true
  pub earlier : Any (Declares decl.name) before
  pub fault : f ≡ block_fault decl.decl.file decl.at B1

-- B3: what must be a function without parameters and results, and is none
pub record IsMalformed (main : Bool) (ds : List PackageDeclaration) (f : BlockFault) : Type 0 where
  pub decl : PackageDeclaration
  pub among : Contains ds decl
  pub fixed : has_fixed_form main decl.name ≡ true
  pub other : decl.is_procedure ≡ false
  pub fault : f ≡ block_fault decl.decl.file decl.at B3

-- B1: a binding of a name that an earlier one of the file binds
pub record IsSecondBinding (files : List (List NamedImport)) (f : BlockFault) : Type 0 where
  pub number : ℕ
  pub imports : List NamedImport
  pub file : slice_get files number ≡ Some imports
  pub before : List Bound
  pub bound : Bound
  pub after : List Bound
  pub split : file_bound imports ≡ before ++ bound ∷ after
  pub earlier : Any (IsOfName bound.name) before
  pub fault : f ≡ block_fault number bound.binding.at B1

-- B2: a binding of a name that the package block has
pub record IsHidden (ds : List PackageDeclaration) (files : List (List NamedImport)) (f : BlockFault) : Type 0 where
  pub number : ℕ
  pub imports : List NamedImport
  pub file : slice_get files number ≡ Some imports
  pub bound : Bound
  pub among : Contains (file_bound imports) bound
  pub of_package : Any (Declares bound.name) ds
  pub fault : f ≡ block_fault number bound.binding.at B2

-- the faults in the blocks of a package
abbrev pub IsBlockFault : Trees → List (List NamedImport) → BlockFault → Type 0
IsBlockFault trees files f =
    IsSecondDecl (package_declared trees) f
    ⊎ (IsMalformed (is_main_package trees) (package_declared trees) f
    ⊎ (IsSecondBinding files f
    ⊎ IsHidden (package_declared trees) files f))

-- the faults are these and no others
abbrev pub FaultsAreThese : Type 0
FaultsAreThese = (trees : Trees) (files : List (List NamedImport)) (f : BlockFault) → Contains (all_block_faults trees files) f ↔ IsBlockFault trees files f

-- a declaration stands before another: in an earlier file, or in the same by number and by offset
abbrev pub StandsBefore : PackageDeclaration → PackageDeclaration → Type 0
StandsBefore d e = (d.decl.file < e.decl.file) ⊎ ((d.decl.file ≡ e.decl.file) × (d.decl.number < e.decl.number) × (d.at < e.at))

-- the tokens of each file's tree follow one another, as those of a text do
abbrev pub ArePlaced : Trees → Type 0
ArePlaced trees = All (λ t. IsPlaced t.1) trees

-- the list of declarations is in order of file and number, and of file and offset, so that the first of a name is the first by these
abbrev pub DeclarationsInOrder : Type 0
DeclarationsInOrder = (trees : Trees) → ArePlaced trees → AllPairs StandsBefore (package_declared trees)

-- the list of bindings is in order of place, so that the first of a name is the first by place
abbrev pub BindingsInOrder : Type 0
BindingsInOrder = (imports : List NamedImport) → IsStrictlyIncreasing (map (λ i. i.at) imports) → AllPairs (λ a b. a.binding.at ≤ b.binding.at) (file_bound imports)

-- the trees of a package and its imports have one package block, one block for each file, and one list of faults
abbrev pub OneBlocksAlone : Type 0
OneBlocksAlone = (trees : Trees) (imports : List (List NamedImport)) (b c : BlocksModel) → AreBlocks trees imports b → AreBlocks trees imports c → b ≡ c
