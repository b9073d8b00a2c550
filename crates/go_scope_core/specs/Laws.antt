-- Laws of what names denote.
use Rattle.std.specs.Prelude.{◌≡◌, ℕ, ◌↔◌, List, [], ◌∷◌, ◌++◌, Option, Some, Any, IsSome}
use Rattle.go_universe_core.specs.declared.Predeclared.{Predeclared}
use Rattle.go_universe_core.specs.Universe.{spelling_of}
use Rattle.go_block_core.specs.decl_core.declared.keys.DeclRef.{DeclRef}
use Rattle.go_block_core.specs.declared.binding.Binding.{Binding}
use Rattle.go_block_core.specs.Blocks.{file_binding}
use Rattle.go_block_core.specs.graph_core.Packages.{blank}
use Rattle.go_block_core.specs.scope_stack.declared.DeclId.{DeclId}
use Rattle.go_block_core.specs.scope_stack.Blocks.{in_block, found_in, innermost, with_innermost, block_with, block_after, NoneHas, IsInnermost}
use Rattle.go_scope_core.specs.Models.{ScopesModel}
use Rattle.go_scope_core.specs.Scopes.{Denoted, Universe, Package, File, Local, inside_universe, scope_blocks}

-- what a name denotes
abbrev pub denotes : ScopesModel → List ℕ → Option Denoted
denotes s name = found_in (scope_blocks s) name

-- what a name denotes is the declaration of it in the innermost open block that has one
abbrev pub DenotesInnermost : Type 0
DenotesInnermost = (s : ScopesModel) (name : List ℕ) (d : Denoted) → (denotes s name ≡ Some d) ↔ IsInnermost (scope_blocks s) name d

-- the innermost open block that has a declaration of a name has one
abbrev pub DenotesOne : Type 0
DenotesOne = (s : ScopesModel) (name : List ℕ) (d e : Denoted) → IsInnermost (scope_blocks s) name d → IsInnermost (scope_blocks s) name e → d ≡ e

-- a block has a declaration of this name
abbrev pub BlockHas : {X : Type 0} → List ℕ → List (List ℕ × X) → Type 0
BlockHas name block = IsSome (in_block block name)

-- a name denotes the innermost declaration of it in these blocks
abbrev pub DenotesLocal : ScopesModel → List ℕ → Type 0
DenotesLocal s name = (id : DeclId) × IsInnermost s.open_blocks name id × (denotes s name ≡ Some (Local id))

-- a name that an open block of the function has denotes the innermost declaration of it there
abbrev pub LocalHides : Type 0
LocalHides = (s : ScopesModel) (name : List ℕ) → Any (BlockHas name) s.open_blocks → DenotesLocal s name

-- a name of the package block that no open block of the function has denotes its declaration in the package block
abbrev pub PackageNeverHidden : Type 0
PackageNeverHidden = (s : ScopesModel) (name : List ℕ) (d : DeclRef) → NoneHas s.open_blocks name → in_block s.blocks.names name ≡ Some d → denotes s name ≡ Some (Package d)

-- a name that no open block of the function has denotes the binding of it that holds in the file
abbrev pub FileInside : Type 0
FileInside = (s : ScopesModel) (name : List ℕ) (b : Binding) → NoneHas s.open_blocks name → file_binding s.blocks s.file name ≡ Some b → denotes s name ≡ Some (File b)

-- the universe block is the outermost
pub record UniverseOutermost : Type 0 where
  -- a name denotes the predeclared name that is spelled so where no block of the package, the file and the function has it, and only there
  pub denotes_predeclared : (s : ScopesModel) (name : List ℕ) (p : Predeclared) → (denotes s name ≡ Some (Universe p)) ↔ (NoneHas (inside_universe s) name × (name ≡ spelling_of p))
  -- a name that one of these blocks has denotes the innermost of its declarations in them, whether it is predeclared or not
  pub is_hidden : (s : ScopesModel) (name : List ℕ) → Any (BlockHas name) (inside_universe s) → denotes s name ≡ found_in (inside_universe s) name

-- no step from open blocks of a function leads to a block that has the blank identifier
pub record KeepsBlankOut (open_blocks : List (List (List ℕ × DeclId))) : Type 0 where
  pub enter : NoneHas (open_blocks ++ [] ∷ []) blank
  pub leave : (outer : List (List (List ℕ × DeclId))) (top : List (List ℕ × DeclId)) → open_blocks ≡ outer ++ top ∷ [] → NoneHas outer blank
  pub declare : (name : List ℕ) (id : DeclId) → NoneHas (with_innermost open_blocks (block_with (innermost open_blocks) name id)) blank
  pub declare_short : (names : List (List ℕ × DeclId)) → NoneHas (with_innermost open_blocks (block_after (innermost open_blocks) names)) blank

-- where no open block of a function has the blank identifier, none has it after a step
abbrev pub BlankStaysOut : Type 0
BlankStaysOut = (open_blocks : List (List (List ℕ × DeclId))) → NoneHas open_blocks blank → KeepsBlankOut open_blocks
