-- The blocks that are open at a place of a file, each with what its names denote.
use Rattle.std.specs.Prelude.{ℕ, List, ◌∷◌, map}
use Rattle.go_universe_core.specs.declared.TheConstants.{PREDECLARED}
use Rattle.go_universe_core.specs.declared.Predeclared.{Predeclared}
use Rattle.go_universe_core.specs.Universe.{spelling_of}
use Rattle.go_block_core.specs.declared.binding.Binding.{Binding}
use Rattle.go_block_core.specs.decl_core.declared.keys.DeclRef.{DeclRef}
use Rattle.go_block_core.specs.Blocks.{held_in}
use Rattle.go_block_core.specs.scope_stack.declared.DeclId.{DeclId}
use Rattle.go_scope_core.specs.declared.scope.InScope.{InScope}
use Rattle.go_scope_core.specs.declared.scope.InScope.TheVariants as answer
use Rattle.go_scope_core.specs.Models.{ScopesModel, scopes_model}

-- what a name in scope denotes
pub data Denoted : Type 0 where
  Universe : Predeclared → Denoted
  Package : DeclRef → Denoted
  File : Binding → Denoted
  Local : DeclId → Denoted

-- an answer, with the binding that it refers to
abbrev pub denoted_of : InScope → Denoted
denoted_of (answer.Universe p) = Universe p
denoted_of (answer.Package d) = Package d
denoted_of (answer.File b) = File b.now
denoted_of (answer.Local id) = Local id

-- the same blocks of the package and the same file, with these open blocks of the function
abbrev pub with_open : ScopesModel → List (List (List ℕ × DeclId)) → ScopesModel
with_open s open_blocks = scopes_model s.blocks s.file open_blocks

-- a block, with what its names denote
abbrev pub denoting : {X : Type 0} → (X → Denoted) → List (List ℕ × X) → List (List ℕ × Denoted)
denoting as_one block = map (λ e. (e.0, as_one e.1)) block

-- the universe block: the predeclared names, in the order of their table
unfoldable pub universe : List (List ℕ × Predeclared)
universe = map (λ p. (spelling_of p, p)) PREDECLARED

-- the open blocks inside the universe block, the outermost first: the package's, what holds in the file's, and the function's
abbrev pub inside_universe : ScopesModel → List (List (List ℕ × Denoted))
inside_universe s = denoting Package s.blocks.names ∷ denoting File (held_in s.blocks s.file) ∷ map (denoting Local) s.open_blocks

-- all open blocks, the outermost first
abbrev pub scope_blocks : ScopesModel → List (List (List ℕ × Denoted))
scope_blocks s = denoting Universe universe ∷ inside_universe s
