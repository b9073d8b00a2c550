-- The locals of a function are its declarations.
--
-- docs/RULES.md, "Bodies of functions". The Go specification, "Declarations and scope", "Short variable declarations".
use Rattle.std.specs.Prelude.{◌≡◌, ◌<◌, ℕ, not, List, [], ◌∷◌, Some, Contains}
use Rattle.std.specs.List.{flat_map, AllByRecursion}
use Rattle.go_tree_nodes.specs.Trees.{FuncTree}
use Rattle.go_local_core.specs.Binding.{Local, bound, is_second}
use Rattle.go_local_core.specs.Tables.{IsFuncPlaced}
use Rattle.go_env_core.specs.declared.meaning.Meaning.{Meaning}
use Rattle.go_env_core.specs.declared.meaning.Meaning.TheVariants as meanings
use Rattle.go_body_core.specs.Notes.{TheValue, TheLocal}
use Rattle.go_body_core.specs.Rules.{local_if}
use Rattle.go_body_core.specs.function.Stands.{FileStand, outer_meanings}
use Rattle.go_body_core.specs.function.Functions.{checked_func, AreFuncDeclarations}

-- of declarations those that hold, each as the local that it means: where an earlier one of the name stands in its block, a later one does not hold
abbrev pub declared_locals : List (Local Meaning) → List TheLocal
declared_locals all = flat_map (λ d. local_if (not (is_second all d.opens d.name d.at)) d.means) all

-- each stands behind those before it
abbrev pub OffsetsRise : List TheLocal → Type 0
OffsetsRise [] = Unit {0}
OffsetsRise (l ∷ ls) = AllByRecursion (λ m. l.offset < m.offset) ls × OffsetsRise ls

pub record LocalsAreDeclarations : Type 0 where
  -- the locals of a function are its declarations that hold, in order, each as what it means
  pub declared : (st : FileStand) (f : FuncTree) → IsFuncPlaced f → (all : List (Local Meaning)) → AreFuncDeclarations st f all → (checked_func st f).locals ≡ declared_locals all
  -- a name that means a local where it stands means one of them, and stands for what that one stands for
  pub denoted : (st : FileStand) (f : FuncTree) → IsFuncPlaced f → (all : List (Local Meaning)) → AreFuncDeclarations st f all → (name : List ℕ) (place at : ℕ) (value : TheValue)
      → bound (outer_meanings st) all name place ≡ Some (meanings.Local at value) → Contains (checked_func st f).locals (record { offset = at; value = value })
  -- no two of them stand at one offset
  pub rise : (st : FileStand) (f : FuncTree) → IsFuncPlaced f → OffsetsRise (checked_func st f).locals
