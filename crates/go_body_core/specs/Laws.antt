-- What holds of the check of functions.
use Rattle.std.specs.Prelude.{◌≡◌, ℕ, List, Option, map}
use Rattle.go_tree_nodes.specs.Trees.{FuncTree}
use Rattle.go_tree_core.specs.Occurrences.{func_occs}
use Rattle.go_local_core.specs.Binding.{Local}
use Rattle.go_term_core.specs.Terms.{Term}
use Rattle.go_expr_core.specs.Looks.{WrittenRules}
use Rattle.go_expr_core.specs.Laws.{use_place, occurrence_place}
use Rattle.go_declared_core.specs.Faces.{TheFace}
use Rattle.go_env_core.specs.declared.meaning.Meaning.{Meaning}
use Rattle.go_env_core.specs.Scenes.{SceneModel}
use Rattle.go_body_core.specs.WellFormed.{IsFuncOfGrammar}
use Rattle.go_body_core.specs.Body.{walked_body, given_body}

-- what is noted of a function of the grammar stands where its occurrences stand, with their roles and in their order: each has exactly one
-- outcome, and no other place has one; whatever its names mean, and by whatever list of its declarations
pub record BodiesHaveOccurrences : Type 0 where
  pub on_the_way :
      (s : SceneModel) (file : ℕ) (known : List (Option TheFace)) (written : WrittenRules Term) (f : FuncTree) → IsFuncOfGrammar f
      → map use_place (walked_body s file known written f).uses ≡ map occurrence_place (func_occs f)
  pub by_regions :
      (s : SceneModel) (file : ℕ) (known : List (Option TheFace)) (written : WrittenRules Term) (f : FuncTree) (all : List (Local Meaning)) → IsFuncOfGrammar f
      → map use_place (given_body s file known written f all).uses ≡ map occurrence_place (func_occs f)
