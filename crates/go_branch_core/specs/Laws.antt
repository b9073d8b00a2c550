-- However the body of a function is taken apart, one answer comes of it.
use Rattle.std.specs.Prelude.{◌≡◌, ℕ, List, Option}
use Rattle.go_tree_nodes.specs.Trees.{FuncTree}
use Rattle.go_term_core.specs.Terms.{Term}
use Rattle.go_expr_core.specs.Looks.{WrittenRules}
use Rattle.go_declared_core.specs.Faces.{TheFace}
use Rattle.go_env_core.specs.Scenes.{SceneModel}
use Rattle.go_body_core.specs.declared.body.CheckedBody.{CheckedBody}
use Rattle.go_body_core.specs.Body.{IsWalkedBody}

-- what the contract of `check_body` lets two checks of one function answer has the same uses, faults and locals, in the same order
abbrev pub BranchesGiveOne : Type 0
BranchesGiveOne =
    (s : SceneModel) (file : ℕ) (known : List (Option TheFace)) (written : WrittenRules Term) (f : FuncTree) (one other : CheckedBody)
    → IsWalkedBody s file known written f one.uses.items one.faults.items one.locals.items
    → IsWalkedBody s file known written f other.uses.items other.faults.items other.locals.items
    → (other.uses.items ≡ one.uses.items) × (other.faults.items ≡ one.faults.items) × (other.locals.items ≡ one.locals.items)
