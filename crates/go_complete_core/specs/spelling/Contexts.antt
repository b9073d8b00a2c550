-- What an identifier has under another spelling.
use Rattle.std.specs.Prelude.{◌≡◌, ℕ, List, Some, slice_get}
use Rattle.go_tree_nodes.specs.declared.names.Ident.{Ident}
use Rattle.go_stmt_core.specs.expr_core.declared.things.Use.{Use}
use Rattle.go_stmt_core.specs.expr_core.Looks.{Looks}
use Rattle.go_stmt_core.specs.expr_core.Uses.{Context, Spot, Identifier, rule, role_of, made_use}

-- The identifier stands in a context among what there was, and at the same number of what there is under its new spelling it has what this
-- context's rule gives for that, by the look-ups that there are then.
pub record ContextStays (T S D P : Type 0) (looks : Looks T S D P) (x : Ident) (name : List ℕ) (before : List (Spot T D P)) (after : List (Use D P)) : Type 0 where
  pub number : ℕ
  pub context : Context T D
  pub stands : slice_get before number ≡ Some (Identifier context x)
  pub has : slice_get after number ≡ Some (made_use x.span.start (role_of context) (rule looks context x.span.start name))
