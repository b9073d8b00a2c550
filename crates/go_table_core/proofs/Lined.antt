-- The line of a field.
use Rattle.std.proofs.Common.{◌≡◌, ℕ, List, [], Option, Some, None, false, refl, sym}
use Rattle.std.specs.Slice.{IsItemAt}
use Rattle.std.specs.Borrow.{Bor}
use Rattle.go_term_core.specs.declared.term.FieldLine.{FieldLine}
use Rattle.go_term_core.specs.Terms.{NoType}
use Rattle.go_term_core.specs.Shapes.{line_with, line_shape, line_at, line_shapes}
use Rattle.go_term_core.proofs.SameLists.{found, missing}
use Rattle.go_table_core.specs.Shown.{line_shown}

pub lined : (ls : List FieldLine) (n : ℕ) (r : Option (Bor FieldLine)) → IsItemAt ls n r → line_shown r ≡ line_at (line_shapes ls) n
lined ls n None h = sym (missing line_shape (line_with false NoType []) ls ls n refl h)
lined ls n (Some l) h = sym (found line_shape (line_with false NoType []) ls ls n l refl h)
