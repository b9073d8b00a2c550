-- Types that are written in a header or a specification.
--
-- docs/RULES.md, "Types", "Expressions: roles, order, faults of parts". The Go specification, "Types", "Variable declarations".
use Rattle.std.specs.Prelude.{List, [], Option, Some, None}
use Rattle.go_tree_nodes.specs.Trees.{TypeTree}
use Rattle.go_expr_core.specs.declared.things.Use.{Use}
use Rattle.go_expr_core.specs.local_core.declared.Fault.{Fault}
use Rattle.go_expr_core.specs.Looks.{Looks}
use Rattle.go_expr_core.specs.Denoting.{named_type, written_type}
use Rattle.go_expr_core.specs.TypeUses.{type_uses}

-- the faults of a type, beside those that its names have
abbrev pub type_faults : {T S D P : Type 0} → Looks T S D P → TypeTree → List Fault
type_faults looks t = looks.written.faults_of (named_type looks) t

-- the type of a specification: none where none is written, and `Some None` where what is written is no type
abbrev pub some_written_type : {T S D P : Type 0} → Looks T S D P → Option TypeTree → Option (Option T)
some_written_type looks None = None
some_written_type looks (Some t) = Some (written_type looks t)

abbrev pub some_type_uses : {T S D P : Type 0} → Looks T S D P → Option TypeTree → List (Use D P)
some_type_uses looks None = []
some_type_uses looks (Some t) = type_uses looks t

abbrev pub some_type_faults : {T S D P : Type 0} → Looks T S D P → Option TypeTree → List Fault
some_type_faults looks None = []
some_type_faults looks (Some t) = type_faults looks t
