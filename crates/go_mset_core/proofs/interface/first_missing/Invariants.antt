use Rattle.std.proofs.Common.{take}
use Rattle.go_term_core.specs.Shapes.{method_shapes}
use Rattle.go_select_core.specs.table_core.Entries.{find_entry}
use Rattle.go_mset_core.specs.mirrors.Asking.{holder_shown, text_shown, IsLeastMissing}
use Rattle.go_mset_core.proofs.interface.first_missing.Given as goal

abbrev pub invariant-methods : goal.invariant-methods
invariant-methods l = IsLeastMissing (find_entry l.table) (holder_shown l.holder) l.path (method_shapes (take l.method-index l.methods)) (text_shown l.missing)
