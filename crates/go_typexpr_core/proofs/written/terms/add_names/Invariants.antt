use Rattle.std.proofs.Common.{◌≡◌, ◌++◌, take}
use Rattle.go_tree_nodes.specs.TypeShapes.{idents_from}
use Rattle.go_typexpr_core.specs.written.Written.{in_file}
use Rattle.go_typexpr_core.specs.written.mirrors.Adding.{named_in}
use Rattle.go_typexpr_core.proofs.written.terms.add_names.Given as goal

abbrev pub invariant-loop-next : goal.invariant-loop-next
invariant-loop-next l = l.fields.items ≡ l.fn.fields.items ++ named_in (in_file l.fn.at) l.line (idents_from l.fn.idents.first (take l.next-index l.next-items))
