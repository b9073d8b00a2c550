use Rattle.std.proofs.Common.{◌≡◌, ◌++◌, map, take}
use Rattle.go_tree_nodes.specs.TypeShapes.{shape_type}
use Rattle.go_typexpr_core.specs.written.Written.{in_file}
use Rattle.go_inline_core.specs.Inline.{inlines}
use Rattle.go_inline_core.proofs.making.note_types.Given as goal

abbrev pub invariant-loop-tree : goal.invariant-loop-tree
invariant-loop-tree g l = l.notes.items ≡ l.fn.notes.items ++ inlines (g.K.Kinds.kinds l.kinds) (in_file l.at) (g.N.TypeNames.meaning l.names) (map (λ t. shape_type t.now) (take l.tree-index l.tree-items))
