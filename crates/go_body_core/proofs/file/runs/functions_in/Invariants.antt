use Rattle.std.proofs.Common.{◌≡◌, ◌≤◌, map, length, take}
use Rattle.go_tree_nodes.specs.Shapes.{top_of}
use Rattle.go_body_core.specs.file.Stands.{tops_funcs}
use Rattle.go_body_core.proofs.file.runs.functions_in.Given as goal

abbrev pub invariant-loop-top : goal.invariant-loop-top
invariant-loop-top l =
    record {
      counted : l.count ≡ length (tops_funcs (map top_of (take l.top-index l.decls)));
      few : l.count ≤ l.top-index;
    }
