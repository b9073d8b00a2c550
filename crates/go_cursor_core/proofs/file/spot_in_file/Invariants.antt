use Rattle.std.proofs.Common.{◌≡◌, drop, map}
use Rattle.go_tree_nodes.specs.Shapes.{top_of}
use Rattle.go_cursor_core.specs.Opened.{first_name, tops_names}
use Rattle.go_cursor_core.proofs.file.spot_in_file.Given as goal

abbrev pub invariant-loop-top : goal.invariant-loop-top
invariant-loop-top l = first_name l.start (tops_names (map top_of (drop l.top-index l.top-items))) ≡ first_name l.start (tops_names (map top_of l.top-items))
