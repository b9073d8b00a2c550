use Rattle.std.proofs.Common.{◌≡◌, map, take}
use Rattle.std.specs.List.{flat_map}
use Rattle.go_tree_nodes.specs.Shapes.{top_of}
use Rattle.go_reference_core.specs.outline.Outlines.{entry_shown, top_entries}
use Rattle.go_reference_core.proofs.outline.tops.entries.Given as goal

abbrev pub invariant-loop-top : goal.invariant-loop-top
invariant-loop-top l = map entry_shown l.entries.items ≡ flat_map (λ top. top_entries (top_of top)) (take l.top-index l.top-items)
