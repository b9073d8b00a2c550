use Rattle.std.proofs.Common.{◌≡◌, ◌++◌, All, map}
use Rattle.std.specs.Vec.Iter.{into_iter_items}
use Rattle.go_graph_core.specs.Sources.{IsRead}
use Rattle.go_graph_core.specs.Workspaces.{given_files}
use Rattle.go_graph_core.proofs.workspace.read_files.Given as goal

abbrev pub invariant-loop-name : goal.invariant-loop-name
invariant-loop-name l =
    (map (λ f. (f.name, f.text)) l.sources.items ≡ given_files l.yielded)
    × All IsRead l.sources.items
    × (l.yielded ++ into_iter_items l.name-iterator ≡ l.fn.files.items)
