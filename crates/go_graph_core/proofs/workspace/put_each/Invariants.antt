use Rattle.std.proofs.Common.{◌≡◌, ◌≤◌, ◌+◌, vec_len, length}
use Rattle.std.specs.Prelude.{vec_capacity}
use Rattle.std.specs.List.Sorted.{IsStrictlySortedBy}
use Rattle.std.specs.Map.{keys_of}
use Rattle.std.specs.Vec.Iter.{into_iter_items}
use Rattle.go_graph_core.specs.Workspaces.{by_bytes, put_all}
use Rattle.go_graph_core.proofs.workspace.put_each.Given as goal

abbrev pub invariant-loop-package : goal.invariant-loop-package
invariant-loop-package l =
    (put_all l.packages.items (into_iter_items l.package-iterator) ≡ put_all l.initial.packages.items l.fn.from.items)
    × IsStrictlySortedBy by_bytes (keys_of l.packages.items)
    × (vec_len l.packages + length (into_iter_items l.package-iterator) ≤ vec_capacity l.packages)
