use Rattle.std.proofs.Common.{take}
use Rattle.std.specs.List.{flat_map}
use Rattle.go_cursor_core.specs.mirrors.Searching.{Declares}
use Rattle.go_cursor_core.proofs.Declaring.{one_entry}
use Rattle.go_cursor_core.proofs.search.declare_params.Given as goal

abbrev pub invariant-loop-param : goal.invariant-loop-param
invariant-loop-param l = Declares l.fn.search (flat_map one_entry (take l.param-index l.param-items)) l.search
