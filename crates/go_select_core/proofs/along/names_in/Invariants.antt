use Rattle.std.proofs.Common.{◌≡◌, ◌++◌, drop, map}
use Rattle.go_embed_core.specs.table_core.Entries.{find_entry}
use Rattle.go_term_core.specs.Shapes.{shape, shape_found}
use Rattle.go_select_core.specs.PathNames.{names_along}
use Rattle.go_select_core.proofs.along.names_in.Given as goal

abbrev pub invariant-loop-step : goal.invariant-loop-step
invariant-loop-step l = map (λ n. n.now) l.names.items ++ names_along (find_entry l.table) (shape_found l.at) (drop l.step-index l.steps) ≡ names_along (find_entry l.table) (shape l.term) l.steps
