use Rattle.std.proofs.Common.{take}
use Rattle.go_graph_core.specs.mirrors.Targets.{HaveStandings}
use Rattle.go_graph_core.proofs.imports.standings.Given as goal

abbrev pub invariant-loop-source : goal.invariant-loop-source
invariant-loop-source l = HaveStandings (take l.source-index l.packages) l.standings.items
