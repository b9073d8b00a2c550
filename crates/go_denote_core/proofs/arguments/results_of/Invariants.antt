use Rattle.std.proofs.Common.{◌≡◌, map, take}
use Rattle.go_denote_core.specs.Arguments.{argument_of_result}
use Rattle.go_denote_core.proofs.arguments.results_of.Given as goal

abbrev pub invariant-loop-at : goal.invariant-loop-at
invariant-loop-at g l = l.all.items ≡ map argument_of_result (take l.at ((g.E.Names.names l.env).results l.signature))
