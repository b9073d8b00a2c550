use Rattle.std.proofs.Common.{◌≡◌, map, take}
use Rattle.go_report_core.specs.summary_core.Summaries.{path_of}
use Rattle.go_snap_core.proofs.make.kept.same_paths.Given as goal

abbrev pub invariant-loop-number : goal.invariant-loop-number
invariant-loop-number l = take l.number (map path_of l.one) ≡ take l.number (map path_of l.other)
