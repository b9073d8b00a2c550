use Rattle.std.proofs.Common.{◌≡◌, take}
use Rattle.std.specs.List.{flat_map}
use Rattle.go_report_core.specs.usage.mirrors.Steps.{with_places}
use Rattle.go_report_core.proofs.UsageSteps.{decl_blanks}
use Rattle.go_report_core.proofs.usage.unused.add_all_blanks.Given as goal

abbrev pub invariant-loop-import : goal.invariant-loop-import
invariant-loop-import l = l.places.keys ≡ with_places l.fn.places.keys (flat_map decl_blanks (take l.import-index l.import-items))
