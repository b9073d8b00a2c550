use Rattle.std.proofs.Common.{take}
use Rattle.std.specs.List.{flat_map}
use Rattle.go_summary_core.specs.shown.Shown.{MayBeShown, path_in, texts}
use Rattle.go_summary_core.specs.shown.mirrors.Adding.{AddsPicked}
use Rattle.go_summary_core.proofs.shown.paths.add_imports.Given as goal

abbrev pub invariant-loop-import : goal.invariant-loop-import
invariant-loop-import l = AddsPicked (MayBeShown l.fn.from) (flat_map path_in (take l.import-index l.fn.imports)) (texts l.fn.paths.items) (texts l.paths.items)
