use Rattle.std.proofs.Common.{Vec, take}
use Rattle.std.specs.List.{flat_map}
use Rattle.std.specs.declared.alloc.Global.{Global}
use Rattle.go_declared_core.specs.block_core.declared.imports.Imported.{Imported}
use Rattle.go_summary_core.specs.shown.Shown.{MayBeShown, path_in, texts}
use Rattle.go_summary_core.specs.shown.mirrors.Adding.{AddsPicked}
use Rattle.go_summary_core.proofs.shown.paths.add_all_imports.Given as goal

abbrev pub invariant-loop-imports : goal.invariant-loop-imports
invariant-loop-imports l = AddsPicked (MayBeShown l.fn.from) (flat_map (λ (is : Vec Imported Global). flat_map path_in is.items) (take l.imports-index l.fn.files)) (texts l.fn.paths.items) (texts l.paths.items)
