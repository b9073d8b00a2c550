use Rattle.go_summary_core.specs.shown.Shown.{MayBeShown, path_in, texts}
use Rattle.go_summary_core.proofs.ShownPicking.{adds_more, adds_none, adds_them}
use Rattle.go_summary_core.proofs.shown.paths.add_imports.Goals as goal

pub loop-import-init : goal.loop-import-init
loop-import-init c = adds_none (MayBeShown c.args.from.now) (texts c.args.paths.now.items)

pub loop-import-preserved : goal.loop-import-preserved
loop-import-preserved c =
    adds_more (MayBeShown c.args.from.now) path_in c.args.imports.now c.loop-import.import-index c.import-item.result (texts c.args.paths.now.items) (texts c.loop-import.paths.items) (texts c.add_import.new.paths.items) c.loop-import-test.true c.import-item.is c.loop-import.invariant
    c.in_ok-add_import.ensures

pub returns : goal.returns
returns c = adds_them (MayBeShown c.args.from.now) path_in c.args.imports.now c.loop-import.import-index (texts c.args.paths.now.items) (texts c.loop-import.paths.items) c.loop-import-test.false c.loop-import.invariant
