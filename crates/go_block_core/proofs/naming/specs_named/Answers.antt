use Rattle.std.proofs.Common.{◌<◌, ◌++◌, ◌∷◌, [], length, ap, ◌∙◌, arith}
use Rattle.go_block_core.proofs.NamingSteps.{import_more, all_imports}
use Rattle.go_block_core.proofs.naming.specs_named.Goals as goal

pub loop-import-init : goal.loop-import-init
loop-import-init c = c.in_ok-imports.ensures.items

pub bounds-imported-import : goal.bounds-imported-import
bounds-imported-import c = omega (arith, c.loop-import-test.true, c.requires)

pub loop-import-preserved : goal.loop-import-preserved
loop-import-preserved c =
    let below : c.loop-import.import < length c.args.imported.now = omega (arith, c.loop-import-test.true, c.requires) in
    import_more c.args.specs.now c.args.imported.now c.loop-import.import c.index-specs-import.result c.index-imported-import.result c.loop-import.imports.items c.add.new.all.items c.loop-import-test.true below c.index-specs-import.is c.index-imported-import.is c.loop-import.invariant (c.in_ok-add.ensures ∙ ap (λ i. c.loop-import.imports.items ++ i ∷ []) c.in_ok-named.ensures)

pub returns : goal.returns
returns c = all_imports c.args.specs.now c.args.imported.now c.loop-import.import c.loop-import.imports.items c.loop-import-test.false c.requires c.loop-import.invariant
