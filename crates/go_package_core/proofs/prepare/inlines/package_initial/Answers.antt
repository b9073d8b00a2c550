use Rattle.go_body_core.specs.typexpr_core.EntryOutlines.{outline_shown}
use Rattle.go_package_core.specs.prepare.Inlines.{IsPlacedOutline, initial_types, types_stand}
use Rattle.go_package_core.specs.prepare.Packages.{outlines_in, package_in_shown}
use Rattle.go_package_core.proofs.PrepareLists.{mapped_end, mapped_step, seen_holds}
use Rattle.go_package_core.proofs.prepare.inlines.package_initial.Goals as goal

pub file_initial-requires-clause-placed : goal.file_initial-requires-clause-placed
file_initial-requires-clause-placed g c = seen_holds IsPlacedOutline outline_shown c.args.outlines.now c.loop-file.file c.index-outlines-file.result c.requires.placed c.loop-file-test.true c.index-outlines-file.is

pub loop-file-preserved : goal.loop-file-preserved
loop-file-preserved g c =
    let p = package_in_shown g.P.ImportedNames.shows c.args.at.now in
    mapped_step outline_shown (λ o. initial_types (types_stand p c.args.types.now o) o.1) c.args.outlines.now c.loop-file.file c.index-outlines-file.result c.loop-file.written.items c.add.new.all.items c.in_ok-file_initial.field-0
    c.loop-file-test.true c.index-outlines-file.is c.in_ok-add.ensures c.in_ok-file_initial.ensures c.loop-file.invariant

pub returns : goal.returns
returns g c =
    let p = package_in_shown g.P.ImportedNames.shows c.args.at.now in
    mapped_end outline_shown (λ o. initial_types (types_stand p c.args.types.now o) o.1) c.args.outlines.now c.loop-file.file c.loop-file.written.items (outlines_in p) c.loop-file-test.false c.requires.outlines c.loop-file.invariant
