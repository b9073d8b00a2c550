use Rattle.std.proofs.Common.{[], map, sym, subst}
use Rattle.std.specs.List.{AllZip}
use Rattle.go_body_core.specs.typexpr_core.EntryOutlines.{outline_shown}
use Rattle.go_package_core.specs.prepare.Inlines.{AreOutlinedTypes, IsPlacedOutline, types_stand}
use Rattle.go_package_core.specs.prepare.Packages.{outlines_in, package_in_shown}
use Rattle.go_package_core.proofs.PrepareLists.{seen_holds, zip_end, zip_step}
use Rattle.go_package_core.proofs.prepare.inlines.package_functions.Goals as goal

pub loop-file-init : goal.loop-file-init
loop-file-init g c =
    let p = package_in_shown g.P.ImportedNames.shows c.args.at.now in
    subst (λ l. AllZip (λ o of_file. AreOutlinedTypes (types_stand p c.args.types.now o) o.1 of_file) [] (map (λ of_file. of_file.items) l)) (sym c.new-written.ensures.items) tt

pub file_functions-requires-clause-placed : goal.file_functions-requires-clause-placed
file_functions-requires-clause-placed g c = seen_holds IsPlacedOutline outline_shown c.args.outlines.now c.loop-file.file c.index-outlines-file.result c.requires.placed c.loop-file-test.true c.index-outlines-file.is

pub loop-file-preserved : goal.loop-file-preserved
loop-file-preserved g c =
    let p = package_in_shown g.P.ImportedNames.shows c.args.at.now in
    zip_step outline_shown (λ o of_file. AreOutlinedTypes (types_stand p c.args.types.now o) o.1 of_file) (λ of_file. of_file.items) c.args.outlines.now c.loop-file.file c.index-outlines-file.result c.loop-file.written.items
    c.add.new.all.items c.in_ok-file_functions.field-0 c.loop-file-test.true c.index-outlines-file.is c.in_ok-add.ensures c.in_ok-file_functions.ensures c.loop-file.invariant

pub returns : goal.returns
returns g c =
    let p = package_in_shown g.P.ImportedNames.shows c.args.at.now in
    zip_end outline_shown (λ o of_file. AreOutlinedTypes (types_stand p c.args.types.now o) o.1 of_file) c.args.outlines.now c.loop-file.file (map (λ of_file. of_file.items) c.loop-file.written.items) (outlines_in p) c.loop-file-test.false
    c.requires.outlines c.loop-file.invariant
