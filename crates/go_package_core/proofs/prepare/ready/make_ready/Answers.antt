use Rattle.std.proofs.Common.{map, ◌∙◌}
use Rattle.go_body_core.specs.typexpr_core.EntryOutlines.{outline_shown}
use Rattle.go_report_core.specs.declared_core.Written.{package_written}
use Rattle.go_package_core.specs.prepare.Packages.{package_in_shown}
use Rattle.go_package_core.proofs.PrepareMade.{all_outlines}
use Rattle.go_package_core.proofs.prepare.ready.make_ready.Goals as goal

pub written_faces-requires : goal.written_faces-requires
written_faces-requires g c =
    let p = package_in_shown g.P.ImportedNames.shows c.args.at.now in
    all_outlines (map outline_shown c.args.outlines.now) p.trees c.requires.outlines

pub returns-clause-written : goal.returns-clause-written
returns-clause-written g c =
    let p = package_in_shown g.P.ImportedNames.shows c.args.at.now in
    let names = c.requires.names in
    let path = c.path-path.ensures in
    let os = c.requires.outlines in
    c.in_ok-written.ensures ∙ (λ i. package_written (names i) (path i) p.blocks c.args.types.now (os i))
