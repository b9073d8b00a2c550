use Rattle.std.proofs.Common.{map}
use Rattle.go_typexpr_core.specs.entry.Entries.{package_meanings}
use Rattle.go_typexpr_core.specs.entry.Outlines.{outline_shown}
use Rattle.go_declared_core.specs.Held.{written_shown}
use Rattle.go_declared_core.specs.Written.{package_written}
use Rattle.go_declared_core.proofs.Ascending.{rises_as, written_rises}
use Rattle.go_declared_core.proofs.making.written_faces.Goals as goal

pub invariant_of-result : goal.invariant_of-result
invariant_of-result g c =
    let shows = g.P.ImportedNames.shows c.args.imported.now in
    let os = map outline_shown c.args.outlines.now in
    rises_as (map written_shown c.in_ok-decls.decls.items) (package_written shows c.args.path.now c.args.blocks.now c.args.types.now os) c.in_ok-decls.ensures
    (written_rises (package_meanings shows c.args.path.now c.args.blocks.now) c.args.path.now c.args.types.now os c.requires)
