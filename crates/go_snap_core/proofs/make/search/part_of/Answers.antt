use Rattle.std.proofs.Common.{refl}
use Rattle.go_snap_core.proofs.MakeFinding.{part_found}
use Rattle.go_snap_core.proofs.make.search.part_of.Goals as goal

pub returns-clause-part : goal.returns-clause-part
returns-clause-part c =
    part_found c.args.sources.now c.packages.result.now c.args.parts.now c.args.parts.now c.args.path.now c.args.path.now c.in_ok-number.number c.in_ok-number.ensures.0 c.part_at.result
    c.packages.ensures.well c.packages.ensures.packages refl refl c.in_ok-number.ensures.1 c.part_at.ensures
