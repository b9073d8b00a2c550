use Rattle.std.proofs.Common.{false, ap}
use Rattle.go_handle_core.specs.Declarations.{site_shown}
use Rattle.go_reference_core.specs.rename.Moving.{IsMovedInFile, moves_of}
use Rattle.go_reference_core.proofs.RenameKept.{at_value, nothing, other_path, same_path}
use Rattle.go_reference_core.proofs.rename.places.is_moved_in_file.Goals as goal

pub returns-in-Universe : goal.returns-in-Universe
returns-in-Universe c = at_value false (IsMovedInFile (moves_of c.args.names.now) c.args.packages.now c.args.path.now c.args.place) (site_shown c.args.new) _ (ap site_shown c.in-Universe.is) nothing

pub returns-in-ErrorMethod : goal.returns-in-ErrorMethod
returns-in-ErrorMethod c = at_value false (IsMovedInFile (moves_of c.args.names.now) c.args.packages.now c.args.path.now c.args.place) (site_shown c.args.new) _ (ap site_shown c.in-ErrorMethod.is) nothing

pub returns-in-Package : goal.returns-in-Package
returns-in-Package c = at_value false (IsMovedInFile (moves_of c.args.names.now) c.args.packages.now c.args.path.now c.args.place) (site_shown c.args.new) _ (ap site_shown c.in-Package.is) nothing

pub returns-then-not-is_same : goal.returns-then-not-is_same
returns-then-not-is_same c =
    at_value false (IsMovedInFile (moves_of c.args.names.now) c.args.packages.now c.args.path.now c.args.place) (site_shown c.args.new) _ (ap site_shown c.in-InFile.is)
    (other_path (moves_of c.args.names.now) c.args.packages.now c.args.path.now c.args.place c.in-InFile.its.now c.in-InFile.there c.is_same.result c.if-not-is_same.true c.is_same.ensures)

pub returns-else-not-is_same : goal.returns-else-not-is_same
returns-else-not-is_same c =
    at_value c.is_moved_place.result (IsMovedInFile (moves_of c.args.names.now) c.args.packages.now c.args.path.now c.args.place) (site_shown c.args.new) _ (ap site_shown c.in-InFile.is)
    (same_path (moves_of c.args.names.now) c.args.packages.now c.args.path.now c.args.place c.in-InFile.its.now c.in-InFile.there c.is_same.result c.is_moved_place.result c.if-not-is_same.false c.is_same.ensures c.is_moved_place.ensures)
