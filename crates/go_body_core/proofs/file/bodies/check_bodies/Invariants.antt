use Rattle.std.proofs.Common.{◌≡◌, ◌++◌, map}
use Rattle.go_body_core.specs.file.Package.{checked_file_shown, files_checked, lent_tree}
use Rattle.go_body_core.proofs.FilePackages.{AreLeft}
use Rattle.go_body_core.proofs.file.bodies.check_bodies.Given as goal

abbrev pub invariant-loop-at : goal.invariant-loop-at
invariant-loop-at g l =
    let shows = g.P.ImportedNames.shows in
    record {
      checked : map checked_file_shown l.checked.items ++ files_checked shows l.at-iterator.a.rest.now (map lent_tree l.at-iterator.b.rest.now) ≡ files_checked shows l.files (map lent_tree l.trees);
      left : AreLeft shows g.K.TypesOf.types l.at-iterator.a.rest.now l.at-iterator.b.rest.now;
    }
