use Rattle.std.proofs.Common.{map, take}
use Rattle.std.specs.List.{AllZip, enumerate_from}
use Rattle.go_body_core.specs.typexpr_core.EntryOutlines.{outline_shown}
use Rattle.go_package_core.specs.prepare.Inlines.{AreOutlinedTypes, types_stand}
use Rattle.go_package_core.specs.prepare.Packages.{package_in_shown}
use Rattle.go_package_core.proofs.prepare.inlines.package_functions.Given as goal

abbrev pub invariant-loop-file : goal.invariant-loop-file
invariant-loop-file g l =
    AllZip (λ o of_file. AreOutlinedTypes (types_stand (package_in_shown g.P.ImportedNames.shows l.at) l.types o) o.1 of_file) (enumerate_from 0 (map outline_shown (take l.file l.outlines))) (map (λ of_file. of_file.items) l.written.items)
