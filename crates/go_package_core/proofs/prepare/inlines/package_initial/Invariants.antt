use Rattle.std.proofs.Common.{◌≡◌, map, take}
use Rattle.std.specs.List.{enumerate_from}
use Rattle.go_body_core.specs.typexpr_core.EntryOutlines.{outline_shown}
use Rattle.go_package_core.specs.prepare.Inlines.{initial_types, types_stand}
use Rattle.go_package_core.specs.prepare.Packages.{package_in_shown}
use Rattle.go_package_core.proofs.prepare.inlines.package_initial.Given as goal

abbrev pub invariant-loop-file : goal.invariant-loop-file
invariant-loop-file g l = l.written.items ≡ map (λ o. initial_types (types_stand (package_in_shown g.P.ImportedNames.shows l.at) l.types o) o.1) (enumerate_from 0 (map outline_shown (take l.file l.outlines)))
