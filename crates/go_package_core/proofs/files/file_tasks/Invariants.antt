use Rattle.std.proofs.Common.{◌≡◌, map, length, take}
use Rattle.std.specs.List.{AllZip, enumerate_from}
use Rattle.go_body_core.specs.typexpr_core.EntryOutlines.{outline_shown}
use Rattle.go_report_core.specs.declared_core.Laws.{package_decls}
use Rattle.go_package_core.specs.prepare.Packages.{package_in_shown}
use Rattle.go_package_core.specs.mirrors.TasksOf.{IsTaskOf}
use Rattle.go_package_core.proofs.files.file_tasks.Given as goal

abbrev pub invariant-loop-file : goal.invariant-loop-file
invariant-loop-file g l =
    let p = package_in_shown g.P.ImportedNames.shows l.at in
    record {
      tasks : AllZip (IsTaskOf g.N.ImportedNames.shows p l.scene.types.now l.declared.known.items l.type_faults l.declared.looped.items) (enumerate_from 0 (take l.file p.trees)) l.tasks.items;
      first : l.first ≡ length (package_decls (map outline_shown (take l.file l.outlines)));
    }
