use Rattle.std.proofs.Common.{map, take}
use Rattle.std.specs.List.{AllZip}
use Rattle.go_term_core.specs.decl_core.Shown.{decl_shown}
use Rattle.go_inline_core.specs.Functions as functions
use Rattle.go_package_core.specs.prepare.Inlines.{outline_funcs}
use Rattle.go_package_core.proofs.prepare.inlines.decl_functions.Given as goal

abbrev pub invariant-loop-decl : goal.invariant-loop-decl
invariant-loop-decl g l =
    AllZip (functions.AreInlines (functions.kinds_in_ground l.ground) (functions.file_in l.ground) (functions.top_in g.P.ImportedNames.shows l.ground) (functions.scoped_beyond l.ground)) (outline_funcs (map decl_shown (take l.decl-index l.decls))) l.written.items
