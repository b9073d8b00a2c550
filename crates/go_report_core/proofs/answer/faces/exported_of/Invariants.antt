use Rattle.std.proofs.Common.{◌≡◌, ◌++◌, map, drop}
use Rattle.go_block_core.specs.Exports.{name_and_decl}
use Rattle.go_report_core.specs.answer.Shown.{exported_decls}
use Rattle.go_report_core.proofs.answer.faces.exported_of.Given as goal

abbrev pub invariant-loop-named : goal.invariant-loop-named
invariant-loop-named l = l.decls.items ++ exported_decls (map name_and_decl (drop l.named-index l.block)) ≡ exported_decls (map name_and_decl l.block)
