use Rattle.std.proofs.Common.{◌≡◌, take, map}
use Rattle.go_declared_core.specs.block_core.Exports.{name_and_decl}
use Rattle.go_summary_core.proofs.alike.names.same_decls.Given as goal

abbrev pub invariant-loop-place : goal.invariant-loop-place
invariant-loop-place l = map name_and_decl (take l.place l.names) ≡ map name_and_decl (take l.place l.others)
