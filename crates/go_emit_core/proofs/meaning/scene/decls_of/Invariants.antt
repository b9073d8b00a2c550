use Rattle.std.proofs.Common.{◌≡◌, ◌++◌, drop, map}
use Rattle.go_declared_core.specs.typexpr_core.EntryOutlines.{outline_shown}
use Rattle.go_emit_core.specs.meaning.mirrors.Listing.{outlines_decls}
use Rattle.go_emit_core.proofs.meaning.scene.decls_of.Given as goal

abbrev pub invariant-loop-file : goal.invariant-loop-file
invariant-loop-file l = l.decls.items ++ outlines_decls l.file (map outline_shown (drop l.file l.outlines)) ≡ outlines_decls 0 (map outline_shown l.outlines)
