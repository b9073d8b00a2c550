use Rattle.std.proofs.Common.{◌≡◌, ◌++◌, drop, map}
use Rattle.go_term_core.specs.decl_core.Shown.{decl_shown}
use Rattle.go_emit_core.specs.meaning.Scenes.{decl_at}
use Rattle.go_emit_core.proofs.meaning.scene.add_decls.Given as goal

abbrev pub invariant-loop-decl : goal.invariant-loop-decl
invariant-loop-decl l = l.fn.decls.items ++ map (decl_at l.file) (map decl_shown l.tops) ≡ l.decls.items ++ map (decl_at l.file) (map decl_shown (drop l.decl-index l.tops))
