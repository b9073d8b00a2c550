use Rattle.std.proofs.Common.{[], refl}
use Rattle.go_inline_core.proofs.ListLemmas.{adds_step, adds_whole}
use Rattle.go_inline_core.proofs.Outlines.{decl_lists, decls_listed}
use Rattle.go_inline_core.proofs.function.list_decls.Goals as goal

pub loop-decl-preserved : goal.loop-decl-preserved
loop-decl-preserved c = adds_step decl_lists [] c.args.decls.now c.loop-decl.decl-index c.decl-item.result _ _ _ c.loop-decl-test.true c.decl-item.is c.loop-decl.invariant c.list_decl.ensures

pub returns : goal.returns
returns c = adds_whole decl_lists [] c.args.decls.now c.args.decls.now c.loop-decl.decl-index _ _ _ refl c.loop-decl-test.false (decls_listed c.args.decls.now) c.loop-decl.invariant
