use Rattle.std.proofs.Common.{sym, ◌∙◌}
use Rattle.go_cursor_core.proofs.FileLists.{top_hit, top_passed}
use Rattle.go_cursor_core.proofs.file.spot_in_file.Goals as goal

pub returns-then-is_some : goal.returns-then-is_some
returns-then-is_some c =
    top_hit c.args.start c.deref-top-items.result.now c.args.file.now.decls.items c.loop-top.top-index c.top-item.result c.in_ok-found.found c.deref-top-items.ensures.value c.loop-top-test.true c.top-item.is c.loop-top.invariant c.in_ok-found.ensures (sym c.is_some.ensures ∙ c.if-is_some.true)

pub loop-top-preserved : goal.loop-top-preserved
loop-top-preserved c =
    top_passed c.args.start c.deref-top-items.result.now c.loop-top.top-index c.top-item.result c.in_ok-found.found c.loop-top-test.true c.top-item.is c.loop-top.invariant c.in_ok-found.ensures (sym c.is_some.ensures ∙ c.if-is_some.false)
