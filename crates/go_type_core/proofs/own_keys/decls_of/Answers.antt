use Rattle.go_type_core.proofs.Keyed.{decls_step, decls_all}
use Rattle.go_type_core.proofs.own_keys.decls_of.Goals as goal

pub loop-entry-preserved : goal.loop-entry-preserved
loop-entry-preserved c = decls_step c.args.entries.now c.loop-entry.decls.items _ c.loop-entry.entry-index c.entry-item.result c.loop-entry-test.true c.entry-item.is c.loop-entry.invariant c.in_ok-push.ensures.items

pub returns : goal.returns
returns c = decls_all c.args.entries.now c.loop-entry.decls.items c.loop-entry.entry-index c.loop-entry-test.false c.loop-entry.invariant
