use Rattle.go_local_core.specs.scope_stack.Blocks.{innermost}
use Rattle.go_names_core.proofs.ShortLemmas.{short_step}
use Rattle.go_names_core.proofs.declaring.short_names.Goals as goal

pub loop-ident-preserved : goal.loop-ident-preserved
loop-ident-preserved c =
    short_step (innermost c.args.scopes.now.open_blocks) c.args.idents.now c.loop-ident.ident-index c.ident-item.result c.as_str.result.now c.loop-ident.seen c.short_name.new.seen c.loop-ident.shorts.items c.push.new.self.items c.in_ok-short.short
    c.loop-ident-test.true c.ident-item.is c.as_str.ensures c.loop-ident.invariant c.in_ok-short.ensures.short c.in_ok-short.ensures.seen c.in_ok-push.ensures.items
