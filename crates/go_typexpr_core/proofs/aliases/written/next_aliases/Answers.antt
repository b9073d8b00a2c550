use Rattle.go_term_core.specs.Shapes.{shape}
use Rattle.go_typexpr_core.specs.aliases.mirrors.Numbered.{named_number}
use Rattle.go_typexpr_core.proofs.AliasesMaking.{next_all, next_step, refs}
use Rattle.go_typexpr_core.proofs.aliases.written.next_aliases.Goals as goal

pub loop-alias-preserved : goal.loop-alias-preserved
loop-alias-preserved c =
    next_step (λ a. named_number c.args.path.now (refs c.args.aliases.now) (shape a.term)) c.args.aliases.now c.loop-alias.next.items _ c.loop-alias.alias-index c.alias-item.result c.named_number.result
    c.loop-alias-test.true c.alias-item.is c.named_number.ensures c.loop-alias.invariant c.in_ok-push.ensures.items

pub returns : goal.returns
returns c = next_all c.args.path.now c.args.aliases.now c.loop-alias.next.items c.loop-alias.alias-index c.loop-alias-test.false c.loop-alias.invariant
