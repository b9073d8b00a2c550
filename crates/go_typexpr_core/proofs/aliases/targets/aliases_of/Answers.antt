use Rattle.std.proofs.Common.{ap, ◌∙◌}
use Rattle.go_typexpr_core.specs.aliases.mirrors.Numbered.{nexts}
use Rattle.go_typexpr_core.proofs.AliasesMaking.{all_inside, ends_are, shown}
use Rattle.go_typexpr_core.proofs.aliases.targets.aliases_of.Goals as goal

pub chain_ends-requires : goal.chain_ends-requires
chain_ends-requires c =
    let path = c.args.path.now in
    all_inside path (shown c.args.written.items) c.deref-2.result.now (c.deref-2.ensures.value ∙ (c.in_ok-next.ensures ∙ ap (λ l. nexts path (shown l)) c.deref.ensures.value))

pub returns : goal.returns
returns c =
    let path = c.args.path.now in
    c.with.ensures ∙ ends_are path (shown c.args.written.items) c.deref-2.result.now c.in_ok-ends.ends.items (c.deref-2.ensures.value ∙ (c.in_ok-next.ensures ∙ ap (λ l. nexts path (shown l)) c.deref.ensures.value)) c.in_ok-ends.ensures
