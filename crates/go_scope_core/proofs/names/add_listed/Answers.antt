use Rattle.std.proofs.Common.{map, ap, ◌∙◌}
use Rattle.std.proofs.lemmas.Result.{on_ok_weaker}
use Rattle.go_block_core.specs.scope_stack.Blocks.{list_names}
use Rattle.go_scope_core.proofs.names.add_listed.Goals as goal

pub returns-in-Ok-clause-ok : goal.returns-in-Ok-clause-ok
returns-in-Ok-clause-ok g c = on_ok_weaker c.add_all.result
    (λ added. (c.in-Ok.more, c.in-Ok.is, added ∙ ap (λ l. list_names c.args.names.now (map (λ n. n.now) l)) c.as_slice.ensures.value))
    c.add_all.ensures.ok
