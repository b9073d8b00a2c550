use Rattle.std.proofs.Common.{ap, ◌∙◌}
use Rattle.std.proofs.lemmas.Result.{on_ok_weaker}
use Rattle.go_block_core.specs.scope_stack.Blocks.{list_names}
use Rattle.go_scope_core.proofs.Listed.{universe_names}
use Rattle.go_scope_core.proofs.names.add_predeclared.Goals as goal

pub returns-clause-ok : goal.returns-clause-ok
returns-clause-ok c = on_ok_weaker c.add_spellings.result (λ h. h ∙ ap (list_names c.args.names.now) universe_names) c.add_spellings.ensures.ok
