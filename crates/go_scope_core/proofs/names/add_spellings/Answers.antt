use Rattle.std.proofs.Common.{map, refl, sym, ap, ◌∙◌}
use Rattle.std.proofs.lemmas.List.{drop_all}
use Rattle.go_universe_core.specs.Universe.{spelling_of}
use Rattle.go_block_core.specs.scope_stack.Blocks.{list_name, list_names}
use Rattle.go_scope_core.proofs.Listed.{spelling_step}
use Rattle.go_scope_core.proofs.names.add_spellings.Goals as goal

pub loop-name-init : goal.loop-name-init
loop-name-init c = refl

pub loop-name-preserved : goal.loop-name-preserved
loop-name-preserved c = spelling_step c.args.predeclared.now c.loop-name.name-index _ _ _ _ c.loop-name-test.true (c.in_ok-add.ensures.ok ∙ ap (list_name c.loop-name.names) c.spelling.ensures) c.loop-name.invariant

pub returns-clause-ok : goal.returns-clause-ok
returns-clause-ok c = sym (ap (λ l. list_names c.loop-name.names (map spelling_of l)) (drop_all c.loop-name.name-index c.args.predeclared.now c.loop-name-test.false)) ∙ c.loop-name.invariant
