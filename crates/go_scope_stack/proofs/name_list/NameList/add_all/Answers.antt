use Rattle.std.proofs.Common.{map, refl, sym, ap, ◌∙◌}
use Rattle.std.proofs.lemmas.List.{drop_all}
use Rattle.go_scope_stack.specs.Blocks.{list_names}
use Rattle.go_scope_stack.proofs.Names.{name_step}
use Rattle.go_scope_stack.proofs.name_list.NameList.add_all.Goals as goal

pub loop-name-init : goal.loop-name-init
loop-name-init c = refl

pub loop-name-preserved : goal.loop-name-preserved
loop-name-preserved c = name_step c.args.more.now c.loop-name.name-index _ _ _ _ c.loop-name-test.true c.in_ok-add.ensures.ok c.loop-name.invariant

pub returns-clause-ok : goal.returns-clause-ok
returns-clause-ok c = sym (ap (λ l. list_names c.loop-name.self (map (λ n. n.now) l)) (drop_all c.loop-name.name-index c.args.more.now c.loop-name-test.false)) ∙ c.loop-name.invariant
