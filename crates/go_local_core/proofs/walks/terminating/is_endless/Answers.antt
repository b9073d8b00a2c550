use Rattle.std.proofs.Common.{sym, ap, ◌∙◌}
use Rattle.go_tree_nodes.proofs.ShapeLemmas.{loop_parts}
use Rattle.go_local_core.specs.walks.Ends.{is_terminating}
use Rattle.go_local_core.proofs.WalksTerminatingLemmas.{and_of, and_not}
use Rattle.go_local_core.proofs.walks.terminating.is_endless.Goals as goal

pub returns-then-has_no_condition : goal.returns-then-has_no_condition
returns-then-has_no_condition c panics = and_of c.has_no_condition.result c.lines_have_break.result _ _ c.has_no_condition.ensures c.if-has_no_condition.true c.lines_have_break.ensures ∙ sym (ap (is_terminating panics) (loop_parts c.args.turns.now))

pub returns-else-has_no_condition : goal.returns-else-has_no_condition
returns-else-has_no_condition c panics = and_not c.has_no_condition.result _ _ c.has_no_condition.ensures c.if-has_no_condition.false ∙ sym (ap (is_terminating panics) (loop_parts c.args.turns.now))
