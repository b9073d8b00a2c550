use Rattle.std.proofs.Common.{rules}
use Rattle.go_digraph_core.proofs.ReachChanges.{empty_numbers}
use Rattle.go_digraph_core.proofs.reach.numbers.NumberSet.empty.Goals as goal

pub returns : goal.returns
returns c = empty_numbers c.args.bound _ c.in_ok-from_elem.field-0.items (c.in_ok-from_elem.ensures.items_if_clones_equal (search rules))
