use Rattle.std.proofs.Common.{nat_eq, ◌∙◌}
use Rattle.std.specs.HashSet.{contains}
use Rattle.go_tree_nodes.specs.Shapes.{lines_of}
use Rattle.go_body_core.specs.Ends.{panics_at}
use Rattle.go_body_core.proofs.Ending.{ends_alike}
use Rattle.go_body_core.proofs.ends.are_ending.Goals as goal

pub returns : goal.returns
returns c = c.are_terminating.ensures ∙ ends_alike (contains nat_eq c.in_ok-offsets.offsets) (panics_at c.args.uses.now) c.in_ok-offsets.ensures (lines_of c.args.lines.now.items)
