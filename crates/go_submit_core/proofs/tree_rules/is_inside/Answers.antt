use Rattle.std.proofs.Common.{subst}
use Rattle.std.specs.Bool.{IsTrue}
use Rattle.go_path_core.specs.Path.{elements, IsPrefix}
use Rattle.go_graph_core.proofs.Keeping.{tests_inside}
use Rattle.go_submit_core.proofs.tree_rules.is_inside.Goals as goal

pub returns : goal.returns
returns c =
    let says = subst (λ p. (IsTrue c.contains.result → IsPrefix (elements c.args.own.now) (elements p)) × (IsPrefix (elements c.args.own.now) (elements p) → IsTrue c.contains.result)) c.path.ensures c.contains.ensures in
    tests_inside c.args.own.now c.args.source.now.0 c.contains.result says.0 says.1
