use Rattle.std.proofs.Common.{rules, of_calls}
use Rattle.std.specs.Ordering.{is_lt}
use Rattle.std.proofs.lemmas.Fn.{always_returns_same}
use Rattle.go_graph_core.specs.Workspaces.{by_bytes}
use Rattle.go_import_core.proofs.HeadSpanning.{parted}
use Rattle.go_import_core.proofs.head.spans.count_before.Goals as goal

pub returns-clause-before : goal.returns-clause-before
returns-clause-before c =
    (c.partition_point.ensures.partitioned (λ p. is_lt (by_bytes p.0 c.args.text.now)) (always_returns_same _ _ _ (λ a r f k. search (rules, of_calls))) (parted c.args.packages.now c.args.text.now c.requires)).0

pub returns-clause-behind : goal.returns-clause-behind
returns-clause-behind c =
    (c.partition_point.ensures.partitioned (λ p. is_lt (by_bytes p.0 c.args.text.now)) (always_returns_same _ _ _ (λ a r f k. search (rules, of_calls))) (parted c.args.packages.now c.args.text.now c.requires)).1
