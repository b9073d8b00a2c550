use Rattle.std.proofs.Common.{rules, of_calls}
use Rattle.std.specs.Prelude.{nat_le}
use Rattle.std.proofs.lemmas.Fn.{always_returns_same}
use Rattle.go_doc_core.proofs.OrderLemmas.{ends_part, split_there}
use Rattle.go_doc_core.proofs.runs.count_above.Goals as goal

pub returns-clause-split : goal.returns-clause-split
returns-clause-split c =
    split_there c.args.comments.now c.args.at c.partition_point.result
    (c.partition_point.ensures.partitioned (λ x. nat_le x.span.end c.args.at) (always_returns_same _ _ _ (λ a r f k. search (rules, of_calls))) (ends_part c.args.comments.now c.args.at c.requires))
