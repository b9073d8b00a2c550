use Rattle.std.proofs.Common.{rules, of_calls, nat_le, sym, get_or, arith, leb-true}
use Rattle.std.proofs.lemmas.Fn.{always_returns_same}
use Rattle.std.proofs.lemmas.List.Sorted.{IsPartitionedBy-leb}
use Rattle.go_lsp_core.proofs.PositionsLineStarts.{counted}
use Rattle.go_lsp_core.proofs.positions.starts.line_of.Goals as goal

pub returns-clause-count : goal.returns-clause-count
returns-clause-count c =
    sym (counted c.args.offset c.args.starts.now c.partition_point.result c.partition_point.ensures.bound
    (c.partition_point.ensures.partitioned (λ s. nat_le s c.args.offset) (always_returns_same _ _ _ (λ a r f k. search (rules, of_calls))) (IsPartitionedBy-leb (λ s. s) c.args.starts.now c.args.offset c.requires)))

pub returns-clause-before : goal.returns-clause-before
returns-clause-before c = λ i lt.
    (let point = c.partition_point.ensures.partitioned (λ s. nat_le s c.args.offset) (always_returns_same _ _ _ (λ a r f k. search (rules, of_calls))) (IsPartitionedBy-leb (λ s. s) c.args.starts.now c.args.offset c.requires) in
    leb-true (get_or c.args.starts.now i 0) c.args.offset (point.0 i 0 (omega arith) lt))
