use Rattle.std.proofs.Common.{map, rules, of_calls}
use Rattle.std.proofs.lemmas.Fn.{always_returns_same}
use Rattle.go_block_core.specs.Exports.{name_and_decl}
use Rattle.go_block_core.specs.mirrors.Orders.{is_below}
use Rattle.go_block_core.proofs.Spelled.{order_split}
use Rattle.go_block_core.proofs.name_order.count_below.Goals as goal

pub returns-clause-split : goal.returns-clause-split
returns-clause-split c =
    let ns = map name_and_decl c.args.names.now in
    c.partition_point.ensures.partitioned (is_below ns c.args.name.now) (always_returns_same _ _ _ (λ a r f k. search (rules, of_calls))) (order_split ns c.args.order.now c.args.name.now c.requires)
