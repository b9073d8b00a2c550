use Rattle.std.proofs.Common.{map, rules, of_calls, subst, sym}
use Rattle.std.specs.Ordering.{is_lt}
use Rattle.std.proofs.lemmas.Fn.{always_returns_same}
use Rattle.std.proofs.lemmas.List.{length-map}
use Rattle.go_block_core.specs.Exports.{name_and_decl}
use Rattle.go_block_core.specs.mirrors.Orders.{HasPlaces, by_spelling}
use Rattle.go_block_core.proofs.Spelled.{by_weak, order_made}
use Rattle.go_block_core.proofs.name_order.order_of.Goals as goal

pub returns : goal.returns
returns c =
    let ns = map name_and_decl c.args.names.now in
    order_made ns c.in_ok-order.order.items c.sort_unstable_by.new.self.items
    (subst (λ n. HasPlaces n c.in_ok-order.order.items) (sym (length-map c.args.names.now name_and_decl)) c.in_ok-order.ensures)
    c.sort_unstable_by.ensures.permutation
    (c.sort_unstable_by.ensures.sorted (λ x y. is_lt (by_spelling ns x y)) (by_weak ns) (always_returns_same _ _ _ (λ a r f k. search (rules, of_calls))))
