use Rattle.go_constant_core.proofs.Meanings.{ints_compare, one_int, one_text}
use Rattle.go_constant_core.proofs.laws.orders_are_total.Goals as goal

pub returns : goal.returns
returns c = record { ints = ints_compare; ints_are_ordered = one_int; texts_are_ordered = one_text }
