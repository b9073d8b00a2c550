use Rattle.std.proofs.Common.{rules, of_calls}
use Rattle.std.proofs.lemmas.Fn.{always_returns_same}
use Rattle.go_type_core.proofs.Keyed.{rise_split}
use Rattle.go_type_core.proofs.own_keys.count_before.Goals as goal
use Rattle.go_term_core.specs.decl_core.Order.{is_ref_before}

pub returns-clause-split : goal.returns-clause-split
returns-clause-split c = c.partition_point.ensures.partitioned (λ d. is_ref_before d c.args.decl) (always_returns_same _ _ _ (λ a r f k. search (rules, of_calls))) (rise_split c.args.decls.now c.args.decl c.requires)
