use Rattle.std.proofs.Common.{rules, of_calls}
use Rattle.std.proofs.lemmas.Fn.{always_returns_same}
use Rattle.go_term_core.specs.decl_core.Order.{is_ref_before}
use Rattle.go_typexpr_core.proofs.AliasesMaking.{aliases_split}
use Rattle.go_typexpr_core.proofs.aliases.written.count_before.Goals as goal

pub returns-clause-split : goal.returns-clause-split
returns-clause-split c = c.partition_point.ensures.partitioned (λ a. is_ref_before a.decl c.args.decl) (always_returns_same _ _ _ (λ a r f k. search (rules, of_calls))) (aliases_split c.args.aliases.now c.args.decl c.requires)
