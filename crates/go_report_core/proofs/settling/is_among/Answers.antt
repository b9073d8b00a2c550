use Rattle.std.proofs.Common.{rules, of_calls, ◌∙◌}
use Rattle.std.proofs.lemmas.Fn.{always_returns_same}
use Rattle.go_expr_core.specs.local_core.declared.Fault.{Fault}
use Rattle.go_report_core.specs.Faults.{fault_order}
use Rattle.go_report_core.proofs.Settled.{searched}
use Rattle.go_report_core.proofs.settling.is_among.Goals as goal

pub returns : goal.returns
returns c =
    c.is_ok.ensures.value
    ∙ searched c.args.sorted.now c.args.fault c.binary_search_by.result c.requires c.binary_search_by.ensures.bound
    (c.binary_search_by.ensures.position (λ (g : Fault). fault_order g c.args.fault) (always_returns_same _ _ _ (λ a r f k. search (rules, of_calls))))
