use Rattle.std.proofs.Common.{rules, of_calls}
use Rattle.std.specs.Ordering.{eq_by_cmp}
use Rattle.std.proofs.lemmas.Fn.{dedup_same}
use Rattle.go_report_core.specs.Faults.{fault_order, IsSettled}
use Rattle.go_report_core.proofs.Settled.{settles}
use Rattle.go_report_core.proofs.settling.settle_faults.Given.{Over}
use Rattle.go_report_core.proofs.settling.settle_faults.Goals.{After-dedup_by}
use Rattle.go_report_core.proofs.settling.settle_faults.Goals as goal

settled : (g : Over) (c : After-dedup_by g) → IsSettled g.row.D.Denot g.row.P.Denot c.args.uses.now c.args.faults.now c.dedup_by.new.self.items
settled g c =
    settles c.args.uses.now c.args.faults.now c.in_ok-settled.settled.items c.sort.new.faults.items c.dedup_by.new.self.items c.in_ok-settled.ensures c.sort.ensures.moved c.sort.ensures.sorted
    (dedup_same _ (eq_by_cmp fault_order) _ (λ x y b f' x' y' k. search (rules, of_calls)) _ _ c.dedup_by.ensures.filtered)

pub returns-clause-ordered : goal.returns-clause-ordered
returns-clause-ordered g c = (settled g c).ordered

pub returns-clause-kept : goal.returns-clause-kept
returns-clause-kept g c = (settled g c).kept

pub returns-clause-found : goal.returns-clause-found
returns-clause-found g c = (settled g c).found

pub returns-clause-unsaid : goal.returns-clause-unsaid
returns-clause-unsaid g c = (settled g c).unsaid
