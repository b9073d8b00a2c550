use Rattle.std.proofs.Common.{ℕ, List}
use Rattle.go_handle_core.specs.Declarations.{Declaration}
use Rattle.go_package_core.specs.report_core.Settled.{settled_are_one}
use Rattle.govisd_resolve.proofs.InputsAgree.{inputs_agree}
use Rattle.govisd_resolve.proofs.OneFound.{found_agree}
use Rattle.govisd_resolve.proofs.laws.one_input.Goals as goal

pub returns : goal.returns
returns c =
    inputs_agree c.one_tree.ensures c.one_rule.ensures (found_agree (settled_are_one Declaration (List ℕ)) c.reports_are_one.ensures c.one_blocks_alone.ensures c.one_check.ensures c.one_outcome.ensures)
