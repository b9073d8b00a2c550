use Rattle.go_term_core.proofs.Members.{contained_in, in_contained}
use Rattle.go_report_core.specs.usage.Used.{used_places}
use Rattle.go_report_core.proofs.UsageUsing.{used_from, used_to}
use Rattle.go_report_core.proofs.usage.laws.used_imports_are_these.Goals as goal

pub returns : goal.returns
returns c b file os us at = (λ h. used_to b file at os us (in_contained (used_places b file os us) at h), λ h. contained_in (used_places b file os us) at (used_from b file at os us h))
