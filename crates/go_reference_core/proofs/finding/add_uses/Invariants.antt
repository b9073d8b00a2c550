use Rattle.std.proofs.Common.{◌<◌}
use Rattle.go_handle_core.specs.Declarations.{site_shown}
use Rattle.go_reference_core.specs.mirrors.Adding.{Adds, IsOfUses}
use Rattle.go_reference_core.proofs.finding.add_uses.Given as goal

abbrev pub invariant-loop-number : goal.invariant-loop-number
invariant-loop-number l = Adds (λ r. IsOfUses (site_shown l.site) l.«package» l.file l.answers r × (r.number < l.number)) l.fn.references.items l.references.items
