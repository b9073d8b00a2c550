use Rattle.std.proofs.Common.{◌<◌, []}
use Rattle.go_handle_core.specs.Declarations.{site_shown}
use Rattle.go_reference_core.specs.References.{IsReference}
use Rattle.go_reference_core.specs.mirrors.Adding.{Adds}
use Rattle.go_reference_core.proofs.finding.references.Given as goal

abbrev pub invariant-loop-package : goal.invariant-loop-package
invariant-loop-package l = Adds (λ r. IsReference l.snapshot (site_shown l.site) r × (r.«package» < l.«package»)) [] l.references.items
