use Rattle.std.proofs.Common.{◌<◌}
use Rattle.go_handle_core.specs.Declarations.{site_shown}
use Rattle.go_reference_core.specs.mirrors.Adding.{Adds, IsOfFiles}
use Rattle.go_reference_core.proofs.finding.add_part.Given as goal

abbrev pub invariant-loop-file : goal.invariant-loop-file
invariant-loop-file l = Adds (λ r. IsOfFiles (site_shown l.site) l.«package» l.part.content.files r × (r.file < l.file)) l.fn.references.items l.references.items
