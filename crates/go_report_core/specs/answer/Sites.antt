-- Where things are declared, as it is held.
use Rattle.go_summary_core.specs.handle_core.Declarations.{Declaration, Universe, OfError, Package, InFile}
use Rattle.go_report_core.specs.declared.answer.site.Held.{Held}
use Rattle.go_report_core.specs.declared.answer.site.Held.TheVariants as held

abbrev pub held_shown : Held → Declaration
held_shown (held.Universe name) = Universe name
held_shown held.ErrorMethod = OfError
held_shown (held.«Package» path) = Package path
held_shown (held.InFile path place) = InFile path place
