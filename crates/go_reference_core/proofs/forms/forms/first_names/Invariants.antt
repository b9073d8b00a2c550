use Rattle.std.proofs.Common.{[], map}
use Rattle.go_query_core.specs.complete_core.PlaceCompletions.{texts_of}
use Rattle.go_reference_core.specs.forms.Forms.{fitting_shown}
use Rattle.go_reference_core.specs.forms.mirrors.Listing.{AreListed}
use Rattle.go_reference_core.proofs.forms.forms.first_names.Given as goal

abbrev pub invariant-loop-form : goal.invariant-loop-form
invariant-loop-form l = AreListed (map texts_of l.all) l.form [] (map fitting_shown l.found.items)
