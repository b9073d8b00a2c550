use Rattle.std.proofs.Common.{map}
use Rattle.go_query_core.specs.complete_core.PlaceCompletions.{texts_of}
use Rattle.go_reference_core.proofs.FormsNamed.{Missing}
use Rattle.go_reference_core.proofs.forms.forms.is_among_first.Given as goal

abbrev pub invariant-loop-form : goal.invariant-loop-form
invariant-loop-form l = Missing (map texts_of l.all) l.name l.form
