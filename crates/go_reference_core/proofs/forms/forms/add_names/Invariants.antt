use Rattle.std.proofs.Common.{map, take}
use Rattle.std.specs.Prelude.{string_bytes}
use Rattle.go_query_core.specs.complete_core.PlaceCompletions.{texts_of}
use Rattle.go_reference_core.specs.forms.Forms.{fitting_shown}
use Rattle.go_reference_core.specs.forms.mirrors.Listing.{AreListed}
use Rattle.go_reference_core.proofs.forms.forms.add_names.Given as goal

abbrev pub invariant-loop-name : goal.invariant-loop-name
invariant-loop-name l = AreListed (map texts_of l.all) l.form (take l.name-index (map string_bytes l.name-items)) (map fitting_shown l.found.items)
