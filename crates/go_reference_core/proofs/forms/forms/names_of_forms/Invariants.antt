use Rattle.std.proofs.Common.{map, take}
use Rattle.std.specs.List.{AllZip}
use Rattle.go_query_core.specs.complete_core.PlaceCompletions.{texts_of}
use Rattle.go_reference_core.specs.forms.Forms.{AreNamesIn, form_shown}
use Rattle.go_reference_core.specs.forms.mirrors.Listing.{AreRising}
use Rattle.go_reference_core.proofs.forms.forms.names_of_forms.Given as goal

abbrev pub invariant-loop-form : goal.invariant-loop-form
invariant-loop-form l = record {
  names : AllZip (AreNamesIn l.path l.file) (map form_shown (take l.form-index l.forms)) (map texts_of l.all.items);
  rising : AreRising (map texts_of l.all.items);
}
