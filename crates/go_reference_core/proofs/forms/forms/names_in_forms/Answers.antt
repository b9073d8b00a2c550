use Rattle.std.proofs.Common.{map, sym, ap, subst}
use Rattle.std.proofs.lemmas.Result.{IfOk-weaker}
use Rattle.go_query_core.specs.complete_core.PlaceCompletions.{texts_of}
use Rattle.go_reference_core.specs.forms.Forms.{fitting_shown}
use Rattle.go_reference_core.specs.forms.mirrors.Listing.{AreFirst, AreRising}
use Rattle.go_reference_core.proofs.forms.forms.names_in_forms.Goals as goal

pub first_names-requires : goal.first_names-requires
first_names-requires c = subst AreRising (sym (ap (map texts_of) c.deref.ensures.value)) c.in_ok-all.ensures.rising

pub returns : goal.returns
returns c =
    let all = map texts_of c.in_ok-all.all.items in
    IfOk-weaker c.first_names.result _ _
    (λ found h. (let k = subst (λ l. AreFirst l (map fitting_shown found.items)) (ap (map texts_of) c.deref.ensures.value) h in record { all = all; are = c.in_ok-all.ensures.names; ordered = k.ordered; same = k.same }))
    c.first_names.ensures
