use Rattle.std.proofs.Common.{◌<◌, ◌≤◌, [], length, map, sym, ap, subst, arith}
use Rattle.std.proofs.lemmas.List.{length-map}
use Rattle.go_query_core.specs.complete_core.PlaceCompletions.{texts_of}
use Rattle.go_reference_core.specs.forms.Forms.{fitting_shown}
use Rattle.go_reference_core.specs.forms.mirrors.Listing.{AreListed}
use Rattle.go_reference_core.proofs.FormsFirsts.{all_listed, none_listed}
use Rattle.go_reference_core.proofs.forms.forms.first_names.Goals as goal

pub loop-form-init : goal.loop-form-init
loop-form-init c = subst (AreListed (map texts_of c.args.all.now) 0 []) (sym (ap (map fitting_shown) c.new-found.ensures.items)) (none_listed (map texts_of c.args.all.now))

pub add_names-requires : goal.add_names-requires
add_names-requires c =
    let lt : c.loop-form.form < length c.args.all.now = omega (arith, c.loop-form-test.true) in
    record { rising = c.requires; within = lt; listed = c.loop-form.invariant }

pub loop-form-preserved : goal.loop-form-preserved
loop-form-preserved c = c.in_ok-add_names.ensures

pub returns : goal.returns
returns c =
    let all = c.args.all.now in
    let le : length (map texts_of all) ≤ c.loop-form.form = omega (arith, length-map all texts_of, c.loop-form-test.false) in
    all_listed (map texts_of all) c.loop-form.form (map fitting_shown c.loop-form.found.items) le c.loop-form.invariant
