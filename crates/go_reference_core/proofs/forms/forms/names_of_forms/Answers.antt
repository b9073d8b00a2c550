use Rattle.std.proofs.Common.{[], ◌∷◌, map, ap, sym, subst, ◌∙◌}
use Rattle.std.specs.List.{AllZip}
use Rattle.std.proofs.lemmas.List.{map-append, take_all}
use Rattle.std.proofs.lemmas.List.Elements.{All-nil}
use Rattle.std.specs.List.Sorted.{IsStrictlySortedBy}
use Rattle.go_graph_core.specs.Workspaces.{by_bytes}
use Rattle.go_query_core.specs.complete_core.PlaceCompletions.{texts_of}
use Rattle.go_reference_core.specs.forms.Forms.{AreNamesIn, form_shown}
use Rattle.go_reference_core.specs.forms.mirrors.Listing.{AreRising}
use Rattle.go_reference_core.proofs.FormsForming.{mapped_more, rise_more, zip_all, zip_more}
use Rattle.go_reference_core.proofs.forms.forms.names_of_forms.Goals as goal

pub loop-form-init : goal.loop-form-init
loop-form-init c =
    let none = sym (ap (map texts_of) c.new-all.ensures.items) in
    record {
      names = subst (AllZip (AreNamesIn c.args.path.now c.args.file.now) []) none tt;
      rising = subst AreRising none (All-nil (IsStrictlySortedBy by_bytes));
    }

pub loop-form-preserved : goal.loop-form-preserved
loop-form-preserved c =
    let h = c.loop-form.invariant in
    let old = c.loop-form.all.items in
    let new = c.add.new.all.items in
    let names = c.in_ok-names.names in
    let more = ap (map texts_of) c.in_ok-add.ensures ∙ map-append texts_of old (names ∷ []) in
    record {
      names =
          zip_more (AreNamesIn c.args.path.now c.args.file.now) _ _ (map texts_of old) (map texts_of new) (form_shown c.form-item.result) (texts_of names)
          (mapped_more form_shown c.args.forms.now c.loop-form.form-index c.form-item.result c.loop-form-test.true c.form-item.is) more h.names c.in_ok-names.ensures.names;
      rising = rise_more (map texts_of old) (map texts_of new) (texts_of names) more h.rising c.in_ok-names.ensures.rising;
    }

pub returns-clause-names : goal.returns-clause-names
returns-clause-names c = zip_all (AreNamesIn c.args.path.now c.args.file.now) _ _ _ (ap (map form_shown) (take_all c.loop-form.form-index c.args.forms.now c.loop-form-test.false)) c.loop-form.invariant.names

pub returns-clause-rising : goal.returns-clause-rising
returns-clause-rising c = c.loop-form.invariant.rising
