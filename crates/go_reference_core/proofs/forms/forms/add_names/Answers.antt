use Rattle.std.proofs.Common.{◌≡◌, ◌≤◌, ℕ, List, length, map, take, Some, sym, ap, subst, ◌∙◌, arith}
use Rattle.std.specs.Prelude.{slice_get, string_bytes}
use Rattle.std.specs.List.Sorted.{IsStrictlySortedBy}
use Rattle.std.proofs.lemmas.List.{length-map, take_all}
use Rattle.go_graph_core.specs.Workspaces.{by_bytes}
use Rattle.go_query_core.specs.complete_core.PlaceCompletions.{texts_of}
use Rattle.go_reference_core.specs.forms.Forms.{fitting_shown}
use Rattle.go_reference_core.specs.forms.mirrors.Listing.{AddsFirst, AreListed}
use Rattle.go_reference_core.proofs.FormsFirsts.{next_form, one_more}
use Rattle.go_reference_core.proofs.FormsRead.{all_at, contained, less_before, mapped_at, read_at, taken}
use Rattle.go_reference_core.proofs.forms.forms.add_names.Goals as goal

pub loop-name-init : goal.loop-name-init
loop-name-init c = c.requires.listed

pub loop-name-preserved : goal.loop-name-preserved
loop-name-preserved c =
    let all = c.args.all.now in
    let form = c.args.form in
    let v = c.index-all-form.result in
    let i = c.loop-name.name-index in
    let items = c.deref-name-items.result.now in
    let texts = map string_bytes items in
    let name = string_bytes c.name-item.result in
    let same : texts ≡ texts_of v = ap (map string_bytes) c.deref-name-items.ensures.value in
    let there = mapped_at texts_of all form v (read_at all form v c.requires.within c.index-all-form.is) in
    let rising = subst (IsStrictlySortedBy by_bytes) (sym same) (all_at (IsStrictlySortedBy by_bytes) (map texts_of all) form (texts_of v) there c.requires.rising) in
    let at = mapped_at string_bytes items i c.name-item.result (read_at items i c.name-item.result c.loop-name-test.true c.name-item.is) in
    let added = subst (λ (n : List ℕ). AddsFirst (map texts_of all) form n (map fitting_shown c.loop-name.found.items) (map fitting_shown c.add_name.new.found.items)) c.as_str.ensures.value c.in_ok-add_name.ensures in
    subst (λ (ns : List (List ℕ)). AreListed (map texts_of all) form ns (map fitting_shown c.add_name.new.found.items)) (sym (taken texts i name at))
    (one_more (map texts_of all) form texts (subst (λ (ns : List (List ℕ)). slice_get (map texts_of all) form ≡ Some ns) (sym same) there) (take i texts) name (map fitting_shown c.loop-name.found.items) (map fitting_shown c.add_name.new.found.items) (contained texts i name at) (less_before texts i name rising at) c.loop-name.invariant added)

pub returns : goal.returns
returns c =
    let all = c.args.all.now in
    let form = c.args.form in
    let v = c.index-all-form.result in
    let items = c.deref-name-items.result.now in
    let same : map string_bytes items ≡ texts_of v = ap (map string_bytes) c.deref-name-items.ensures.value in
    let there = mapped_at texts_of all form v (read_at all form v c.requires.within c.index-all-form.is) in
    let le : length (map string_bytes items) ≤ c.loop-name.name-index = omega (arith, length-map items string_bytes, c.loop-name-test.false) in
    let full = take_all c.loop-name.name-index (map string_bytes items) le ∙ same in
    next_form (map texts_of all) form (texts_of v) there (map fitting_shown c.loop-name.found.items) (subst (λ (ns : List (List ℕ)). AreListed (map texts_of all) form ns (map fitting_shown c.loop-name.found.items)) full c.loop-name.invariant)
