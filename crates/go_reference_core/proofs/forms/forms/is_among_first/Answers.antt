use Rattle.std.proofs.Common.{◌<◌, ◌≤◌, length, map, sym, subst, arith}
use Rattle.std.specs.Prelude.{◌↔◌, IsTrue, string_bytes}
use Rattle.std.specs.List.Sorted.{IsStrictlySortedBy}
use Rattle.go_graph_core.specs.Workspaces.{by_bytes}
use Rattle.go_query_core.specs.complete_core.PlaceCompletions.{texts_of}
use Rattle.go_reference_core.specs.forms.Forms.{IsNamed}
use Rattle.go_reference_core.proofs.FormsNamed.{is_here, is_nowhere, missing_more, none_missing}
use Rattle.go_reference_core.proofs.FormsRead.{all_at, mapped_at, read_at}
use Rattle.go_reference_core.proofs.forms.forms.is_among_first.Goals as goal

pub loop-form-init : goal.loop-form-init
loop-form-init c = none_missing (map texts_of c.args.all.now) c.args.name.now

pub is_named-requires : goal.is_named-requires
is_named-requires c =
    let all = c.args.all.now in
    let i = c.loop-form.form in
    let x = c.index-all-form.result in
    let lt : i < length all = omega (arith, c.loop-form-test.true, c.requires.within) in
    let at = mapped_at texts_of all i x (read_at all i x lt c.index-all-form.is) in
    subst (λ l. IsStrictlySortedBy by_bytes (map string_bytes l)) (sym c.deref.ensures.value) (all_at (IsStrictlySortedBy by_bytes) (map texts_of all) i (texts_of x) at c.requires.rising)

pub loop-form-preserved : goal.loop-form-preserved
loop-form-preserved c =
    let all = c.args.all.now in
    let i = c.loop-form.form in
    let x = c.index-all-form.result in
    let lt : i < length all = omega (arith, c.loop-form-test.true, c.requires.within) in
    let at = mapped_at texts_of all i x (read_at all i x lt c.index-all-form.is) in
    let test = subst (λ l. IsTrue c.is_named.result ↔ IsNamed (map string_bytes l) c.args.name.now) c.deref.ensures.value c.is_named.ensures in
    missing_more (map texts_of all) c.args.name.now i (texts_of x) c.is_named.result at c.if-is_named.false test c.loop-form.invariant

pub returns-then-is_named : goal.returns-then-is_named
returns-then-is_named c =
    let all = c.args.all.now in
    let i = c.loop-form.form in
    let x = c.index-all-form.result in
    let lt : i < length all = omega (arith, c.loop-form-test.true, c.requires.within) in
    let at = mapped_at texts_of all i x (read_at all i x lt c.index-all-form.is) in
    let test = subst (λ l. IsTrue c.is_named.result ↔ IsNamed (map string_bytes l) c.args.name.now) c.deref.ensures.value c.is_named.ensures in
    is_here (map texts_of all) c.args.name.now i c.args.count (texts_of x) c.is_named.result c.loop-form-test.true at c.if-is_named.true test

pub returns : goal.returns
returns c =
    let le : c.args.count ≤ c.loop-form.form = omega (arith, c.loop-form-test.false) in
    is_nowhere (map texts_of c.args.all.now) c.args.name.now c.loop-form.form c.args.count le c.loop-form.invariant
