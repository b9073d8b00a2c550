use Rattle.std.proofs.Common.{◌≡◌, ◌<◌, ℕ, List, All, true, false, length, refl, sym, ap, subst, ◌∙◌, arith}
use Rattle.std.proofs.lemmas.Option.{slice_get_within}
use Rattle.go_graph_core.specs.Workspaces.{AreAllRead}
use Rattle.go_digraph_core.specs.reach.Numbers.{Numbers}
use Rattle.go_emit_core.specs.package_core.PackagePartInputs.{InputModel, path_in}
use Rattle.go_emit_core.specs.package_core.PackagePartParts.{PartModel}
use Rattle.go_snap_core.proofs.WholeWorkspaceLists.{one_at}
use Rattle.go_snap_core.specs.make.Finding.{IsPartAt}
use Rattle.go_snap_core.specs.make.mirrors.Marking.{LookAlike}
use Rattle.go_snap_core.proofs.MakeMarking.{alike_same, marks_within, no_part, only_part, part_read, same_alike}
use Rattle.go_snap_core.proofs.make.kept.earlier_part.Goals as goal

pub returns-in_default : goal.returns-in_default
returns-in_default c =
    let ps = c.args.sources.now in
    let parts = c.args.earlier.now in
    let i = c.args.input.now in
    let here : c.as_str.result.now ≡ path_in i = c.as_str.ensures.text ∙ c.path.ensures in
    let none : (part : PartModel) → IsPartAt ps parts (path_in i) part → ⊥ = subst (λ path. (part : PartModel) → IsPartAt ps parts path part → ⊥) here c.in_default.ensures.part in
    no_part ps parts c.in_default.ensures.well c.requires.earlier i none

pub unreachable-requires : goal.unreachable-requires
unreachable-requires c =
    let within = slice_get_within c.args.reached.now c.args.number c.requires.again.set c.requires.again.there in
    absurd (omega (arith, within, c.in_default-of.ensures))

pub look_alike-requires-clause-other : goal.look_alike-requires-clause-other
look_alike-requires-clause-other c =
    let part = c.in-Some.part.now in
    let at = c.in-Some.ensures.part in
    subst (λ (j : InputModel). AreAllRead j.source) (sym c.input.ensures) (part_read c.args.sources.now c.args.earlier.now c.requires.earlier at.number part at.there c.in-Some.ensures.read)

pub look_alike-requires-clause-within : goal.look_alike-requires-clause-within
look_alike-requires-clause-within c =
    let marks = c.args.again.now in
    let for = c.requires.again in
    let set : c.in-Some-of.set.now ≡ for.set = one_at c.args.reached.now c.args.number c.in-Some-of.set.now for.set c.in-Some-of.ensures for.there in
    let numbers : c.deref.result.now ≡ for.set.members = c.deref.ensures.value ∙ (c.in_ok-numbers.ensures.all ∙ ap (λ (s : Numbers). s.members) set) in
    subst (λ (l : List ℕ). All (λ (n : ℕ). n < length marks) l) (sym numbers) (marks_within c.args.earlier.now marks for.set.members c.args.input.now.reached for.all)

pub returns-then-look_alike : goal.returns-then-look_alike
returns-then-look_alike c =
    let ps = c.args.sources.now in
    let parts = c.args.earlier.now in
    let i = c.args.input.now in
    let marks = c.args.again.now in
    let part = c.in-Some.part.now in
    let here : c.as_str.result.now ≡ path_in i = c.as_str.ensures.text ∙ c.path.ensures in
    let at : IsPartAt ps parts (path_in i) part = subst (λ path. IsPartAt ps parts path part) here c.in-Some.ensures.part in
    let for = c.requires.again in
    let set : c.in-Some-of.set.now ≡ for.set = one_at c.args.reached.now c.args.number c.in-Some-of.set.now for.set c.in-Some-of.ensures for.there in
    let numbers : c.deref.result.now ≡ for.set.members = c.deref.ensures.value ∙ (c.in_ok-numbers.ensures.all ∙ ap (λ (s : Numbers). s.members) set) in
    let alike : LookAlike marks c.deref.result.now i c.input.result.now = c.look_alike.ensures.0 c.if-look_alike.true in
    let here_alike : LookAlike marks for.set.members i part.input = subst (λ l. LookAlike marks l i part.input) numbers (subst (LookAlike marks c.deref.result.now i) c.input.ensures alike) in
    ((at.number, at.there), alike_same ps parts c.in-Some.ensures.well c.requires.earlier (path_in i) part at c.args.reached.now marks c.args.number i refl for here_alike)

pub returns : goal.returns
returns c = λ p was same.
    let ps = c.args.sources.now in
    let parts = c.args.earlier.now in
    let i = c.args.input.now in
    let marks = c.args.again.now in
    let part = c.in-Some.part.now in
    let well = c.in-Some.ensures.well in
    let here : c.as_str.result.now ≡ path_in i = c.as_str.ensures.text ∙ c.path.ensures in
    let at : IsPartAt ps parts (path_in i) part = subst (λ path. IsPartAt ps parts path part) here c.in-Some.ensures.part in
    let for = c.requires.again in
    let set : c.in-Some-of.set.now ≡ for.set = one_at c.args.reached.now c.args.number c.in-Some-of.set.now for.set c.in-Some-of.ensures for.there in
    let numbers : c.deref.result.now ≡ for.set.members = c.deref.ensures.value ∙ (c.in_ok-numbers.ensures.all ∙ ap (λ (s : Numbers). s.members) set) in
    let one = only_part ps parts well c.requires.earlier (path_in i) part at c.args.reached.now marks c.args.number i refl for p was same in
    let alike = same_alike ps parts well c.requires.earlier (path_in i) part at c.args.reached.now marks c.args.number i refl for one in
    let back : LookAlike marks c.deref.result.now i c.input.result.now = subst (LookAlike marks c.deref.result.now i) (sym c.input.ensures) (subst (λ l. LookAlike marks l i part.input) (sym numbers) alike) in
    let no : false ≡ true = sym c.if-look_alike.false ∙ c.look_alike.ensures.1 back in
    absurd cc
