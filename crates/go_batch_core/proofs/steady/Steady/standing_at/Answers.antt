use Rattle.std.proofs.Common.{◌≡◌, List, Bool, Some, true, ap, ◌∙◌, subst}
use Rattle.std.specs.Prelude.{slice_get}
use Rattle.go_block_core.specs.graph_core.Workspaces.{IsWorkspace}
use Rattle.go_batch_core.specs.Steadiness.{SteadyModel}
use Rattle.go_batch_core.proofs.Standing.{steady_stands}
use Rattle.go_batch_core.proofs.steady.Steady.standing_at.Goals as goal

pub returns-in-Some-clause-stands : goal.returns-in-Some-clause-stands
returns-in-Some-clause-stands c =
    let s = c.args.snapshot.now in
    let m = c.args.self.now in
    let place = c.args.place in
    let same : slice_get m.same place ≡ Some true = c.is_same.ensures.0 c.if-not-is_same.false in
    let moved : c.deref.result.now ≡ m.moved = c.deref.ensures.value ∙ ap (λ (x : SteadyModel). x.moved) c.self.view_is in
    let retyped : c.self.inside.retyped.marks.items ≡ m.retyped = ap (λ (x : SteadyModel). x.retyped) c.self.view_is in
    let well = subst IsWorkspace c.sources.ensures.value c.packages-packages.ensures.well in
    steady_stands s c.args.batch.now m place c.requires.steady same
    (λ at n here outcome marked. c.imports_marked.ensures c.if-imports_marked.false at n here outcome (ap (λ (l : List Bool). slice_get l n) moved ∙ marked))
    (λ n r marked. c.in_ok-stands.ensures c.if-not-stands.false n r (ap (λ (l : List Bool). slice_get l n) retyped ∙ marked))
    c.in-Some.part.now c.has_reached.ensures c.parts_stay.ensures c.inputs_stand_over.ensures well c.has_right_parts.ensures.well c.sources-sources.ensures.whole.made c.has_right_parts.ensures.right c.is_input.ensures c.in-Some.ensures.was
