use Rattle.std.proofs.Common.{◌≡◌, Some, true, sym, ap, ◌∙◌, subst}
use Rattle.std.specs.Prelude.{slice_get}
use Rattle.go_block_core.specs.graph_core.Workspaces.{IsWorkspace}
use Rattle.go_package_core.specs.package_part.Parts.{IsPart, PartModel}
use Rattle.go_batch_core.specs.Steadiness.{SteadyModel}
use Rattle.go_batch_core.proofs.Standing.{stood_tells}
use Rattle.go_batch_core.proofs.steady.Steady.has_stood.Goals as goal

pub returns : goal.returns
returns c said =
    let s = c.args.snapshot.now in
    let place = c.args.place in
    let marked : slice_get c.args.self.now.stood place ≡ Some true = ap (λ (m : SteadyModel). slice_get m.stood place) (sym c.self.view_is) ∙ ap (λ l. slice_get l place) (sym c.deref.ensures.value) ∙ c.is_marked.ensures.0 said in
    let well = subst IsWorkspace c.sources.ensures.value c.packages-packages.ensures.well in
    let made = subst (λ (p : PartModel). IsPart p.input p.content) c.get.ensures.value c.content-made.ensures.made in
    stood_tells s c.args.batch.now c.args.self.now place c.args.number c.args.part.now c.one_part.ensures well c.sources-sources.ensures.whole.made c.requires.steady c.requires.awaits made marked
