-- The earlier part of a package that stands over the input that the batch gives the package.
use Rattle.std.proofs.Common.{◌≡◌, ℕ, Some, refl, sym, ap, ◌∙◌, true}
use Rattle.std.specs.Prelude.{slice_get}
use Rattle.go_block_core.specs.graph_core.declared.imports.ImportAt.{ImportAt}
use Rattle.go_block_core.specs.graph_core.declared.imports.ImportOutcome.TheVariants.{Package}
use Rattle.go_block_core.specs.graph_core.Imports.{IsOutcome}
use Rattle.go_block_core.specs.graph_core.Workspaces.{IsWorkspace, PackageModel}
use Rattle.go_summary_core.specs.Summaries.{SummaryModel}
use Rattle.go_package_core.specs.package_part.Inputs.{InputModel, IsInput}
use Rattle.go_package_core.specs.package_part.Laws.{OnePart}
use Rattle.go_package_core.specs.package_part.Parts.{ContentOf, IsPart, PartModel}
use Rattle.go_snap_core.specs.Snapshots.{SnapshotModel}
use Rattle.go_snap_core.specs.whole_workspace.Inputs.{AreParts, HasReached, IsInputAt, ReachesPackage, Tells}
use Rattle.go_snap_core.specs.whole_workspace.mirrors.Steps as steps
use Rattle.go_snap_core.proofs.WholeWorkspaceChecks.{trees_are_placed}
use Rattle.go_snap_core.proofs.WholeWorkspacePartsWhole.{all_right}
use Rattle.go_locality_laws.specs.Beside.{StaysBeside, TellsTypes}
use Rattle.go_locality_laws.specs.ImportLaws.{InputsStandOver, PartsStay}
use Rattle.go_batch_core.specs.Batches.{Awaits, BatchModel, HasImports}
use Rattle.go_batch_core.specs.Steadiness.{IsSteady, IsStoodFor, StandsAt, SteadyModel, WasAt}
use Rattle.go_batch_core.proofs.Staying.{by_import, has_imports}
use Rattle.go_batch_core.proofs.Steadied.{part_in, tells_both}

module _ (s : SnapshotModel) (b : BatchModel) (m : SteadyModel) (place : ℕ) (is : IsSteady s b m) (same : slice_get m.same place ≡ Some true)
    (imports : (at : ImportAt) (n : ℕ) → at.«package» ≡ place → IsOutcome b.sources at (Package n) → slice_get m.moved n ≡ Some true → ⊥)
    (reaches : (n : ℕ) → ReachesPackage b.sources place n → slice_get m.retyped n ≡ Some true → ⊥) where
  stays_beside : StaysBeside s.sources b.sources s.parts b.parts place
  stays_beside = record {
    outcomes = (is.same place same).outcomes;
    reaches = λ n r. ((is.same place same).reaches n).0 r;
    imported = λ at n t here outcome tells. (let was = is.moved n tells.of_part tells.there (imports at n here outcome) in record { of_part = was.of_part; there = was.there; is = tells.is ∙ was.is });
    types = λ n t r tells. (let was = is.retyped n tells.of_part tells.there (reaches n r) in (was.0, was.1, was.2 ∙ ap (λ (x : SummaryModel). x.types) (sym tells.is)));
  }

  pub steady_stands : (p : PartModel) → HasReached b.sources b.parts place → PartsStay → InputsStandOver → IsWorkspace s.sources → IsWorkspace b.sources → AreParts s.sources s.parts → steps.AreRight b.sources b.parts → IsInput p.input → WasAt s.parts place p
      → StandsAt s b place p
  steady_stands p has stay stand well again all right own was =
      let input = part_in s.sources s.parts place p all was in
      let stays = is.same place same in
      let raw
      = has_imports s.sources b.sources s.parts b.parts place stays
      (λ at n t here outcome tells.
      let now = stays.outcomes at (Package n) here outcome in
      let there = has.told n (by_import b.sources place at n here now) in
      let part = there.1.of_part in
      let told = is.moved n part there.1.there (imports at n here now) in
      tells_both s.parts b.parts n t part.content.summary tells told (record { of_part = part; there = there.1.there; is = refl }))
      b.slots p.input input in
      let imported : HasImports b place p.input = record { numbered = raw.numbered; imports = raw.imports } in
      let source : (i : InputModel) → IsInputAt b.sources b.parts place i → p.input.source ≡ i.source
      = λ i at. (let both : Some p.input.source ≡ Some i.source = sym imported.numbered ∙ at.numbered in cc) in
      record {
        was = was;
        of_path = record { number = place; files = p.input.source.1; numbered = input.numbered; there = was };
        imports = imported;
        over = record {
          each = λ i given at.
              stay s.sources s.parts well all place p i was own given
              (stand s.sources b.sources s.parts b.parts place p.input i well again (all_right s.sources s.parts all) right stays_beside input at (source i at));
        };
      }

-- what ends an action that was handed out with the earlier part over another input tells what this part told
pub stood_tells : (s : SnapshotModel) (b : BatchModel) (m : SteadyModel) (place number : ℕ) (p : PartModel) → OnePart → IsWorkspace s.sources → AreParts s.sources s.parts → IsSteady s b m → Awaits b place number p → IsPart p.input p.content
    → slice_get m.stood place ≡ Some true → Tells s.parts place p.content.summary
stood_tells s b m place number p one well all is awaits made marked =
    let stood : IsStoodFor s place p.input = is.stood place number p.input awaits marked in
    let numbered : slice_get s.sources place ≡ Some p.input.source = (part_in s.sources s.parts place stood.part all stood.was).numbered ∙ ap Some stood.source in
    let content : p.content ≡ stood.part.content = one p.input p.content stood.part.content (trees_are_placed s.sources place p.input.source well numbered) made stood.made in
    record { of_part = stood.part; there = stood.was; is = ap (λ (c : ContentOf). c.summary) content }
