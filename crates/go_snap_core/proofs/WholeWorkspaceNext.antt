-- The next package of a plan, and those before it.
use Rattle.std.proofs.Common.{◌≡◌, ℕ, ◌+◌, ◌<◌, ◌≤◌, List, [], ◌∷◌, ◌++◌, length, take, Option, Some, None, refl, sym, ap, subst, ◌∙◌, arith}
use Rattle.std.specs.Prelude.{slice_get, slice_set, Contains, replicate}
use Rattle.std.proofs.lemmas.List.{take_all, length-take, get_or-take, get_or_default}
use Rattle.go_graph_core.specs.Sources.{SourceModel}
use Rattle.std.proofs.lemmas.Option.{slice_get_within}
use Rattle.go_graph_core.specs.Imports.{IsNumbered}
use Rattle.go_graph_core.specs.Packages.{IsAssembled}
use Rattle.go_graph_core.specs.Plans.{PlanModel, IsPlan, IsAssembledAt}
use Rattle.go_graph_core.specs.Workspaces.{PackageModel, IsWorkspace}
use Rattle.go_names_core.specs.block_core.Exports.{ExportsModel}
use Rattle.go_body_core.specs.table_core.Entries.{Entry}
use Rattle.go_body_core.specs.table_core.Tables.{AreOthers}
use Rattle.go_body_core.specs.typexpr_core.EntryShowing.{shown_in, with_shown}
use Rattle.go_emit_core.specs.declared_core.Packages.{PackageFacesModel, with_faces}
use Rattle.go_report_core.specs.summary_core.Summaries.{SummaryModel, path_of}
use Rattle.go_snap_core.specs.whole_workspace.LocalLaws.{CheckIsLocal, ImportsBindTheirs}
use Rattle.go_emit_core.specs.package_core.PackagePartInputs.{InputModel, path_in}
use Rattle.go_emit_core.specs.package_core.PackagePartParts.{ContentOf, IsMade, IsPart, PartModel, seen_with}
use Rattle.go_snap_core.specs.whole_workspace.Inputs.{AreParts, HasReached, IsInputAt, ReachesPackage, Tells}
use Rattle.go_snap_core.specs.whole_workspace.mirrors.Steps.{AreMade, IsNext, IsRight, SoFar}
use Rattle.go_snap_core.proofs.WholeWorkspaceLists.{one_at}
use Rattle.go_snap_core.proofs.WholeWorkspaceTold.{NoneIsOf}
use Rattle.go_snap_core.proofs.WholeWorkspaceOrder.{place_of, reached_before}
use Rattle.go_snap_core.proofs.WholeWorkspaceParts.{of_one, path_told}
use Rattle.go_snap_core.proofs.WholeWorkspaceMaking.{all_made, none_made, none_seen, one_more, others_seen, part_made, seen_more, seen_well, set_here}

module _ (ps : List PackageModel) (plan : PlanModel) (well : IsWorkspace ps) (planned : IsPlan ps plan) (parts : List (Option PartModel)) (n : ℕ) (types : List Entry) (shown : List ExportsModel) (faces : List PackageFacesModel) (next : IsNext ps plan parts n types shown faces) where
  abbrev ss : List SummaryModel
  ss = next.before.summaries

  pub next_assembled : IsAssembledAt ps n
  next_assembled = (planned.each n).0 (next.place, next.within, get_or_default plan.order next.place n 0 next.within ∙ sym next.is)

  before_it : (m : ℕ) → ReachesPackage ps n m → Contains (take next.place plan.order) m
  before_it m r =
      let b = reached_before ps plan planned n m r in
      let at = place_of ps plan planned m b.0 in
      let low : at.0 < next.place = b.1 next.place at.0 next.within at.1 (sym next.is) at.2 in
      (at.0, (let lt : at.0 < length (take next.place plan.order) = omega (arith, low, next.within, length-take next.place plan.order) in lt), get_or-take next.place plan.order at.0 m low ∙ (get_or_default plan.order at.0 m 0 at.1 ∙ at.2))

  own : (m : ℕ) (s : SummaryModel) (t : Tells parts m s) → (files : List SourceModel) × IsNumbered ps (path_of s) m files
  own m s t =
      let r = next.before.made.right m t.of_part t.there in
      (t.of_part.input.source.1, subst (λ (path : List ℕ). IsNumbered ps path m t.of_part.input.source.1) (sym (path_told ps parts well next.before.made.right m s t)) r.numbered)

  pub next_reached : HasReached ps parts n
  next_reached = record {
    told = λ m r. (let p = next.before.made.made m (before_it m r) in (p.0.content.summary, record { of_part = p.0; there = p.1; is = refl }));
    own = own;
  }

  none_of : (i : InputModel) → IsInputAt ps parts n i → NoneIsOf ss (path_in i)
  none_of i at = none_seen ps plan next.place well planned next.within parts ss next.before.made n next.is i.source at.numbered

  pub next_others : (i : InputModel) → IsInputAt ps parts n i → AreOthers (path_in i) types
  next_others i at =
      others_seen ss (path_in i) types (seen_well ps plan next.place well planned next.within parts ss next.before.made n next.is i.source at.numbered) (none_of i at) next.before.seen.types_are

  pub next_is : CheckIsLocal → ImportsBindTheirs → (i : InputModel) (c : ContentOf) → IsInputAt ps parts n i → IsMade i (seen_with types (shown_in shown) faces) c → IsPart i c
  next_is local bind i c at made =
      part_made ps plan next.place well planned next.within parts ss next.before.made n next.is i.source at.numbered local bind i types shown faces c refl at.input next.before.seen made

  pub next_right : (i : InputModel) (part : PartModel) → IsInputAt ps parts n i → part.input ≡ i → IsPart part.input part.content → IsRight ps parts n part
  next_right i part at same made =
      let here = subst (IsInputAt ps parts n) (sym same) at in
      let named = next_assembled in
      record {
        numbered = here.numbered;
        assembled = subst (λ (p : PackageModel). IsAssembled p.1) (one_at ps n (named.0, named.1) part.input.source named.2 here.numbered) named.3;
        input = here.input;
        made = made;
      }

  -- one package more
  pub so_far_more : (part : PartModel) (more : List Entry) (others : List ExportsModel) (told : List PackageFacesModel) → IsRight ps parts n part → more ≡ types ++ part.content.summary.types.entries → others ≡ with_shown shown part.content.summary.exports
      → told ≡ with_faces faces part.content.summary.faces → SoFar ps plan (next.place + 1) (slice_set parts n (Some part)) more others told
  so_far_more part more others told right a b c =
      let made = one_more ps plan next.place planned next.within parts ss next.before.made n next.is part right.numbered right.assembled right.input right.made in
      let last = part.content.summary in
      let there : slice_get (slice_set parts n (Some part)) n ≡ Some (Some part) = here_is part right in
      let path : path_of last ≡ part.input.source.0 = ap path_of right.made.summary in
      record {
        summaries = ss ++ last ∷ [];
        made = made;
        seen =
            seen_more ss last types more shown others faces told (seen_well ps plan next.place well planned next.within parts ss next.before.made n next.is part.input.source right.numbered)
            (of_one ps (slice_set parts n (Some part)) well made.right n part there)
            (subst (NoneIsOf ss) (sym path) (none_of part.input (record { numbered = right.numbered; input = right.input }))) next.before.seen a b c;
      }
    where
      here_is : (part : PartModel) → IsRight ps parts n part → slice_get (slice_set parts n (Some part)) n ≡ Some (Some part)
      here_is part right = set_here parts n part (let lt = slice_get_within ps n part.input.source right.numbered in let many = next.before.made.count in omega (arith, lt, many))

pub so_far_none : (ps : List PackageModel) (plan : PlanModel) (parts : List (Option PartModel)) (types : List Entry) (shown : List ExportsModel) (faces : List PackageFacesModel) → parts ≡ replicate (length ps) None → types ≡ [] → shown ≡ [] → faces ≡ [] → SoFar ps plan 0 parts types shown faces
so_far_none ps plan parts types shown faces is a b c = record { summaries = []; made = none_made ps parts is; seen = record { types_are = a; shown_are = b; faces_are = c } }

-- all of them
pub so_far_all : (ps : List PackageModel) (plan : PlanModel) (place : ℕ) (parts : List (Option PartModel)) (types : List Entry) (shown : List ExportsModel) (faces : List PackageFacesModel) → IsPlan ps plan → length plan.order ≤ place → SoFar ps plan place parts types shown faces → AreParts ps parts
so_far_all ps plan place parts types shown faces planned end h =
    all_made ps plan parts h.summaries planned (subst (λ l. AreMade ps l parts h.summaries) (take_all place plan.order end) h.made)
