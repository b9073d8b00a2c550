-- The whole of parts.
use Rattle.std.proofs.Common.{◌≡◌, ◌≢◌, ℕ, suc, ◌+◌, List, [], ◌∷◌, Option, Some, None, refl, sym, ap, subst, ◌∙◌, arith}
use Rattle.std.specs.Prelude.{slice_get, ⊤}
use Rattle.std.specs.List.{AllZip}
use Rattle.go_graph_core.specs.declared.imports.ImportAt.{ImportAt}
use Rattle.go_graph_core.specs.Lists.{AllNumbered}
use Rattle.go_graph_core.specs.Packages.{IsAssembled, trees_of}
use Rattle.go_graph_core.specs.Plans.{PlanModel, IsPlan}
use Rattle.go_graph_core.specs.Workspaces.{PackageModel, IsWorkspace}
use Rattle.go_graph_core.proofs.PlanLaws.{has_plan}
use Rattle.go_graph_core.proofs.Zips.{numbered_back, numbered_length, zip_at, zip_back, zip_length}
use Rattle.go_names_core.specs.block_core.declared.imports.Imported.{Imported}
use Rattle.go_names_core.specs.block_core.AllPackages.{IsImported, IsShown}
use Rattle.go_names_core.specs.block_core.Exports.{ExportsModel}
use Rattle.go_names_core.specs.block_core.Growing.{given_weaker, package_weaker}
use Rattle.go_names_core.specs.block_core.AllLemmas.{numbered_from}
use Rattle.go_body_core.specs.typexpr_core.EntryAmong.{Among}
use Rattle.go_report_core.specs.summary_core.Summaries.{SummaryModel, IsOfOne}
use Rattle.go_report_core.specs.summary_core.Views.{exports_told, faces_told, types_told}
use Rattle.go_snap_core.specs.whole_workspace.Known.{CheckGives}
use Rattle.go_snap_core.specs.whole_workspace.LocalLaws.{CheckIsLocal, ImportsBindTheirs}
use Rattle.go_emit_core.specs.package_core.PreparePackages.{trees_in}
use Rattle.go_emit_core.specs.package_core.PackagePartInputs.{InputModel}
use Rattle.go_emit_core.specs.package_core.PackagePartParts.{AreFilesMade, IsPart, PartModel, package_seen, seen_by}
use Rattle.go_snap_core.specs.whole_workspace.Whole.{AreWhole, IsWhole, IsWholeEntry, WholeOf, beside, blocks_in, exports_beside, faces_beside, types_beside, whole_with}
use Rattle.go_snap_core.specs.whole_workspace.Inputs.{AreParts, ComesTo, IsInputOf, IsPartOf, ReachesPackage, Shown}
use Rattle.go_snap_core.specs.whole_workspace.Entries.{IsPartEntry, summary_by}
use Rattle.go_snap_core.proofs.WholeWorkspaceLists.{one_at, zip_weaker}
use Rattle.go_snap_core.proofs.WholeWorkspaceTold.{known_by}
use Rattle.go_snap_core.proofs.WholeWorkspaceOrder.{reaches_others}
use Rattle.go_snap_core.proofs.WholeWorkspaceBeside.{AreSourced, exports_are, faces_are, none_beside, over, some_beside, tell, tell_to, told_of, types_are, well_beside}
use Rattle.go_snap_core.proofs.WholeWorkspaceOneWhole.{in_blocks}
use Rattle.go_snap_core.specs.whole_workspace.mirrors.Steps.{AreRight, IsRight}
use Rattle.go_snap_core.proofs.WholeWorkspaceParts.{StaysInside, alike_over, reach_paths, all_inside, none_reached, of_one, stand_over, told_by, well_reached}

-- parts are right each by itself

right_of : (ps : List PackageModel) (parts : List (Option PartModel)) (n : ℕ) (p : PackageModel) (part : PartModel) → slice_get ps n ≡ Some p → IsPartOf ps parts n p (Some part) → IsRight ps parts n part
right_of ps parts n p part at h =
    let s : p ≡ part.input.source = sym h.1.source in
    record {
      numbered = at ∙ ap Some s;
      assembled = subst (λ (q : PackageModel). IsAssembled q.1) s h.0;
      input = subst (λ (q : PackageModel). IsInputOf ps parts n q part.input) s h.1;
      made = h.2;
    }

pub all_right : (ps : List PackageModel) (parts : List (Option PartModel)) → AreParts ps parts → AreRight ps parts
all_right ps parts all = λ n part there.
    let b = numbered_back (λ m p x. IsPartOf ps parts m p x) 0 ps parts n (Some part) all there in
    let e : 0 + n ≡ n = omega arith in
    right_of ps parts n b.0 part b.1 (subst (λ m. IsPartOf ps parts m b.0 (Some part)) e b.2)

-- what a part has, as an entry of a whole

abbrev pub whole_of_part : (part : PartModel) → IsPart part.input part.content → WholeOf
whole_of_part part made = whole_with part.input.source part.content.blocks made.checked

abbrev pub IsWholeOfPart : Option WholeOf → Option PartModel → Type 0
IsWholeOfPart None None = ⊤
IsWholeOfPart None (Some part) = ⊥
IsWholeOfPart (Some w) None = ⊥
IsWholeOfPart (Some w) (Some part) = (made : IsPart part.input part.content) × (w ≡ whole_of_part part made)

pub wholes : (ps : List PackageModel) (parts : List (Option PartModel)) (k : ℕ) (qs : List PackageModel) (xs : List (Option PartModel)) → AllNumbered (λ n p x. IsPartOf ps parts n p x) k qs xs → (ws : List (Option WholeOf)) × AllZip IsWholeOfPart ws xs
wholes ps parts k [] [] h = ([], tt)
wholes ps parts k [] (x ∷ xs) h = absurd h
wholes ps parts k (p ∷ qs) [] h = absurd h
wholes ps parts k (p ∷ qs) (None ∷ xs) h = (let r = wholes ps parts (suc k) qs xs h.1 in (None ∷ r.0, (tt, r.1)))
wholes ps parts k (p ∷ qs) (Some part ∷ xs) h = (let r = wholes ps parts (suc k) qs xs h.1 in (Some (whole_of_part part h.0.2) ∷ r.0, ((h.0.2, refl), r.1)))

pub entries_are : (w : Option WholeOf) (x : Option PartModel) → IsWholeOfPart w x → IsPartEntry w x
entries_are None None h = tt
entries_are None (Some part) h = h
entries_are (Some w) None h = h
entries_are (Some w) (Some part) h = record {
  source = ap (λ (v : WholeOf). v.source) (sym h.1);
  blocks = ap (λ (v : WholeOf). v.blocks) (sym h.1);
  declared = h.0.declared ∙ ap (λ (v : WholeOf). v.checked.declared) (sym h.1);
  files = subst (λ (v : WholeOf). AreFilesMade v.blocks (trees_in v.source) v.checked.files part.content.files) (sym h.1) h.0.files;
  summary = h.0.summary ∙ ap summary_by (sym h.1);
}

module _ (local : CheckIsLocal) (bind : ImportsBindTheirs) (ps : List PackageModel) (parts : List (Option PartModel)) (well : IsWorkspace ps) (all : AreParts ps parts) (plan : PlanModel) (planned : IsPlan ps plan) (ws : List (Option WholeOf)) (zip : AllZip IsWholeOfPart ws parts) where
  right : AreRight ps parts
  right = all_right ps parts all

  part_at : (w : WholeOf) (x : Option PartModel) → IsWholeOfPart (Some w) x → (part : PartModel) × (x ≡ Some part) × ((made : IsPart part.input part.content) × (w ≡ whole_of_part part made))
  part_at w None h = absurd h
  part_at w (Some part) h = (part, refl, h)

  entry_at : (w : Option WholeOf) (part : PartModel) → IsWholeOfPart w (Some part) → (v : WholeOf) × (w ≡ Some v) × ((made : IsPart part.input part.content) × (v ≡ whole_of_part part made))
  entry_at None part h = absurd h
  entry_at (Some w) part h = (w, refl, h)

  pub record Part (n : ℕ) (w : WholeOf) : Type 0 where
    pub part : PartModel
    pub there : slice_get parts n ≡ Some (Some part)
    pub made : IsPart part.input part.content
    pub is : w ≡ whole_of_part part made

  part_of : (n : ℕ) (w : WholeOf) → slice_get ws n ≡ Some (Some w) → Part n w
  part_of n w h = (let z = zip_at IsWholeOfPart ws parts n (Some w) zip h in let p = part_at w z.0 z.2 in record { part = p.0; there = z.1 ∙ ap Some p.1; made = p.2.0; is = p.2.1 })

  whole_at : (n : ℕ) (part : PartModel) → slice_get parts n ≡ Some (Some part) → (v : WholeOf) × (slice_get ws n ≡ Some (Some v)) × ((made : IsPart part.input part.content) × (v ≡ whole_of_part part made))
  whole_at n part h = (let z = zip_back IsWholeOfPart ws parts n (Some part) zip h in let v = entry_at z.0 part z.2 in (v.0, z.1 ∙ ap Some v.1, v.2))

  -- it tells what its part does
  tells_so : (part : PartModel) (made : IsPart part.input part.content) → part.content.summary ≡ told_of (whole_of_part part made)
  tells_so part made = made.summary

  sourced : AreSourced ps 0 ws
  sourced = λ i w h.
      let p = part_of i w h in
      let e : i ≡ 0 + i = omega arith in
      subst (λ n. slice_get ps n ≡ Some w.source) e ((right i p.part p.there).numbered ∙ ap (λ (v : WholeOf). Some v.source) (sym p.is))

  ones : (i : ℕ) (w : WholeOf) → slice_get ws i ≡ Some (Some w) → IsOfOne (told_of w)
  ones i w h = (let p = part_of i w h in subst IsOfOne (tells_so p.part p.made ∙ ap told_of (sym p.is)) (of_one ps parts well right i p.part p.there))

  -- what packages show by their parts they show by their blocks
  shown_by_blocks : (m : ℕ) (e : ExportsModel) → Shown parts m e → IsShown ps (blocks_in ws) m e
  shown_by_blocks m e h =
      let part = h.told.of_part in
      let r = right m part h.told.there in
      let v = whole_at m part h.told.there in
      record {
        path = part.input.source.0;
        files = part.input.source.1;
        numbered = r.numbered;
        blocks = part.content.blocks;
        there = in_blocks ws m v.0 v.1 ∙ ap (λ (x : WholeOf). Some (Some x.blocks)) v.2.1;
        is = h.is ∙ (ap (λ (s : SummaryModel). s.exports) h.told.is ∙ ap (λ (s : SummaryModel). s.exports) r.made.summary);
      }

  imports_by_blocks : (at : ImportAt) (i : Imported) → ComesTo ps parts at i → IsImported ps (blocks_in ws) at i
  imports_by_blocks at i h = record { outcome = h.outcome; judged = h.judged; shown = given_weaker (Shown parts) (IsShown ps (blocks_in ws)) shown_by_blocks h.outcome i h.given }

  module _ (n : ℕ) (part : PartModel) (there : slice_get parts n ≡ Some (Some part)) (made : IsPart part.input part.content) where
    r : IsRight ps parts n part
    r = right n part there

    abbrev others : List SummaryModel
    others = tell (beside n ws)

    abbrev i : InputModel
    i = part.input

    inside : (m : ℕ) (q : PartModel) → ReachesPackage ps n m → slice_get parts m ≡ Some (Some q) → StaysInside q
    inside m q reached at = all_inside ps parts well right local bind plan planned m q at

    has : (s : SummaryModel) → Among i.reached s → Among others s
    has s h =
        let by = told_by ps parts well right n i r.input s h in
        let v = whole_at by.number by.tells.of_part by.tells.there in
        let ne : by.number ≢ n = (λ e. reaches_others ps plan planned n (subst (λ k. ReachesPackage ps n k) e by.reached)) in
        let same : told_of v.0 ≡ s = ap told_of v.2.1 ∙ (sym (tells_so by.tells.of_part v.2.0) ∙ sym by.tells.is) in
        subst (Among others) same (tell_to (beside n ws) by.number v.0 (some_beside n ws by.number v.0 ne v.1))

    gives : CheckGives (package_seen i part.content.blocks (seen_by i)) (known_by others) made.checked
    gives =
        let none = none_beside ps ws well sourced ones n i.source r.numbered in
        let stand = stand_over ps parts well right n i r.input bind plan planned r.numbered inside part.content.blocks (seen_by i) i.reached made.blocks (well_reached ps parts well right n i r.input) (none_reached ps parts well right n i r.input bind plan planned r.numbered inside) (λ s h. h) in
        let alike = alike_over ps parts well right n i r.input bind plan planned r.numbered inside others (well_beside ps ws well sourced ones n) none has in
        local.same (reach_paths i) (package_seen i part.content.blocks (seen_by i)) (known_by i.reached) (known_by others) made.checked stand alike made.is_checked

    pub is_whole : IsWhole ps ws n i.source (whole_of_part part made)
    is_whole = record {
      source = refl;
      imported = i.imports;
      given = package_weaker (ComesTo ps parts) (IsImported ps (blocks_in ws)) imports_by_blocks n (trees_of i.source.1) i.imports r.input.imports;
      blocks = made.blocks;
      checked =
          over (package_seen i part.content.blocks (seen_by i)) (types_told others) (types_beside n ws) (exports_told others) (exports_beside n ws) (faces_told others) (faces_beside n ws) made.checked
          (sym (types_are (beside n ws))) (sym (exports_are (beside n ws))) (sym (faces_are (beside n ws))) gives;
    }

  entry : (n : ℕ) (p : PackageModel) (w : Option WholeOf) (x : Option PartModel) → slice_get ps n ≡ Some p → slice_get parts n ≡ Some x → IsPartOf ps parts n p x → IsWholeOfPart w x → IsWholeEntry ps ws n p w
  entry n p None None at there h z = h
  entry n p None (Some part) at there h z = absurd z
  entry n p (Some w) None at there h z = absurd z
  entry n p (Some w) (Some part) at there h z =
      (h.0, subst (λ (q : PackageModel). IsWhole ps ws n q w) h.1.source (subst (λ v. IsWhole ps ws n part.input.source v) (sym z.1) (is_whole n part there z.0)))

  pub are_whole : AreWhole ps ws
  are_whole =
      numbered_from (λ n p w. IsWholeEntry ps ws n p w) 0 ps ws (zip_length IsWholeOfPart ws parts zip ∙ sym (numbered_length (λ n p x. IsPartOf ps parts n p x) 0 ps parts all))
      (λ n p w at there. (let z = zip_at IsWholeOfPart ws parts n w zip there in
      let b = numbered_back (λ m q x. IsPartOf ps parts m q x) 0 ps parts n z.0 all z.1 in
      let e : n ≡ 0 + n = omega arith in
      let here : IsPartOf ps parts n p z.0 = subst (λ (q : PackageModel). IsPartOf ps parts n q z.0) (one_at ps n b.0 p b.1 at) (subst (λ m. IsPartOf ps parts m b.0 z.0) (sym e) b.2) in
      subst (λ m. IsWholeEntry ps ws m p w) e (entry n p w z.0 at z.1 here z.2)))

pub parts_are_whole : CheckIsLocal → ImportsBindTheirs → (ps : List PackageModel) (parts : List (Option PartModel)) → IsWorkspace ps → AreParts ps parts → (ws : List (Option WholeOf)) × AreWhole ps ws × AllZip IsPartEntry ws parts
parts_are_whole local bind ps parts well all =
    let plan = has_plan ps well in
    let made = wholes ps parts 0 ps parts all in
    (made.0, are_whole local bind ps parts well all plan.0 plan.1 made.0 made.1, zip_weaker IsWholeOfPart IsPartEntry made.0 parts (λ w x at h. entries_are w x h) made.1)
