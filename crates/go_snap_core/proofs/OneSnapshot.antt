-- A workspace has one snapshot.
use Rattle.std.proofs.Common.{◌≡◌, ◌+◌, ℕ, List, Option, Some, None, refl, sym, ap, subst, ◌∙◌, arith}
use Rattle.std.specs.Prelude.{slice_get}
use Rattle.std.specs.List.{AllZip}
use Rattle.go_snap_core.specs.whole_workspace.LocalLaws.{CheckIsLocal, ImportsBindTheirs}
use Rattle.go_graph_core.proofs.PlanLaws.{has_plan}
use Rattle.go_names_core.specs.block_core.Exports.{ExportsModel}
use Rattle.go_names_core.specs.block_core.Growing.{given_weaker, package_weaker}
use Rattle.go_emit_core.specs.package_core.PackagePartLaws.{OnePart}
use Rattle.go_report_core.specs.summary_core.Summaries.{SummaryModel}
use Rattle.go_emit_core.specs.package_core.PackagePartInputs.{InputModel}
use Rattle.go_emit_core.specs.package_core.PackagePartParts.{IsPart, PartModel}
use Rattle.go_graph_core.specs.declared.imports.ImportAt.{ImportAt}
use Rattle.go_graph_core.specs.Packages.{trees_of}
use Rattle.go_graph_core.specs.Workspaces.{PackageModel, IsWorkspace}
use Rattle.go_graph_core.proofs.Zips.{numbered_back, numbered_length, zip_at, zip_back}
use Rattle.go_names_core.specs.block_core.declared.imports.Imported.{Imported}
use Rattle.go_snap_core.specs.whole_workspace.Inputs.{AreParts, ComesTo, IsInputOf, IsPartOf, Shown, Tells}
use Rattle.go_snap_core.specs.whole_workspace.Whole.{WholeOf}
use Rattle.go_snap_core.specs.whole_workspace.mirrors.Steps.{AreRight}
use Rattle.go_snap_core.proofs.WholeWorkspaceBeside.{told_of}
use Rattle.go_snap_core.proofs.WholeWorkspaceChecks.{trees_are_placed}
use Rattle.go_snap_core.proofs.WholeWorkspaceLists.{one_at, same_list, zip_weaker}
use Rattle.go_snap_core.proofs.WholeWorkspaceOneWhole.{one_whole}
use Rattle.go_snap_core.proofs.WholeWorkspaceParts.{told_once}
use Rattle.go_snap_core.proofs.WholeWorkspacePartsWhole.{IsWholeOfPart, all_right, are_whole, whole_of_part, wholes}
use Rattle.go_snap_core.proofs.WholeWorkspaceTheirs.{one_import, one_imported}
use Rattle.go_snap_core.specs.Laws.{OneSnapshot}
use Rattle.go_snap_core.specs.Snapshots.{contents_of}
use Rattle.go_snap_core.specs.Faults.{AreFaults}
use Rattle.go_snap_core.proofs.OneFaults.{one_faults}
use Rattle.go_snap_core.proofs.Rising.{one_rising, one_zip}

-- the part of an entry

entry_at : (w : Option WholeOf) (part : PartModel) → IsWholeOfPart w (Some part) → (v : WholeOf) × (w ≡ Some v) × ((made : IsPart part.input part.content) × (v ≡ whole_of_part part made))
entry_at None part h = absurd h
entry_at (Some w) part h = (w, refl, h)

part_at : (w : WholeOf) (x : Option PartModel) → IsWholeOfPart (Some w) x → (part : PartModel) × (x ≡ Some part) × ((made : IsPart part.input part.content) × (w ≡ whole_of_part part made))
part_at w None h = absurd h
part_at w (Some part) h = (part, refl, h)

-- two lists of parts of one whole tell the same
module _ (ps : List PackageModel) (ws : List (Option WholeOf)) (parts others : List (Option PartModel)) (x : AllZip IsWholeOfPart ws parts) (y : AllZip IsWholeOfPart ws others) where
  tells_too : (n : ℕ) (s : SummaryModel) → Tells parts n s → Tells others n s
  tells_too n s h =
      let z = zip_back IsWholeOfPart ws parts n (Some h.of_part) x h.there in
      let v = entry_at z.0 h.of_part z.2 in
      let q = zip_at IsWholeOfPart ws others n z.0 y z.1 in
      let p = part_at v.0 q.0 (subst (λ w. IsWholeOfPart w q.0) v.1 q.2) in
      record { of_part = p.0; there = q.1 ∙ ap Some p.1; is = h.is ∙ (v.2.0.summary ∙ (ap told_of (sym v.2.1 ∙ p.2.1) ∙ sym p.2.0.summary)) }

  shown_too : (n : ℕ) (e : ExportsModel) → Shown parts n e → Shown others n e
  shown_too n e h = record { summary = h.summary; told = tells_too n h.summary h.told; is = h.is }

  comes_too : (at : ImportAt) (i : Imported) → ComesTo ps parts at i → ComesTo ps others at i
  comes_too at i h = record { outcome = h.outcome; judged = h.judged; given = given_weaker (Shown parts) (Shown others) shown_too h.outcome i h.given }

  module _ (well : IsWorkspace ps) (right : AreRight ps others) where
    shown_once : (m : ℕ) (e f : ExportsModel) → Shown others m e → Shown others m f → e ≡ f
    shown_once m e f u v = u.is ∙ (ap (λ (s : SummaryModel). s.exports) (told_once ps others well right m u.summary v.summary u.told v.told) ∙ sym v.is)

    -- a package has one input
    pub one_input : (n : ℕ) (p : PackageModel) (i j : InputModel) → IsInputOf ps parts n p i → IsInputOf ps others n p j → i ≡ j
    one_input n p i j h k =
        let source : i.source ≡ j.source = h.source ∙ sym k.source in
        let imports : i.imports ≡ j.imports =
        one_imported (ComesTo ps others) (λ at a b u v. one_import (Shown others) shown_once ps at u.outcome v.outcome a b well u.judged v.judged u.given v.given) n (trees_of p.1) i.imports j.imports
        (package_weaker (ComesTo ps parts) (ComesTo ps others) comes_too n (trees_of p.1) i.imports h.imports) k.imports in
        let numbers : h.reached.numbers ≡ k.reached.numbers =
        one_rising h.reached.numbers k.reached.numbers h.reached.rising k.reached.rising
        (λ m. ((λ c. (k.reached.reached m).1 ((h.reached.reached m).0 c)), (λ c. (h.reached.reached m).1 ((k.reached.reached m).0 c)))) in
        let told : AllZip (Tells others) h.reached.numbers i.reached = zip_weaker (Tells parts) (Tells others) h.reached.numbers i.reached (λ m s at t. tells_too m s t) h.reached.told in
        let reached : i.reached ≡ j.reached =
        one_zip (Tells others) (λ m s t u v. told_once ps others well right m s t u v) k.reached.numbers i.reached j.reached (subst (λ ns. AllZip (Tells others) ns i.reached) numbers told) k.reached.told in
        λ t. record { source = source t; imports = imports t; reached = reached t }

module _ (local : CheckIsLocal) (bind : ImportsBindTheirs) (part_is_one : OnePart) (ps : List PackageModel) (well : IsWorkspace ps) (parts others : List (Option PartModel)) (x : AreParts ps parts) (y : AreParts ps others) where
  same_entry : (ws : List (Option WholeOf)) → AllZip IsWholeOfPart ws parts → AllZip IsWholeOfPart ws others → (n : ℕ) (p : PackageModel) (a b : Option PartModel) → slice_get ps n ≡ Some p → IsPartOf ps parts n p a → IsPartOf ps others n p b → a ≡ b
  same_entry ws u v n p None None at h k = refl
  same_entry ws u v n p None (Some b) at h k = absurd (h k.0)
  same_entry ws u v n p (Some a) None at h k = absurd (k h.0)
  same_entry ws u v n p (Some a) (Some b) at h k =
      let input : a.input ≡ b.input = one_input ps ws parts others u v well (all_right ps others y) n p a.input b.input h.1 k.1 in
      let again : IsPart a.input b.content = subst (λ i. IsPart i b.content) (sym input) k.2 in
      let content : a.content ≡ b.content = part_is_one a.input a.content b.content (trees_are_placed ps n a.input.source well (at ∙ ap Some (sym h.1.source))) h.2 again in
      let same : a ≡ b = λ t. record { input = input t; content = content t } in
      ap Some same

  same_parts : (ws : List (Option WholeOf)) → AllZip IsWholeOfPart ws parts → AllZip IsWholeOfPart ws others → parts ≡ others
  same_parts ws u v =
      same_list parts others (sym (numbered_length (λ n p z. IsPartOf ps parts n p z) 0 ps parts x) ∙ numbered_length (λ n p z. IsPartOf ps others n p z) 0 ps others y)
      (λ n a b h k. (let r = numbered_back (λ m p z. IsPartOf ps parts m p z) 0 ps parts n a x h in
      let s = numbered_back (λ m p z. IsPartOf ps others m p z) 0 ps others n b y k in
      let e : 0 + n ≡ n = omega arith in
      same_entry ws u v n r.0 a b r.1 (subst (λ m. IsPartOf ps parts m r.0 a) e r.2)
      (subst (λ (q : PackageModel). IsPartOf ps others n q b) (one_at ps n s.0 r.0 s.1 r.1) (subst (λ m. IsPartOf ps others m s.0 b) e s.2))))

  pub one_parts : parts ≡ others
  one_parts =
      let plan = has_plan ps well in
      let mine = wholes ps parts 0 ps parts x in
      let theirs = wholes ps others 0 ps others y in
      let same : mine.0 ≡ theirs.0 = one_whole local bind ps mine.0 theirs.0 well (are_whole local bind ps parts well x plan.0 plan.1 mine.0 mine.1) (are_whole local bind ps others well y plan.0 plan.1 theirs.0 theirs.1) in
      same_parts mine.0 mine.1 (subst (λ ws. AllZip IsWholeOfPart ws others) (sym same) theirs.1)

pub one_snapshot : CheckIsLocal → ImportsBindTheirs → OnePart → OneSnapshot
one_snapshot local bind part_is_one ps parts others faults again well h k =
    let same : parts ≡ others = one_parts local bind part_is_one ps well parts others h.made k.made in
    (same, one_faults ps (contents_of others) faults again (subst (λ xs. AreFaults ps (contents_of xs) faults) same h.faults_are) k.faults_are)
