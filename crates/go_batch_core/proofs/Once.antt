-- What the packages of a batch tell that are finished.
use Rattle.std.proofs.Common.{◌≡◌, ℕ, List, Option, Some, None, refl, sym, ap, subst, ◌∙◌, arith}
use Rattle.std.specs.Prelude.{slice_get}
use Rattle.std.proofs.lemmas.Option.{slice_get_within}
use Rattle.go_block_core.specs.graph_core.Packages.{IsAssembled}
use Rattle.go_block_core.specs.graph_core.Plans.{IsPlan, PlanModel}
use Rattle.go_block_core.specs.graph_core.Workspaces.{PackageModel, IsWorkspace}
use Rattle.go_summary_core.specs.Summaries.{SummaryModel, path_of}
use Rattle.go_package_core.specs.package_part.Inputs.{InputModel, path_in}
use Rattle.go_package_core.specs.package_part.Laws.{OnePart}
use Rattle.go_package_core.specs.package_part.Parts.{ContentOf, IsPart, PartModel}
use Rattle.go_snap_core.proofs.WholeWorkspaceBeside.{one_place}
use Rattle.go_snap_core.proofs.WholeWorkspaceChecks.{trees_are_placed}
use Rattle.go_snap_core.specs.whole_workspace.Inputs.{IsInputAt, Tells}
use Rattle.go_snap_core.proofs.WholeWorkspaceLists.{one_at}
use Rattle.go_snap_core.proofs.WholeWorkspaceParts.{path_told, told_apart, told_once}
use Rattle.go_snap_core.specs.whole_workspace.mirrors.Steps as steps
use Rattle.go_batch_core.specs.seen.Local.{InputsAreLocal, IsLocal}
use Rattle.go_batch_core.specs.Batches.{batch_with}
use Rattle.go_batch_core.specs.Telling.{IsToldOnce}
use Rattle.go_batch_core.specs.declared.slot.Slot.{Slot}
use Rattle.go_batch_core.specs.declared.slot.Slot.TheVariants.{NoAction, Untaken, Taken, Finished}
use Rattle.go_batch_core.specs.mirrors.Keeping.{AreRight, IsSlotRight}
use Rattle.go_batch_core.proofs.Slots.{some_at}
use Rattle.go_batch_core.proofs.Steps.{no_part_yet, taken_right}

-- a package with a part is finished, and assembled

slot_finished : (ps : List PackageModel) (slots : List Slot) (parts : List (Option PartModel)) (n : ℕ) (s : Slot) (p : PartModel) → IsSlotRight ps slots parts n s (Some p) → s ≡ Finished
slot_finished ps slots parts n NoAction p right = absurd right
slot_finished ps slots parts n Untaken p right = absurd right
slot_finished ps slots parts n (Taken k i) p right = absurd right
slot_finished ps slots parts n Finished p right = refl

module _ (ps : List PackageModel) (slots : List Slot) (parts : List (Option PartModel)) (well : IsWorkspace ps) (right : AreRight ps slots parts) where
  record IsEnd (n : ℕ) (p : PartModel) : Type 0 where
    pub finished : slice_get slots n ≡ Some Finished
    pub right_is : IsSlotRight ps slots parts n Finished (Some p)

  end_at : (n : ℕ) (p : PartModel) → slice_get parts n ≡ Some (Some p) → IsEnd n p
  end_at n p at =
      let slot = some_at slots n (omega (arith, right.many, right.many_parts, slice_get_within parts n (Some p) at)) in
      let r = right.each n slot.0 slot.1 in
      let same : r.part ≡ Some p = one_at parts n r.part (Some p) r.there at in
      let here : IsSlotRight ps slots parts n slot.0 (Some p) = subst (λ (o : Option PartModel). IsSlotRight ps slots parts n slot.0 o) same r.right in
      let is : slot.0 ≡ Finished = slot_finished ps slots parts n slot.0 p here in
      record { finished = slot.1 ∙ ap Some is; right_is = subst (λ (s : Slot). IsSlotRight ps slots parts n s (Some p)) is here }

  -- each part is made of its input
  pub whole_right : steps.AreRight ps parts
  whole_right n p at =
      let e = (end_at n p at).right_is in
      let same : (e.0.0, e.0.1) ≡ p.input.source = one_at ps n (e.0.0, e.0.1) p.input.source e.0.2 e.1.numbered in
      record { numbered = e.1.numbered; assembled = subst (λ (q : PackageModel). IsAssembled q.1) same e.0.3; input = e.1.input; made = e.3 }

  -- a package of the path of one that tells something is this
  place_told : (m n : ℕ) (t : SummaryModel) (p : PackageModel) (tells : Tells parts m t) → slice_get ps n ≡ Some p → p.0 ≡ path_of t → n ≡ m
  place_told m n t p tells at same =
      one_place ps n m p tells.of_part.input.source well at (whole_right m tells.of_part tells.there).numbered (same ∙ path_told ps parts well whole_right m t tells)

  none_taken : (m n k : ℕ) (t : SummaryModel) (i : InputModel) → Tells parts m t → slice_get slots n ≡ Some (Taken k i) → path_in i ≡ path_of t → ⊥
  none_taken m n k t i tells taken same =
      let r = right.each n (Taken k i) taken in
      let input = (taken_right ps slots parts n k i r.part r.right).1 in
      let place : n ≡ m = place_told m n t i.source tells input.numbered same in
      let both : None ≡ Some tells.of_part = one_at parts n None (Some tells.of_part) (no_part_yet ps slots parts n k i right taken) (subst (λ (l : ℕ). slice_get parts l ≡ Some (Some tells.of_part)) (sym place) tells.there) in
      absurd cc

  own_told : OnePart → (m n : ℕ) (t : SummaryModel) (p : PartModel) (c : ContentOf) → Tells parts m t → slice_get parts n ≡ Some (Some p) → path_in p.input ≡ path_of t → IsPart p.input c → c.summary ≡ t
  own_told law m n t p c tells at same made =
      let own = whole_right n p at in
      let place : n ≡ m = place_told m n t p.input.source tells own.numbered same in
      let both : Some p ≡ Some tells.of_part = one_at parts n (Some p) (Some tells.of_part) at (subst (λ (l : ℕ). slice_get parts l ≡ Some (Some tells.of_part)) (sym place) tells.there) in
      let part : p ≡ tells.of_part = cc (both) in
      let content : c ≡ p.content = law p.input c p.content (trees_are_placed ps n p.input.source well own.numbered) made own.made in
      ap (λ (x : ContentOf). x.summary) content ∙ (ap (λ (q : PartModel). q.content.summary) part ∙ sym tells.is)

  one_told : (m l : ℕ) (t s : SummaryModel) → Tells parts m t → Tells parts l s → path_of s ≡ path_of t → s ≡ t
  one_told m l t s x y same =
      let place : l ≡ m = told_apart ps parts well whole_right l m s t y x same in
      told_once ps parts well whole_right m s t (subst (λ (n : ℕ). Tells parts n s) place y) x

  pub told_once_all : OnePart → IsToldOnce (batch_with ps slots parts)
  told_once_all law = record {
    many = right.many_parts ∙ sym right.many;
    finished = λ m t tells. (end_at m tells.of_part tells.there).finished;
    once = one_told;
    taken = none_taken;
    own = own_told law;
  }

  -- the inputs of its packages are local
  pub local_at : InputsAreLocal → (plan : PlanModel) → IsPlan ps plan → (n : ℕ) (i : InputModel) → IsInputAt ps parts n i → IsLocal i
  local_at law plan planned n i at = law ps parts plan well planned whole_right n i at
