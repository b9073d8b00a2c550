-- The objects of the parts of a snapshot.
use Rattle.std.proofs.Common.{◌≡◌, ℕ, suc, List, [], ◌∷◌, All, Option, Some, None, inl, inr, refl, ap}
use Rattle.std.specs.Prelude.{slice_get}
use Rattle.std.proofs.lemmas.List.Elements.{All-nil, All-cons, All-append}
use Rattle.go_graph_core.specs.Workspaces.{PackageModel, IsReadWorkspace}
use Rattle.govisd_resolve.specs.handle_core.Declarations.{Declaration}
use Rattle.go_body_core.specs.typexpr_core.EntryAmong.{Among, among_to}
use Rattle.go_report_core.specs.summary_core.Summaries.{SummaryModel}
use Rattle.go_emit_core.specs.package_core.PackagePartInputs.{IsInput}
use Rattle.go_emit_core.specs.package_core.PackagePartParts.{PartModel}
use Rattle.go_object_core.specs.Objects.{ObjectOf}
use Rattle.go_emit_core.specs.Emitted.{object_over, objects_over, told_by}
use Rattle.go_snap_core.specs.whole_workspace.Inputs.{AreParts}
use Rattle.go_snap_core.specs.whole_workspace.mirrors.Steps.{AreRight}
use Rattle.go_snap_core.proofs.WholeWorkspaceChecks.{trees_are_placed}
use Rattle.go_snap_core.proofs.WholeWorkspacePartsWhole.{all_right}
use Rattle.go_snap_core.proofs.Faulty.{read_there}
use Rattle.go_workspace_laws.proofs.Given.{is_input}
use Rattle.go_workspace_laws.proofs.Grammar.{all_keep_rules}
use Rattle.go_workspace_laws.specs.CodeLaws.{AreOfGrammar, FunctionsReferToTheirBodies, IsSoundObject, ObjectsAreWellFormed, SnapshotsHaveSoundObjects}
use Rattle.go_emit_core.specs.package_core.PackagePartSlots.{if_there, somes}

-- what is there has a number
some_at : {A : Type 0} (xs : List (Option A)) (x : A) → Among (somes xs) x → (n : ℕ) × (slice_get xs n ≡ Some (Some x))
some_at [] x h = absurd h
some_at (None ∷ xs) x h = (let k = some_at xs x h in (suc k.0, k.1))
some_at (Some y ∷ xs) x h = elim h [ inl e ↦ (0, ap (λ z. Some (Some z)) e) | inr r ↦ (let k = some_at xs x r in (suc k.0, k.1)) ]

-- what holds of the object of each part, where it has one
module _ (Q : ObjectOf Declaration → Type 0) (all : List SummaryModel) where
  one_all : (o : Option (ObjectOf Declaration)) (x : Option (ObjectOf Declaration)) → o ≡ x → ((y : ObjectOf Declaration) → o ≡ Some y → Q y) → All Q (if_there x)
  one_all o None e step = All-nil Q
  one_all o (Some y) e step = All-cons Q y [] (step y e) (All-nil Q)

  objects_all : (ps : List PartModel) → ((p : PartModel) → Among ps p → (y : ObjectOf Declaration) → object_over all p.input p.content ≡ Some y → Q y) → All Q (objects_over all ps)
  objects_all [] step = All-nil Q
  objects_all (p ∷ ps) step =
      All-append Q (if_there (object_over all p.input p.content)) (objects_over all ps) (one_all (object_over all p.input p.content) (object_over all p.input p.content) refl (step p (inl refl)))
      (objects_all ps (λ q a. step q (inr a)))

module _ (ps : List PackageModel) (parts : List (Option PartModel)) (as_read : IsReadWorkspace ps) (made : AreParts ps parts) (n : ℕ) (part : PartModel) (there : slice_get parts n ≡ Some (Some part)) where
  abbrev right : AreRight ps parts
  right = all_right ps parts made

  has_input : IsInput part.input
  has_input = is_input ps parts as_read.well right n part there

  of_grammar : AreOfGrammar part.input
  of_grammar = (let r = right n part there in
      record {
        grammar = all_keep_rules part.input.source.1 (read_there ps n part.input.source as_read.read r.numbered);
        placed = trees_are_placed ps n part.input.source as_read.well r.numbered;
      })

pub sound_objects : ObjectsAreWellFormed → FunctionsReferToTheirBodies → SnapshotsHaveSoundObjects
sound_objects formed refer ps parts faults as_read h =
    objects_all (IsSoundObject (somes parts)) (told_by (somes parts)) (somes parts)
    (λ part among o is. (let k = some_at parts part among in
    let made = (all_right ps parts h.made k.0 part k.1).made in
    let input = has_input ps parts as_read h.made k.0 part k.1 in
    let grammar = of_grammar ps parts as_read h.made k.0 part k.1 in
    record {
      part = part;
      there = among_to (somes parts) part among;
      object = is;
      formed = formed (told_by (somes parts)) part.input part.content o input made grammar is;
      refers = refer (told_by (somes parts)) part.input part.content o input made grammar is;
    }))
