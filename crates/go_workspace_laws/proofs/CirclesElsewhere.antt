-- What the packages show that a package reaches uses none of its own types.
use Rattle.std.proofs.Common.{◌≡◌, ◌⊎◌, ℕ, inl, inr, Bool, true, false, List, [], ◌∷◌, Option, Some, None, refl, sym, ap, subst, ◌∙◌}
use Rattle.std.specs.Prelude.{Contains, slice_get}
use Rattle.std.specs.Str.{bytes_eq}
use Rattle.std.proofs.lemmas.Slice.Eq.{bytes_eq-Decides}
use Rattle.std.proofs.lemmas.List.Elements.{All-cons, All-nil}
use Rattle.go_term_core.specs.decl_core.declared.keys.DeclKey.{DeclKey}
use Rattle.go_term_core.specs.decl_core.declared.keys.DeclRef.{DeclRef}
use Rattle.go_graph_core.specs.Plans.{PlanModel, IsPlan}
use Rattle.go_graph_core.specs.Workspaces.{PackageModel, IsWorkspace}
use Rattle.go_select_core.specs.type_core.Built.{direct_keys}
use Rattle.go_select_core.specs.type_core.Looping.{none_there}
use Rattle.go_body_core.specs.typexpr_core.EntryAmong.{Among, among_from, among_map, among_to}
use Rattle.go_body_core.specs.typexpr_core.AliasesLaws.{MeansOthers}
use Rattle.go_emit_core.specs.declared_core.declared.face.Face.TheVariants as faces
use Rattle.go_emit_core.specs.declared_core.Faces.{TheFace}
use Rattle.go_emit_core.specs.declared_core.Here.{face_type, far_type}
use Rattle.go_emit_core.specs.declared_core.Packages.{face_by, face_in}
use Rattle.go_report_core.specs.summary_core.Summaries.{SummaryModel, path_of}
use Rattle.go_report_core.specs.summary_core.Views.{faces_told}
use Rattle.go_report_core.specs.summary_core.Telling.{nothing_else, views_tell}
use Rattle.go_emit_core.specs.package_core.PackagePartInputs.{path_in}
use Rattle.go_emit_core.specs.package_core.PackagePartParts.{PartModel}
use Rattle.go_snap_core.specs.whole_workspace.Inputs.{ReachesPackage}
use Rattle.go_snap_core.specs.whole_workspace.Known.{face_keys}
use Rattle.go_snap_core.specs.whole_workspace.LocalLaws.{CheckIsLocal, ImportsBindTheirs}
use Rattle.go_snap_core.specs.whole_workspace.mirrors.Steps.{AreRight}
use Rattle.go_snap_core.proofs.WholeWorkspaceBeside.{one_place}
use Rattle.go_snap_core.proofs.WholeWorkspaceOrder.{reaches_on, reaches_others}
use Rattle.go_snap_core.proofs.WholeWorkspaceParts.{all_inside, path_told, reach_paths, told_by, well_reached}
use Rattle.go_snap_core.proofs.WholeWorkspaceTold.{IsTold, NoneIsOf}
use Rattle.go_workspace_laws.proofs.CirclesDirectly.{direct_mentioned}

-- what the type of a face uses directly the face mentions
pub face_uses : (o : Option TheFace) (k : DeclKey) → Contains (direct_keys (face_type o)) k → (f : TheFace) × (o ≡ Some f) × Contains (face_keys f) k
face_uses None k h = absurd (none_there k h)
face_uses (Some (faces.«Type» None)) k h = absurd (none_there k h)
face_uses (Some (faces.«Type» (Some t))) k h = (faces.«Type» (Some t), refl, direct_mentioned t k h)
face_uses (Some (faces.Func g)) k h = absurd (none_there k h)
face_uses (Some (faces.«Value» o)) k h = absurd (none_there k h)

-- a summary of the package of a path, or none
of_path : (ss : List SummaryModel) (path : List ℕ) → ((s : SummaryModel) × Among ss s × (path_of s ≡ path)) ⊎ NoneIsOf ss path
of_path [] path = inr (All-nil (λ s. path ≡ path_of s → ⊥))
of_path (s ∷ ss) path = by (bytes_eq path (path_of s)) refl (of_path ss path)
  where
    by : (b : Bool) → bytes_eq path (path_of s) ≡ b → ((t : SummaryModel) × Among ss t × (path_of t ≡ path)) ⊎ NoneIsOf ss path → ((t : SummaryModel) × Among (s ∷ ss) t × (path_of t ≡ path)) ⊎ NoneIsOf (s ∷ ss) path
    by true e rest = inl (s, inl refl, sym ((bytes_eq-Decides path (path_of s)).0 e))
    by false e (inl t) = inl (t.0, inr t.1, t.2)
    by false e (inr none) = inr (All-cons (λ t. path ≡ path_of t → ⊥) s ss (λ same. (let no : false ≡ true = sym e ∙ (bytes_eq-Decides path (path_of s)).1 same in cc)) none)

module _ (ps : List PackageModel) (parts : List (Option PartModel)) (well : IsWorkspace ps) (right : AreRight ps parts) (local : CheckIsLocal) (bind : ImportsBindTheirs) (plan : PlanModel) (planned : IsPlan ps plan) where
  -- what a package tells mentions its own types, and those of packages that it reaches: none of a package that reaches it
  told_apart : (n m : ℕ) (part other : PartModel) → slice_get parts n ≡ Some (Some part) → slice_get parts m ≡ Some (Some other) → ReachesPackage ps n m → (path_in other.input ≡ path_in part.input → ⊥)
      → (path : List ℕ) → Contains (reach_paths other.input) path → path ≡ path_in part.input → ⊥
  told_apart n m part other here there reaches apart path inside same = elim (among_from (reach_paths other.input) path inside) [
    | inl own ↦ apart (own ∙ same)
    | inr deeper ↦
        (let t = among_map path_of other.input.reached path deeper in
        let by = told_by ps parts well right m other.input (right m other there).input t.0 t.1 in
        let number : n ≡ by.number =
        one_place ps n by.number part.input.source by.tells.of_part.input.source well (right n part here).numbered (right by.number by.tells.of_part by.tells.there).numbered
        (sym same ∙ (sym t.2 ∙ path_told ps parts well right by.number t.0 by.tells)) in
        reaches_others ps plan planned n (subst (ReachesPackage ps n) (sym number) (reaches_on ps n m by.number reaches by.reached)))
  ]

  module _ (n : ℕ) (part : PartModel) (there : slice_get parts n ≡ Some (Some part)) where
    abbrev ss : List SummaryModel
    ss = part.input.reached

    abbrev own : List ℕ
    own = path_in part.input

    -- a summary of another package mentions no type of this one
    summary_apart : (s : SummaryModel) → Among ss s → (path_of s ≡ own → ⊥) → (d : DeclRef) (f : TheFace) (j : DeclKey) → face_by s.faces d ≡ Some f → Contains (face_keys f) j → j.path ≡ own → ⊥
    summary_apart s among apart d f j face at same =
        let by = told_by ps parts well right n part.input (right n part there).input s among in
        let inside : IsTold (Contains (reach_paths by.tells.of_part.input)) s =
        subst (IsTold (Contains (reach_paths by.tells.of_part.input))) (sym by.tells.is) (all_inside ps parts well right local bind plan planned by.number by.tells.of_part by.tells.there) in
        told_apart n by.number part by.tells.of_part there by.tells.there by.reached (λ e. apart (path_told ps parts well right by.number s by.tells ∙ e)) j.path (inside.faces d f j face at) same

    face_apart : (k j : DeclKey) → (k.path ≡ own → ⊥) → ((s : SummaryModel) × Among ss s × (path_of s ≡ k.path)) ⊎ NoneIsOf ss k.path → Contains (direct_keys (far_type (faces_told ss) k)) j → j.path ≡ own → ⊥
    face_apart k j apart (inl s) h same =
        let w = well_reached ps parts well right n part.input (right n part there).input in
        let is : face_in (faces_told ss) k.path k.decl ≡ face_by s.0.faces k.decl = ap (λ (path : List ℕ). face_in (faces_told ss) path k.decl) (sym s.2) ∙ (views_tell ss s.0 w.apart w.own (among_to ss s.0 s.1)).declared k.decl in
        let u = face_uses (face_by s.0.faces k.decl) j (subst (λ (o : Option TheFace). Contains (direct_keys (face_type o)) j) is h) in
        summary_apart s.0 s.1 (λ e. apart (sym s.2 ∙ e)) k.decl u.0 j u.1 u.2 same
    face_apart k j apart (inr none) h same =
        let w = well_reached ps parts well right n part.input (right n part there).input in
        none_there j (subst (λ (o : Option TheFace). Contains (direct_keys (face_type o)) j) ((nothing_else ss k.path w.own none).declared k.decl) h)

    pub means_others : MeansOthers own (far_type (faces_told ss))
    means_others k j apart h same = face_apart k j apart (of_path ss k.path) h same
