-- The types and aliases of a package among all others that reach themselves are those that have a fault of it.
use Rattle.std.proofs.Common.{◌≡◌, ℕ, ◌<◌, inl, inr, Bool, true, false, List, ◌++◌, length, Option, Some, refl, sym, ap, subst, ◌∙◌, arith}
use Rattle.std.specs.Prelude.{◌↔◌, Contains, slice_get, slice_index}
use Rattle.go_path_core.specs.text_core.declared.rule.Rule.TheVariants.{Y1}
use Rattle.go_term_core.specs.decl_core.declared.keys.DeclKey.{DeclKey}
use Rattle.go_term_core.specs.declared.term.MemberPlace.TheVariants as places
use Rattle.go_term_core.specs.Terms.{Term}
use Rattle.go_graph_core.specs.Packages.{IsAssembled}
use Rattle.go_graph_core.specs.Plans.{PlanModel, IsPlan}
use Rattle.go_graph_core.specs.Workspaces.{PackageModel, IsReadWorkspace}
use Rattle.go_graph_core.proofs.PlanLaws.{has_plan}
use Rattle.go_select_core.specs.type_core.Built.{IsBuilt, direct_keys}
use Rattle.go_body_core.specs.table_core.Entries.{Entry, find_entry}
use Rattle.go_select_core.specs.type_core.Looping.{none_there}
use Rattle.go_body_core.specs.typexpr_core.EntryEntries.{Meanings, entries_with, package_meanings, package_methods}
use Rattle.go_body_core.specs.typexpr_core.EntryMeanings.{declared_alone}
use Rattle.go_body_core.specs.typexpr_core.EntryAmong.{among_from, among_to}
use Rattle.go_body_core.specs.typexpr_core.AliasesLaws.{MeansOthers}
use Rattle.go_report_core.specs.declared.type_faults.places.PackageFault.{PackageFault}
use Rattle.go_report_core.specs.type_faults.Places.{file_place_of}
use Rattle.go_report_core.specs.type_faults.TypeFaults.{faults_of_types}
use Rattle.go_emit_core.specs.declared_core.Faces.{TheFace}
use Rattle.go_emit_core.specs.declared_core.Here.{face_type, far_type}
use Rattle.go_emit_core.specs.declared_core.Packages.{PackageFacesModel, face_by, face_in, face_in_some}
use Rattle.go_report_core.specs.summary_core.Views.{faces_told}
use Rattle.go_report_core.specs.summary_core.Telling.{views_tell}
use Rattle.go_emit_core.specs.package_core.PrepareLaws.{IsOfLoop, LoopsAreFaults}
use Rattle.go_emit_core.specs.package_core.PreparePackages.{PackageIn, outlines_in, shows_in}
use Rattle.go_emit_core.specs.package_core.PrepareTypes.{AreTypes}
use Rattle.go_snap_core.specs.whole_workspace.LocalLaws.{CheckIsLocal, ImportsBindTheirs}
use Rattle.go_snap_core.specs.whole_workspace.Whole.{AreWhole, IsWhole, WholeOf, beside, faces_beside, package_among, types_beside}
use Rattle.go_snap_core.proofs.WholeWorkspaceBeside.{faces_are, one_place, tell, told_of}
use Rattle.go_snap_core.proofs.WholeWorkspaceOneWhole.{whole_back}
use Rattle.go_snap_core.proofs.WholeWorkspaceOrder.{assembled_by, place_of}
use Rattle.go_snap_core.proofs.WholeWorkspaceTargets.{meanings_same}
use Rattle.go_workspace_laws.specs.circles.Laws.{CirclesAreFaultsInAll}
use Rattle.go_workspace_laws.proofs.CirclesCircles.{of_rule}
use Rattle.go_workspace_laws.proofs.CirclesCutting.{among_one, cut, cut_in, cut_out, is_one_of, one_among}
use Rattle.go_workspace_laws.proofs.CirclesElsewhere.{face_uses}
use Rattle.go_workspace_laws.proofs.CirclesFronts.{path_among, path_is, paths_to, places_differ}
use Rattle.go_workspace_laws.proofs.CirclesGrammar.{trees_keep_rules}
use Rattle.go_workspace_laws.proofs.CirclesNaming.{aliases_are_names}
use Rattle.go_workspace_laws.proofs.CirclesWholes.{Earlier, IsToldTo, binds, found, in_mine, own, told_to, well_mine}

-- the types of a package, where its names mean the same by what other packages show
abbrev pub with_others : PackageIn → List PackageFacesModel → PackageIn
with_others p others = record { path = p.path; trees = p.trees; blocks = p.blocks; imports = p.imports; shows = p.shows; others = others }

pub types_among : (p : PackageIn) (others : List PackageFacesModel) (far own : List Entry) (faults : List PackageFault) → package_meanings (shows_in p) p.path p.blocks ≡ package_meanings (shows_in (with_others p others)) p.path p.blocks
    → AreTypes p far own faults → AreTypes (with_others p others) far own faults
types_among p others far own faults same t = record {
  loops = t.loops;
  built = subst (λ (means : Meanings). IsBuilt (find_entry far) (entries_with means p.path (package_methods means p.path (outlines_in p)) (outlines_in p)) own t.loops) same t.built;
  looped = t.looped;
  looped_are = t.looped_are;
  faults_are =
      subst
      (λ (means : Meanings). faults ≡ faults_of_types (far ++ own) (package_meanings (declared_alone p.shows) p.path p.blocks) means p.path (outlines_in p) (entries_with means p.path (package_methods means p.path (outlines_in p)) (outlines_in p)) t.looped t.loops)
      same t.faults_are;
}

module _ (loops : LoopsAreFaults) (local : CheckIsLocal) (bind : ImportsBindTheirs) (ps : List PackageModel) (ws : List (Option WholeOf)) (as_read : IsReadWorkspace ps) (all : AreWhole ps ws) (plan : PlanModel) (planned : IsPlan ps plan) where
  module _ (k : ℕ) (within : k < length plan.order) (p : PackageModel) (w : WholeOf) (numbered : slice_get ps (slice_index plan.order k) ≡ Some p) (h : IsWhole ps ws (slice_index plan.order k) p w) where
    abbrev n : ℕ
    n = slice_index plan.order k

    abbrev paths : List (List ℕ)
    paths = paths_to ps plan.order k

    abbrev seen : PackageIn
    seen = package_among ws n p h.imported w.blocks

    abbrev others : List PackageFacesModel
    others = faces_beside n ws

    -- the faces of the packages up to its place
    abbrev fewer : List PackageFacesModel
    fewer = cut paths others

    abbrev in_front : PackageIn
    in_front = with_others seen fewer

    earlier : (j : ℕ) → j < k → IsToldTo local bind ps ws as_read.well all plan planned j
    earlier j less = told_to local bind ps ws as_read.well all plan planned j (omega (arith, less, within))

    far_alike : (x : DeclKey) → Contains paths x.path → far_type others x ≡ far_type fewer x
    far_alike x at = ap (λ (o : Option PackageFacesModel). face_type (face_in_some o x.decl)) (sym (cut_in paths others x.path (among_one paths x.path (among_from paths x.path at))))

    same_meanings : package_meanings (shows_in seen) p.0 w.blocks ≡ package_meanings (shows_in in_front) p.0 w.blocks
    same_meanings =
        meanings_same (Contains paths) p.0 w.blocks (outlines_in seen) (own local bind ps ws as_read.well all plan planned k within earlier p w numbered h) (binds local bind ps ws as_read.well all plan planned k within earlier p w numbered h)
        seen.shows seen.shows (λ q name at. refl) (far_type others) (far_type fewer) far_alike

    -- what is told of others, as what they show
    others_told : (x : DeclKey) → face_in others x.path x.decl ≡ face_in (faces_told (tell (beside n ws))) x.path x.decl
    others_told x = ap (λ (fs : List PackageFacesModel). face_in fs x.path x.decl) (faces_are (beside n ws))

    -- a package in front of it mentions those up to its own place, and this one is none of them
    not_up_to : (place : ℕ) (path : List ℕ) → place < k → Contains (paths_to ps plan.order place) path → path ≡ p.0 → ⊥
    not_up_to place path before at same =
        let t = path_among ps plan.order place path at in
        let low = t.1 in
        let less : t.0 < k = omega (arith, low, before) in
        let a = assembled_by ps plan planned t.0 t.2 in
        let number : slice_index plan.order t.0 ≡ n =
        one_place ps (slice_index plan.order t.0) n (a.0, a.1) p as_read.well a.2 numbered (sym (path_is ps (slice_index plan.order t.0) (a.0, a.1) a.2) ∙ (t.3 ∙ same)) in
        places_differ plan.order t.0 k planned.once less within number

    earlier_apart : (x j : DeclKey) → Earlier local bind ps ws as_read.well all plan planned k x.path → Contains (direct_keys (face_type (face_in others x.path x.decl))) j → j.path ≡ p.0 → ⊥
    earlier_apart x j e h_uses same =
        let ss = tell (beside n ws) in
        let mine = well_mine local bind ps ws as_read.well all plan planned k within earlier p w numbered h in
        let is : face_in others x.path x.decl ≡ face_by (told_of e.whole).faces x.decl =
        others_told x
        ∙ (ap (λ (path : List ℕ). face_in (faces_told ss) path x.decl) (sym e.is)
        ∙ (views_tell ss (told_of e.whole) mine.apart mine.own (in_mine local bind ps ws as_read.well all plan planned k within earlier p w numbered h x.path e)).declared x.decl) in
        let u = face_uses (face_by (told_of e.whole).faces x.decl) j (subst (λ (o : Option TheFace). Contains (direct_keys (face_type o)) j) is h_uses) in
        not_up_to e.place j.path e.before (e.inside.faces x.decl u.0 j u.1 u.2) same

    outside : MeansOthers p.0 (far_type fewer)
    outside x j apart uses same = by (is_one_of paths x.path) refl
      where
        by : (b : Bool) → is_one_of paths x.path ≡ b → ⊥
        by true is =
            let here : far_type fewer x ≡ face_type (face_in others x.path x.decl) = ap (λ (o : Option PackageFacesModel). face_type (face_in_some o x.decl)) (cut_in paths others x.path is) in
            elim (found local bind ps ws as_read.well all plan planned k within earlier p w numbered h x.path (among_to paths x.path (one_among paths x.path is))) [
              | inl e ↦ earlier_apart x j e (subst (λ (t : Term). Contains (direct_keys t) j) here uses) same
              | inr mine ↦ apart mine
            ]
        by false is = none_there j (subst (λ (o : Option PackageFacesModel). Contains (direct_keys (face_type (face_in_some o x.decl))) j) (cut_out paths others x.path is) uses)

    pub circles : (f : PackageFault) → (Contains h.checked.type_faults f × (f.rule ≡ Y1)) ↔ IsOfLoop seen f
    circles f =
        let far = types_beside n ws in
        let faults = h.checked.type_faults in
        let types = types_among seen fewer far w.checked.types faults same_meanings h.checked.types in
        let named = aliases_are_names in_front (trees_keep_rules ps n p as_read.read numbered) in (
          (λ x. loops.only in_front far w.checked.types faults types named outside f x.0 x.1),
          (λ x. (loops.found in_front far w.checked.types faults types named outside f x, of_rule Y1 (file_place_of (outlines_in seen) (places.Declared x.0.decl)) f x.4)),
        )

pub circles_are_faults_in_all : LoopsAreFaults → CheckIsLocal → ImportsBindTheirs → CirclesAreFaultsInAll
circles_are_faults_in_all loops local bind ps ws as_read all n p w numbered there h f =
    let plan = has_plan ps as_read.well in
    let assembled : IsAssembled p.1 = subst (λ (q : PackageModel). IsAssembled q.1) h.source (whole_back ps ws all n w there).assembled in
    let place = place_of ps plan.0 plan.1 n (p.0, p.1, numbered, assembled) in
    subst (λ m. (at : slice_get ps m ≡ Some p) (g : IsWhole ps ws m p w) → (Contains g.checked.type_faults f × (f.rule ≡ Y1)) ↔ IsOfLoop (package_among ws m p g.imported w.blocks) f) place.2
    (λ at g. circles loops local bind ps ws as_read all plan.0 plan.1 place.0 place.1 p w at g f)
    numbered h
