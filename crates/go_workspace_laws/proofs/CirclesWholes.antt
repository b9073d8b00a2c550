-- What the packages in front of a place of a plan mention, where each is checked among all others.
use Rattle.std.proofs.Common.{◌≡◌, ◌≢◌, ℕ, ◌<◌, ◌≤◌, ◌⊎◌, inl, inr, List, length, Option, Some, refl, sym, ap, subst, ◌∙◌, arith}
use Rattle.std.specs.Prelude.{Contains, slice_get, slice_index}
use Rattle.std.proofs.lemmas.Bool.{cases_eq}
use Rattle.go_graph_core.specs.Packages.{trees_of}
use Rattle.go_graph_core.specs.Plans.{PlanModel, IsPlan}
use Rattle.go_graph_core.specs.Workspaces.{PackageModel, IsWorkspace}
use Rattle.go_body_core.specs.typexpr_core.EntryAmong.{among_to}
use Rattle.go_report_core.specs.summary_core.Summaries.{SummaryModel}
use Rattle.go_emit_core.specs.package_core.PreparePackages.{PackageIn}
use Rattle.go_names_core.specs.block_core.Exports.{ExportsModel}
use Rattle.go_names_core.specs.block_core.AllPackages.{IsImported, IsShown}
use Rattle.go_snap_core.specs.whole_workspace.Known.{BindsInside, CheckGives}
use Rattle.go_snap_core.specs.whole_workspace.LocalLaws.{CheckIsLocal, ImportsBindTheirs, StandsAmong}
use Rattle.go_snap_core.specs.whole_workspace.Whole.{AreWhole, IsWhole, WholeOf, beside, blocks_in, package_among}
use Rattle.go_snap_core.proofs.WholeWorkspaceBeside.{none_beside, some_beside, tell, tell_to, told_of, well_beside}
use Rattle.go_snap_core.proofs.WholeWorkspaceChecks.{trees_are_placed}
use Rattle.go_snap_core.proofs.WholeWorkspaceOneWhole.{gives_beside, of_one, sourced, whole_at, whole_back}
use Rattle.go_snap_core.proofs.WholeWorkspaceOrder.{assembled_by, by_place, place_of, reached_before, reaches_next}
use Rattle.go_snap_core.proofs.WholeWorkspaceTheirs.{Leads, imports_lead, passes}
use Rattle.go_snap_core.proofs.WholeWorkspaceTold.{AreWell, IsTold, IsToldOf, NoneIsOf, known_by, stands, told_wider}
use Rattle.go_workspace_laws.proofs.CirclesFronts.{among_paths, path_among, path_at, path_is, paths_to}

module _ (local : CheckIsLocal) (bind : ImportsBindTheirs) (ps : List PackageModel) (ws : List (Option WholeOf)) (well : IsWorkspace ps) (all : AreWhole ps ws) (plan : PlanModel) (planned : IsPlan ps plan) where
  -- the paths of the packages up to a place
  abbrev pub paths_in : ℕ → List (List ℕ)
  paths_in k = paths_to ps plan.order k

  -- the package at a place mentions types of those up to there
  abbrev pub IsToldTo : ℕ → Type 0
  IsToldTo k = (w : WholeOf) → slice_get ws (slice_index plan.order k) ≡ Some (Some w) → IsTold (Contains (paths_in k)) (told_of w)

  -- the package of a path stands in front of a place
  pub record Earlier (k : ℕ) (path : List ℕ) : Type 0 where
    pub place : ℕ
    pub before : place < k
    pub whole : WholeOf
    pub there : slice_get ws (slice_index plan.order place) ≡ Some (Some whole)
    pub differs : slice_index plan.order place ≢ slice_index plan.order k
    pub is : whole.source.0 ≡ path
    pub inside : IsTold (Contains (paths_in place)) (told_of whole)

  module _ (k : ℕ) (within : k < length plan.order) (earlier : (j : ℕ) → j < k → IsToldTo j) (p : PackageModel) (w : WholeOf) (numbered : slice_get ps (slice_index plan.order k) ≡ Some p) (h : IsWhole ps ws (slice_index plan.order k) p w) where
    abbrev n : ℕ
    n = slice_index plan.order k

    abbrev paths : List (List ℕ)
    paths = paths_in k

    -- the package, as its check sees it, and what the others tell
    abbrev seen : PackageIn
    seen = package_among ws n p h.imported w.blocks

    abbrev mine : List SummaryModel
    mine = tell (beside n ws)

    pub own : Contains paths p.0
    own = subst (Contains paths) (path_is ps n p numbered) (among_paths ps plan.order k k (omega arith) within)

    earlier_at : (j : ℕ) (path : List ℕ) → j ≤ k → j < length plan.order → slice_index plan.order j ≢ n → path_at ps (slice_index plan.order j) ≡ path → Earlier k path
    earlier_at j path low below ne is =
        let ne_place : j ≢ k = (λ e. ne (ap (slice_index plan.order) e)) in
        let less : j < k = omega (arith, low, ne_place) in
        let a = whole_at ps ws all (slice_index plan.order j) (assembled_by ps plan planned j below) in
        record {
          place = j;
          before = less;
          whole = a.0;
          there = a.1;
          differs = ne;
          is = sym (path_is ps (slice_index plan.order j) a.0.source (whole_back ps ws all (slice_index plan.order j) a.0 a.1).numbered) ∙ is;
          inside = earlier j less a.0 a.1;
        }

    pub found : (path : List ℕ) → Contains paths path → Earlier k path ⊎ (path ≡ p.0)
    found path at =
        let t = path_among ps plan.order k path at in
        elim (cases_eq (slice_index plan.order t.0) n) [
          | inl e ↦ inr (sym t.3 ∙ (ap (path_at ps) e ∙ path_is ps n p numbered))
          | inr ne ↦ inl (earlier_at t.0 path t.1 t.2 ne t.3)
        ]

    pub well_mine : AreWell mine
    well_mine = well_beside ps ws well (sourced ps ws all) (of_one ps ws all) n

    none_mine : NoneIsOf mine p.0
    none_mine = none_beside ps ws well (sourced ps ws all) (of_one ps ws all) n p numbered

    pub in_mine : (path : List ℕ) (e : Earlier k path) → Contains mine (told_of e.whole)
    in_mine path e = among_to mine (told_of e.whole) (tell_to (beside n ws) (slice_index plan.order e.place) e.whole (some_beside n ws (slice_index plan.order e.place) e.whole e.differs e.there))

    -- what is in front of an earlier place is in front of this one
    wider : (j : ℕ) → j < k → (path : List ℕ) → Contains (paths_in j) path → Contains paths path
    wider j less path at = (let t = path_among ps plan.order j path at in let lower = t.1 in subst (Contains paths) t.3 (among_paths ps plan.order k t.0 (omega (arith, lower, less)) t.2))

    of_mine : (path : List ℕ) → Earlier k path ⊎ (path ≡ p.0) → IsToldOf (Contains paths) mine path ⊎ NoneIsOf mine path
    of_mine path (inl e) = inl (record { summary = told_of e.whole; there = in_mine path e; is = e.is; inside = told_wider (Contains (paths_in e.place)) (Contains paths) (wider e.place e.before) (told_of e.whole) e.inside })
    of_mine path (inr e) = inr (subst (NoneIsOf mine) (sym e) none_mine)

    imports_inside : (path : List ℕ) (l : Leads (IsImported ps (blocks_in ws)) n path) → Contains paths path
    imports_inside path l =
        let p = passes (IsShown ps (blocks_in ws)) ps l.at l.come.outcome l.shown l.come.judged l.come.shown in
        let reached = reached_before ps plan planned l.at.«package» p.to (reaches_next ps l.at p.to p.judged) in
        let place = place_of ps plan planned p.to reached.0 in
        let before : place.0 < k = reached.1 k place.0 within place.1 (sym l.from) place.2 in
        let there : path_at ps (slice_index plan.order place.0) ≡ path = ap (path_at ps) place.2 ∙ (path_is ps p.to (p.shows.path, p.shows.files) p.shows.numbered ∙ (sym (ap (λ (e : ExportsModel). e.path) p.shows.is) ∙ sym l.is)) in
        subst (Contains paths) there (among_paths ps plan.order k place.0 (omega (arith, before)) place.1)

    stand : StandsAmong paths seen (known_by mine)
    stand =
        stands bind paths (trees_of p.1) seen mine (trees_are_placed ps n p well numbered) own h.blocks
        (λ path at. imports_inside path (imports_lead (IsImported ps (blocks_in ws)) n (trees_of p.1) h.imported path h.given at))
        well_mine (λ path at. of_mine path (found path at))

    -- its imports bind what is of packages up to there
    pub binds : BindsInside (Contains paths) w.blocks
    binds = stand.binds

    gives : CheckGives seen (known_by mine) w.checked
    gives = gives_beside ps ws all n p h.imported w.blocks seen w.checked h.checked refl

    pub stays_inside : IsTold (Contains paths) (told_of w)
    stays_inside = (let g = local.inside paths seen (known_by mine) w.checked stand gives in record { types = g.types; faces = g.faces })

  pub told_to : (k : ℕ) → k < length plan.order → IsToldTo k
  told_to k lt = by_place ps plan planned IsToldTo (λ j within earlier w at. (let b = whole_back ps ws all (slice_index plan.order j) w at in stays_inside j within earlier w.source w b.numbered b.is)) k lt
