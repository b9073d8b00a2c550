-- A workspace has one answer: what each package has follows from the trees of all files.
use Rattle.std.proofs.Common.{◌≡◌, ◌≢◌, ℕ, zero, suc, ◌+◌, ◌<◌, ◌≤◌, ◌⊎◌, inl, inr, List, [], ◌∷◌, length, map, take, Option, Some, None, refl, sym, ap, subst, ◌∙◌, arith}
use Rattle.std.specs.Prelude.{slice_get, slice_index, Contains}
use Rattle.std.proofs.lemmas.Bool.{cases_eq}
use Rattle.go_graph_core.specs.Lists.{AllNumbered}
use Rattle.go_graph_core.specs.Packages.{IsAssembled, Trees, trees_of}
use Rattle.go_graph_core.specs.Plans.{PlanModel, IsPlan, IsAssembledAt}
use Rattle.go_graph_core.specs.Workspaces.{PackageModel, IsWorkspace}
use Rattle.go_graph_core.proofs.PlanLaws.{has_plan}
use Rattle.go_graph_core.proofs.Zips.{numbered_at, numbered_back, numbered_length}
use Rattle.go_names_core.specs.block_core.declared.imports.Imported.{Imported}
use Rattle.go_names_core.specs.block_core.AllPackages.{AreAllBlocks, AreImported, AreBlocksOrNone, IsImported, IsShown}
use Rattle.go_names_core.specs.block_core.Blocks.{BlocksModel, exports_of}
use Rattle.go_names_core.specs.block_core.Exports.{ExportsModel}
use Rattle.go_names_core.specs.block_core.OneBlocks.{one_blocks}
use Rattle.go_body_core.specs.typexpr_core.EntryShowing.{shown_in}
use Rattle.go_body_core.specs.typexpr_core.EntryAmong.{Among, among_from, among_map, among_to, map_among}
use Rattle.go_report_core.specs.summary_core.Summaries.{SummaryModel, IsOfOne}
use Rattle.go_report_core.specs.summary_core.Views.{exports_told, faces_told, types_told}
use Rattle.go_emit_core.specs.package_core.PreparePackages.{PackageIn}
use Rattle.go_emit_core.specs.package_core.Checked.{CheckedOf, IsChecked}
use Rattle.go_snap_core.specs.whole_workspace.Known.{CheckGives, KnownAlike}
use Rattle.go_snap_core.specs.whole_workspace.LocalLaws.{CheckIsLocal, ImportsBindTheirs, StandsAmong}
use Rattle.go_snap_core.specs.whole_workspace.Whole.{AreWhole, IsWhole, IsWholeEntry, WholeOf, beside, blocks_in, exports_beside, faces_beside, package_among, types_beside, whole_with}
use Rattle.go_snap_core.proofs.WholeWorkspaceLists.{none_is_some, one_at, same_list}
use Rattle.go_snap_core.proofs.WholeWorkspaceTold.{IsTold, IsToldOf, NoneIsOf, TellAlike, known_alike, known_by, stands, told_wider}
use Rattle.go_snap_core.proofs.WholeWorkspaceOrder.{assembled_by, by_place, place_of, reached_before, reaches_next}
use Rattle.go_snap_core.proofs.WholeWorkspaceBeside.{AreSourced, exports_are, faces_are, none_beside, over, some_beside, tell, tell_to, told_of, types_are, well_beside}
use Rattle.go_snap_core.proofs.WholeWorkspaceTheirs.{Leads, imports_lead, one_import, one_imported, passes}
use Rattle.go_snap_core.proofs.WholeWorkspaceChecks.{faces_own, trees_are_placed, types_own}

-- a list of wholes

module _ (ps : List PackageModel) (ws : List (Option WholeOf)) (all : AreWhole ps ws) where
  pub record Back (i : ℕ) (w : WholeOf) : Type 0 where
    pub numbered : slice_get ps i ≡ Some w.source
    pub assembled : IsAssembled w.source.1
    pub is : IsWhole ps ws i w.source w

  pub whole_back : (i : ℕ) (w : WholeOf) → slice_get ws i ≡ Some (Some w) → Back i w
  whole_back i w h =
      let b = numbered_back (λ n p x. IsWholeEntry ps ws n p x) 0 ps ws i (Some w) all h in
      let e : 0 + i ≡ i = omega arith in
      let s : b.0 ≡ w.source = sym b.2.1.source in
      record {
        numbered = b.1 ∙ ap Some s;
        assembled = subst (λ (p : PackageModel). IsAssembled p.1) s b.2.0;
        is = subst (λ (p : PackageModel). IsWhole ps ws i p w) s (subst (λ n. IsWhole ps ws n b.0 w) e b.2.1);
      }

  whole_of : (n : ℕ) (p : PackageModel) (o : Option WholeOf) → IsAssembled p.1 → IsWholeEntry ps ws n p o → (w : WholeOf) × (o ≡ Some w)
  whole_of n p None assembled h = absurd (h assembled)
  whole_of n p (Some w) assembled h = (w, refl)

  -- an assembled package is in the list
  pub whole_at : (n : ℕ) → IsAssembledAt ps n → (w : WholeOf) × (slice_get ws n ≡ Some (Some w))
  whole_at n h =
      let at = numbered_at (λ n p x. IsWholeEntry ps ws n p x) 0 ps ws n (h.0, h.1) all h.2 in
      let w = whole_of (0 + n) (h.0, h.1) at.0 h.3 at.2 in
      (w.0, at.1 ∙ ap Some w.1)

  pub sourced : AreSourced ps 0 ws
  sourced = λ i w h. (let e : i ≡ 0 + i = omega arith in subst (λ n. slice_get ps n ≡ Some w.source) e (whole_back i w h).numbered)

  -- a summary is all of one package
  pub of_one : (i : ℕ) (w : WholeOf) → slice_get ws i ≡ Some (Some w) → IsOfOne (told_of w)
  of_one i w h =
      let b = whole_back i w h in
      let p = package_among ws i w.source b.is.imported w.blocks in
      record { types = refl; faces = faces_own p (types_beside i ws) w.checked b.is.checked; own = types_own p (types_beside i ws) w.checked b.is.checked }

  -- its check, over what the others tell
  pub gives_beside : (n : ℕ) (p : PackageModel) (imported : List (List Imported)) (b : BlocksModel) (q : PackageIn) (c : CheckedOf) → IsChecked (package_among ws n p imported b) (types_beside n ws) c → q ≡ package_among ws n p imported b → CheckGives q (known_by (tell (beside n ws))) c
  gives_beside n p imported b q c h same =
      over q (types_beside n ws) (types_told (tell (beside n ws))) (exports_beside n ws) (exports_told (tell (beside n ws))) (faces_beside n ws) (faces_told (tell (beside n ws))) c
      (types_are (beside n ws)) (exports_are (beside n ws)) (faces_are (beside n ws))
      (subst (λ x. CheckGives x (record { types = types_beside n ws; shows = shown_in (exports_beside n ws); faces = faces_beside n ws }) c) (sym same) h)

  -- blocks

  entries : (k : ℕ) (qs : List PackageModel) (xs : List (Option WholeOf)) → ((i : ℕ) (p : PackageModel) → slice_get qs i ≡ Some p → slice_get ps (k + i) ≡ Some p)
      → AllNumbered (λ n p x. IsWholeEntry ps ws n p x) k qs xs → AllNumbered (λ n p b. AreBlocksOrNone ps (blocks_in ws) n p b) k qs (blocks_in xs)
  entries k [] [] at h = h
  entries k [] (x ∷ xs) at h = absurd h
  entries k (p ∷ qs) [] at h = absurd h
  entries k (p ∷ qs) (None ∷ xs) at h = (h.0, entries (suc k) qs xs (λ i q e. (let n : k + suc i ≡ suc k + i = omega arith in subst (λ m. slice_get ps m ≡ Some q) n (at (suc i) q e))) h.1)
  entries k (p ∷ qs) (Some w ∷ xs) at h = (
    (
      h.0.0,
      record {
        path = p.0;
        files = p.1;
        numbered = (let n : k + 0 ≡ k = omega arith in subst (λ m. slice_get ps m ≡ Some p) n (at 0 p refl));
        imported = h.0.1.imported;
        given = h.0.1.given;
        blocks = h.0.1.blocks;
      },
    ),
    entries (suc k) qs xs (λ i q e. (let n : k + suc i ≡ suc k + i = omega arith in subst (λ m. slice_get ps m ≡ Some q) n (at (suc i) q e))) h.1,
  )

  pub all_blocks : AreAllBlocks ps (blocks_in ws)
  all_blocks = entries 0 ps ws (λ i p e. (let n : i ≡ 0 + i = omega arith in subst (λ m. slice_get ps m ≡ Some p) n e)) all

pub in_blocks : (xs : List (Option WholeOf)) (n : ℕ) (w : WholeOf) → slice_get xs n ≡ Some (Some w) → slice_get (blocks_in xs) n ≡ Some (Some w.blocks)
in_blocks [] n w h = absurd (none_is_some h)
in_blocks (x ∷ xs) zero w h = (let e : x ≡ Some w = (let f : Some x ≡ Some (Some w) = h in cc) in ap (λ (o : Option WholeOf). slice_get (blocks_in (o ∷ xs)) 0) e)
in_blocks (x ∷ xs) (suc n) w h = in_blocks xs n w h

-- imports, by the blocks of all packages

shown_once : (ps : List PackageModel) (bs : List (Option BlocksModel)) (n : ℕ) (e f : ExportsModel) → IsShown ps bs n e → IsShown ps bs n f → e ≡ f
shown_once ps bs n e f x y =
    let p : ◌≡◌ {A = PackageModel} (x.path, x.files) (y.path, y.files) = one_at ps n (x.path, x.files) (y.path, y.files) x.numbered y.numbered in
    let b : x.blocks ≡ y.blocks = (let o : Some x.blocks ≡ Some y.blocks = one_at bs n (Some x.blocks) (Some y.blocks) x.there y.there in cc) in
    x.is ∙ (ap (λ (q : PackageModel). exports_of q x.blocks) p ∙ (ap (λ c. exports_of (y.path, y.files) c) b ∙ sym y.is))

pub imports_once : (ps : List PackageModel) (bs : List (Option BlocksModel)) (n : ℕ) (ts : Trees) (is js : List (List Imported)) → IsWorkspace ps
    → AreImported ps bs n ts is → AreImported ps bs n ts js → is ≡ js
imports_once ps bs n ts is js well x y =
    one_imported (IsImported ps bs) (λ at i j a b. one_import (IsShown ps bs) (λ m e f p q. shown_once ps bs m e f p q) ps at a.outcome b.outcome i j well a.judged b.judged a.shown b.shown) n ts is js x y

-- paths in order of a plan

abbrev path_in_some : Option PackageModel → List ℕ
path_in_some None = []
path_in_some (Some p) = p.0

abbrev path_at : List PackageModel → ℕ → List ℕ
path_at ps n = path_in_some (slice_get ps n)

path_is : (ps : List PackageModel) (n : ℕ) (p : PackageModel) → slice_get ps n ≡ Some p → path_at ps n ≡ p.0
path_is ps n p h = ap path_in_some h

among_take : (xs : List ℕ) (c x : ℕ) → Among (take c xs) x → (j : ℕ) × (j < c) × (j < length xs) × (slice_index xs j ≡ x)
among_take [] zero x h = absurd h
among_take [] (suc c) x h = absurd h
among_take (y ∷ ys) zero x h = absurd h
among_take (y ∷ ys) (suc c) x h = elim h [
  | inl e ↦ (0, omega arith, omega arith, e)
  | inr r ↦ (let s = among_take ys c x r in let low = s.1 in let within = s.2 in (suc s.0, omega (arith, low), omega (arith, within), s.3))
]

take_among : (xs : List ℕ) (c j : ℕ) → j < c → j < length xs → Among (take c xs) (slice_index xs j)
take_among [] c j low within = absurd (omega (arith, within))
take_among (y ∷ ys) zero j low within = absurd (omega (arith, low))
take_among (y ∷ ys) (suc c) zero low within = inl refl
take_among (y ∷ ys) (suc c) (suc j) low within = inr (take_among ys c j (omega (arith, low)) (omega (arith, within)))

-- the first packages of a plan, by their paths
abbrev paths_to : List PackageModel → PlanModel → ℕ → List (List ℕ)
paths_to ps plan k = map (path_at ps) (take (suc k) plan.order)

path_among : (ps : List PackageModel) (plan : PlanModel) (k : ℕ) (path : List ℕ) → Contains (paths_to ps plan k) path → (j : ℕ) × (j ≤ k) × (j < length plan.order) × (path_at ps (slice_index plan.order j) ≡ path)
path_among ps plan k path h =
    let m = among_map (path_at ps) (take (suc k) plan.order) path (among_from (paths_to ps plan k) path h) in
    let t = among_take plan.order (suc k) m.0 m.1 in
    let low = t.1 in
    (t.0, omega (arith, low), t.2, ap (path_at ps) t.3 ∙ m.2)

among_paths : (ps : List PackageModel) (plan : PlanModel) (k j : ℕ) → j ≤ k → j < length plan.order → Contains (paths_to ps plan k) (path_at ps (slice_index plan.order j))
among_paths ps plan k j low within =
    among_to (paths_to ps plan k) (path_at ps (slice_index plan.order j)) (map_among (path_at ps) (take (suc k) plan.order) (path_at ps (slice_index plan.order j)) (slice_index plan.order j) (take_among plan.order (suc k) j (omega (arith, low)) within) refl)

-- two lists of wholes

module _ (local : CheckIsLocal) (bind : ImportsBindTheirs) (ps : List PackageModel) (ws vs : List (Option WholeOf)) (well : IsWorkspace ps) (one : AreWhole ps ws) (other : AreWhole ps vs) (plan : PlanModel) (planned : IsPlan ps plan) where
  -- at a place of the plan the lists have the same, and it mentions types of the packages up to there
  abbrev SameAt : ℕ → Type 0
  SameAt k = (w v : WholeOf) → slice_get ws (slice_index plan.order k) ≡ Some (Some w) → slice_get vs (slice_index plan.order k) ≡ Some (Some v) → (w ≡ v) × IsTold (Contains (paths_to ps plan k)) (told_of w)

  same_blocks : (n : ℕ) (w v : WholeOf) → slice_get ws n ≡ Some (Some w) → slice_get vs n ≡ Some (Some v) → w.blocks ≡ v.blocks
  same_blocks n w v x y =
      let all : blocks_in ws ≡ blocks_in vs = one_blocks ps (blocks_in ws) (blocks_in vs) well (all_blocks ps ws one) (all_blocks ps vs other) in
      let here : Some w.blocks ≡ Some v.blocks = one_at (blocks_in vs) n (Some w.blocks) (Some v.blocks) (ap (λ l. slice_get l n) (sym all) ∙ in_blocks ws n w x) (in_blocks vs n v y) in
      cc

  module _ (k : ℕ) (within : k < length plan.order) (earlier : (j : ℕ) → j < k → SameAt j) (w v : WholeOf) (at_w : slice_get ws (slice_index plan.order k) ≡ Some (Some w)) (at_v : slice_get vs (slice_index plan.order k) ≡ Some (Some v)) where
    abbrev n : ℕ
    n = slice_index plan.order k

    abbrev paths : List (List ℕ)
    paths = paths_to ps plan k

    back_w : Back ps ws one n w
    back_w = whole_back ps ws one n w at_w

    back_v : Back ps vs other n v
    back_v = whole_back ps vs other n v at_v

    same_source : w.source ≡ v.source
    same_source = one_at ps n w.source v.source back_w.numbered back_v.numbered

    is_v : IsWhole ps vs n w.source v
    is_v = subst (λ (p : PackageModel). IsWhole ps vs n p v) (sym same_source) back_v.is

    same_imports : back_w.is.imported ≡ is_v.imported
    same_imports =
        let all : blocks_in vs ≡ blocks_in ws = sym (one_blocks ps (blocks_in ws) (blocks_in vs) well (all_blocks ps ws one) (all_blocks ps vs other)) in
        imports_once ps (blocks_in ws) n (trees_of w.source.1) back_w.is.imported is_v.imported well back_w.is.given (subst (λ bs. AreImported ps bs n (trees_of w.source.1) is_v.imported) all is_v.given)

    -- the package, as its check sees it
    abbrev seen : PackageIn
    seen = package_among ws n w.source back_w.is.imported w.blocks

    abbrev mine : List SummaryModel
    mine = tell (beside n ws)

    abbrev theirs : List SummaryModel
    theirs = tell (beside n vs)

    gives_w : CheckGives seen (known_by mine) w.checked
    gives_w = gives_beside ps ws one n w.source back_w.is.imported w.blocks seen w.checked back_w.is.checked refl

    gives_v : CheckGives seen (known_by theirs) v.checked
    gives_v =
        over seen (types_beside n vs) (types_told theirs) (exports_beside n vs) (exports_told theirs) (faces_beside n vs) (faces_told theirs) v.checked
        (types_are (beside n vs)) (exports_are (beside n vs)) (faces_are (beside n vs))
        (subst (λ b. CheckGives (package_among ws n w.source back_w.is.imported b) (record { types = types_beside n vs; shows = shown_in (exports_beside n vs); faces = faces_beside n vs }) v.checked) (sym (same_blocks n w v at_w at_v))
        (subst (λ is. CheckGives (package_among ws n w.source is v.blocks) (record { types = types_beside n vs; shows = shown_in (exports_beside n vs); faces = faces_beside n vs }) v.checked) (sym same_imports) is_v.checked))

    own : Contains paths w.source.0
    own = subst (Contains paths) (path_is ps n w.source back_w.numbered) (among_paths ps plan k k (omega arith) within)

    -- the package that the one at an earlier place is, in both lists
    pub record Earlier (path : List ℕ) : Type 0 where
      pub number : ℕ
      pub differs : number ≢ n
      pub whole : WholeOf
      pub in_mine : slice_get ws number ≡ Some (Some whole)
      pub in_theirs : slice_get vs number ≡ Some (Some whole)
      pub is : whole.source.0 ≡ path
      pub inside : IsTold (Contains paths) (told_of whole)

    earlier_at : (j : ℕ) (path : List ℕ) → j ≤ k → j < length plan.order → slice_index plan.order j ≢ n → path_at ps (slice_index plan.order j) ≡ path → Earlier path
    earlier_at j path low below ne is =
        let ne_place : j ≢ k = (λ e. ne (ap (slice_index plan.order) e)) in
        let less : j < k = omega (arith, low, ne_place) in
        let m = slice_index plan.order j in
        let assembled = assembled_by ps plan planned j below in
        let a = whole_at ps ws one m assembled in
        let b = whole_at ps vs other m assembled in
        let same = earlier j less a.0 b.0 a.1 b.1 in
        record {
          number = m;
          differs = ne;
          whole = a.0;
          in_mine = a.1;
          in_theirs = subst (λ x. slice_get vs m ≡ Some (Some x)) (sym same.0) b.1;
          is = sym (path_is ps m a.0.source (whole_back ps ws one m a.0 a.1).numbered) ∙ is;
          inside = told_wider (Contains (paths_to ps plan j)) (Contains paths) (λ q h. (let t = path_among ps plan j q h in let lower = t.1 in subst (Contains paths) t.3 (among_paths ps plan k t.0 (omega (arith, lower, less)) t.2))) (told_of a.0) same.1;
        }

    found : (path : List ℕ) → Contains paths path → Earlier path ⊎ (path ≡ w.source.0)
    found path h =
        let t = path_among ps plan k path h in
        elim (cases_eq (slice_index plan.order t.0) n) [
          | inl e ↦ inr (sym t.3 ∙ (ap (path_at ps) e ∙ path_is ps n w.source back_w.numbered))
          | inr ne ↦ inl (earlier_at t.0 path t.1 t.2 ne t.3)
        ]

    none_mine : NoneIsOf mine w.source.0
    none_mine = none_beside ps ws well (sourced ps ws one) (of_one ps ws one) n w.source back_w.numbered

    none_theirs : NoneIsOf theirs w.source.0
    none_theirs = none_beside ps vs well (sourced ps vs other) (of_one ps vs other) n w.source back_w.numbered

    of_mine : (path : List ℕ) → Earlier path ⊎ (path ≡ w.source.0) → IsToldOf (Contains paths) mine path ⊎ NoneIsOf mine path
    of_mine path (inl e) = inl (record { summary = told_of e.whole; there = among_to mine (told_of e.whole) (tell_to (beside n ws) e.number e.whole (some_beside n ws e.number e.whole e.differs e.in_mine)); is = e.is; inside = e.inside })
    of_mine path (inr e) = inr (subst (NoneIsOf mine) (sym e) none_mine)

    alike_at : (path : List ℕ) → Earlier path ⊎ (path ≡ w.source.0) → TellAlike mine theirs path
    alike_at path (inl e) = inl (record {
      summary = told_of e.whole;
      one = among_to mine (told_of e.whole) (tell_to (beside n ws) e.number e.whole (some_beside n ws e.number e.whole e.differs e.in_mine));
      other = among_to theirs (told_of e.whole) (tell_to (beside n vs) e.number e.whole (some_beside n vs e.number e.whole e.differs e.in_theirs));
      is = e.is;
    })
    alike_at path (inr e) = inr (subst (NoneIsOf mine) (sym e) none_mine, subst (NoneIsOf theirs) (sym e) none_theirs)

    imports_inside : (path : List ℕ) (l : Leads (IsImported ps (blocks_in ws)) n path) → Contains paths path
    imports_inside path l =
        let p = passes (IsShown ps (blocks_in ws)) ps l.at l.come.outcome l.shown l.come.judged l.come.shown in
        let reached = reached_before ps plan planned l.at.«package» p.to (reaches_next ps l.at p.to p.judged) in
        let place = place_of ps plan planned p.to reached.0 in
        let before : place.0 < k = reached.1 k place.0 within place.1 (sym l.from) place.2 in
        let there : path_at ps (slice_index plan.order place.0) ≡ path = ap (path_at ps) place.2 ∙ (path_is ps p.to (p.shows.path, p.shows.files) p.shows.numbered ∙ (sym (ap (λ (e : ExportsModel). e.path) p.shows.is) ∙ sym l.is)) in
        subst (Contains paths) there (among_paths ps plan k place.0 (omega (arith, before)) place.1)

    stand : StandsAmong paths seen (known_by mine)
    stand =
        stands bind paths (trees_of w.source.1) seen mine (trees_are_placed ps n w.source well back_w.numbered) own back_w.is.blocks
        (λ path h. imports_inside path (imports_lead (IsImported ps (blocks_in ws)) n (trees_of w.source.1) back_w.is.imported path back_w.is.given h))
        (well_beside ps ws well (sourced ps ws one) (of_one ps ws one) n) (λ path h. of_mine path (found path h))

    alike : KnownAlike (Contains paths) (known_by mine) (known_by theirs)
    alike = known_alike mine theirs (well_beside ps ws well (sourced ps ws one) (of_one ps ws one) n) (well_beside ps vs well (sourced ps vs other) (of_one ps vs other) n) (Contains paths) (λ path h. alike_at path (found path h))

    same_checked : w.checked ≡ v.checked
    same_checked = local.answer paths seen (known_by mine) (known_by theirs) w.checked v.checked stand alike gives_w gives_v

    pub same_whole : w ≡ v
    same_whole =
        ap (λ s. whole_with s w.blocks w.checked) same_source
        ∙ (ap (λ b. whole_with v.source b w.checked) (same_blocks n w v at_w at_v)
        ∙ ap (λ c. whole_with v.source v.blocks c) same_checked)

    pub stays_inside : IsTold (Contains paths) (told_of w)
    stays_inside = (let g = local.inside paths seen (known_by mine) w.checked stand gives_w in record { types = g.types; faces = g.faces })

  pub same_at : (k : ℕ) → k < length plan.order → SameAt k
  same_at k lt = by_place ps plan planned SameAt (λ j below earlier w v x y. (same_whole j below earlier w v x y, stays_inside j below earlier w v x y)) k lt

  same_entry : (i : ℕ) (p : PackageModel) (x y : Option WholeOf) → slice_get ps i ≡ Some p → slice_get ws i ≡ Some x → slice_get vs i ≡ Some y → IsWholeEntry ps ws i p x → IsWholeEntry ps vs i p y → x ≡ y
  same_entry i p None None at a b r s = refl
  same_entry i p None (Some v) at a b r s = absurd (r s.0)
  same_entry i p (Some w) None at a b r s = absurd (s r.0)
  same_entry i p (Some w) (Some v) at a b r s =
      let place = place_of ps plan planned i (p.0, p.1, at, r.0) in
      ap Some (same_at place.0 place.1 w v (ap (slice_get ws) place.2 ∙ a) (ap (slice_get vs) place.2 ∙ b)).0

  pub one_list : ws ≡ vs
  one_list =
      same_list ws vs (sym (numbered_length (λ n p x. IsWholeEntry ps ws n p x) 0 ps ws one) ∙ numbered_length (λ n p x. IsWholeEntry ps vs n p x) 0 ps vs other)
      (λ i x y a b. (let r = numbered_back (λ n p z. IsWholeEntry ps ws n p z) 0 ps ws i x one a in
      let s = numbered_back (λ n p z. IsWholeEntry ps vs n p z) 0 ps vs i y other b in
      let e : 0 + i ≡ i = omega arith in
      same_entry i r.0 x y r.1 a b (subst (λ m. IsWholeEntry ps ws m r.0 x) e r.2)
      (subst (λ (q : PackageModel). IsWholeEntry ps vs i q y) (one_at ps i s.0 r.0 s.1 r.1) (subst (λ m. IsWholeEntry ps vs m s.0 y) e s.2))))

pub one_whole : CheckIsLocal → ImportsBindTheirs → (ps : List PackageModel) (ws vs : List (Option WholeOf)) → IsWorkspace ps → AreWhole ps ws → AreWhole ps vs → ws ≡ vs
one_whole local bind ps ws vs well one other = (let plan = has_plan ps well in one_list local bind ps ws vs well one other plan.0 plan.1)
