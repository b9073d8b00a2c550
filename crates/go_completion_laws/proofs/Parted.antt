-- Packages that lead to one another alone have the same parts in two workspaces, where they are the same.
use Rattle.std.proofs.Common.{◌≡◌, ◌+◌, ℕ, List, Option, Some, None, refl, sym, ap, subst, ◌∙◌, arith}
use Rattle.std.specs.Prelude.{◌↔◌, slice_get}
use Rattle.std.proofs.lemmas.List.Elements.{All-weaker}
use Rattle.go_digraph_core.specs.declared.cycle.edge.Edge.{Edge}
use Rattle.go_graph_core.specs.declared.imports.ImportAt.{ImportAt}
use Rattle.go_graph_core.specs.declared.imports.ImportOutcome.{ImportOutcome}
use Rattle.go_graph_core.specs.declared.imports.ImportOutcome.TheVariants as come
use Rattle.go_graph_core.specs.Imports.{IsOutcome}
use Rattle.go_graph_core.specs.Plans.{IsAssembledAt}
use Rattle.go_graph_core.specs.Workspaces.{IsWorkspace, PackageModel}
use Rattle.go_graph_core.proofs.PlanLaws.{has_plan}
use Rattle.go_graph_core.proofs.Zips.{numbered_at}
use Rattle.go_import_core.specs.head.Heads.{HaveSameHeads}
use Rattle.go_import_core.specs.head.Laws.{OutcomesStay}
use Rattle.go_package_core.specs.package_part.Laws.{OnePart}
use Rattle.go_package_core.specs.package_part.Parts.{IsPart, PartModel}
use Rattle.go_snap_core.specs.whole_workspace.Inputs.{AreParts, IsPartOf, IsPassingImport, ReachesPackage}
use Rattle.go_snap_core.proofs.WholeWorkspaceChecks.{trees_are_placed}
use Rattle.go_snap_core.proofs.WholeWorkspaceOrder.{along, reached_before, reaches_next, reaches_on}
use Rattle.go_completion_laws.specs.Agreeing.{ReachedPartsAgree}
use Rattle.go_completion_laws.proofs.Agreed.{reaches_inside, same_imports, same_reached}

-- Inside are packages whose imports come to others of them, and to the same in both workspaces, and which are the same in both
module _ (one_part : OnePart) (ps qs : List PackageModel) (parts others : List (Option PartModel)) (Inside : ℕ → Type 0) (well : IsWorkspace ps) (also : IsWorkspace qs) (made : AreParts ps parts) (again : AreParts qs others)
    (closed : (e : Edge) → Inside e.from → IsPassingImport ps e → Inside e.to) (outcomes : (at : ImportAt) (o : ImportOutcome) → Inside at.«package» → IsOutcome ps at o ↔ IsOutcome qs at o)
    (alike : (m : ℕ) → Inside m → slice_get ps m ≡ slice_get qs m) where
  to : (at : ImportAt) (o : ImportOutcome) → Inside at.«package» → IsOutcome ps at o → IsOutcome qs at o
  to at o inside h = (outcomes at o inside).0 h

  from : (at : ImportAt) (o : ImportOutcome) → Inside at.«package» → IsOutcome qs at o → IsOutcome ps at o
  from at o inside h = (outcomes at o inside).1 h

  closed_too : (e : Edge) → Inside e.from → IsPassingImport qs e → Inside e.to
  closed_too e inside h = closed e inside (h.0, h.1, from h.0 (come.«Package» e.to) (subst Inside (sym h.1) inside) h.2)

  reached : (n m : ℕ) → Inside n → ReachesPackage ps n m → Inside m × ReachesPackage qs n m
  reached n m inside r = reaches_inside ps qs Inside closed to n m inside r

  reached_back : (n m : ℕ) → Inside n → ReachesPackage qs n m → ReachesPackage ps n m
  reached_back n m inside r = (reaches_inside qs ps Inside closed_too from n m inside r).1

  abbrev Agree : ℕ → Type 0
  Agree m = Inside m → slice_get parts m ≡ slice_get others m

  same_part : (m : ℕ) → Inside m → ((l : ℕ) → ReachesPackage ps m l → slice_get parts l ≡ slice_get others l) → (p : PackageModel) → (a b : Option PartModel) → slice_get ps m ≡ Some p → IsPartOf ps parts m p a → IsPartOf qs others m p b → a ≡ b
  same_part m inside agree p None None at h k = refl
  same_part m inside agree p None (Some b) at h k = absurd (h k.0)
  same_part m inside agree p (Some a) None at h k = absurd (k h.0)
  same_part m inside agree p (Some a) (Some b) at h k =
      let here : (x : ImportAt) (o : ImportOutcome) → x.«package» ≡ m → IsOutcome ps x o → IsOutcome qs x o = λ x o e y. to x o (subst Inside (sym e) inside) y in
      let there : (l : ℕ) → ReachesPackage ps m l → ReachesPackage qs m l = λ l r. (reached m l inside r).1 in
      let source : a.input.source ≡ b.input.source = h.1.source ∙ sym k.1.source in
      let imports : a.input.imports ≡ b.input.imports = same_imports ps qs parts others also m here there (λ l r. reached_back m l inside r) agree p p refl a.input b.input h.1 k.1 in
      let told : a.input.reached ≡ b.input.reached = same_reached ps qs parts others also m here there (λ l r. reached_back m l inside r) agree p p a.input b.input h.1 k.1 in
      let input : a.input ≡ b.input = λ t. record { source = source t; imports = imports t; reached = told t } in
      let mine : IsPart a.input b.content = subst (λ i. IsPart i b.content) (sym input) k.2 in
      let content : a.content ≡ b.content = one_part a.input a.content b.content (trees_are_placed ps m a.input.source well (at ∙ ap Some (sym h.1.source))) h.2 mine in
      let same : a ≡ b = λ t. record { input = input t; content = content t } in
      ap Some same

  step : (m : ℕ) → IsAssembledAt ps m → ((l : ℕ) → ReachesPackage ps m l → Agree l) → Agree m
  step m is earlier inside =
      let p : PackageModel = (is.0, is.1) in
      let at : slice_get ps m ≡ Some p = is.2 in
      let there : slice_get qs m ≡ Some p = sym (alike m inside) ∙ at in
      let a = numbered_at (λ k q x. IsPartOf ps parts k q x) 0 ps parts m p made at in
      let b = numbered_at (λ k q x. IsPartOf qs others k q x) 0 qs others m p again there in
      let e : 0 + m ≡ m = omega arith in
      let same : a.0 ≡ b.0 =
      same_part m inside (λ l r. earlier l r (reached m l inside r).0) p a.0 b.0 at (subst (λ k. IsPartOf ps parts k p a.0) e a.2) (subst (λ k. IsPartOf qs others k p b.0) e b.2) in
      a.1 ∙ (ap Some same ∙ sym b.1)

  -- so those that are assembled have the same parts
  pub closed_agree : (m : ℕ) → IsAssembledAt ps m → Inside m → slice_get parts m ≡ slice_get others m
  closed_agree m is inside = (let plan = has_plan ps well in along ps plan.0 plan.1 Agree step m is inside)

pub parts_agree : OnePart → OutcomesStay → ReachedPartsAgree
parts_agree one_part stay ps qs parts others n well also heads made again alike m r =
    let plan = has_plan ps well in
    closed_agree one_part ps qs parts others (ReachesPackage ps n) well also made again
    (λ e inside h. reaches_on ps n e.from e.to inside (subst (λ k. ReachesPackage ps k e.to) h.1 (reaches_next ps h.0 e.to h.2)))
    (λ at o inside. stay ps qs well also heads at o) alike m (reached_before ps plan.0 plan.1 n m r).0 r

-- with the same heads a package reaches the same
pub reaches_stay : OutcomesStay → (ps qs : List PackageModel) → IsWorkspace ps → IsWorkspace qs → HaveSameHeads ps qs → (n m : ℕ) → ReachesPackage ps n m → ReachesPackage qs n m
reaches_stay stay ps qs well also heads n m r =
    (r.0, All-weaker (IsPassingImport ps) (IsPassingImport qs) (λ e h. (h.0, h.1, (stay ps qs well also heads h.0 (come.«Package» e.to)).0 h.2)) r.0 r.1, r.2)
