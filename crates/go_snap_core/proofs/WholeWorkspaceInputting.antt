-- What the part of a package is made from, by a plan and by the parts of the packages that it reaches.
use Rattle.std.proofs.Common.{◌≡◌, ℕ, zero, suc, ◌<◌, List, [], ◌∷◌, length, get_or, All, Option, Some, None, MatchOption, refl, sym, ap, subst, ◌∙◌, arith}
use Rattle.std.specs.Prelude.{slice_get}
use Rattle.std.proofs.lemmas.List.Kept.{AllPairs-from_increasing}
use Rattle.std.proofs.lemmas.Option.{slice_get_within, slice_get-get_or}
use Rattle.go_digraph_core.specs.declared.cycle.edge.Edge.{Edge}
use Rattle.go_digraph_core.specs.reach.Numbers.{Numbers}
use Rattle.go_graph_core.specs.declared.imports.ImportAt.{ImportAt}
use Rattle.go_graph_core.specs.declared.imports.ImportOutcome.{ImportOutcome}
use Rattle.go_graph_core.specs.declared.imports.ImportOutcome.TheVariants as outcomes
use Rattle.go_graph_core.specs.Imports.{IsImport, IsNoImport, IsOutcome}
use Rattle.go_graph_core.specs.Packages.{IsAssembled, trees_of}
use Rattle.go_graph_core.specs.Plans.{PlanModel, AreReached, IsAssembledAt, IsPlan, ReachesByImports, outcome_at}
use Rattle.go_graph_core.specs.Plans as plans
use Rattle.go_graph_core.specs.Sources.{source}
use Rattle.go_graph_core.specs.Workspaces.{PackageModel, IsWorkspace}
use Rattle.go_graph_core.proofs.OutcomeLaws.{has_one_outcome}
use Rattle.go_names_core.specs.block_core.declared.imports.Imported.{Imported}
use Rattle.go_names_core.specs.block_core.Exports.{ExportsModel}
use Rattle.go_names_core.specs.block_core.Naming.{AreInPackage, import_at}
use Rattle.go_names_core.specs.block_core.mirrors.Steps.{AreReady, HasExports, IsPlanned, IsReady, IsShownIn}
use Rattle.go_names_core.specs.block_core.Growing.{given_weaker, package_weaker}
use Rattle.go_names_core.specs.block_core.AllLemmas.{import_there}
use Rattle.go_report_core.specs.summary_core.Summaries.{SummaryModel, path_of}
use Rattle.go_report_core.specs.summary_core.Views.{PathsAreApart}
use Rattle.go_body_core.specs.typexpr_core.EntryAmong.{among_to}
use Rattle.go_emit_core.specs.package_core.PackagePartInputs.{InputModel}
use Rattle.go_emit_core.specs.package_core.PackagePartParts.{PartModel}
use Rattle.go_snap_core.specs.whole_workspace.Inputs.{AreToldTo, ComesTo, HasReached, IsInputAt, IsPassingImport, ReachesPackage, Shown, Tells}
use Rattle.go_snap_core.specs.whole_workspace.mirrors.Steps.{AreReachedAt, AreToldBySet, exports_in}
use Rattle.go_snap_core.proofs.WholeWorkspaceLists.{all_from_among, none_is_some, zip_apart, zip_of}
use Rattle.go_snap_core.proofs.WholeWorkspaceBeside.{one_place}
use Rattle.go_snap_core.proofs.WholeWorkspaceOrder.{reaches_next, reaches_others}

-- what packages show, by their parts

pub shown_to : (parts : List (Option PartModel)) (n : ℕ) (part : PartModel) → slice_get parts n ≡ Some (Some part) → IsShownIn (exports_in parts) n part.content.summary.exports
shown_to [] n part h = absurd (none_is_some h)
shown_to (x ∷ parts) zero part h = (let e : x ≡ Some part = (let s : Some x ≡ Some (Some part) = h in cc) in ap (λ (o : Option PartModel). slice_get (exports_in (o ∷ parts)) 0) e)
shown_to (x ∷ parts) (suc n) part h = shown_to parts n part h

pub shown_from : (parts : List (Option PartModel)) (n : ℕ) (e : ExportsModel) → IsShownIn (exports_in parts) n e → (part : PartModel) × (slice_get parts n ≡ Some (Some part)) × (part.content.summary.exports ≡ e)
shown_from [] n e h = absurd (none_is_some h)
shown_from (None ∷ parts) zero e h = absurd (let s : Some None ≡ Some (Some e) = h in let t : None ≡ Some e = cc in none_is_some t)
shown_from (Some part ∷ parts) zero e h = (part, refl, (let s : Some (Some part.content.summary.exports) ≡ Some (Some e) = h in cc))
shown_from (x ∷ parts) (suc n) e h = shown_from parts n e h

shown_by : (parts : List (Option PartModel)) (n : ℕ) (e : ExportsModel) → IsShownIn (exports_in parts) n e → Shown parts n e
shown_by parts n e h = (let p = shown_from parts n e h in record { summary = p.0.content.summary; told = record { of_part = p.0; there = p.1; is = refl }; is = sym p.2 })

module _ (ps : List PackageModel) (plan : PlanModel) (planned : IsPlan ps plan) (parts : List (Option PartModel)) (n : ℕ) (has : HasReached ps parts n) where
  has_exports : (at : ImportAt) (o : ImportOutcome) → at.«package» ≡ n → IsOutcome ps at o → HasExports (exports_in parts) o
  has_exports at (outcomes.Refused rule) e h = tt
  has_exports at (outcomes.«Package» m) e h =
      let t = (has.told m (subst (λ k. ReachesPackage ps k m) e (reaches_next ps at m h))).1 in
      (t.of_part.content.summary.exports, shown_to parts m t.of_part t.there)

  ready_from : (at : ImportAt) (q text : List ℕ) (o : Option ImportOutcome) → at.«package» ≡ n → IsImport ps at q text → outcome_at plan.outcomes at ≡ o → MatchOption o (IsNoImport ps at) (IsOutcome ps at) → IsReady plan.outcomes (exports_in parts) at
  ready_from at q text None e there is h = absurd (h q text there)
  ready_from at q text (Some o) e there is h = record { outcome = o; is = is; there = has_exports at o e h }

  -- what the imports of the package come to is there
  pub package_ready : (p : PackageModel) → slice_get ps n ≡ Some p → IsAssembled p.1 → AreReady plan.outcomes (exports_in parts) n (trees_of p.1)
  package_ready p numbered assembled = λ file t at k below.
      let there = import_there ps n p file k t numbered assembled at below in
      ready_from (import_at n file k) p.0 there.0 (outcome_at plan.outcomes (import_at n file k)) refl there.1 refl (planned.outcomes (import_at n file k))

  planned_comes : (at : ImportAt) (i : Imported) → IsPlanned plan.outcomes (exports_in parts) at i → ComesTo ps parts at i
  planned_comes at i h = record {
    outcome = h.outcome;
    judged = subst (λ o. MatchOption o (IsNoImport ps at) (IsOutcome ps at)) h.is (planned.outcomes at);
    given = given_weaker (IsShownIn (exports_in parts)) (Shown parts) (shown_by parts) h.outcome i h.given;
  }

  pub package_comes : (p : PackageModel) (imported : List (List Imported)) → AreInPackage (IsPlanned plan.outcomes (exports_in parts)) n (trees_of p.1) imported → AreInPackage (ComesTo ps parts) n (trees_of p.1) imported
  package_comes p imported h = package_weaker (IsPlanned plan.outcomes (exports_in parts)) (ComesTo ps parts) planned_comes n (trees_of p.1) imported h

  -- what is reached by the plan is what is reached

  of_plan : (well : IsWorkspace ps) (at : ImportAt) (m : ℕ) (o : Option ImportOutcome) → outcome_at plan.outcomes at ≡ o → MatchOption o (IsNoImport ps at) (IsOutcome ps at) → IsOutcome ps at (outcomes.«Package» m) → outcome_at plan.outcomes at ≡ Some (outcomes.«Package» m)
  of_plan well at m None e h is = absurd (h is.q is.text is.there)
  of_plan well at m (Some o) e h is = e ∙ ap Some (has_one_outcome ps at o (outcomes.«Package» m) well h is)

  passes : (e : Edge) → plans.IsPassing plan e → IsPassingImport ps e
  passes e h = (h.0, h.1, subst (λ o. MatchOption o (IsNoImport ps h.0) (IsOutcome ps h.0)) h.2 (planned.outcomes h.0))

  passes_back : IsWorkspace ps → (e : Edge) → IsPassingImport ps e → plans.IsPassing plan e
  passes_back well e h = (h.0, h.1, of_plan well h.0 e.to (outcome_at plan.outcomes h.0) refl (planned.outcomes h.0) h.2)

  pub by_imports : (a b : ℕ) → ReachesByImports plan a b → ReachesPackage ps a b
  by_imports a b h = (h.0, (λ k d lt. passes _ (h.1 k d lt)), h.2)

  pub to_imports : IsWorkspace ps → (a b : ℕ) → ReachesPackage ps a b → ReachesByImports plan a b
  to_imports well a b h = (h.0, (λ k d lt. passes_back well _ (h.1 k d lt)), h.2)

  -- the set of what it reaches is there, and has parts
  pub reached_there : (sets : List Numbers) → IsWorkspace ps → AreReached plan sets → length sets ≡ length plan.outcomes → IsAssembledAt ps n → AreReachedAt sets parts n
  reached_there sets well reached many assembled =
      let lt : n < length sets = omega (arith, many, planned.many, slice_get_within ps n (assembled.0, assembled.1) assembled.2) in
      let d : Numbers = record { bound = 0; members = [] } in
      let there : slice_get sets n ≡ Some (get_or sets n d) = slice_get-get_or sets n d lt in
      record { set = get_or sets n d; there = there; have = λ m h. has.told m (by_imports n m ((reached n (get_or sets n d) there m).0 h)) }

  pub told_is : (sets : List Numbers) (ss : List SummaryModel) → IsWorkspace ps → AreReached plan sets → AreToldBySet sets parts n ss → AreToldTo ps parts n ss
  told_is sets ss well reached h = record {
    numbers = h.set.members;
    rising = h.rising;
    reached = λ m. ((λ c. by_imports n m ((reached n h.set h.there m).0 c)), (λ r. (reached n h.set h.there m).1 (to_imports well n m r)));
    told = h.told;
  }

  -- the summaries are of other packages, each once

  pub told_apart : (ss : List SummaryModel) → IsWorkspace ps → AreToldTo ps parts n ss → PathsAreApart ss
  told_apart ss well h =
      zip_apart (Tells parts) (λ m l. m < l) (λ s t. path_of s ≡ path_of t → ⊥) h.numbers ss
      (λ m l s t x y lt same. (let a = has.own m s x in let b = has.own l t y in
      let number : m ≡ l = one_place ps m l (path_of s, a.0) (path_of t, b.0) well a.1 b.1 same in
      omega (arith, lt, number)))
      (AllPairs-from_increasing h.numbers h.rising) h.told

  pub told_others : (p : PackageModel) (ss : List SummaryModel) → IsWorkspace ps → slice_get ps n ≡ Some p → AreToldTo ps parts n ss → All (λ s. p.0 ≡ path_of s → ⊥) ss
  told_others p ss well numbered h =
      all_from_among (λ s. p.0 ≡ path_of s → ⊥) ss
      (λ s at same. (let t = zip_of (Tells parts) h.numbers ss s h.told at in
      let own = has.own t.0 s t.2 in
      let number : n ≡ t.0 = one_place ps n t.0 p (path_of s, own.0) well numbered own.1 same in
      reaches_others ps plan planned n (subst (λ k. ReachesPackage ps n k) (sym number) ((h.reached t.0).0 (among_to h.numbers t.0 t.1)))))

  pub input_made : (p : PackageModel) (imported : List (List Imported)) (ss : List SummaryModel) (i : InputModel) → slice_get ps n ≡ Some p → AreInPackage (ComesTo ps parts) n (trees_of p.1) imported → AreToldTo ps parts n ss
      → i.source ≡ p → i.imports ≡ imported → i.reached ≡ ss → IsInputAt ps parts n i
  input_made p imported ss i numbered comes told a b c = record {
    numbered = numbered ∙ ap Some (sym a);
    input = record {
      source = refl;
      imports = subst (λ (q : PackageModel). AreInPackage (ComesTo ps parts) n (trees_of q.1) i.imports) (sym a) (subst (λ is. AreInPackage (ComesTo ps parts) n (trees_of p.1) is) (sym b) comes);
      reached = subst (AreToldTo ps parts n) (sym c) told;
    };
  }
