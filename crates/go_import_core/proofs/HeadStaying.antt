-- What imports come to, and plans, by the heads of files.
use Rattle.std.proofs.Common.{◌≡◌, ◌<◌, ℕ, inl, inr, List, length, Option, Some, None, All, sym, ◌∙◌, ap, subst}
use Rattle.std.specs.Prelude.{slice_get, MatchOption}
use Rattle.std.proofs.lemmas.Option.{get_or_from_slice_get, slice_get_within}
use Rattle.go_path_core.specs.text_core.declared.rule.Rule.{Rule}
use Rattle.go_digraph_core.specs.declared.cycle.edge.Edge.{Edge}
use Rattle.go_graph_core.specs.declared.imports.ImportAt.{ImportAt}
use Rattle.go_graph_core.specs.declared.imports.ImportOutcome.{ImportOutcome}
use Rattle.go_graph_core.specs.declared.imports.ImportOutcome.TheVariants.{Package, Refused}
use Rattle.go_graph_core.specs.Sources.{SourceModel}
use Rattle.go_graph_core.specs.Workspaces.{PackageModel, IsPackage, IsWorkspace}
use Rattle.go_graph_core.specs.Imports.{HasNoPackage, IsEdge, IsFound, IsI2, IsI5, IsI6, IsImport, IsJudged, IsNoImport, IsOutcome, IsTarget, LiesOnCycle, edge}
use Rattle.go_graph_core.specs.Plans.{IsAssembledAt, outcome_at}
use Rattle.go_import_core.specs.head.Heads.{HaveSameHeads, head_of, head_of_file}
use Rattle.go_import_core.specs.head.Laws.{OutcomesStay, PlansStay}
use Rattle.go_import_core.proofs.HeadAlike.{assembled_stays, faulty_stays, library_stays, main_stays, package_at, same_at, same_length, same_texts}

-- a package of a workspace has files
all_at : (P : PackageModel → Type 0) (ps : List PackageModel) (i : ℕ) (p : PackageModel) → All P ps → slice_get ps i ≡ Some p → P p
all_at P ps i p all at = subst P (get_or_from_slice_get ps i p p at) (all i p (slice_get_within ps i p at))

some_files : (qs : List PackageModel) (n : ℕ) (path : List ℕ) (gs : List SourceModel) → IsWorkspace qs → slice_get qs n ≡ Some (path, gs) → 0 < length gs
some_files qs n path gs well at = (all_at IsPackage qs n (path, gs) well.packages at).some

module _ (ps qs : List PackageModel) (well : IsWorkspace qs) (e : HaveSameHeads ps qs) where
  no_package : (q : List ℕ) → HaveSameHeads qs ps → HasNoPackage ps q → HasNoPackage qs q
  no_package q back none n gs at = (let there = package_at qs ps back n q gs at in none n there.0 there.1)

  found_stays : (q text : List ℕ) (n : ℕ) → IsFound ps q text n → IsFound qs q text n
  found_stays q text n is =
      let there = package_at ps qs e n text is.files is.numbered in
      record { allowed = is.allowed; files = there.0; numbered = there.1; library = library_stays is.files there.0 there.2 is.library }

  i2_stays : (q text : List ℕ) (rule : Rule) → IsI2 ps q text rule → IsI2 qs q text rule
  i2_stays q text rule is = record { is = is.is; allowed = is.allowed; nowhere = no_package text (sym e) is.nowhere }

  i6_stays : (q text : List ℕ) (rule : Rule) → IsI6 ps q text rule → IsI6 qs q text rule
  i6_stays q text rule is =
      let there = package_at ps qs e is.number text is.files is.numbered in
      record { is = is.is; allowed = is.allowed; number = is.number; files = there.0; numbered = there.1; faulty = faulty_stays is.files there.0 there.2 (some_files qs is.number text there.0 well there.1) is.faulty }

  i5_stays : (q text : List ℕ) (rule : Rule) → IsI5 ps q text rule → IsI5 qs q text rule
  i5_stays q text rule is =
      let there = package_at ps qs e is.number text is.files is.numbered in
      record { is = is.is; allowed = is.allowed; number = is.number; files = there.0; numbered = there.1; program = main_stays is.files there.0 there.2 is.program }

  target_stays : (q text : List ℕ) (o : ImportOutcome) → IsTarget ps q text o → IsTarget qs q text o
  target_stays q text (Package n) is = found_stays q text n is
  target_stays q text (Refused rule) (inl is) = inl is
  target_stays q text (Refused rule) (inr (inl is)) = inr (inl is)
  target_stays q text (Refused rule) (inr (inr (inl is))) = inr (inr (inl (i2_stays q text rule is)))
  target_stays q text (Refused rule) (inr (inr (inr (inl is)))) = inr (inr (inr (inl (i6_stays q text rule is))))
  target_stays q text (Refused rule) (inr (inr (inr (inr is)))) = inr (inr (inr (inr (i5_stays q text rule is))))

  pub import_stays : (at : ImportAt) (q text : List ℕ) → IsImport ps at q text → IsImport qs at q text
  import_stays at q text is =
      let there = package_at ps qs e at.«package» q is.files is.numbered in
      let file = same_at head_of_file is.files there.0 there.2 at.file is.file is.in_files in
      record { files = there.0; file = file.0; numbered = there.1; in_files = file.1; in_file = ap (λ (l : List (List ℕ)). slice_get l at.import) (sym (same_texts is.file file.0 file.2)) ∙ is.in_file }

  edge_stays : (d : Edge) → IsEdge ps d → IsEdge qs d
  edge_stays d is = record { at = is.at; q = is.q; text = is.text; there = import_stays is.at is.q is.text is.there; from = is.from; target = target_stays is.q is.text (Package d.to) is.target }

  cycle_stays : (d : Edge) → LiesOnCycle ps d → LiesOnCycle qs d
  cycle_stays d on = (on.0, (λ k x lt. edge_stays _ (on.1 k x lt)), on.2)

  assembled_at_stays : (n : ℕ) → IsAssembledAt ps n → IsAssembledAt qs n
  assembled_at_stays n is =
      let there = package_at ps qs e n is.0 is.1 is.2 in
      (is.0, there.0, there.1, assembled_stays is.1 there.0 there.2 is.3)

judged_stays : (ps qs : List PackageModel) → IsWorkspace ps → IsWorkspace qs → HaveSameHeads ps qs → (from : ℕ) (q text : List ℕ) (o : ImportOutcome) → IsJudged ps from q text o → IsJudged qs from q text o
judged_stays ps qs one other e from q text (Package n) is = (target_stays ps qs other e q text (Package n) is.0, λ on. is.1 (cycle_stays qs ps one (sym e) (edge from n) on))
judged_stays ps qs one other e from q text (Refused rule) (inl is) = inl (target_stays ps qs other e q text (Refused rule) is)
judged_stays ps qs one other e from q text (Refused rule) (inr is) = inr (record { is = is.is; to = is.to; target = target_stays ps qs other e q text (Package is.to) is.target; cycle = cycle_stays ps qs other e (edge from is.to) is.cycle })

outcome_stays : (ps qs : List PackageModel) → IsWorkspace ps → IsWorkspace qs → HaveSameHeads ps qs → (at : ImportAt) (o : ImportOutcome) → IsOutcome ps at o → IsOutcome qs at o
outcome_stays ps qs one other e at o is = record { q = is.q; text = is.text; there = import_stays ps qs other e at is.q is.text is.there; judged = judged_stays ps qs one other e at.«package» is.q is.text o is.judged }

pub outcomes_stay : OutcomesStay
outcomes_stay ps qs one other e at o = (outcome_stays ps qs one other e at o, outcome_stays qs ps other one (sym e) at o)

planned_at : (ps qs : List PackageModel) → IsWorkspace ps → IsWorkspace qs → HaveSameHeads ps qs → (at : ImportAt) (o : Option ImportOutcome) → MatchOption o (IsNoImport ps at) (IsOutcome ps at) → MatchOption o (IsNoImport qs at) (IsOutcome qs at)
planned_at ps qs one other e at None none = λ q text is. none q text (import_stays qs ps one (sym e) at q text is)
planned_at ps qs one other e at (Some o) is = outcome_stays ps qs one other e at o is

pub plans_stay : PlansStay
plans_stay ps qs plan one other e is =
    let back : HaveSameHeads qs ps = sym e in
    record {
      many = is.many ∙ same_length head_of ps qs e;
      outcomes = λ at. planned_at ps qs one other e at (outcome_at plan.outcomes at) (is.outcomes at);
      once = is.once;
      each = λ i. ((λ has. assembled_at_stays ps qs other e i ((is.each i).0 has)), (λ has. (is.each i).1 (assembled_at_stays qs ps one back i has)));
      after = λ at i outcome. is.after at i (outcome_stays qs ps other one back at (Package i) outcome);
      edges = λ d. ((λ has. edge_stays ps qs other e d ((is.edges d).0 has)), (λ has. (is.edges d).1 (edge_stays qs ps one back d has)));
    }
