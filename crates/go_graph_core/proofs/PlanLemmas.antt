-- What the steps of a plan give together.
use Rattle.std.proofs.Common.{◌≡◌, ℕ, ◌+◌, inl, inr, List, [], ◌∷◌, length, map, Option, Some, None, MatchOption, slice_get, Vec, refl, sym, ◌∙◌, ap, subst, arith, zero, suc}
use Rattle.std.specs.List.{AllZip, Contains, filter, range_with_len}
use Rattle.std.specs.List.Sorted.{IsPermutation}
use Rattle.std.specs.Option.{option_and_then}
use Rattle.std.proofs.lemmas.List.{length-map}
use Rattle.go_digraph_core.specs.declared.cycle.edge.Edge.{Edge}
use Rattle.go_digraph_core.specs.cycle.Cycle.{IsRanking, IsAfter}
use Rattle.go_graph_core.specs.declared.imports.ImportAt.{ImportAt}
use Rattle.go_graph_core.specs.declared.imports.ImportOutcome.{ImportOutcome}
use Rattle.go_graph_core.specs.declared.imports.ImportOutcome.TheVariants.{Package, Refused}
use Rattle.go_graph_core.specs.declared.imports.Standing.{Standing}
use Rattle.go_graph_core.specs.Workspaces.{PackageModel, IsWorkspace}
use Rattle.go_graph_core.specs.Imports.{IsTarget, IsNoImport, IsJudged, IsOutcome, IsEdge, edge}
use Rattle.go_graph_core.specs.mirrors.Targets.{HaveStandings, AreTargets, ArePackageTargets, AreSettled, AreAllSettled, IsSettled, edges_from, is_assembled}
use Rattle.go_graph_core.specs.Plans.{IsPlan, plan_with, outcome_at, outcomes_shown}
use Rattle.go_graph_core.proofs.PlanEdges.{edge_at, import_back, import_on, is_edge, has_edge, on_cycle, from_cycle}
use Rattle.go_graph_core.proofs.PlanOrder.{order_once, order_each, order_after}
use Rattle.go_graph_core.proofs.Zips.{zip_at, zip_back, zip_length, numbered_at, numbered_back, numbered_length}

abbrev Files : Type 0 → Type 0
Files S = Vec ImportOutcome S

abbrev Packages : Type 0 → Type 0
Packages S = Vec (Vec ImportOutcome S) S

-- outcomes as lists

abbrev in_files : List (List ImportOutcome) → ℕ → ℕ → Option ImportOutcome
in_files fs b c = option_and_then (λ os. slice_get os c) (slice_get fs b)

abbrev in_all : List (List (List ImportOutcome)) → ℕ → ℕ → ℕ → Option ImportOutcome
in_all ps a b c = option_and_then (λ os. slice_get os c) (option_and_then (λ fs. slice_get fs b) (slice_get ps a))

file_shown : {S : Type 0} (fs : List (Files S)) (b c : ℕ) (o : ImportOutcome) → in_files (map (λ f. f.items) fs) b c ≡ Some o → (f : Files S) × (slice_get fs b ≡ Some f) × (slice_get f.items c ≡ Some o)
file_shown [] b c o e = cc
file_shown (f ∷ fs) zero c o e = (f, refl, e)
file_shown (f ∷ fs) (suc b) c o e = file_shown fs b c o e

pub shown : {S : Type 0} (ps : List (Packages S)) (a b c : ℕ) (o : ImportOutcome) → in_all (outcomes_shown ps) a b c ≡ Some o → (p : Packages S) × (f : Files S) × (slice_get ps a ≡ Some p) × (slice_get p.items b ≡ Some f) × (slice_get f.items c ≡ Some o)
shown [] a b c o e = cc
shown (p ∷ ps) zero b c o e = (let h = file_shown p.items b c o e in (p, h.0, refl, h.1, h.2))
shown (p ∷ ps) (suc a) b c o e = shown ps a b c o e

shows_file : {S : Type 0} (fs : List (Files S)) (b c : ℕ) (f : Files S) (o : ImportOutcome) → slice_get fs b ≡ Some f → slice_get f.items c ≡ Some o → in_files (map (λ f. f.items) fs) b c ≡ Some o
shows_file [] b c f o x y = cc
shows_file {S} (g ∷ fs) zero c f o x y = (let same : g ≡ f = cc in ap (λ (h : Files S). slice_get h.items c) same ∙ y)
shows_file (g ∷ fs) (suc b) c f o x y = shows_file fs b c f o x y

pub shows : {S : Type 0} (ps : List (Packages S)) (a b c : ℕ) (p : Packages S) (f : Files S) (o : ImportOutcome) → slice_get ps a ≡ Some p → slice_get p.items b ≡ Some f → slice_get f.items c ≡ Some o → in_all (outcomes_shown ps) a b c ≡ Some o
shows [] a b c p f o x y z = cc
shows {S} (r ∷ ps) zero b c p f o x y z = (let same : r ≡ p = cc in ap (λ (h : Packages S). in_files (map (λ f. f.items) h.items) b c) same ∙ shows_file p.items b c f o y z)
shows (r ∷ ps) (suc a) b c p f o x y z = shows ps a b c p f o x y z

-- what an import comes to, by what it comes to with cycles left aside
judged : {S : Type 0} (ps : List PackageModel) (ts : List (Packages S)) (ranks : List ℕ) (from : ℕ) (q text : List ℕ) (t o : ImportOutcome) → IsWorkspace ps → AreTargets ps ts → IsRanking (edges_from 0 ts) ranks → ((to : ℕ) → t ≡ Package to → Contains (edges_from 0 ts) (edge from to)) → IsTarget ps q text t → IsSettled ranks from t o → IsJudged ps from q text o
judged ps ts ranks from q text (Refused rule) o well are ranking there target h = subst (IsJudged ps from q text) (sym h) (inl target)
judged ps ts ranks from q text (Package to) o well are ranking there target h = elim (h (edges_from 0 ts) ranking (there to refl)) [
  | inl on ↦ subst (IsJudged ps from q text) (sym on.0) (inr (record { is = refl; to = to; target = target; cycle = on_cycle ps ts (edge from to) are on.1 }))
  | inr off ↦ subst (IsJudged ps from q text) (sym off.0) (target, λ lies. off.1 (from_cycle ps ts (edge from to) well are lies))
]

-- the outcome at a place
outcome_of : {S : Type 0} (ps : List PackageModel) (ts outs : List (Packages S)) (ranks : List ℕ) (at : ImportAt) (o : ImportOutcome) → IsWorkspace ps → AreTargets ps ts → IsRanking (edges_from 0 ts) ranks → AreAllSettled ranks ts outs → outcome_at (outcomes_shown outs) at ≡ Some o → IsOutcome ps at o
outcome_of {S} ps ts outs ranks at o well are ranking settled e =
    let h = shown outs at.«package» at.file at.import o e in
    let one = numbered_back (λ (k : ℕ) (t u : Packages S). AreSettled ranks k t.items u.items) 0 ts outs at.«package» h.0 settled h.2 in
    let n : 0 + at.«package» ≡ at.«package» = omega arith in
    let files = subst (λ k. AreSettled ranks k one.0.items h.0.items) n one.2 in
    let two = zip_back (λ (t u : Files S). AllZip (IsSettled ranks at.«package») t.items u.items) one.0.items h.0.items at.file h.1 files h.3 in
    let three = zip_back (IsSettled ranks at.«package») two.0.items h.1.items at.import o two.2 h.4 in
    let back = import_back ps ts at one.0 two.0 three.0 are one.1 two.1 three.1 in
    let there = λ (to : ℕ) (k : three.0 ≡ Package to). edge_at ts at.«package» at.file at.import one.0 two.0 to one.1 two.1 (three.1 ∙ ap Some k) in
    record { q = back.0; text = back.1; there = back.2; judged = judged ps ts ranks at.«package» back.0 back.1 three.0 o well are ranking there back.3 three.2 }

-- there is no import where there is no outcome
none_of : {S : Type 0} (ps : List PackageModel) (ts outs : List (Packages S)) (ranks : List ℕ) (at : ImportAt) → AreTargets ps ts → AreAllSettled ranks ts outs → outcome_at (outcomes_shown outs) at ≡ None → IsNoImport ps at
none_of {S} ps ts outs ranks at are settled e q text there =
    let h = import_on ps ts at q text are there in
    let one = numbered_at (λ (k : ℕ) (t u : Packages S). AreSettled ranks k t.items u.items) 0 ts outs at.«package» h.p settled h.in_all in
    let two = zip_at (λ (t u : Files S). AllZip (IsSettled ranks (0 + at.«package»)) t.items u.items) h.p.items one.0.items at.file h.f one.2 h.in_files in
    let three = zip_at (IsSettled ranks (0 + at.«package»)) h.f.items two.0.items at.import h.o two.2 h.in_file in
    let some : outcome_at (outcomes_shown outs) at ≡ Some three.0 = shows outs at.«package» at.file at.import one.0 two.0 three.0 one.1 two.1 three.1 in
    let no : None ≡ Some three.0 = sym e ∙ some in
    cc

at_place : {S : Type 0} (ps : List PackageModel) (ts outs : List (Packages S)) (ranks : List ℕ) (at : ImportAt) (r : Option ImportOutcome) → IsWorkspace ps → AreTargets ps ts → IsRanking (edges_from 0 ts) ranks → AreAllSettled ranks ts outs → outcome_at (outcomes_shown outs) at ≡ r → MatchOption r (IsNoImport ps at) (IsOutcome ps at)
at_place ps ts outs ranks at None well are ranking settled e = none_of ps ts outs ranks at are settled e
at_place ps ts outs ranks at (Some o) well are ranking settled e = outcome_of ps ts outs ranks at o well are ranking settled e

pub planned : {S : Type 0} (ps : List PackageModel) (standings : List Standing) (ts outs : List (Packages S)) (ranks numbers : List ℕ) → IsWorkspace ps → HaveStandings ps standings → AreTargets ps ts → IsRanking (edges_from 0 ts) ranks → IsPermutation (range_with_len 0 (length ps)) numbers → IsAfter (edges_from 0 ts) numbers → AreAllSettled ranks ts outs → IsPlan ps (plan_with (outcomes_shown outs) (filter (is_assembled standings) numbers) (edges_from 0 ts))
planned ps standings ts outs ranks numbers well have are ranking same after settled = record {
  many = length-map outs (λ p. map (λ f. f.items) p.items) ∙ (sym (numbered_length (λ k ts os. AreSettled ranks k ts.items os.items) 0 ts outs settled) ∙ sym (zip_length (λ p os. ArePackageTargets ps p os.items) ps ts are));
  outcomes = λ at. at_place ps ts outs ranks at (outcome_at (outcomes_shown outs) at) well are ranking settled refl;
  once = order_once (length ps) numbers (is_assembled standings) same;
  each = λ i. order_each ps standings numbers i have same;
  after = λ at i outcome j k lj lk x y.
      let e : Edge = edge at.«package» i in
      let is : IsEdge ps e = record { at = at; q = outcome.q; text = outcome.text; there = outcome.there; from = refl; target = outcome.judged.0 } in
      order_after (edges_from 0 ts) numbers (is_assembled standings) e after (has_edge ps ts e well are is) (λ on. outcome.judged.1 (on_cycle ps ts e are on)) j k lj lk x y;
  edges = λ e. ((λ h. is_edge ps ts e are h), (λ h. has_edge ps ts e well are h));
}
