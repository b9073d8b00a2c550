-- A workspace has a plan.
use Rattle.std.proofs.Common.{◌≡◌, ℕ, ◌<◌, inl, inr, Bool, List, [], ◌∷◌, length, get_or, Option, None, Some, MatchOption, slice_get, All, filter, refl, sym, ◌∙◌, ap, arith, zero, suc}
use Rattle.std.specs.Option.{option_and_then}
use Rattle.std.proofs.lemmas.List.Elements.{All-head, All-tail, Contains-get_or}
use Rattle.std.proofs.lemmas.Option.{slice_get_within}
use Rattle.go_digraph_core.specs.declared.cycle.edge.Edge.{Edge}
use Rattle.go_digraph_core.specs.cycle.Cycle.{InRange}
use Rattle.go_graph_core.specs.declared.imports.ImportAt.{ImportAt}
use Rattle.go_graph_core.specs.declared.imports.ImportOutcome.{ImportOutcome}
use Rattle.go_graph_core.specs.declared.imports.Standing.{Standing}
use Rattle.go_graph_core.specs.declared.imports.Standing.TheVariants.{Library, Main, Faulty}
use Rattle.go_graph_core.specs.Sources.{SourceModel}
use Rattle.go_graph_core.specs.Workspaces.{PackageModel, IsPackage, IsWorkspace}
use Rattle.go_graph_core.specs.Imports.{IsNoImport, IsJudged, IsOutcome, IsEdge, import_texts, edge}
use Rattle.go_graph_core.specs.ImportLaws.{HasPlan}
use Rattle.go_graph_core.specs.Plans.{plan_with}
use Rattle.go_graph_core.specs.mirrors.Targets.{IsStanding, HaveStandings, is_assembled}
use Rattle.go_graph_core.proofs.Orders.{has_order}
use Rattle.go_graph_core.proofs.OutcomeLaws.{has_target, stands}
use Rattle.go_graph_core.proofs.Outcomes.{judged, list_of_edges}
use Rattle.go_graph_core.proofs.PlanOrder.{order_once, order_each, order_after}

-- at a place there is an item and a partner, or neither
abbrev Partners : {A B : Type 0} → List A → (ℕ → A → B → Type 0) → List B → ℕ → Type 0
Partners {A} xs R ys i = MatchOption (slice_get ys i) (slice_get xs i ≡ None) (λ y. (x : A) × (slice_get xs i ≡ Some x) × R i x y)

partners_cons : {A B : Type 0} (x : A) (xs : List A) (R : ℕ → A → B → Type 0) (y : B) (ys : List B) → R 0 x y → ((i : ℕ) → Partners xs (λ k. R (suc k)) ys i) → (i : ℕ) → Partners (x ∷ xs) R (y ∷ ys) i
partners_cons x xs R y ys first rest zero = (x, refl, first)
partners_cons x xs R y ys first rest (suc i) = rest i

-- where each item has a partner, there is a list of them
partners : {A B : Type 0} (xs : List A) (R : ℕ → A → B → Type 0) → ((i : ℕ) (x : A) → (y : B) × R i x y) → (ys : List B) × ((i : ℕ) → Partners xs R ys i)
partners [] R each = ([], λ i. refl)
partners (x ∷ xs) R each =
    let first = each 0 x in
    let rest = partners xs (λ k. R (suc k)) (λ i z. each (suc i) z) in
    (first.0 ∷ rest.0, partners_cons x xs R first.0 rest.0 first.1 rest.1)

-- and it has as many
as_many_partners : {A B : Type 0} (xs : List A) (R : ℕ → A → B → Type 0) (ys : List B) → ((i : ℕ) → Partners xs R ys i) → length ys ≡ length xs
as_many_partners [] R [] h = refl
as_many_partners [] R (y ∷ ys) h = (let at = h 0 in let no = at.1 in cc)
as_many_partners (x ∷ xs) R [] h = (let no = h 0 in cc)
as_many_partners (x ∷ xs) R (y ∷ ys) h = ap suc (as_many_partners xs (λ k. R (suc k)) ys (λ i. h (suc i)))

-- outcomes of the imports of a file, of a package, and of all packages

abbrev FileHas : List PackageModel → ℕ → List ℕ → ℕ → SourceModel → List ImportOutcome → Type 0
FileHas ps i q j f os = (k : ℕ) → Partners (import_texts f) (λ m text o. IsJudged ps i q text o) os k

abbrev PackageHas : List PackageModel → ℕ → PackageModel → List (List ImportOutcome) → Type 0
PackageHas ps i p fs = (j : ℕ) → Partners p.1 (FileHas ps i p.0) fs j

all_outcomes : (ps : List PackageModel) → IsWorkspace ps → (all : List (List (List ImportOutcome))) × ((i : ℕ) → Partners ps (PackageHas ps) all i)
all_outcomes ps well = partners ps (PackageHas ps) (λ i p. partners p.1 (FileHas ps i p.0) (λ j f. partners (import_texts f) (λ m text o. IsJudged ps i p.0 text o) (λ k text. (let t = has_target ps p.0 text well in judged ps i p.0 text t.0 well t.1))))

module _ (ps : List PackageModel) (at : ImportAt) where
  by_text : (p : PackageModel) (f : SourceModel) → slice_get ps at.«package» ≡ Some p → slice_get p.1 at.file ≡ Some f → (o : Option ImportOutcome) → MatchOption o (slice_get (import_texts f) at.import ≡ None) (λ y. (text : List ℕ) × (slice_get (import_texts f) at.import ≡ Some text) × IsJudged ps at.«package» p.0 text y) → MatchOption o (IsNoImport ps at) (IsOutcome ps at)
  by_text p f here in_files None h = λ q text there.
      let k : ◌≡◌ {A = Option PackageModel} (Some p) (Some (q, there.files)) = sym here ∙ there.numbered in
      let same : p ≡ (q, there.files) = cc in
      let l : Some f ≡ Some there.file = sym in_files ∙ (ap (λ (x : PackageModel). slice_get x.1 at.file) same ∙ there.in_files) in
      let file : f ≡ there.file = cc in
      let m : None ≡ Some text = sym h ∙ (ap (λ s. slice_get (import_texts s) at.import) file ∙ there.in_file) in
      cc
  by_text p f here in_files (Some o) h = record { q = p.0; text = h.0; there = record { files = p.1; file = f; numbered = here; in_files = in_files; in_file = h.1 }; judged = h.2 }

  by_file : (p : PackageModel) → slice_get ps at.«package» ≡ Some p → (fo : Option (List ImportOutcome)) → MatchOption fo (slice_get p.1 at.file ≡ None) (λ os. (f : SourceModel) × (slice_get p.1 at.file ≡ Some f) × FileHas ps at.«package» p.0 at.file f os) → MatchOption (option_and_then (λ os. slice_get os at.import) fo) (IsNoImport ps at) (IsOutcome ps at)
  by_file p here None h = λ q text there.
      let k : ◌≡◌ {A = Option PackageModel} (Some p) (Some (q, there.files)) = sym here ∙ there.numbered in
      let same : p ≡ (q, there.files) = cc in
      let m : None ≡ Some there.file = sym h ∙ (ap (λ (x : PackageModel). slice_get x.1 at.file) same ∙ there.in_files) in
      cc
  by_file p here (Some os) h = by_text p h.0 here h.1 (slice_get os at.import) (h.2 at.import)

  by_package : (po : Option (List (List ImportOutcome))) → MatchOption po (slice_get ps at.«package» ≡ None) (λ fs. (p : PackageModel) × (slice_get ps at.«package» ≡ Some p) × PackageHas ps at.«package» p fs) → MatchOption (option_and_then (λ os. slice_get os at.import) (option_and_then (λ fs. slice_get fs at.file) po)) (IsNoImport ps at) (IsOutcome ps at)
  by_package None h = λ q text there. (let m : ◌≡◌ {A = Option PackageModel} None (Some (q, there.files)) = sym h ∙ there.numbered in cc)
  by_package (Some fs) h = by_file h.0 h.1 (slice_get fs at.file) (h.2 at.file)

standing_of : (files : List SourceModel) (path : List ℕ) → IsPackage (path, files) → (s : Standing) × IsStanding (path, files) s
standing_of files path well = elim (stands files well.some) [
  | inl faulty ↦ (Faulty, faulty)
  | inr sound ↦ elim sound [ inl program ↦ (Main, program) | inr library ↦ (Library, library) ]
]

standings_of : (ps : List PackageModel) → All IsPackage ps → (standings : List Standing) × HaveStandings ps standings
standings_of [] all = ([], tt)
standings_of (p ∷ ps) all =
    let first = standing_of p.1 p.0 (All-head IsPackage p ps all) in
    let rest = standings_of ps (All-tail IsPackage p ps all) in
    (first.0 ∷ rest.0, (first.1, rest.1))

edge_in_range : (ps : List PackageModel) (e : Edge) → IsEdge ps e → (e.from < length ps) × (e.to < length ps)
edge_in_range ps e h =
    let a : h.at.«package» < length ps = slice_get_within ps h.at.«package» (h.q, h.there.files) h.there.numbered in
    let b : e.to < length ps = slice_get_within ps e.to (h.text, h.target.files) h.target.numbered in
    let c : e.from < length ps = omega (arith, a, h.from) in
    (c, b)

pub has_plan : HasPlan
has_plan ps well =
    let edges = list_of_edges ps well in
    let g : List Edge = edges.0 in
    let are : All (IsEdge ps) g = λ k d lt. (edges.1 (get_or g k d)).1 (Contains-get_or g k d lt) in
    let within : InRange (length ps) g = λ k d lt. edge_in_range ps (get_or g k d) (are k d lt) in
    let order = has_order g (length ps) within in
    let standings = standings_of ps well.packages in
    let all = all_outcomes ps well in
    let sound : ℕ → Bool = is_assembled standings.0 in (
      plan_with all.0 (filter sound order.0) g,
      record {
        many = as_many_partners ps (PackageHas ps) all.0 all.1;
        outcomes = λ at. by_package ps at (slice_get all.0 at.«package») (all.1 at.«package»);
        once = order_once (length ps) order.0 sound order.1;
        each = λ i. order_each ps standings.0 order.0 i standings.1 order.1;
        after = λ at i outcome j k lj lk x y.
            let e : Edge = edge at.«package» i in
            let is : IsEdge ps e = record { at = at; q = outcome.q; text = outcome.text; there = outcome.there; from = refl; target = outcome.judged.0 } in
            order_after g order.0 sound e order.2 ((edges.1 e).0 is) (λ on. outcome.judged.1 (g, are, on)) j k lj lk x y;
        edges = λ e. ((edges.1 e).1, (edges.1 e).0);
      },
    )
