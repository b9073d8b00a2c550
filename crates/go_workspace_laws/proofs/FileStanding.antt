-- A file alone: its workspace is one, and none of its imports comes to a package.
use Rattle.std.proofs.Common.{◌≡◌, ℕ, zero, suc, List, [], ◌∷◌, length, inl, refl, sym, ap, subst, ◌∙◌, arith}
use Rattle.std.specs.Prelude.{All, Contains, Option, Some, slice_get}
use Rattle.std.specs.List.{AllZip}
use Rattle.std.specs.List.Sorted.{IsStrictlySortedBy}
use Rattle.std.proofs.lemmas.List.Elements.{All-nil, All-cons, All-contains}
use Rattle.go_path_core.specs.Path.{IsElement, IsPath, IsPathByte, elements}
use Rattle.go_path_core.proofs.Paths.{not_cut}
use Rattle.go_digraph_core.specs.declared.cycle.edge.Edge.{Edge}
use Rattle.go_graph_core.specs.declared.imports.ImportAt.{ImportAt}
use Rattle.go_graph_core.specs.declared.imports.ImportOutcome.{ImportOutcome}
use Rattle.go_graph_core.specs.declared.imports.ImportOutcome.TheVariants as outcomes
use Rattle.go_graph_core.specs.Imports.{IsEdge, IsOutcome, edge}
use Rattle.go_graph_core.specs.Sources.{SourceModel, IsPlacedSource, IsRead}
use Rattle.go_graph_core.specs.Workspaces.{AreAllRead, IsPackage, IsReadWorkspace}
use Rattle.go_graph_core.proofs.Contents.{placed_content}
use Rattle.go_names_core.specs.block_core.declared.imports.Imported.{Imported}
use Rattle.go_names_core.specs.block_core.declared.imports.Imported.TheVariants as given
use Rattle.go_names_core.specs.block_core.Naming.{IsGiven}
use Rattle.go_report_core.specs.summary_core.Summaries.{SummaryModel}
use Rattle.go_emit_core.specs.package_core.PackagePartParts.{PartModel}
use Rattle.go_snap_core.specs.whole_workspace.Inputs.{AreToldTo, ComesTo, IsPassingImport, ReachesPackage, Shown, Tells}
use Rattle.govisd_resolve.specs.Alone.{ImportIsRefused, package_alone, the_path, workspace_alone}
use Rattle.govisd_resolve.proofs.OneFound.{letter_there}

-- the workspace of a file

is_element : IsElement the_path
is_element =
    let l = letter_there in (
      omega arith,
      (λ e. cc),
      (λ e. cc),
      All-cons IsPathByte 108 (111 ∷ 99 ∷ 97 ∷ 108 ∷ []) (l 108 (omega arith) (omega arith))
          (All-cons IsPathByte 111 (99 ∷ 97 ∷ 108 ∷ []) (l 111 (omega arith) (omega arith))
          (All-cons IsPathByte 99 (97 ∷ 108 ∷ []) (l 99 (omega arith) (omega arith))
          (All-cons IsPathByte 97 (108 ∷ []) (l 97 (omega arith) (omega arith))
          (All-cons IsPathByte 108 [] (l 108 (omega arith) (omega arith)) (All-nil IsPathByte))))),
    )

is_path : IsPath the_path
is_path =
    let whole : elements the_path ≡ the_path ∷ [] = not_cut the_path refl in (
      omega arith,
      omega (arith, ap length whole),
      subst (All IsElement) (sym whole) (All-cons IsElement the_path [] is_element (All-nil IsElement)),
    )

pub is_workspace : (s : SourceModel) → IsRead s → IsReadWorkspace (workspace_alone s)
unfolding IsStrictlySortedBy
is_workspace s read = record {
  well = record {
    order = (tt, tt);
    packages = All-cons IsPackage (package_alone s) [] (record { path = is_path; some = omega arith; order = (tt, tt); contents = All-cons IsPlacedSource s [] (placed_content s.text s.content read) (All-nil IsPlacedSource) }) (All-nil IsPackage);
  };
  read = All-cons AreAllRead (package_alone s) [] (All-cons IsRead s [] read (All-nil IsRead)) (All-nil AreAllRead);
}

-- imports

pub only_zero : {A : Type 0} (x y : A) (n : ℕ) → slice_get (x ∷ []) n ≡ Some y → n ≡ 0
only_zero x y zero e = refl
only_zero x y (suc n) e = cc

module _ (s : SourceModel) where
  -- the one package that an import could come to is its own, and then it lies on a cycle
  pub no_package : (at : ImportAt) (i : ℕ) → IsOutcome (workspace_alone s) at (outcomes.«Package» i) → ⊥
  no_package at i h =
      let from : at.«package» ≡ 0 = only_zero (package_alone s) (h.q, h.there.files) at.«package» h.there.numbered in
      let to : i ≡ 0 = only_zero (package_alone s) (h.text, h.judged.0.files) i h.judged.0.numbered in
      let own : Edge = edge at.«package» i in
      h.judged.1 (own ∷ [], All-cons (IsEdge (workspace_alone s)) own [] (record { at = at; q = h.q; text = h.text; there = h.there; from = refl; target = h.judged.0 }) (All-nil (IsEdge (workspace_alone s))), inl (to ∙ sym from))

  module _ (parts : List (Option PartModel)) where
    pub comes_refused : (at : ImportAt) (i : Imported) → ComesTo (workspace_alone s) parts at i → ImportIsRefused (workspace_alone s) at i
    comes_refused at i h = by h.outcome i h.judged h.given
      where
        by : (o : ImportOutcome) (j : Imported) → IsOutcome (workspace_alone s) at o → IsGiven (Shown parts) o j → ImportIsRefused (workspace_alone s) at j
        by (outcomes.«Package» n) j k g = absurd (no_package at n k)
        by (outcomes.Refused rule) (given.«Package» e) k g = absurd g
        by (outcomes.Refused rule) (given.Refused other) k g = subst (λ r. IsOutcome (workspace_alone s) at (outcomes.Refused r)) (sym g) k

    pub refused_comes : (at : ImportAt) (i : Imported) → ImportIsRefused (workspace_alone s) at i → ComesTo (workspace_alone s) parts at i
    refused_comes at (given.Refused rule) h = record { outcome = outcomes.Refused rule; judged = h; given = refl }
    refused_comes at (given.«Package» e) h = absurd h

    -- so the package reaches no other
    pub reaches_none : (n m : ℕ) → ReachesPackage (workspace_alone s) n m → ⊥
    reaches_none n m h =
        let passes : IsPassingImport (workspace_alone s) h.2.0 = All-contains (IsPassingImport (workspace_alone s)) h.0 h.2.0 h.1 h.2.2.0 in
        no_package passes.0 h.2.0.to passes.2

    pub told_none : (n : ℕ) (ss : List SummaryModel) → AreToldTo (workspace_alone s) parts n ss → ss ≡ []
    told_none n ss h = by h.numbers ss (λ m c. reaches_none n m ((h.reached m).0 c)) h.told
      where
        by : (numbers : List ℕ) (ts : List SummaryModel) → ((m : ℕ) → Contains numbers m → ⊥) → AllZip (Tells parts) numbers ts → ts ≡ []
        by [] [] none z = refl
        by [] (t ∷ ts) none z = absurd z
        by (m ∷ ms) ts none z = absurd (none m (0, omega arith, refl))

    pub none_told : (n : ℕ) → AreToldTo (workspace_alone s) parts n []
    none_told n = record {
      numbers = [];
      rising = λ k lt. absurd (omega (arith, lt));
      reached = λ m. ((λ c. absurd (omega (arith, c.1))), (λ r. absurd (reaches_none n m r)));
      told = tt;
    }
