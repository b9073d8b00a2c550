-- The input of a package in a batch, where it is that of its part in a snapshot.
use Rattle.std.proofs.Common.{◌≡◌, ℕ, suc, List, [], ◌∷◌, Option, refl, sym, ◌∙◌, arith}
use Rattle.std.specs.Prelude.{Contains}
use Rattle.std.specs.List.{AllZip}
use Rattle.std.proofs.lemmas.List.Elements.{All-nil, All-cons}
use Rattle.go_digraph_core.specs.declared.cycle.edge.Edge.{Edge}
use Rattle.go_block_core.specs.graph_core.declared.imports.ImportAt.{ImportAt}
use Rattle.go_block_core.specs.graph_core.declared.imports.ImportOutcome.{ImportOutcome}
use Rattle.go_block_core.specs.graph_core.declared.imports.ImportOutcome.TheVariants.{Package, Refused}
use Rattle.go_block_core.specs.graph_core.Imports.{IsOutcome}
use Rattle.go_block_core.specs.graph_core.Workspaces.{PackageModel}
use Rattle.go_block_core.specs.graph_core.Lists.{AllNumbered}
use Rattle.go_block_core.specs.graph_core.Packages.{Trees, trees_of}
use Rattle.go_block_core.specs.declared.imports.Imported.{Imported}
use Rattle.go_block_core.specs.declared.imports.Imported.TheVariants as given
use Rattle.go_block_core.specs.Naming.{AreInFile, IsGiven, file_specs, import_at}
use Rattle.go_summary_core.specs.Summaries.{SummaryModel}
use Rattle.go_package_core.specs.package_part.Inputs.{InputModel}
use Rattle.go_package_core.specs.package_part.Parts.{PartModel}
use Rattle.go_snap_core.specs.whole_workspace.Inputs.{ComesTo, IsInputAt, IsPassingImport, ReachesPackage, Shown, Tells}
use Rattle.go_batch_core.specs.Batches.{HasImports, batch_with}
use Rattle.go_batch_core.specs.Steadiness.{IsSameAt}
use Rattle.go_batch_core.specs.declared.slot.Slot.{Slot}

-- a package reaches those that its imports come to
pub by_import : (qs : List PackageModel) (n : ℕ) (at : ImportAt) (m : ℕ) → at.«package» ≡ n → IsOutcome qs at (Package m) → ReachesPackage qs n m
by_import qs n at m here is =
    let e : Edge = record { from = n; to = m } in
    let passing : IsPassingImport qs e = (at, here, is) in
    (e ∷ [], All-cons (IsPassingImport qs) e [] passing (All-nil (IsPassingImport qs)), (e, [], ((0, omega arith, refl), refl, refl)))

-- the package of a number, where it is the same and each that its imports come to tells what it told
module _ (qs ps : List PackageModel) (old parts : List (Option PartModel)) (n : ℕ) (stays : IsSameAt qs ps n) (told : (at : ImportAt) (m : ℕ) (s : SummaryModel) → at.«package» ≡ n → IsOutcome qs at (Package m) → Tells old m s → Tells parts m s) where
  given_stays : (at : ImportAt) (o : ImportOutcome) (i : Imported) → at.«package» ≡ n → IsOutcome qs at o → IsGiven (Shown old) o i → IsGiven (Shown parts) o i
  given_stays at (Package m) (given.«Package» e) here is h = record { summary = h.summary; told = told at m h.summary here is h.told; is = h.is }
  given_stays at (Package m) (given.Refused rule) here is h = h
  given_stays at (Refused rule) (given.«Package» e) here is h = h
  given_stays at (Refused rule) (given.Refused other) here is h = h

  comes_stays : (at : ImportAt) (i : Imported) → at.«package» ≡ n → ComesTo qs old at i → ComesTo ps parts at i
  comes_stays at i here h = record { outcome = h.outcome; judged = stays.outcomes at h.outcome here h.judged; given = given_stays at h.outcome i here h.judged h.given }

  file_stays : {S : Type 0} (file : ℕ) (k : ℕ) (specs : List S) (is : List Imported) → AllNumbered (λ j spec i. ComesTo qs old (import_at n file j) i) k specs is → AllNumbered (λ j spec i. ComesTo ps parts (import_at n file j) i) k specs is
  file_stays file k [] [] h = h
  file_stays file k [] (i ∷ is) h = h
  file_stays file k (s ∷ ss) [] h = h
  file_stays file k (s ∷ ss) (i ∷ is) h = (comes_stays (import_at n file k) i refl h.0, file_stays file (suc k) ss is h.1)

  imports_stay : (file : ℕ) (ts : Trees) (fs : List (List Imported)) → AllNumbered (λ j t is. AreInFile (ComesTo qs old) n j t.1 is) file ts fs → AllNumbered (λ j t is. AreInFile (ComesTo ps parts) n j t.1 is) file ts fs
  imports_stay file [] [] h = h
  imports_stay file [] (is ∷ fs) h = h
  imports_stay file (t ∷ ts) [] h = h
  imports_stay file (t ∷ ts) (is ∷ fs) h = (file_stays file 0 (file_specs t.1) is h.0, imports_stay (suc file) ts fs h.1)

  -- so an input of then has the files of the package, and what its imports come to
  pub has_imports : (slots : List Slot) (i : InputModel) → IsInputAt qs old n i → HasImports (batch_with ps slots parts) n i
  has_imports slots i h = record { numbered = sym stays.source ∙ h.numbered; imports = imports_stay 0 (trees_of i.source.1) i.imports h.input.imports }

-- the package of a number, where it is the same and each that it reaches tells what it told
module _ (qs ps : List PackageModel) (old parts : List (Option PartModel)) (n : ℕ) (stays : IsSameAt qs ps n) (told : (m : ℕ) (s : SummaryModel) → ReachesPackage qs n m → Tells old m s → Tells parts m s) where
  told_stays : (numbers : List ℕ) (ss : List SummaryModel) → ((m : ℕ) → Contains numbers m → ReachesPackage qs n m) → AllZip (Tells old) numbers ss → AllZip (Tells parts) numbers ss
  told_stays [] [] all h = h
  told_stays [] (s ∷ ss) all h = h
  told_stays (m ∷ ms) [] all h = h
  told_stays (m ∷ ms) (s ∷ ss) all h = (told m s (all m (0, omega arith, refl)) h.0, told_stays ms ss (λ k there. all k (suc there.0, omega (arith, there.1), there.2)) h.1)

  pub input_stays : (i : InputModel) → IsInputAt qs old n i → IsInputAt ps parts n i
  input_stays i h = record {
    numbered = sym stays.source ∙ h.numbered;
    input = record {
      source = h.input.source;
      imports = (has_imports qs ps old parts n stays (λ at m s here is. told m s (by_import qs n at m here is)) [] i h).imports;
      reached = record {
        numbers = h.input.reached.numbers;
        rising = h.input.reached.rising;
        reached = λ m. ((λ has. (stays.reaches m).0 ((h.input.reached.reached m).0 has)), (λ r. (h.input.reached.reached m).1 ((stays.reaches m).1 r)));
        told = told_stays h.input.reached.numbers i.reached (λ m has. (h.input.reached.reached m).0 has) h.input.reached.told;
      };
    };
  }
