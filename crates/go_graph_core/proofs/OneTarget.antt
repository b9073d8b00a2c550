-- An import comes to one target at most, cycles left aside.
use Rattle.std.proofs.Common.{◌≡◌, ℕ, ◌⊎◌, inl, inr, List, Option, Some, Ok, Err, Result, slice_get, refl, sym, ◌∙◌, ap, subst, arith}
use Rattle.std.proofs.lemmas.Bool.{cases_lt}
use Rattle.go_collections_core.specs.text_core.declared.rule.Rule.TheVariants.{I1, I2, I3, I5, I6}
use Rattle.go_path_core.specs.Path.{elements, IsPath, MayImport}
use Rattle.go_graph_core.specs.declared.assembly.KFault.{KFault}
use Rattle.go_graph_core.specs.declared.imports.ImportOutcome.{ImportOutcome}
use Rattle.go_graph_core.specs.declared.imports.ImportOutcome.TheVariants.{Package, Refused}
use Rattle.go_graph_core.specs.Sources.{SourceModel}
use Rattle.go_graph_core.specs.Packages.{Trees, trees_of, IsAssembled}
use Rattle.go_graph_core.specs.Workspaces.{PackageModel, IsWorkspace}
use Rattle.go_graph_core.specs.Imports.{AreFaulty, AreMain, AreLibrary, IsNumbered, HasNoPackage, IsTarget}
use Rattle.go_graph_core.proofs.Assemblies.{one_name}
use Rattle.go_graph_core.proofs.AssemblyLaws.{has_no_other_assembly}
use Rattle.go_graph_core.proofs.Numbers.{one_number}

-- what the files of the package give
abbrev OfFiles : List SourceModel → ℕ → ImportOutcome → Type 0
OfFiles files i o = ((o ≡ Refused I6) × AreFaulty files) ⊎ (((o ≡ Refused I5) × AreMain files) ⊎ ((o ≡ Package i) × AreLibrary files))

abbrev OfPackages : List PackageModel → List ℕ → ImportOutcome → Type 0
OfPackages ps text o = ((o ≡ Refused I2) × HasNoPackage ps text) ⊎ ((i : ℕ) × (files : List SourceModel) × IsNumbered ps text i files × OfFiles files i o)

abbrev OfPath : List PackageModel → List ℕ → List ℕ → ImportOutcome → Type 0
OfPath ps q text o = ((o ≡ Refused I3) × (MayImport (elements q) (elements text) → ⊥)) ⊎ (MayImport (elements q) (elements text) × OfPackages ps text o)

-- the rules in their order, one inside the other
abbrev ByRules : List PackageModel → List ℕ → List ℕ → ImportOutcome → Type 0
ByRules ps q text o = ((o ≡ Refused I1) × (IsPath text → ⊥)) ⊎ (IsPath text × OfPath ps q text o)

by_rules : (ps : List PackageModel) (q text : List ℕ) (o : ImportOutcome) → IsTarget ps q text o → ByRules ps q text o
by_rules ps q text (Package i) h = inr (h.allowed.0, inr (h.allowed.1, inr (i, h.files, h.numbered, inr (inr (refl, h.library)))))
by_rules ps q text (Refused rule) (inl h) = inl (ap Refused h.is, h.malformed)
by_rules ps q text (Refused rule) (inr (inl h)) = inr (h.path, inl (ap Refused h.is, h.hidden))
by_rules ps q text (Refused rule) (inr (inr (inl h))) = inr (h.allowed.0, inr (h.allowed.1, inl (ap Refused h.is, h.nowhere)))
by_rules ps q text (Refused rule) (inr (inr (inr (inl h)))) = inr (h.allowed.0, inr (h.allowed.1, inr (h.number, h.files, h.numbered, inl (ap Refused h.is, h.faulty))))
by_rules ps q text (Refused rule) (inr (inr (inr (inr h)))) = inr (h.allowed.0, inr (h.allowed.1, inr (h.number, h.files, h.numbered, inr (inl (ap Refused h.is, h.program)))))

-- files that are assembled are not faulty
pub not_faulty : (files : List SourceModel) → IsAssembled files → AreFaulty files → ⊥
not_faulty files well faulty =
    let same : ◌≡◌ {A = Result Trees KFault} (Ok (trees_of files)) (Err faulty.0) = has_no_other_assembly files (Ok (trees_of files)) (Err faulty.0) (refl, well) faulty.1 in
    cc

not_both : (files : List SourceModel) → AreMain files → AreLibrary files → ⊥
not_both files program library = library.1.2 (one_name files library.1.0 _ library.1.1 program.1)

of_files : (files : List SourceModel) (i : ℕ) (o r : ImportOutcome) → OfFiles files i o → OfFiles files i r → o ≡ r
of_files files i o r (inl a) (inl b) = a.0 ∙ sym b.0
of_files files i o r (inl a) (inr (inl b)) = absurd (not_faulty files b.1.0 a.1)
of_files files i o r (inl a) (inr (inr b)) = absurd (not_faulty files b.1.0 a.1)
of_files files i o r (inr (inl a)) (inl b) = absurd (not_faulty files a.1.0 b.1)
of_files files i o r (inr (inl a)) (inr (inl b)) = a.0 ∙ sym b.0
of_files files i o r (inr (inl a)) (inr (inr b)) = absurd (not_both files a.1 b.1)
of_files files i o r (inr (inr a)) (inl b) = absurd (not_faulty files a.1.0 b.1)
of_files files i o r (inr (inr a)) (inr (inl b)) = absurd (not_both files b.1 a.1)
of_files files i o r (inr (inr a)) (inr (inr b)) = a.0 ∙ sym b.0

-- a path has one number, and one list of files
pub same_number : (ps : List PackageModel) (path : List ℕ) (i j : ℕ) (f g : List SourceModel) → IsWorkspace ps → IsNumbered ps path i f → IsNumbered ps path j g → (i ≡ j) × (f ≡ g)
same_number ps path i j f g well a b = elim (cases_lt i j) [
  | inl lt ↦ absurd (one_number ps path i j f g well a b lt)
  | inr ge ↦ elim (cases_lt j i) [
    | inl lt ↦ absurd (one_number ps path j i g f well b a lt)
    | inr le ↦
        let same : i ≡ j = omega (arith, ge, le) in
        let e : ◌≡◌ {A = PackageModel} (path, f) (path, g) = (let k : ◌≡◌ {A = Option PackageModel} (Some (path, f)) (Some (path, g)) = sym a ∙ (ap (λ n. slice_get ps n) same ∙ b) in cc) in
        (same, ap (λ (p : PackageModel). p.1) e)
  ]
]

of_packages : (ps : List PackageModel) (text : List ℕ) (o r : ImportOutcome) → IsWorkspace ps → OfPackages ps text o → OfPackages ps text r → o ≡ r
of_packages ps text o r well (inl a) (inl b) = a.0 ∙ sym b.0
of_packages ps text o r well (inl a) (inr b) = absurd (a.1 b.0 b.1 b.2)
of_packages ps text o r well (inr a) (inl b) = absurd (b.1 a.0 a.1 a.2)
of_packages ps text o r well (inr a) (inr b) =
    let same = same_number ps text a.0 b.0 a.1 b.1 well a.2 b.2 in
    let x : OfFiles b.1 a.0 o = subst (λ (fs : List SourceModel). OfFiles fs a.0 o) same.1 a.3 in
    of_files b.1 b.0 o r (subst (λ (n : ℕ). OfFiles b.1 n o) same.0 x) b.3

of_path : (ps : List PackageModel) (q text : List ℕ) (o r : ImportOutcome) → IsWorkspace ps → OfPath ps q text o → OfPath ps q text r → o ≡ r
of_path ps q text o r well (inl a) (inl b) = a.0 ∙ sym b.0
of_path ps q text o r well (inl a) (inr b) = absurd (a.1 b.0)
of_path ps q text o r well (inr a) (inl b) = absurd (b.1 a.0)
of_path ps q text o r well (inr a) (inr b) = of_packages ps text o r well a.1 b.1

of_text : (ps : List PackageModel) (q text : List ℕ) (o r : ImportOutcome) → IsWorkspace ps → ByRules ps q text o → ByRules ps q text r → o ≡ r
of_text ps q text o r well (inl a) (inl b) = a.0 ∙ sym b.0
of_text ps q text o r well (inl a) (inr b) = absurd (a.1 b.0)
of_text ps q text o r well (inr a) (inl b) = absurd (b.1 a.0)
of_text ps q text o r well (inr a) (inr b) = of_path ps q text o r well a.1 b.1

pub one_target : (ps : List PackageModel) (q text : List ℕ) (o r : ImportOutcome) → IsWorkspace ps → IsTarget ps q text o → IsTarget ps q text r → o ≡ r
one_target ps q text o r well a b = of_text ps q text o r well (by_rules ps q text o a) (by_rules ps q text r b)
