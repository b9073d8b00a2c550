-- What an import comes to.
use Rattle.std.proofs.Common.{◌≡◌, ℕ, ◌<◌, inl, inr, Bool, List, length, get_or, Some, slice_get, refl, sym, ◌∙◌, ap, subst}
use Rattle.std.specs.Prelude.{◌↔◌, IsTrue}
use Rattle.std.proofs.lemmas.Option.{get_or_from_slice_get, same_Some, slice_get-get_or, slice_get_within}
use Rattle.go_path_core.specs.text_core.declared.rule.Rule.{Rule}
use Rattle.go_path_core.specs.text_core.declared.rule.Rule.TheVariants.{I1, I2, I3}
use Rattle.go_path_core.specs.Path.{IsPath, MayImport, elements}
use Rattle.go_graph_core.specs.declared.imports.ImportOutcome.{ImportOutcome}
use Rattle.go_graph_core.specs.declared.imports.ImportOutcome.TheVariants.{Package, Refused}
use Rattle.go_graph_core.specs.Imports.{AreFaulty, AreLibrary, AreMain, HasNoPackage, IsJudged, IsNumbered, IsTarget, LiesOnCycle, edge}
use Rattle.go_graph_core.specs.Sources.{SourceModel}
use Rattle.go_graph_core.specs.Workspaces.{IsPackage, IsWorkspace, PackageModel}
use Rattle.go_import_core.specs.list.Importing.{IsImportable, IsJudgedAt}
use Rattle.go_import_core.specs.list.mirrors.Marks.{IsWithin, Settles}
use Rattle.go_import_core.specs.list.mirrors.Standings.{ComesTo, MayUse}

-- the path is no path
pub malformed : (ps : List PackageModel) (q text : List ℕ) (rule : Rule) → rule ≡ I1 → ¬ IsPath text → IsTarget ps q text (Refused I1)
malformed ps q text rule is not = inl (record { is = refl; malformed = not })

pub hidden : (ps : List PackageModel) (q text : List ℕ) → IsPath text → ¬ MayImport (elements q) (elements text) → IsTarget ps q text (Refused I3)
hidden ps q text path not = inr (inl (record { is = refl; path = path; hidden = not }))

pub nowhere : (ps : List PackageModel) (q text : List ℕ) → IsPath text → MayImport (elements q) (elements text) → HasNoPackage ps text → IsTarget ps q text (Refused I2)
nowhere ps q text path may none = inr (inr (inl (record { is = refl; allowed = (path, may); nowhere = none })))

pub somewhere : (ps : List PackageModel) (q text : List ℕ) (number : ℕ) (files : List SourceModel) (outcome : ImportOutcome) → IsPath text → MayImport (elements q) (elements text) → IsNumbered ps text number files → ComesTo ps number outcome → IsTarget ps q text outcome
somewhere ps q text number files (Package i) path may numbered h =
    let same : h.1.0 ≡ (text, files) = same_Some h.1.0 (text, files) (sym h.1.1 ∙ numbered) in
    record {
      allowed = (path, may);
      files = files;
      numbered = subst (λ (n : ℕ). IsNumbered ps text n files) (sym h.0) numbered;
      library = subst (λ (p : PackageModel). AreLibrary p.1) same h.1.2;
    }
somewhere ps q text number files (Refused rule) path may numbered h =
    let same : h.0 ≡ (text, files) = same_Some h.0 (text, files) (sym h.1 ∙ numbered) in
    elim h.2 [
      | inl f ↦ inr (inr (inr (inl (record { is = f.0; allowed = (path, may); number = number; files = files; numbered = numbered; faulty = subst (λ (p : PackageModel). AreFaulty p.1) same f.1 }))))
      | inr m ↦ inr (inr (inr (inr (record { is = m.0; allowed = (path, may); number = number; files = files; numbered = numbered; program = subst (λ (p : PackageModel). AreMain p.1) same m.1 }))))
    ]

-- the package that an import comes to is one of these
pub target_within : (ps : List PackageModel) (q text : List ℕ) (target : ImportOutcome) → IsTarget ps q text target → IsWithin ps target
target_within ps q text (Package i) h = slice_get_within ps i (text, h.files) h.numbered
target_within ps q text (Refused rule) h = tt

-- cycles and all
pub judged : (ps : List PackageModel) (own : ℕ) (q text : List ℕ) (target outcome : ImportOutcome) → IsTarget ps q text target → Settles ps own target outcome → IsJudged ps own q text outcome
judged ps own q text (Package i) (Package j) h k = (subst (λ (n : ℕ). IsTarget ps q text (Package n)) (sym k.0) h, subst (λ (n : ℕ). LiesOnCycle ps (edge own n) → ⊥) (sym k.0) k.1)
judged ps own q text (Package i) (Refused rule) h k = inr (record { is = k.0; to = i; target = h; cycle = k.1 })
judged ps own q text (Refused rule) (Package j) h k = absurd k
judged ps own q text (Refused rule) (Refused other) h k = inl (subst (λ (r : Rule). IsTarget ps q text (Refused r)) (sym k) h)

pub judged_at : (ps : List PackageModel) (own : ℕ) (q : PackageModel) (path text : List ℕ) (target outcome : ImportOutcome) → own < length ps → q ≡ get_or ps own q → path ≡ q.0 → IsTarget ps path text target → Settles ps own target outcome → IsJudgedAt ps own text outcome
judged_at ps own q path text target outcome lt is named h k = record {
  path = q.0;
  files = q.1;
  importer = slice_get-get_or ps own q lt ∙ ap Some (sym is);
  judged = judged ps own q.0 text target outcome (subst (λ (p : List ℕ). IsTarget ps p text target) named h) k;
}

-- the packages that one could import

module _ (ps : List PackageModel) (well : IsWorkspace ps) (own number : ℕ) (q p : PackageModel) (at_own : slice_get ps own ≡ Some q) (at : slice_get ps number ≡ Some p) where
  path_of_package : IsPackage p
  path_of_package = subst IsPackage (get_or_from_slice_get ps number p p at) (well.packages number p (slice_get_within ps number p at))

  pub may_be_imported : MayUse q.0 p → ¬ LiesOnCycle ps (edge own number) → IsImportable ps own number
  may_be_imported may open_path = record {
    path = p.0;
    files = p.1;
    numbered = at;
    judged = record {
      path = q.0;
      files = q.1;
      importer = at_own;
      judged = (record { allowed = (path_of_package.path, may.0); files = p.1; numbered = at; library = may.1 }, open_path);
    };
  }

  pub importable_may : IsImportable ps own number → MayUse q.0 p × ¬ LiesOnCycle ps (edge own number)
  importable_may h =
      let path : h.path ≡ p.0 = ap (λ (x : PackageModel). x.0) (same_Some (h.path, h.files) p (sym h.numbered ∙ at)) in
      let importer : h.judged.path ≡ q.0 = ap (λ (x : PackageModel). x.0) (same_Some (h.judged.path, h.judged.files) q (sym h.judged.importer ∙ at_own)) in
      let target = h.judged.judged.0 in
      let files : target.files ≡ p.1 = ap (λ (x : PackageModel). x.1) (same_Some (h.path, target.files) p (sym target.numbered ∙ at)) in
      let may : MayImport (elements q.0) (elements p.0) = subst (λ (x : List ℕ). MayImport (elements x) (elements p.0)) importer (subst (λ (x : List ℕ). MayImport (elements h.judged.path) (elements x)) path target.allowed.1) in
      ((may, subst AreLibrary files target.library), h.judged.judged.1)

  pub importable_is : (path : List ℕ) (b : Bool) → path ≡ q.0 → ¬ LiesOnCycle ps (edge own number) → IsTrue b ↔ MayUse path p → IsTrue b ↔ IsImportable ps own number
  importable_is path b named free h = (λ on. may_be_imported (subst (λ (x : List ℕ). MayUse x p) named (h.0 on)) free, λ is. h.1 (subst (λ (x : List ℕ). MayUse x p) (sym named) (importable_may is).0))

pub importable_within : (ps : List PackageModel) (own number : ℕ) → IsImportable ps own number → number < length ps
importable_within ps own number h = slice_get_within ps number (h.path, h.files) h.numbered
