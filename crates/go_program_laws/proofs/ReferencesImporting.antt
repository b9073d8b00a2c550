-- An import of a package is among what its imports come to.
use Rattle.std.proofs.Common.{◌≡◌, inl, inr, ℕ, zero, suc, ◌+◌, List, [], ◌∷◌, map, Some, refl, sym, ap, subst, ◌∙◌, arith}
use Rattle.std.specs.Prelude.{slice_get}
use Rattle.std.proofs.lemmas.Option.{none-some}
use Rattle.go_tree_nodes.specs.Trees.{ImportSpecTree}
use Rattle.go_graph_core.specs.declared.imports.ImportAt.{ImportAt}
use Rattle.go_graph_core.specs.Imports.{IsImport, content_texts}
use Rattle.go_graph_core.specs.Lists.{AllNumbered}
use Rattle.go_graph_core.specs.Packages.{AllHaveTrees, HasNoClause, IsAssembled, trees_of}
use Rattle.go_graph_core.specs.Sources.{SourceModel}
use Rattle.go_graph_core.specs.Workspaces.{PackageModel}
use Rattle.go_graph_core.proofs.Assemblies.{tree_at, tree_of}
use Rattle.go_graph_core.proofs.OutcomeLaws.{all_at_place}
use Rattle.go_names_core.specs.block_core.declared.imports.Imported.{Imported}
use Rattle.go_names_core.specs.block_core.Naming.{AreInFile, AreInPackage, file_specs, import_at}
use Rattle.go_names_core.specs.block_core.NamingLemmas.{same_texts, text_of}
use Rattle.go_body_core.specs.typexpr_core.EntryAmong.{Among}

numbered_there : {A B : Type 0} (R : ℕ → A → B → Type 0) (k : ℕ) (xs : List A) (ys : List B) → AllNumbered R k xs ys → (n : ℕ) (x : A) → slice_get xs n ≡ Some x → (y : B) × Among ys y × R (k + n) x y
numbered_there R k [] [] h n x e = absurd (none-some x e)
numbered_there R k [] (y ∷ ys) h n x e = absurd h
numbered_there R k (a ∷ xs) [] h n x e = absurd h
numbered_there R k (a ∷ xs) (b ∷ ys) h zero x e =
    let some : Some a ≡ Some x = e in
    let same : a ≡ x = cc some in
    let sum : k ≡ k + 0 = omega arith in
    (b, inl refl, subst (λ m. R m x b) sum (subst (λ z. R k z b) same h.0))
numbered_there R k (a ∷ xs) (b ∷ ys) h (suc n) x e =
    let r = numbered_there R (suc k) xs ys h.1 n x e in
    let sum : suc k + n ≡ k + suc n = omega arith in
    (r.0, inr r.1, subst (λ m. R m x r.0) sum r.2)

spec_there : (ss : List ImportSpecTree) (n : ℕ) (text : List ℕ) → slice_get (map text_of ss) n ≡ Some text → (s : ImportSpecTree) × (slice_get ss n ≡ Some s)
spec_there [] n text e = absurd (none-some text e)
spec_there (s ∷ ss) zero text e = (s, refl)
spec_there (s ∷ ss) (suc n) text e = spec_there ss n text e

pub record IsComeTo (P : ImportAt → Imported → Type 0) (at : ImportAt) (imports : List (List Imported)) : Type 0 where
  pub of_file : List Imported
  pub file : Among imports of_file
  pub imported : Imported
  pub there : Among of_file imported
  pub come : P at imported

pub import_comes : (P : ImportAt → Imported → Type 0) (ws : List PackageModel) (n : ℕ) (p : PackageModel) (imports : List (List Imported)) → slice_get ws n ≡ Some p → IsAssembled p.1 → AreInPackage P n (trees_of p.1) imports
    → (at : ImportAt) → at.«package» ≡ n → (q text : List ℕ) → IsImport ws at q text → IsComeTo P at imports
import_comes P ws n p imports numbered assembled comes at from q text h =
    let some : Some (q, h.files) ≡ Some p = sym h.numbered ∙ (ap (λ k. slice_get ws k) from ∙ numbered) in
    let same : (q, h.files) ≡ p = cc some in
    let files : h.files ≡ p.1 = ap (λ (x : PackageModel). x.1) same in
    let trees : AllHaveTrees h.files = subst AllHaveTrees (sym files) assembled.trees in
    let tree = tree_of h.file (all_at_place (λ (s : SourceModel). HasNoClause s → ⊥) h.files at.file h.file trees h.in_files) in
    let texts : slice_get (map text_of (file_specs tree.0)) at.import ≡ Some text = sym (ap (λ ts. slice_get ts at.import) (ap content_texts tree.1 ∙ same_texts tree.0.imports)) ∙ h.in_file in
    let spec = spec_there (file_specs tree.0) at.import text texts in
    let at_file = tree_at h.files at.file h.file tree.0 trees h.in_files tree.1 in
    let file =
    numbered_there (λ file t is. AreInFile P n file t.1 is) 0 (trees_of p.1) imports comes at.file (h.file.name, tree.0) (subst (λ (fs : List SourceModel). slice_get (trees_of fs) at.file ≡ Some (h.file.name, tree.0)) files at_file) in
    let one = numbered_there (λ k s i. P (import_at n (0 + at.file) k) i) 0 (file_specs tree.0) file.0 file.2 at.import spec.0 spec.1 in
    let file_sum : 0 + at.file ≡ at.file = omega arith in
    let spec_sum : 0 + at.import ≡ at.import = omega arith in
    let place : import_at n (0 + at.file) (0 + at.import) ≡ at =
    ap (λ k. import_at k (0 + at.file) (0 + at.import)) (sym from) ∙ (ap (λ k. import_at at.«package» k (0 + at.import)) file_sum ∙ ap (λ k. import_at at.«package» at.file k) spec_sum) in
    record { of_file = file.0; file = file.1; imported = one.0; there = one.1; come = subst (λ a. P a one.0) place one.2 }
