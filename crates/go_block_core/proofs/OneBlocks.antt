-- A package has one list of blocks, and so has a workspace.
use Rattle.std.proofs.Common.{◌≡◌, ℕ, ◌+◌, suc, List, [], ◌∷◌, Option, Some, None, refl, sym, ap, subst, ◌∙◌, arith}
use Rattle.std.specs.Prelude.{slice_get, Contains}
use Rattle.go_tree_nodes.specs.Trees.{FileTree}
use Rattle.go_graph_core.specs.declared.imports.ImportAt.{ImportAt}
use Rattle.go_graph_core.specs.declared.imports.ImportOutcome.{ImportOutcome}
use Rattle.go_graph_core.specs.declared.imports.ImportOutcome.TheVariants as outcomes
use Rattle.go_graph_core.specs.Sources.{SourceModel}
use Rattle.go_graph_core.specs.Packages.{IsAssembled, Trees, trees_of}
use Rattle.go_graph_core.specs.Workspaces.{PackageModel, IsWorkspace}
use Rattle.go_graph_core.specs.Imports.{IsNumbered}
use Rattle.go_graph_core.specs.Lists.{AllNumbered}
use Rattle.go_graph_core.proofs.OutcomeLaws.{has_one_outcome}
use Rattle.go_graph_core.proofs.Zips.{numbered_at, numbered_back}
use Rattle.go_block_core.specs.declared.imports.Imported.{Imported}
use Rattle.go_block_core.specs.declared.imports.Imported.TheVariants as given
use Rattle.go_block_core.specs.declared.imports.NamedImport.{NamedImport}
use Rattle.go_block_core.specs.Exports.{ExportsModel, exports_model, exported_names, clause_name}
use Rattle.go_block_core.specs.Holding.{package_block}
use Rattle.go_block_core.specs.Blocks.{BlocksModel, blocks_model, AreBlocks, exports_of}
use Rattle.go_block_core.specs.Naming.{IsGiven, AreInFile, import_at, file_specs, package_named}
use Rattle.go_block_core.specs.All.{IsShown, IsImported, AreImported, AreBlocksAt, AreBlocksOrNone, AreAllBlocks, OneBlocks, AloneIsWhole}
use Rattle.go_block_core.specs.Faults.{fault_cmp}
use Rattle.go_block_core.specs.Laws.{OneBlocksAlone}
use Rattle.go_block_core.proofs.FaultLemmas.{fault_total}
use Rattle.go_block_core.proofs.SortedOnce.{same_sorted}

-- a package alone

pub one_blocks_alone : OneBlocksAlone
one_blocks_alone trees imports b c x y =
    let faults = same_sorted fault_cmp fault_total b.faults c.faults x.faults.order y.faults.order
    (λ f h. (y.faults.same f).1 ((x.faults.same f).0 h))
    (λ f h. (x.faults.same f).1 ((y.faults.same f).0 h)) in
    ap (λ n. blocks_model n b.files b.faults) (x.package_names ∙ sym y.package_names)
    ∙ (ap (λ n. blocks_model c.names n b.faults) (x.file_names ∙ sym y.file_names)
    ∙ ap (λ n. blocks_model c.names c.files n) faults)

-- a workspace

-- the package of a number is one
same_package : (ps : List PackageModel) (number : ℕ) (p q : PackageModel) → slice_get ps number ≡ Some p → slice_get ps number ≡ Some q → p ≡ q
same_package ps number p q a b = (let e : Some p ≡ Some q = sym a ∙ b in cc)

one_list : {A X : Type 0} (R S : ℕ → A → X → Type 0) → ((k : ℕ) (a : A) (x y : X) → R k a x → S k a y → x ≡ y) → (k : ℕ) (zs : List A) (xs ys : List X) → AllNumbered R k zs xs → AllNumbered S k zs ys → xs ≡ ys
one_list R S f k [] [] [] r s = refl
one_list R S f k [] (x ∷ xs) ys r s = absurd r
one_list R S f k [] [] (y ∷ ys) r s = absurd s
one_list R S f k (a ∷ zs) [] ys r s = absurd r
one_list R S f k (a ∷ zs) (x ∷ xs) [] r s = absurd s
one_list R S f k (a ∷ zs) (x ∷ xs) (y ∷ ys) r s = ap (λ z. z ∷ xs) (f k a x y r.0 s.0) ∙ ap (λ l. y ∷ l) (one_list R S f (suc k) zs xs ys r.1 s.1)

module _ (ps : List PackageModel) (bs cs : List (Option BlocksModel)) (well : IsWorkspace ps) (all_bs : AreAllBlocks ps bs) (all_cs : AreAllBlocks ps cs) where
  same_names : (i : ℕ) (b c : BlocksModel) → AreBlocksAt ps bs i b → AreBlocksAt ps cs i c → b.names ≡ c.names
  same_names i b c x y = x.blocks.package_names ∙ (ap (λ (p : PackageModel). package_block (trees_of p.1)) (same_package ps i (x.path, x.files) (y.path, y.files) x.numbered y.numbered) ∙ sym y.blocks.package_names)

  names_at : (i : ℕ) (b c : BlocksModel) → slice_get bs i ≡ Some (Some b) → slice_get cs i ≡ Some (Some c) → b.names ≡ c.names
  names_at i b c x y =
      let at_b = numbered_back (λ number p o. AreBlocksOrNone ps bs number p o) 0 ps bs i (Some b) all_bs x in
      let at_c = numbered_back (λ number p o. AreBlocksOrNone ps cs number p o) 0 ps cs i (Some c) all_cs y in
      same_names (0 + i) b c at_b.2.1 at_c.2.1

  -- what a package shows
  same_shown : (i : ℕ) (e f : ExportsModel) → IsShown ps bs i e → IsShown ps cs i f → e ≡ f
  same_shown i e f x y =
      x.is
      ∙ (ap (λ p. exports_of p x.blocks) (same_package ps i (x.path, x.files) (y.path, y.files) x.numbered y.numbered)
      ∙ (ap (λ ns. exports_model y.path (clause_name (trees_of y.files)) (exported_names ns)) (names_at i x.blocks y.blocks x.there y.there)
      ∙ sym y.is))

  -- what imports come to
  same_given : (o : ImportOutcome) (i j : Imported) → IsGiven (IsShown ps bs) o i → IsGiven (IsShown ps cs) o j → i ≡ j
  same_given (outcomes.«Package» n) (given.«Package» e) (given.«Package» f) x y = ap given.«Package» (same_shown n e f x y)
  same_given (outcomes.«Package» n) (given.Refused rule) j x y = absurd x
  same_given (outcomes.«Package» n) (given.«Package» e) (given.Refused rule) x y = absurd y
  same_given (outcomes.Refused r) (given.«Package» e) j x y = absurd x
  same_given (outcomes.Refused r) (given.Refused rule) (given.«Package» f) x y = absurd y
  same_given (outcomes.Refused r) (given.Refused rule) (given.Refused other) x y = ap given.Refused (x ∙ sym y)

  same_import : (at : ImportAt) (i j : Imported) → IsImported ps bs at i → IsImported ps cs at j → i ≡ j
  same_import at i j x y =
      let outcome = has_one_outcome ps at y.outcome x.outcome well y.judged x.judged in
      same_given x.outcome i j x.shown (subst (λ o. IsGiven (IsShown ps cs) o j) outcome y.shown)

  same_imported : (number : ℕ) (ts : Trees) (is js : List (List Imported)) → AreImported ps bs number ts is → AreImported ps cs number ts js → is ≡ js
  same_imported number ts is js x y =
      one_list (λ file t l. AreInFile (IsImported ps bs) number file t.1 l) (λ file t l. AreInFile (IsImported ps cs) number file t.1 l)
      (λ file t l m r s. one_list (λ n spec i. IsImported ps bs (import_at number file n) i) (λ n spec i. IsImported ps cs (import_at number file n) i)
      (λ n spec i j a b. same_import (import_at number file n) i j a b) 0 (file_specs t.1) l m r s)
      0 ts is js x y

  -- the blocks of a package by the one list are those by the other
  blocks_alone : (number : ℕ) (path : List ℕ) (files : List SourceModel) (imported : List (List Imported)) (c : BlocksModel) → IsNumbered ps path number files → AreImported ps bs number (trees_of files) imported → AreBlocksAt ps cs number c → AreBlocks (trees_of files) (package_named (trees_of files) imported) c
  blocks_alone number path files imported c numbered come y =
      let same : ◌≡◌ {A = PackageModel} (path, files) (y.path, y.files) = same_package ps number (path, files) (y.path, y.files) numbered y.numbered in
      let mine = subst (λ (p : PackageModel). AreImported ps bs number (trees_of p.1) imported) same come in
      let imports = same_imported number (trees_of y.files) imported y.imported mine y.given in
      subst (λ (p : PackageModel). AreBlocks (trees_of p.1) (package_named (trees_of p.1) imported) c) (sym same)
      (subst (λ l. AreBlocks (trees_of y.files) (package_named (trees_of y.files) l) c) (sym imports) y.blocks)

  same_blocks : (i : ℕ) (b c : BlocksModel) → AreBlocksAt ps bs i b → AreBlocksAt ps cs i c → b ≡ c
  same_blocks i b c x y = one_blocks_alone (trees_of x.files) (package_named (trees_of x.files) x.imported) b c x.blocks (blocks_alone i x.path x.files x.imported c x.numbered x.given y)

  same_entry : (i : ℕ) (p : PackageModel) (o r : Option BlocksModel) → AreBlocksOrNone ps bs i p o → AreBlocksOrNone ps cs i p r → o ≡ r
  same_entry i p None None x y = refl
  same_entry i p None (Some c) x y = absurd (x y.0)
  same_entry i p (Some b) None x y = absurd (y x.0)
  same_entry i p (Some b) (Some c) x y = ap Some (same_blocks i b c x.1 y.1)

pub one_blocks : OneBlocks
one_blocks ps bs cs well x y = one_list (λ number p o. AreBlocksOrNone ps bs number p o) (λ number p o. AreBlocksOrNone ps cs number p o) (λ k p o r a b. same_entry ps bs cs well x y k p o r a b) 0 ps bs cs x y

-- an assembled package has its blocks in the list
entry_some : (ps : List PackageModel) (bs : List (Option BlocksModel)) (i : ℕ) (p : PackageModel) (o : Option BlocksModel) → IsAssembled p.1 → AreBlocksOrNone ps bs i p o → (c : BlocksModel) × (o ≡ Some c) × AreBlocksAt ps bs i c
entry_some ps bs i p None assembled h = absurd (h assembled)
entry_some ps bs i p (Some c) assembled h = (c, refl, h.1)

pub alone_is_whole : AloneIsWhole
alone_is_whole ps bs number path files imported b well all numbered assembled come =
    let at = numbered_at (λ n p o. AreBlocksOrNone ps bs n p o) 0 ps bs number (path, files) all numbered in
    let entry = entry_some ps bs (0 + number) (path, files) at.0 assembled at.2 in
    let e : 0 + number ≡ number = omega arith in
    let here = subst (λ n. AreBlocksAt ps bs n entry.0) e entry.2 in
    let has : slice_get bs number ≡ Some (Some entry.0) = at.1 ∙ ap Some entry.1 in
    let alone = blocks_alone ps bs bs well all all number path files imported entry.0 numbered come here in (
      λ h. has ∙ ap (λ c. Some (Some c)) (one_blocks_alone (trees_of files) (package_named (trees_of files) imported) entry.0 b alone h),
      λ h. (let same : Some (Some entry.0) ≡ Some (Some b) = sym has ∙ h in let same_b : entry.0 ≡ b = cc in subst (AreBlocks (trees_of files) (package_named (trees_of files) imported)) same_b alone),
    )
