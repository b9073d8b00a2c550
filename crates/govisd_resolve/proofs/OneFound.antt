-- There is one answer to a file that stands alone.
use Rattle.std.proofs.Common.{◌≡◌, ℕ, suc, ◌≤◌, ◌⊎◌, List, [], ◌∷◌, length, inl, inr, refl, sym, ap, subst, ◌∙◌, arith}
use Rattle.std.specs.Prelude.{All, Contains, Some}
use Rattle.std.specs.List.Sorted.{IsStrictlySortedBy}
use Rattle.std.proofs.lemmas.List.Elements.{All-cons}
use Rattle.go_path_core.specs.Path.{IsElement, IsPath, IsPathByte, elements}
use Rattle.go_path_core.proofs.Paths.{not_cut}
use Rattle.go_tree_nodes.specs.Trees.{FileTree, ImportSpecTree}
use Rattle.go_block_core.specs.graph_core.declared.imports.ImportAt.{ImportAt}
use Rattle.go_block_core.specs.graph_core.declared.imports.ImportOutcome.TheVariants as outcomes
use Rattle.go_block_core.specs.graph_core.ImportLaws.{HasOneOutcome}
use Rattle.go_block_core.specs.graph_core.Lists.{AllNumbered}
use Rattle.go_block_core.specs.graph_core.Packages.{trees_of}
use Rattle.go_block_core.specs.graph_core.Sources.{IsPlacedSource}
use Rattle.go_block_core.specs.graph_core.Workspaces.{IsPackage, IsWorkspace, PackageModel}
use Rattle.go_block_core.specs.declared.imports.Imported.{Imported}
use Rattle.go_block_core.specs.declared.imports.Imported.TheVariants as given
use Rattle.go_block_core.specs.Blocks.{BlocksModel}
use Rattle.go_block_core.specs.Laws.{OneBlocksAlone}
use Rattle.go_block_core.specs.Naming.{file_specs, import_at, package_named}
use Rattle.go_handle_core.specs.Declarations.{Declaration}
use Rattle.go_expr_core.specs.local_core.declared.Fault.{Fault}
use Rattle.go_package_core.specs.report_core.Faults.{IsSaid}
use Rattle.go_package_core.specs.report_core.Laws.{SettledFaultsAreOne}
use Rattle.go_package_core.specs.body_core.Notes.{TheLocal, TheUse}
use Rattle.go_package_core.specs.prepare.Packages.{trees_in}
use Rattle.go_package_core.specs.Checked.{AnswersOf, IsChecked}
use Rattle.go_package_core.specs.Laws.{OneCheck}
use Rattle.go_package_core.specs.report_core.UsageLaws.{ReportsAreOne}
use Rattle.go_package_core.specs.package_part.Inputs.{InputModel, input_with}
use Rattle.go_package_core.specs.package_part.Parts.{AreFilesMade, ContentOf, FileOf, IsFileMade, IsFileMadeIn, IsMade, IsPart, SeenOf, package_seen, seen_by}
use Rattle.govisd_resolve.specs.Alone.{StandsInFile, ImportIsRefused, file_alone, package_alone, the_path, workspace_alone}
use Rattle.govisd_resolve.specs.Reports.{IsFile}
use Rattle.go_tree_nodes.specs.Spelling.{IsPlaced}

abbrev made : List TheUse → List Fault → List TheLocal → List Fault → FileOf
made uses faults locals report = record { answers = record { uses = uses; faults = faults; locals = locals }; report = report }

-- partners of the same items are the same, where each item has one
one_list : {A X : Type 0} (R : ℕ → A → X → Type 0) → ((k : ℕ) (a : A) (x y : X) → R k a x → R k a y → x ≡ y) → (k : ℕ) (zs : List A) (xs ys : List X) → AllNumbered R k zs xs → AllNumbered R k zs ys → xs ≡ ys
one_list R f k [] [] [] r s = refl
one_list R f k [] (x ∷ xs) ys r s = absurd r
one_list R f k [] [] (y ∷ ys) r s = absurd s
one_list R f k (a ∷ zs) [] ys r s = absurd r
one_list R f k (a ∷ zs) (x ∷ xs) [] r s = absurd s
one_list R f k (a ∷ zs) (x ∷ xs) (y ∷ ys) r s = ap (λ z. z ∷ xs) (f k a x y r.0 s.0) ∙ ap (λ l. y ∷ l) (one_list R f (suc k) zs xs ys r.1 s.1)

-- the workspace of a file is one

pub letter_there : (b : ℕ) → 97 ≤ b → b ≤ 122 → IsPathByte b
letter_there b low high = inr (inl (low, high))

all_none : {A : Type 0} (P : A → Type 0) → All P []
all_none P k d lt = absurd (omega (arith, lt))

is_element : IsElement the_path
is_element =
    let l = letter_there in (
      omega arith,
      (λ e. cc),
      (λ e. cc),
      All-cons IsPathByte 108 (111 ∷ 99 ∷ 97 ∷ 108 ∷ []) (l 108 (omega arith) (omega arith))
          (All-cons IsPathByte 111 (99 ∷ 97 ∷ 108 ∷ []) (l 111 (omega arith) (omega arith))
          (All-cons IsPathByte 99 (97 ∷ 108 ∷ []) (l 99 (omega arith) (omega arith))
          (All-cons IsPathByte 97 (108 ∷ []) (l 97 (omega arith) (omega arith))
          (All-cons IsPathByte 108 [] (l 108 (omega arith) (omega arith)) (all_none IsPathByte))))),
    )

is_path : IsPath the_path
is_path =
    let whole : elements the_path ≡ the_path ∷ [] = not_cut the_path refl in (
      omega arith,
      omega (arith, ap length whole),
      subst (All IsElement) (sym whole) (All-cons IsElement the_path [] is_element (all_none IsElement)),
    )

is_workspace : (bytes : List ℕ) (f : FileTree) → IsFile bytes f → IsWorkspace (workspace_alone (file_alone bytes f))
unfolding IsStrictlySortedBy
is_workspace bytes f file =
    let s = file_alone bytes f in
    record {
      order = (tt, tt);
      packages = All-cons IsPackage (package_alone s) [] (record { path = is_path; some = omega arith; order = (tt, tt); contents = All-cons IsPlacedSource s [] (length bytes, file.parse.placed) (all_none IsPlacedSource) }) (all_none IsPackage);
    }

-- what its imports come to

module _ (outcome : HasOneOutcome) (ps : List PackageModel) (well : IsWorkspace ps) where
  one_rule : (at : ImportAt) (i j : Imported) → ImportIsRefused ps at i → ImportIsRefused ps at j → i ≡ j
  one_rule at (given.Refused r) (given.Refused q) a b = (let same : outcomes.Refused r ≡ outcomes.Refused q = outcome ps at (outcomes.Refused r) (outcomes.Refused q) well a b in (let rules : r ≡ q = cc in ap given.Refused rules))
  one_rule at (given.Refused r) (given.«Package» e) a b = absurd b
  one_rule at (given.«Package» e) j a b = absurd a

-- what its package has

module _ (settled : SettledFaultsAreOne Declaration (List ℕ)) (reported : ReportsAreOne) where
  file_made : (b : BlocksModel) (n : ℕ) (f : FileTree) (checked : AnswersOf) (x y : FileOf) → IsFileMade b n f checked x → IsFileMade b n f checked y → x ≡ y
  file_made b n f checked x y h k =
      let uses = h.uses ∙ sym k.uses in
      let faults = settled x.answers.uses y.answers.uses checked.faults checked.faults x.answers.faults y.answers.faults
      (λ g. ((λ p. subst (λ us. IsSaid us g) uses p), (λ p. subst (λ us. IsSaid us g) (sym uses) p))) (λ g. ((λ p. p), (λ p. p))) h.settled k.settled in
      let report = reported x.answers.uses y.answers.uses x.answers.faults y.answers.faults x.report y.report
      (λ g. (
        (λ p. subst (λ us. IsSaid us g ⊎ Contains y.answers.faults g) uses (subst (λ fs. IsSaid x.answers.uses g ⊎ Contains fs g) faults p)),
        (λ p. subst (λ fs. IsSaid x.answers.uses g ⊎ Contains fs g) (sym faults) (subst (λ us. IsSaid us g ⊎ Contains y.answers.faults g) (sym uses) p)),
      )) h.reported k.reported in
      ap (λ us. made us x.answers.faults x.answers.locals x.report) uses
      ∙ (ap (λ fs. made y.answers.uses fs x.answers.locals x.report) faults
      ∙ (ap (λ ls. made y.answers.uses y.answers.faults ls x.report) (h.locals ∙ sym k.locals)
      ∙ ap (made y.answers.uses y.answers.faults y.answers.locals) report))

  made_in : (b : BlocksModel) (all : List AnswersOf) (n : ℕ) (f : FileTree) (x y : FileOf) → IsFileMadeIn b all n f x → IsFileMadeIn b all n f y → x ≡ y
  made_in b all n f x y h k =
      let same : h.checked ≡ k.checked = (let e : Some h.checked ≡ Some k.checked = sym h.there ∙ k.there in cc) in
      file_made b n f k.checked x y (subst (λ c. IsFileMade b n f c x) same h.made_of) k.made_of

  module _ (blocks : OneBlocksAlone) (check : OneCheck) where
    -- the files of two parts of one input
    files_agree : (i : InputModel) (seen : SeenOf) (c d : ContentOf) → All IsPlaced (trees_in i.source) → IsMade i seen c → IsMade i seen d → c.files ≡ d.files
    files_agree i seen c d placed h k =
        let bs = blocks (trees_of i.source.1) (package_named (trees_of i.source.1) i.imports) c.blocks d.blocks h.blocks k.blocks in
        let here = subst (λ b. IsChecked (package_seen i b seen) seen.types h.checked) bs h.is_checked in
        let same = check (package_seen i d.blocks seen) seen.types h.checked k.checked placed here k.is_checked in
        let files = subst (λ a. AreFilesMade d.blocks (trees_in i.source) a.files c.files) same (subst (λ b. AreFilesMade b (trees_in i.source) h.checked.files c.files) bs h.files) in
        one_list (IsFileMadeIn d.blocks k.checked.files) (made_in d.blocks k.checked.files) 0 (trees_in i.source) c.files d.files files k.files

    pub found_agree : HasOneOutcome → (bytes : List ℕ) (f : FileTree) (x y : FileOf) → IsFile bytes f → StandsInFile bytes f x → StandsInFile bytes f y → x ≡ y
    found_agree outcome bytes f x y file h k =
        let s = file_alone bytes f in
        let imports = one_list (λ n (spec : ImportSpecTree) i. ImportIsRefused (workspace_alone s) (import_at 0 0 n) i) (λ n spec i j. one_rule outcome (workspace_alone s) (is_workspace bytes f file) (import_at 0 0 n) i j) 0 (file_specs f) h.imports k.imports h.refused k.refused in
        let here = subst (λ is. IsPart (input_with (package_alone s) (is ∷ []) []) h.content) imports h.part in
        let i = input_with (package_alone s) (k.imports ∷ []) [] in
        let files = files_agree i (seen_by i) h.content k.content (All-cons IsPlaced f [] (length bytes, file.parse.placed) (all_none IsPlaced)) here k.part in
        let same : x ∷ [] ≡ y ∷ [] = sym h.files ∙ (files ∙ k.files) in
        cc
