-- The input of a package has a part.
use Rattle.std.proofs.Common.{◌≡◌, ℕ, zero, suc, ◌+◌, List, [], ◌∷◌, ◌++◌, Some, None, refl, subst, arith}
use Rattle.std.specs.Prelude.{slice_get}
use Rattle.std.specs.List.{AllZip, enumerate_from}
use Rattle.go_tree_nodes.specs.Trees.{FileTree}
use Rattle.go_graph_core.specs.Packages.{Trees, trees_of}
use Rattle.go_names_core.specs.block_core.declared.imports.NamedImport.{NamedImport}
use Rattle.go_names_core.specs.block_core.Blocks.{AreBlocks, BlocksModel, blocks_model}
use Rattle.go_names_core.specs.block_core.Faults.{all_block_faults, fault_cmp}
use Rattle.go_names_core.specs.block_core.Holding.{file_blocks, package_block}
use Rattle.go_names_core.specs.block_core.Naming.{package_named}
use Rattle.go_names_core.specs.block_core.FaultLemmas.{fault_equal, fault_total}
use Rattle.go_names_core.specs.block_core.SortedOnce.{sorted_once}
use Rattle.go_report_core.specs.usage.Used.{without_unused}
use Rattle.go_emit_core.specs.package_core.PrepareLaws.{ValuesAreAsWritten}
use Rattle.go_emit_core.specs.package_core.PreparePackages.{trees_in}
use Rattle.go_emit_core.specs.package_core.Checked.{AnswersOf, CheckedOf, IsFileChecked}
use Rattle.go_emit_core.specs.package_core.PackagePartParts.{AreFilesMade, FileOf, IsFileMadeIn, package_seen, seen_by, told}
use Rattle.go_workspace_laws.specs.existence.Laws.{InputsHaveParts}
use Rattle.go_workspace_laws.proofs.ExistenceChecks.{packages_have_checks}
use Rattle.go_workspace_laws.proofs.ExistenceSettling.{faults_settle, files_are_reported}
use Rattle.go_workspace_laws.proofs.ExistenceTables.{partners}

blocks_of : (ts : Trees) (imports : List (List NamedImport)) → (b : BlocksModel) × AreBlocks ts imports b
blocks_of ts imports =
    let faults = sorted_once fault_cmp fault_total fault_equal (all_block_faults ts imports) in
    (blocks_model (package_block ts) (file_blocks imports) faults.0, record { package_names = refl; file_names = refl; faults = record { order = faults.1; same = faults.2 } })

-- what is zipped with numbered items is there for each
zip_there : {A B : Type 0} (R : ℕ × A → B → Type 0) (k : ℕ) (xs : List A) (ys : List B) (n : ℕ) (x : A) → AllZip R (enumerate_from k xs) ys → slice_get xs n ≡ Some x → (y : B) × (slice_get ys n ≡ Some y)
zip_there R k [] ys n x h e = absurd (let no : None ≡ Some x = e in cc)
zip_there R k (a ∷ xs) [] n x h e = absurd h
zip_there R k (a ∷ xs) (b ∷ ys) zero x h e = (b, refl)
zip_there R k (a ∷ xs) (b ∷ ys) (suc n) x h e = zip_there R (k + 1) xs ys n x h.1 e

-- a file, by what the check gives of it
file_made : (b : BlocksModel) (all : List AnswersOf) (n : ℕ) (t : FileTree) (checked : AnswersOf) → slice_get all n ≡ Some checked → (made : FileOf) × IsFileMadeIn b all n t made
file_made b all n t checked there =
    let uses = without_unused b n t checked.uses in
    let settled = faults_settle uses checked.faults in
    let report = files_are_reported uses settled.0 in (
      record { answers = record { uses = uses; faults = settled.0; locals = checked.locals }; report = report.0 },
      record {
        checked = checked;
        there = there;
        made_of = record { uses = refl; settled = settled.1; locals = refl; reported = report.1 };
      },
    )

pub inputs_have_parts : ValuesAreAsWritten → InputsHaveParts
inputs_have_parts written i placed =
    let b = blocks_of (trees_of i.source.1) (package_named (trees_of i.source.1) i.imports) in
    let seen = seen_by i in
    let own = package_seen i b.0 seen in
    let c = packages_have_checks written own seen.types placed in
    let checked : CheckedOf = c.0 in
    let files : (files : List FileOf) × AreFilesMade b.0 (trees_in i.source) checked.files files =
    partners (IsFileMadeIn b.0 checked.files) 0 (trees_in i.source)
    (λ n t at.
    let zero_more : n ≡ 0 + n = omega arith in
    let answers = zip_there (IsFileChecked own (seen.types ++ checked.types) checked.declared c.1.type_faults c.1.looped) 0 (trees_in i.source) checked.files n t c.1.files at in
    let made = file_made b.0 checked.files n t answers.0 answers.1 in
    (made.0, subst (λ m. IsFileMadeIn b.0 checked.files m t made.0) zero_more made.1)) in (
      record { blocks = b.0; declared = checked.declared; files = files.0; summary = told i b.0 checked },
      record {
        blocks = b.1;
        checked = checked;
        is_checked = c.1;
        declared = refl;
        files = files.1;
        summary = refl;
      },
    )
