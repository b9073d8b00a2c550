-- What follows from a check, and what it is asked with.
use Rattle.std.proofs.Common.{◌≡◌, List, length, sym, ap, subst, ◌∙◌}
use Rattle.std.specs.List.{enumerate_from}
use Rattle.std.proofs.lemmas.List.{length-map}
use Rattle.std.proofs.lemmas.List.FromFn.{length-enumerate_from}
use Rattle.go_block_core.specs.graph_core.Packages.{trees_of}
use Rattle.go_block_core.specs.graph_core.Workspaces.{PackageModel}
use Rattle.go_block_core.specs.graph_core.Zips.{zip_length}
use Rattle.go_block_core.specs.declared.imports.Imported.{Imported}
use Rattle.go_block_core.specs.declared.imports.NamedImport.{NamedImport}
use Rattle.go_block_core.specs.Blocks.{AreBlocks, BlocksModel}
use Rattle.go_block_core.specs.Naming.{HaveOneEach, package_named}
use Rattle.go_block_core.specs.Exports.{ExportsModel}
use Rattle.go_type_core.specs.table_core.Entries.{Entry}
use Rattle.go_type_core.specs.table_core.Tables.{AreOthers}
use Rattle.go_body_core.specs.typexpr_core.EntryShowing.{shown_in}
use Rattle.go_report_core.specs.declared_core.Packages.{PackageFacesModel}
use Rattle.go_package_core.specs.prepare.Packages.{PackageIn, trees_in}
use Rattle.go_package_core.specs.Checked.{CheckedOf, IsChecked, answers_shown, checked_shown}
use Rattle.go_package_core.specs.declared.checked.CheckedPackage.{CheckedPackage}
use Rattle.go_package_core.specs.package_part.Inputs.{InputModel, path_in}
use Rattle.go_package_core.specs.package_part.Parts.{package_seen, seen_with}

-- as many files as trees
as_many : (p : PackageIn) (far : List Entry) (c : CheckedOf) → IsChecked p far c → length c.files ≡ length p.trees
as_many p far c h = sym (zip_length _ (enumerate_from 0 p.trees) c.files h.files) ∙ length-enumerate_from 0 p.trees

pub files_many : (p : PackageIn) (far : List Entry) (c : CheckedPackage) → IsChecked p far (checked_shown c) → length c.files.items ≡ length p.trees
files_many p far c h = sym (length-map c.files.items answers_shown) ∙ as_many p far (checked_shown c) h

-- what it shows is of its path
pub of_path : (p : PackageIn) (far : List Entry) (c : CheckedOf) → IsChecked p far c → c.faces.path ≡ p.path
of_path p far c h = ap (λ f. f.path) h.faces

-- the imports that an input lends are those of the files of its package
pub one_each : (i : InputModel) (source : PackageModel) (imports : List (List Imported)) → source ≡ i.source → imports ≡ i.imports → HaveOneEach (trees_of i.source.1) i.imports → HaveOneEach (trees_of source.1) imports
one_each i source imports is it h = subst (λ (p : PackageModel). HaveOneEach (trees_of p.1) imports) (sym is) (subst (λ l. HaveOneEach (trees_of i.source.1) l) (sym it) h)

-- and its blocks those of the package
pub blocks_are : (i : InputModel) (source : PackageModel) (imports : List (List Imported)) (names : List (List NamedImport)) (b : BlocksModel) → source ≡ i.source → imports ≡ i.imports → names ≡ package_named (trees_of source.1) imports
    → AreBlocks (trees_of source.1) names b → AreBlocks (trees_of i.source.1) (package_named (trees_of i.source.1) i.imports) b
blocks_are i source imports names b is it named h =
    subst (λ l. AreBlocks (trees_of i.source.1) (package_named (trees_of i.source.1) l) b) it
    (subst (λ (p : PackageModel). AreBlocks (trees_of p.1) (package_named (trees_of p.1) imports) b) is
    (subst (λ l. AreBlocks (trees_of source.1) l b) named h))

-- what is lent of an input is the package that is seen
pub seen_is : (i : InputModel) (source : PackageModel) (imports : List (List Imported)) (b : BlocksModel) (types : List Entry) (shown : List ExportsModel) (faces : List PackageFacesModel) (c : CheckedOf)
    → source ≡ i.source → imports ≡ i.imports
    → IsChecked (record { path = source.0; trees = trees_in source; blocks = b; imports = imports; shows = shown_in shown; others = faces }) types c
    → IsChecked (package_seen i b (seen_with types (shown_in shown) faces)) types c
seen_is i source imports b types shown faces c is it h =
    subst (λ l. IsChecked (seen_from i.source l) types c) it
    (subst (λ (p : PackageModel). IsChecked (seen_from p imports) types c) is h)
  where
    seen_from : PackageModel → List (List Imported) → PackageIn
    seen_from p l = record { path = p.0; trees = trees_in p; blocks = b; imports = l; shows = shown_in shown; others = faces }

pub others_are : (i : InputModel) (source : PackageModel) (types : List Entry) → source ≡ i.source → AreOthers (path_in i) types → AreOthers source.0 types
others_are i source types is h = subst (λ (p : PackageModel). AreOthers p.0 types) (sym is) h
