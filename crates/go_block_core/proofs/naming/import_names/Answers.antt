use Rattle.std.proofs.Common.{◌≡◌, ◌<◌, ◌≤◌, ℕ, List, map, length, sym, ap, subst, ◌∙◌, arith}
use Rattle.std.proofs.lemmas.List.{length-map}
use Rattle.go_tree_nodes.specs.Shapes.{file_of}
use Rattle.go_tree_nodes.specs.Trees.{FileTree}
use Rattle.go_graph_core.specs.Packages.{trees_of}
use Rattle.go_graph_core.proofs.Assemblies.{as_many}
use Rattle.go_graph_core.proofs.Zips.{zip_length}
use Rattle.go_block_core.specs.declared.imports.Imported.{Imported}
use Rattle.go_block_core.specs.Holding.{imports_in, AreImportsInOrder}
use Rattle.go_block_core.specs.Naming.{file_specs, file_named, imported_in}
use Rattle.go_block_core.proofs.NamingLemmas.{placed_trees, imports_in_order}
use Rattle.go_block_core.proofs.NamingSteps.{given_at, file_more, all_files, count_at}
use Rattle.go_block_core.proofs.naming.import_names.Goals as goal

pub loop-file-init : goal.loop-file-init
loop-file-init c = ap (map imports_in) c.in_ok-named.ensures.items

pub tree-requires : goal.tree-requires
tree-requires c = omega (arith, c.loop-file-test.true, ap length c.files-files.ensures.files)

pub bounds-imports-file : goal.bounds-imports-file
bounds-imports-file c =
    let p = c.args.«package».now in
    let files = c.files-files.ensures in
    let count = zip_length (λ (t : List ℕ × FileTree) (is : List Imported). length (file_specs t.1) ≡ length is) (trees_of p.1) (map imported_in c.args.imports.now) c.requires in
    omega (arith, c.loop-file-test.true, ap length files.files, as_many p.1 files.assembled.trees, count, length-map c.args.imports.now imported_in)

pub file_named-requires : goal.file_named-requires
file_named-requires c =
    let p = c.args.«package».now in
    let files = c.files-files.ensures in
    let count = zip_length (λ (t : List ℕ × FileTree) (is : List Imported). length (file_specs t.1) ≡ length is) (trees_of p.1) (map imported_in c.args.imports.now) c.requires in
    let below : c.loop-file.file < length c.args.imports.now = omega (arith, c.loop-file-test.true, ap length files.files, as_many p.1 files.assembled.trees, count, length-map c.args.imports.now imported_in) in
    count_at (trees_of p.1) (map imported_in c.args.imports.now) c.loop-file.file (file_of c.tree.result.now) c.index-imports-file.result.items c.requires c.tree.ensures.tree (given_at c.args.imports.now c.loop-file.file c.index-imports-file.result below c.index-imports-file.is)
    ∙ ap length (sym c.as_slice.ensures.value)

pub loop-file-preserved : goal.loop-file-preserved
loop-file-preserved c =
    let p = c.args.«package».now in
    let files = c.files-files.ensures in
    let count = zip_length (λ (t : List ℕ × FileTree) (is : List Imported). length (file_specs t.1) ≡ length is) (trees_of p.1) (map imported_in c.args.imports.now) c.requires in
    let below : c.loop-file.file < length c.args.imports.now = omega (arith, c.loop-file-test.true, ap length files.files, as_many p.1 files.assembled.trees, count, length-map c.args.imports.now imported_in) in
    file_more (trees_of p.1) c.args.imports.now c.loop-file.file (file_of c.tree.result.now) c.index-imports-file.result c.in_ok-of_file.of_file c.loop-file.named.items c.add.new.all.items below c.tree.ensures.tree c.index-imports-file.is c.loop-file.invariant (c.in_ok-of_file.ensures ∙ ap (file_named (file_of c.tree.result.now)) c.as_slice.ensures.value) c.in_ok-add.ensures

pub new-requires : goal.new-requires
new-requires c =
    let p = c.args.«package».now in
    let files = c.files-files.ensures in
    let le : length (trees_of p.1) ≤ c.loop-file.file = omega (arith, c.loop-file-test.false, ap length files.files, as_many p.1 files.assembled.trees) in
    let all = all_files (trees_of p.1) (map imported_in c.args.imports.now) c.loop-file.file _ le c.requires c.loop-file.invariant in
    subst AreImportsInOrder (sym all) (imports_in_order (trees_of p.1) (map imported_in c.args.imports.now) (placed_trees p.1 files.assembled.trees files.well.contents) c.requires)

pub returns : goal.returns
returns c =
    let p = c.args.«package».now in
    let files = c.files-files.ensures in
    let le : length (trees_of p.1) ≤ c.loop-file.file = omega (arith, c.loop-file-test.false, ap length files.files, as_many p.1 files.assembled.trees) in
    c.new.ensures ∙ all_files (trees_of p.1) (map imported_in c.args.imports.now) c.loop-file.file _ le c.requires c.loop-file.invariant
