use Rattle.std.proofs.Common.{◌≡◌, ◌<◌, ◌≤◌, ◌++◌, [], length, take, sym, ap, ◌∙◌, arith}
use Rattle.std.proofs.lemmas.List.{take_all}
use Rattle.go_tree_nodes.specs.Shapes.{file_of}
use Rattle.go_graph_core.specs.Packages.{trees_of}
use Rattle.go_graph_core.proofs.Assemblies.{as_many}
use Rattle.go_block_core.specs.Declarations.{file_declared, files_declared}
use Rattle.go_block_core.specs.Faults.{block_decl_faults}
use Rattle.go_block_core.specs.Holding.{declared_block}
use Rattle.go_block_core.proofs.BlockLemmas.{block_step, block_faults_step, main_of_name}
use Rattle.go_block_core.proofs.DeclLemmas.{next_file}
use Rattle.go_block_core.proofs.NamingLemmas.{placed_trees}
use Rattle.go_block_core.proofs.Pieces.{no_pieces}
use Rattle.go_block_core.proofs.package_block.package_block.Goals as goal

pub loop-file-init : goal.loop-file-init
loop-file-init c = (c.new-table.ensures, no_pieces c.args.faults.now.items)

pub loop-file-preserved : goal.loop-file-preserved
loop-file-preserved c =
    let ts = trees_of c.args.«package».now.1 in
    let is = next_file ts c.loop-file.file (file_of c.tree-tree.result.now) c.tree-tree.ensures.tree in
    let done = files_declared 0 (take c.loop-file.file ts) in
    let more = file_declared c.loop-file.file (file_of c.tree-tree.result.now) in
    let before = c.loop-file.invariant in (
      block_step [] _ _ done more _ before.0 c.in-Ok.ensures.table is,
      block_faults_step c.eq-is_main.result [] _ done more _ c.args.faults.now.items _ _ before.0 before.1 c.in-Ok.ensures.faults is,
    )

pub returns : goal.returns
returns c =
    let p = c.args.«package».now in
    let ts = trees_of p.1 in
    let files = c.files-files.ensures in
    let le : length ts ≤ c.loop-file.file = omega (arith, as_many p.1 files.assembled.trees, c.loop-file-test.false, ap length files.files) in
    let all = ap (files_declared 0) (take_all c.loop-file.file ts le) in
    let of_main = c.eq-is_main.ensures ∙ main_of_name ts c.name.result.now c.name.ensures in
    record {
      table = c.loop-file.invariant.0 ∙ ap (declared_block []) all;
      faults = c.loop-file.invariant.1 ∙ (ap (λ ds. c.args.faults.now.items ++ block_decl_faults c.eq-is_main.result [] ds) all ∙ ap (λ main. c.args.faults.now.items ++ block_decl_faults main [] (files_declared 0 ts)) of_main);
      placed = placed_trees p.1 files.assembled.trees files.well.contents;
    }
