use Rattle.std.proofs.Common.{◌≡◌, ◌++◌, [], ap, subst, ◌∙◌}
use Rattle.go_graph_core.specs.Packages.{trees_of}
use Rattle.go_block_core.specs.Tables.{block_of}
use Rattle.go_block_core.specs.Blocks.{HoldsEachOnce, imports_of}
use Rattle.go_block_core.specs.Declarations.{is_main_package, package_declared}
use Rattle.go_block_core.specs.Faults.{block_decl_faults, block_file_faults, all_block_faults}
use Rattle.go_block_core.proofs.OrderLaws.{declarations_in_order}
use Rattle.go_block_core.proofs.making.blocks.Goals as goal

pub returns-clause-blocks : goal.returns-clause-blocks
returns-clause-blocks c =
    let trees = trees_of c.args.«package».now.1 in
    let imports = imports_of c.args.names.now in
    let in_package = block_decl_faults (is_main_package trees) [] (package_declared trees) in
    let first = c.in_ok-table.ensures.faults ∙ ap (λ fs. fs ++ in_package) c.new-faults.ensures.items in
    let all : c.file_blocks.new.faults.items ≡ all_block_faults trees imports = c.in-Ok.ensures.faults ∙ (ap (λ fs. fs ++ block_file_faults (block_of c.in_ok-table.table) 0 imports) first ∙ ap (λ names. in_package ++ block_file_faults names 0 imports) c.in_ok-table.ensures.table) in
    record {
      package_names = c.in_ok-table.ensures.table;
      file_names = c.in-Ok.ensures.tables;
      faults = subst (λ given. HoldsEachOnce given c.in_order.new.faults.items) all c.in-Ok-in_order.ensures;
    }

pub returns-clause-order : goal.returns-clause-order
returns-clause-order c = declarations_in_order (trees_of c.args.«package».now.1) c.in_ok-table.ensures.placed
