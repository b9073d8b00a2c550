use Rattle.std.proofs.Common.{map}
use Rattle.std.proofs.lemmas.Result.{IfOk-weaker}
use Rattle.go_tree_nodes.specs.Shapes.{file_of}
use Rattle.go_block_core.specs.Naming.{imported_in}
use Rattle.govisd_resolve.proofs.Putting.{input_is, one_each}
use Rattle.govisd_resolve.proofs.alone.part_of.Goals as goal

pub imports_alone-requires : goal.imports_alone-requires
imports_alone-requires c = (c.args.«package», c.requires)

pub compile_alone-requires : goal.compile_alone-requires
compile_alone-requires c = one_each c.args.workspace.now c.args.«package» (file_of c.args.tree.now) (map imported_in c.in_ok-imports.imports.items) c.requires c.in_ok-imports.ensures

pub returns : goal.returns
returns c =
    IfOk-weaker c.compile_alone.result _ _ (λ p same. input_is c.args.workspace.now c.args.«package» (file_of c.args.tree.now) (map imported_in c.in_ok-imports.imports.items) p.input c.in_ok-imports.ensures same) c.compile_alone.ensures
