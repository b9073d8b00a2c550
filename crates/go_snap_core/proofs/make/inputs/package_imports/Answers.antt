use Rattle.std.proofs.Common.{◌≡◌, ◌<◌, ◌≤◌, length, [], map, sym, ap, subst, ◌∙◌, arith}
use Rattle.std.proofs.lemmas.List.{take_all}
use Rattle.go_tree_nodes.specs.Shapes.{file_of}
use Rattle.go_graph_core.specs.Packages.{trees_of}
use Rattle.go_graph_core.proofs.Assemblies.{as_many}
use Rattle.go_snap_core.specs.whole_workspace.mirrors.Steps.{exports_in}
use Rattle.go_names_core.specs.block_core.Naming.{AreInPackage, imported_in}
use Rattle.go_names_core.specs.block_core.mirrors.Steps.{IsPlanned, AreReadyIn}
use Rattle.go_names_core.specs.block_core.GivenSteps.{given_more, tree_there}
use Rattle.go_snap_core.proofs.make.inputs.package_imports.Goals as goal

pub loop-file-init : goal.loop-file-init
loop-file-init c = subst (λ l. AreInPackage (IsPlanned c.args.plan.now.outcomes (exports_in c.args.parts.now)) c.args.number [] (map imported_in l)) (sym c.in_ok-imported.ensures.items) tt

pub file_imports-requires : goal.file_imports-requires
file_imports-requires c =
    let there = tree_there (trees_of c.args.«package».now.1) c.loop-file.file (file_of c.tree-tree.result.now) c.tree-tree.ensures.tree in
    subst (AreReadyIn c.args.plan.now.outcomes (exports_in c.args.parts.now) c.args.number c.loop-file.file) there.2 (c.requires c.loop-file.file there.0 there.1)

pub loop-file-preserved : goal.loop-file-preserved
loop-file-preserved c =
    let p = c.args.«package».now in
    let lt : c.loop-file.file < length (trees_of p.1) = omega (arith, c.loop-file-test.true, ap length c.files-files.ensures.files, as_many p.1 c.files-files.ensures.assembled.trees) in
    given_more (IsPlanned c.args.plan.now.outcomes (exports_in c.args.parts.now)) c.args.number (trees_of p.1) c.loop-file.imported.items c.add.new.all.items c.loop-file.file (file_of c.tree-tree.result.now) c.in_ok-of_file.of_file lt c.tree-tree.ensures.tree c.loop-file.invariant c.in_ok-of_file.ensures c.in_ok-add.ensures

pub returns : goal.returns
returns c =
    let p = c.args.«package».now in
    let le : length (trees_of p.1) ≤ c.loop-file.file = omega (arith, c.loop-file-test.false, ap length c.files-files.ensures.files, as_many p.1 c.files-files.ensures.assembled.trees) in
    subst (λ ts. AreInPackage (IsPlanned c.args.plan.now.outcomes (exports_in c.args.parts.now)) c.args.number ts (map imported_in c.loop-file.imported.items)) (take_all c.loop-file.file (trees_of p.1) le) c.loop-file.invariant
