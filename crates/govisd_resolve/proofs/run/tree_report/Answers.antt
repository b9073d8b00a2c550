use Rattle.std.proofs.Common.{Err, length, sym, ap, subst, ◌∙◌, arith}
use Rattle.std.proofs.lemmas.Result.{IfOk-weaker}
use Rattle.go_tree_nodes.specs.Shapes.{file_of}
use Rattle.go_block_core.specs.graph_core.Packages.{IsAssembled, IsAssembly}
use Rattle.go_block_core.specs.graph_core.Workspaces.{PackageModel}
use Rattle.govisd_resolve.specs.mirrors.Making.{IsTold}
use Rattle.govisd_resolve.proofs.Putting.{first_is, has_one_file, is_own}
use Rattle.govisd_resolve.proofs.ReportLemmas.{no_name_reports, whole_report}
use Rattle.govisd_resolve.proofs.run.tree_report.Goals as goal

pub bounds-packages-0 : goal.bounds-packages-0
bounds-packages-0 c = omega (arith, ap length (c.packages-packages.ensures.packages ∙ c.requires.alone.is))

pub returns-in-Err : goal.returns-in-Err
returns-in-Err c =
    let file = c.args.file.now in
    let own = c.in_ok-source.ensures ∙ first_is c.packages-packages.result.now file c.index-packages-0.result _ (c.packages-packages.ensures.packages ∙ c.requires.alone.is) c.index-packages-0.is in
    no_name_reports file (file_of c.args.tree.now) c.in-Err.fault c.fault_report.result c.requires.text c.requires.alone.read c.requires.tree
    (subst (λ (p : PackageModel). IsAssembly p.1 (Err c.in-Err.fault)) own c.in-Err.ensures.assembly) c.fault_report.ensures.text c.fault_report.ensures.clean

pub part_report-requires-clause-one : goal.part_report-requires-clause-one
part_report-requires-clause-one c =
    let file = c.args.file.now in
    let tree = file_of c.args.tree.now in
    let own = c.in_ok-source.ensures ∙ first_is c.packages-packages.result.now file c.index-packages-0.result _ (c.packages-packages.ensures.packages ∙ c.requires.alone.is) c.index-packages-0.is in
    has_one_file c.args.workspace.now c.in-Ok.«package» tree c.in_ok-part-in-Ok.part.input (is_own file tree c.args.workspace.now c.in-Ok.«package» c.requires.alone c.requires.tree (c.in-Ok.ensures.source ∙ own)) c.in_ok-part-in-Ok.ensures

pub returns-in_ok-part-in-Ok : goal.returns-in_ok-part-in-Ok
returns-in_ok-part-in-Ok c =
    let file = c.args.file.now in
    let tree = file_of c.args.tree.now in
    let input = c.in_ok-part-in-Ok.part.input in
    let own = c.in_ok-source.ensures ∙ first_is c.packages-packages.result.now file c.index-packages-0.result _ (c.packages-packages.ensures.packages ∙ c.requires.alone.is) c.index-packages-0.is in
    let well = subst (λ (p : PackageModel). IsAssembled p.1) (sym c.in-Ok.ensures.source) c.in-Ok.ensures.assembly.1 in
    IfOk-weaker c.part_report.result _ _ (λ r told. whole_report file tree c.args.workspace.now c.in-Ok.«package» input r.clean r.text.items c.requires.alone c.requires.text c.requires.tree (c.in-Ok.ensures.source ∙ own) well c.in_ok-part-in-Ok.ensures
    (subst (λ n. IsTold n tree input r.clean r.text.items) c.name.ensures told)) c.part_report.ensures
