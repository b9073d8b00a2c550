-- The pieces of functions of a workspace are clear.
use Rattle.std.proofs.Common.{All}
use Rattle.go_tree_nodes.specs.Rules.{Wf_file}
use Rattle.go_tree_nodes.specs.Spelling.{IsPlaced}
use Rattle.go_emit_core.specs.package_core.PreparePackages.{trees_in}
use Rattle.go_snap_core.proofs.WholeWorkspaceChecks.{trees_are_placed}
use Rattle.go_snap_core.proofs.WholeWorkspacePartsWhole.{all_right}
use Rattle.go_workspace_laws.specs.ConstantLaws.{PartsAreFit}
use Rattle.go_workspace_laws.proofs.ConstantLists.{has_get, has_of_all}
use Rattle.go_workspace_laws.proofs.Grammar.{all_keep_rules}
use Rattle.go_program_laws.specs.checked_sources.Pieces.{PiecesAreClear}
use Rattle.go_program_laws.specs.calls.Clear.{PartsAreClear}
use Rattle.go_program_laws.specs.calls.Integers.{PartsAreRead}
use Rattle.go_program_laws.specs.calls.Packages.{FunctionsKeepTypes, PartsTellKept}

pub parts_clear : PiecesAreClear → FunctionsKeepTypes → PartsTellKept → PartsAreFit → PartsAreRead → PartsAreClear
parts_clear clear keep tell fit read ws parts as_read made number part there clean n t f tree file g func all right p piece =
    let fits = fit ws parts as_read.well made number part there in
    let placed : All IsPlaced (trees_in part.input.source) = trees_are_placed ws number part.input.source as_read.well (all_right ws parts made number part there).numbered in
    let told = tell ws parts as_read.well made number part there in
    let grammar : All Wf_file (trees_in part.input.source) = all_keep_rules part.input.source.1 (read ws parts as_read made number part there) in
    let t_there = has_get (trees_in part.input.source) n t tree in
    clear part.input part.content fits.input fits.others fits.part clean n t f tree file (has_of_all Wf_file (trees_in part.input.source) t grammar t_there) (has_of_all IsPlaced (trees_in part.input.source) t placed t_there) g func all right
    (keep part.input part.content fits.part placed told n t tree g func all right) p piece
