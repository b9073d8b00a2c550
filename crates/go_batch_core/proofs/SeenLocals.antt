-- The inputs of the packages of a workspace are local.
use Rattle.go_typexpr_core.proofs.EntryAmong.{among_from, among_to}
use Rattle.go_snap_core.specs.whole_workspace.LocalLaws.{CheckIsLocal, ImportsBindTheirs}
use Rattle.go_snap_core.proofs.WholeWorkspaceParts.{part_over}
use Rattle.go_batch_core.specs.seen.Local.{InputsAreLocal}

pub inputs_local : CheckIsLocal → ImportsBindTheirs → InputsAreLocal
inputs_local local bind ps parts plan well planned right n i at = record {
  alone = λ ss c all none has made. part_over ps parts well right local bind plan planned n i ss c at.input at.numbered all none (λ s h. among_from ss s (has s (among_to i.reached s h))) made;
}
