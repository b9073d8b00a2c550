use Rattle.std.proofs.Common.{◌≡◌, take}
use Rattle.go_session_core.specs.overlay.Edits.{other_files}
use Rattle.go_session_core.proofs.overlay.draft.files_beside.Given as goal

abbrev pub invariant-loop-file : goal.invariant-loop-file
invariant-loop-file l = l.others.items ≡ other_files l.name (take l.file-index l.files)
