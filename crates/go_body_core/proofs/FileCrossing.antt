-- What threads see of a file, and what they give back.
use denote.RattleType.{RattleType}
use denote.Ref.{NamedLft}
use denote.Param.Send.{IsSend, IsSync, sendable}
use Rattle.std.proofs.Crossing as std
use Rattle.go_body_core.proofs.CrossingCrossing.{leaves, scenes}
use Rattle.go_body_core.specs.contracts.file.file_at.FileAt as file_at
use Rattle.go_body_core.specs.contracts.file.runs.Run as run
use Rattle.go_body_core.specs.contracts.file.whole.CheckedFile as checked_file

pub file_at_row_sync : (κ μ : NamedLft) (T : RattleType) → IsSync T → IsSync (file_at.the_row κ μ T)
file_at_row_sync κ μ T y = first_of (search (scenes, std.crosses, sendable) depth 60 fits 20000, search (scenes, leaves, std.crosses, sendable) depth 60 fits 20000)

pub run_row_sync : (κ μ : NamedLft) → IsSync (run.the_row κ μ)
run_row_sync κ μ = first_of (search (scenes, std.crosses, sendable) depth 60 fits 20000, search (scenes, leaves, std.crosses, sendable) depth 60 fits 20000)

pub checked_file_row_send : (κ : NamedLft) → IsSend (checked_file.the_row κ)
checked_file_row_send κ = first_of (search (scenes, std.crosses, sendable) depth 60 fits 20000, search (scenes, leaves, std.crosses, sendable) depth 60 fits 20000)

pub ruleset file_crosses = (file_at_row_sync, run_row_sync, checked_file_row_send)
