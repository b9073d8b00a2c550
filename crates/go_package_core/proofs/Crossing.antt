-- What threads see of the files of a package, and what they give back.
use denote.RattleType.{RattleType}
use denote.Ref.{NamedLft}
use denote.Param.Send.{IsSend, IsSync, sendable}
use Rattle.std.proofs.Crossing as std
use Rattle.go_body_core.proofs.CrossingCrossing.{leaves, scenes, trees, term_row_send, term_row_sync, term_send, term_sync, term_signature_row_send, term_signature_row_sync, term_signature_send, term_signature_sync}
use Rattle.go_body_core.proofs.FileCrossing.{file_at_row_sync}
pub use Rattle.go_report_core.proofs.answer.site.Held.TheSendSync as answer_Held
pub use Rattle.go_report_core.proofs.answer.site.Site.TheSendSync as answer_Site
use Rattle.go_report_core.specs.contracts.answer.locals.HeldLocal as held_local
use Rattle.go_package_core.specs.contracts.checked.FileAnswers as answers
use Rattle.go_package_core.specs.contracts.tasks.FileTask as task

-- what is given back

ruleset terms = (term_row_send, term_row_sync, term_send, term_sync)

ruleset signatures = (term_signature_row_send, term_signature_row_sync, term_signature_send, term_signature_sync)

ruleset held = (answer_Held.the_field_send, answer_Held.the_send, answer_Held.the_field_sync, answer_Held.the_sync, answer_Site.the_send, answer_Site.the_sync)

held_local_row_send : IsSend held_local.the_row
held_local_row_send = search (terms, leaves, std.crosses, sendable) depth 60 fits 20000

held_local_send : IsSend (held_local.the_field).row
held_local_send = search (held_local_row_send, terms, leaves, std.crosses, sendable) depth 60 fits 20000

pub answers_row_send : IsSend answers.the_row
answers_row_send = first_of (search (held_local_row_send, held_local_send, held, terms, leaves, std.crosses, sendable) depth 60 fits 20000, search (held_local_row_send, held_local_send, held, terms, signatures, leaves, std.crosses, sendable) depth 60 fits 20000)

-- what is seen

pub task_row_sync : (κ μ : NamedLft) (T : RattleType) → IsSync T → IsSync (task.the_row κ μ T)
task_row_sync κ μ T y =
    let at = file_at_row_sync κ μ T y in
    first_of (search (trees, scenes, std.crosses, sendable) depth 60 fits 20000, search (trees, scenes, leaves, std.crosses, sendable) depth 60 fits 20000)
