use Rattle.go_workspace_laws.proofs.Called.{calls_are_of_the_body}
use Rattle.go_workspace_laws.proofs.code_laws.calls_are_of_the_body.Goals as goal

pub returns : goal.returns
returns c = calls_are_of_the_body
