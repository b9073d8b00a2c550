use Rattle.go_headline_laws.proofs.SessionsRuns.{session_runs}
use Rattle.go_headline_laws.proofs.sessions.session_runs_as_meant.Goals as goal

pub returns : goal.returns
returns c = session_runs c.programs_run.ensures
