use Rattle.go_headline_laws.proofs.SessionsJoining.{session_headline}
use Rattle.go_headline_laws.proofs.sessions.session_headline.Goals as goal

pub returns : goal.returns
returns c =
    session_headline c.published_are_boards.ensures c.one_worker.ensures c.outcomes_are_of_occurrences.ensures.answers c.added_imports_are_judged.ensures c.names_are_occurrences.ensures c.completions_are_exact.ensures.exact c.completions_are_exact.ensures.blanks
    c.types_are_exact.ensures c.session_runs_as_meant.ensures
