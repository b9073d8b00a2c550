use Rattle.go_headline_laws.proofs.SessionsBoards.{published_are_boards}
use Rattle.go_headline_laws.proofs.sessions.published_are_boards.Goals as goal

pub returns : goal.returns
returns c = published_are_boards c.runs_are_sound.ensures c.trees_are_well.ensures.sources
