use Rattle.go_headline_laws.proofs.SeparationApart.{published_are_taken}
use Rattle.go_headline_laws.proofs.separation.laws.published_are_taken.Goals as goal

pub returns : goal.returns
returns c = published_are_taken
