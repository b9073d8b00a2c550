use Rattle.go_headline_laws.proofs.SeparationApart.{submissions_are_own}
use Rattle.go_headline_laws.proofs.separation.laws.submissions_are_own.Goals as goal

pub returns : goal.returns
returns c = submissions_are_own
