use Rattle.go_headline_laws.proofs.SeparationApart.{own_paths}
use Rattle.go_headline_laws.proofs.separation.laws.own_paths.Goals as goal

pub returns : goal.returns
returns c = own_paths
