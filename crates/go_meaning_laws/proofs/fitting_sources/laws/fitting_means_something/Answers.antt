use Rattle.go_meaning_laws.proofs.FittingSourcesFunctions.{fitting_means_something}
use Rattle.go_meaning_laws.proofs.fitting_sources.laws.fitting_means_something.Goals as goal

pub returns : goal.returns
returns c = fitting_means_something
