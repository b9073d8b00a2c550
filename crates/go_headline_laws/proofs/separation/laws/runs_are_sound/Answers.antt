use Rattle.go_headline_laws.proofs.SeparationSounds.{runs_are_sound}
use Rattle.go_headline_laws.proofs.separation.laws.runs_are_sound.Goals as goal

pub returns : goal.returns
returns c = runs_are_sound
