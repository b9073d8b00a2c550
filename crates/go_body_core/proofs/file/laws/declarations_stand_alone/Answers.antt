use Rattle.go_body_core.proofs.FileOccurring.{declarations_stand_alone}
use Rattle.go_body_core.proofs.file.laws.declarations_stand_alone.Goals as goal

pub returns : goal.returns
returns c = declarations_stand_alone
