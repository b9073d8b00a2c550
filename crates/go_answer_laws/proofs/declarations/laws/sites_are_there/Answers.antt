use Rattle.go_answer_laws.proofs.DeclarationsSites.{sites_are_there}
use Rattle.go_answer_laws.proofs.declarations.laws.sites_are_there.Goals as goal

pub returns : goal.returns
returns c = sites_are_there
