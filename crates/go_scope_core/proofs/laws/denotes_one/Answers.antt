use Rattle.go_scope_core.proofs.LawLemmas.{denotes_innermost, denotes_one}
use Rattle.go_scope_core.proofs.laws.denotes_one.Goals as goal

pub returns-clause-innermost : goal.returns-clause-innermost
returns-clause-innermost c = denotes_innermost

pub returns-clause-one : goal.returns-clause-one
returns-clause-one c = denotes_one
