use Rattle.go_term_core.proofs.Meanings.{itself, back, onward}
use Rattle.go_term_core.proofs.laws.identity_is_equivalence.Goals as goal

pub returns : goal.returns
returns c = record { reflexive = itself; symmetric = λ t u apart _ h. back t u apart h; transitive = onward }
