use Rattle.go_spec_laws.proofs.FrontWordTests as law
use Rattle.go_spec_laws.proofs.front.word_laws.identifiers_are_words.Goals as goal

pub returns : goal.returns
returns c = law.identifiers_are_words
