use Rattle.go_block_core.proofs.NamingLemmas.{same_texts}
use Rattle.go_block_core.proofs.laws.import_texts_agree.Goals as goal

pub returns : goal.returns
returns c = same_texts
