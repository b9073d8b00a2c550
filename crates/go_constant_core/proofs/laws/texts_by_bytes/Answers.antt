use Rattle.go_constant_core.proofs.Meanings.{texts_compare}
use Rattle.go_constant_core.proofs.laws.texts_by_bytes.Goals as goal

pub returns : goal.returns
returns c = texts_compare
