use Rattle.go_explain_core.proofs.Everywhere.{lines_name, texts_name}
use Rattle.go_explain_core.proofs.laws.texts_name_rules.Goals as goal

pub returns : goal.returns
returns c = record { text = texts_name; line = lines_name }
